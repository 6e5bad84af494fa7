-- What holds of every command of a tree, however deep, with the number of the block around it.
use Rattle.std.proofs.Common.{ℕ, ◌<◌, ◌≤◌, List, [], ◌∷◌, length, get_or, sym, subst, ⊎_elim}
use Rattle.std.specs.List.{All}
use Rattle.std.proofs.lemmas.List.{get_or_past}
use Rattle.std.proofs.lemmas.List.Elements.{All-nil, All-cons, All-head, All-tail, All-append, All-get_or}
use Rattle.std.proofs.lemmas.Bool.{cases_lt}
use Rattle.layout.specs.Tree.{Command, plain_command, choose_block, loop_block, grant_block, call_procedure, Commands, no_commands, then_command, Block, numbered_block}
use Rattle.layout.specs.Program.{no_block}
use Rattle.oracle_laws.specs.Blocks.{commands, inside, inside_commands, entered, entered_all, EachIn}

-- in the blocks of a command, in a sequence of block n, and in a block
abbrev mutual
  pub EveryIn : (ℕ → Command → Type 0) → Command → Type 0
  EveryIn Q (plain_command o c) = Unit {0}
  EveryIn Q (choose_block c b e) = EveryBlock Q b × EveryBlock Q e
  EveryIn Q (loop_block a k b) = EveryBlock Q b
  EveryIn Q (grant_block g b) = EveryBlock Q b
  EveryIn Q (call_procedure p) = Unit {0}

  pub EveryCommands : (ℕ → Command → Type 0) → ℕ → Commands → Type 0
  EveryCommands Q n no_commands = Unit {0}
  EveryCommands Q n (then_command c cs) = Q n c × EveryIn Q c × EveryCommands Q n cs

  pub EveryBlock : (ℕ → Command → Type 0) → Block → Type 0
  EveryBlock Q (numbered_block n cs) = EveryCommands Q n cs

-- what follows, at each command, from two facts of every command
module _ (Q R W : ℕ → Command → Type 0) (h : (n : ℕ) (c : Command) → Q n c → R n c → W n c) where
  mutual
    joined_in : (c : Command) → EveryIn Q c → EveryIn R c → EveryIn W c
    joined_in (plain_command o c) q r = tt
    joined_in (choose_block c b e) q r = (joined b q.0 r.0, joined e q.1 r.1)
    joined_in (loop_block a k b) q r = joined b q r
    joined_in (grant_block g b) q r = joined b q r
    joined_in (call_procedure p) q r = tt

    joined_all : (n : ℕ) (cs : Commands) → EveryCommands Q n cs → EveryCommands R n cs → EveryCommands W n cs
    joined_all n no_commands q r = tt
    joined_all n (then_command c cs) q r = (h n c q.0 r.0, joined_in c q.1 r.1, joined_all n cs q.2 r.2)

    pub joined : (b : Block) → EveryBlock Q b → EveryBlock R b → EveryBlock W b
    joined (numbered_block n cs) q r = joined_all n cs q r

pub weaker : (Q R : ℕ → Command → Type 0) → ((n : ℕ) (c : Command) → Q n c → R n c) → (b : Block) → EveryBlock Q b → EveryBlock R b
weaker Q R h b q = joined Q Q R (λ n c q _. h n c q) b q q

-- what holds of all commands holds of every one
module _ (Q : ℕ → Command → Type 0) (h : (n : ℕ) (c : Command) → Q n c) where
  mutual
    always_in : (c : Command) → EveryIn Q c
    always_in (plain_command o c) = tt
    always_in (choose_block c b e) = (always b, always e)
    always_in (loop_block a k b) = always b
    always_in (grant_block g b) = always b
    always_in (call_procedure p) = tt

    pub always_all : (n : ℕ) (cs : Commands) → EveryCommands Q n cs
    always_all n no_commands = tt
    always_all n (then_command c cs) = (h n c, always_in c, always_all n cs)

    pub always : (b : Block) → EveryBlock Q b
    always (numbered_block n cs) = always_all n cs

-- the blocks that are entered
module _ (Q : ℕ → Command → Type 0) where
  mutual
    in_command : (c : Command) → EveryIn Q c → All (EveryBlock Q) (inside c)
    in_command (plain_command o c) q = All-nil (EveryBlock Q)
    in_command (choose_block c b e) q = All-append (EveryBlock Q) (entered b) (entered e) (in_block b q.0) (in_block e q.1)
    in_command (loop_block a k b) q = in_block b q
    in_command (grant_block g b) q = in_block b q
    in_command (call_procedure p) q = All-nil (EveryBlock Q)

    in_commands : (n : ℕ) (cs : Commands) → EveryCommands Q n cs → All (EveryBlock Q) (inside_commands cs)
    in_commands n no_commands q = All-nil (EveryBlock Q)
    in_commands n (then_command c cs) q = All-append (EveryBlock Q) (inside c) (inside_commands cs) (in_command c q.1) (in_commands n cs q.2)

    in_block : (b : Block) → EveryBlock Q b → All (EveryBlock Q) (entered b)
    in_block (numbered_block n cs) q = All-cons (EveryBlock Q) (numbered_block n cs) (inside_commands cs) q (in_commands n cs q)

  in_bodies : (bs : List Block) → All (EveryBlock Q) bs → All (EveryBlock Q) (entered_all bs)
  in_bodies [] q = All-nil (EveryBlock Q)
  in_bodies (b ∷ bs) q =
      All-append (EveryBlock Q) (entered b) (entered_all bs) (in_block b (All-head (EveryBlock Q) b bs q)) (in_bodies bs (All-tail (EveryBlock Q) b bs q))

  -- in each by its number, also in one that is not there
  pub every_body : (bs : List Block) → All (EveryBlock Q) bs → (p : ℕ) → EveryBlock Q (get_or bs p no_block)
  every_body bs q p =
      ⊎_elim
      (λ (h : p < length bs). All-get_or (EveryBlock Q) bs p no_block h q)
      (λ (h : length bs ≤ p). subst (EveryBlock Q) (sym (get_or_past bs p no_block h)) tt)
      (cases_lt p (length bs))

  pub every_block : (bs : List Block) → All (EveryBlock Q) bs → (n : ℕ) → EveryBlock Q (get_or (entered_all bs) n no_block)
  every_block bs q n = every_body (entered_all bs) (in_bodies bs q) n

-- the commands that stand in a sequence
pub standing_in : (Q : Command → Type 0) (n : ℕ) (cs : Commands) → EveryCommands (λ _. Q) n cs → EachIn Q cs
standing_in Q n no_commands q = tt
standing_in Q n (then_command c cs) q = (q.0, standing_in Q n cs q.2)

pub of_block : (Q : Command → Type 0) (b : Block) → EveryBlock (λ _. Q) b → EachIn Q (commands b)
of_block Q (numbered_block n cs) q = standing_in Q n cs q

-- what holds of each command of a sequence
pub each_joined : (A B W : Command → Type 0) (cs : Commands) → ((c : Command) → A c → B c → W c) → EachIn A cs → EachIn B cs → EachIn W cs
each_joined A B W no_commands f h k = tt
each_joined A B W (then_command c cs) f h k = (f c h.0 k.0, each_joined A B W cs f h.1 k.1)

pub each_weaker : (A B : Command → Type 0) (cs : Commands) → ((c : Command) → A c → B c) → EachIn A cs → EachIn B cs
each_weaker A B cs f h = each_joined A A B cs (λ c a _. f c a) h h

pub each_of : (A : Command → Type 0) (cs : Commands) → ((c : Command) → A c) → EachIn A cs
each_of A no_commands f = tt
each_of A (then_command c cs) f = (f c, each_of A cs f)
