-- Each block of a package stands at its number.
use Rattle.std.proofs.Common.{◌≡◌, ℕ, zero, suc, ◌+◌, ◌<◌, ◌≤◌, true, eqb, leb, ltb, List, [], ◌∷◌, ◌++◌, length, get_or, sym, refl, ap, ◌∙◌, subst, append_assoc, arith, length-append, length-take}
use Rattle.std.specs.List.{All, AllByRecursion}
use Rattle.std.proofs.lemmas.List.Elements.{All-nil, All-cons, All-get_or, All-from_get_or, All-from_recursion, recursion_from_All, All-weaker}
use Rattle.std.proofs.Math.Seq.{get_or-append_seam}
use Rattle.std.proofs.lemmas.Bool.{ltb-true, eqb-true, and_parts, false≢true}
use Rattle.layout.specs.declared.Procedure.{Procedure}
use Rattle.layout.specs.Tree.{Plain, set_place, copy_place, combine_places, pick_cell, put_cell, drive_device, Command, plain_command, choose_block, loop_block, grant_block, call_procedure, Commands, no_commands, then_command, Block, numbered_block}
use Rattle.layout.specs.Layout.{command_bytes, flat, encode_block, choice_head, loop_head, grant_head}
use Rattle.layout.specs.Folds.{size, size_commands, size_block}
use Rattle.layout.specs.Scope.{Scope, place, plain_named, named}
use Rattle.layout.specs.Limits as limits
use Rattle.layout.specs.Limits.{KeepsCommands, KeepsBlock}
use Rattle.layout.specs.Declarations.{Declaration, Contents, places, heights}
use Rattle.layout.specs.Packages.{Keeps, encode}
use Rattle.layout.specs.Accepted.{below, LawfulProcedures, HoldsCells, Lawful}
use Rattle.layout.specs.Program.{Program, program, body, table, no_block, no_table}
use Rattle.layout.proofs.Lawful.{accepted_lawful_lem}
use Rattle.oracle_laws.specs.Blocks.{number, inside, inside_commands, entered, entered_all, blocks, block}
use Rattle.oracle_laws.specs.Sets.{target, assigns}
use Rattle.oracle_laws.proofs.Every.{EveryIn, EveryCommands, EveryBlock, every_block, every_body, weaker}

-- the blocks that a command has
abbrev pub parts : Command → List Block
parts (plain_command o c) = []
parts (choose_block c b e) = b ∷ e ∷ []
parts (loop_block a k b) = b ∷ []
parts (grant_block g b) = b ∷ []
parts (call_procedure p) = []

-- the procedures that a command calls
abbrev pub calls : Command → List ℕ
calls (plain_command o c) = []
calls (choose_block c b e) = []
calls (loop_block a k b) = []
calls (grant_block g b) = []
calls (call_procedure p) = p ∷ []

-- as many blocks are entered as are counted
mutual
  length-inside : (c : Command) → length (inside c) ≡ size c
  length-inside (plain_command o c) = refl
  length-inside (choose_block c b e) = length-append (entered b) (entered e) ∙ rw (length-entered b, length-entered e)
  length-inside (loop_block a k b) = length-entered b
  length-inside (grant_block g b) = length-entered b
  length-inside (call_procedure p) = refl

  length-inside_commands : (cs : Commands) → length (inside_commands cs) ≡ size_commands cs
  length-inside_commands no_commands = refl
  length-inside_commands (then_command c cs) = length-append (inside c) (inside_commands cs) ∙ rw (length-inside c, length-inside_commands cs)

  pub length-entered : (b : Block) → length (entered b) ≡ size_block b
  length-entered (numbered_block n cs) = let l = length-inside_commands cs in omega arith

module _ (all : List Block) where
  abbrev Stands : Block → Type 0
  Stands b = get_or all (number b) no_block ≡ b

  abbrev Stand : ℕ → Command → Type 0
  Stand n c = AllByRecursion Stands (parts c)

  stands : (us vs : List Block) (b : Block) → all ≡ us ++ (b ∷ vs) → number b ≡ length us → Stands b
  stands us vs b e l =
      ap (λ (n : ℕ). get_or all n no_block) l ∙ ap (λ (bs : List Block). get_or bs (length us) no_block) e ∙ get_or-append_seam us b vs no_block

  -- behind the blocks of us, which have the numbers below n
  mutual
    stand_in : (w : Scope) (c : Command) (d n at : ℕ) (us vs : List Block) → all ≡ us ++ (inside c ++ vs) → length us ≡ n → limits.Keeps w d n at c → Stand n c × EveryIn Stand c
    stand_in w (plain_command o c) d n at us vs e l k = (tt, tt)
    stand_in w (choose_block c b x) d n at us vs e l k =
        let f : all ≡ us ++ (entered b ++ (entered x ++ vs)) = e ∙ ap (λ (r : List Block). us ++ r) (append_assoc (entered b) (entered x) vs) in
        let g : all ≡ (us ++ entered b) ++ (entered x ++ vs) = f ∙ sym (append_assoc us (entered b) (entered x ++ vs)) in
        let m : length (us ++ entered b) ≡ n + size_block b = omega (arith, length-append us (entered b), length-entered b) in
        let one = stand_block w b (d + 1) n (at + choice_head c) us (entered x ++ vs) f l k.1 in
        let two = stand_block w x (d + 1) (n + size_block b) (at + choice_head c + length (encode_block b)) (us ++ entered b) vs g m k.2 in
        ((one.0, (two.0, tt)), (one.1, two.1))
    stand_in w (loop_block a t b) d n at us vs e l k = let h = stand_block w b (d + 1) n (at + loop_head) us vs e l k.1 in ((h.0, tt), h.1)
    stand_in w (grant_block g b) d n at us vs e l k = let h = stand_block w b (d + 1) n (at + grant_head) us vs e l k.1 in ((h.0, tt), h.1)
    stand_in w (call_procedure p) d n at us vs e l k = (tt, tt)

    stand_all : (w : Scope) (m : ℕ) (cs : Commands) (d n at : ℕ) (us vs : List Block) → all ≡ us ++ (inside_commands cs ++ vs) → length us ≡ n → KeepsCommands w d n at cs → EveryCommands Stand m cs
    stand_all w m no_commands d n at us vs e l k = tt
    stand_all w m (then_command c cs) d n at us vs e l k =
        let f : all ≡ us ++ (inside c ++ (inside_commands cs ++ vs)) = e ∙ ap (λ (r : List Block). us ++ r) (append_assoc (inside c) (inside_commands cs) vs) in
        let g : all ≡ (us ++ inside c) ++ (inside_commands cs ++ vs) = f ∙ sym (append_assoc us (inside c) (inside_commands cs ++ vs)) in
        let i : length (us ++ inside c) ≡ n + size c = omega (arith, length-append us (inside c), length-inside c) in
        let h = stand_in w c d n at us (inside_commands cs ++ vs) f l k.0 in
        (h.0, h.1, stand_all w m cs d (n + size c) (at + length (command_bytes (flat c))) (us ++ inside c) vs g i k.1)

    stand_block : (w : Scope) (b : Block) (d n at : ℕ) (us vs : List Block) → all ≡ us ++ (entered b ++ vs) → length us ≡ n → KeepsBlock w d n at b → Stands b × EveryBlock Stand b
    stand_block w (numbered_block i cs) d n at us vs e l k =
        let f : all ≡ (us ++ (numbered_block i cs ∷ [])) ++ (inside_commands cs ++ vs) = e ∙ sym (append_assoc us (numbered_block i cs ∷ []) (inside_commands cs ++ vs)) in
        let m : length (us ++ (numbered_block i cs ∷ [])) ≡ n + 1 = omega (arith, length-append us (numbered_block i cs ∷ [])) in
        (stands us (inside_commands cs ++ vs) (numbered_block i cs) e (k.0 ∙ sym l), stand_all w i cs d (n + 1) at (us ++ (numbered_block i cs ∷ [])) vs f m k.1)

  stand_bodies : (c : Contents) (k n : ℕ) (ps : List Procedure) (bs us : List Block) → all ≡ us ++ entered_all bs → length us ≡ n → LawfulProcedures c k n ps bs → All (λ b. Stands b × EveryBlock Stand b) bs
  stand_bodies c k n [] [] us e l h = All-nil (λ b. Stands b × EveryBlock Stand b)
  stand_bodies c k n [] (b ∷ bs) us e l h = absurd h
  stand_bodies c k n (p ∷ ps) [] us e l h = absurd h
  stand_bodies c k n (p ∷ ps) (b ∷ bs) us e l h =
      let f : all ≡ (us ++ entered b) ++ entered_all bs = e ∙ sym (append_assoc us (entered b) (entered_all bs)) in
      let m : length (us ++ entered b) ≡ n + size_block b = omega (arith, length-append us (entered b), length-entered b) in
      All-cons (λ b. Stands b × EveryBlock Stand b) b bs (stand_block (below c k) b 0 n p.start us (entered_all bs) e l h.0.body) (stand_bodies c (k + 1) (n + size_block b) ps bs (us ++ entered b) f m h.1)

-- blocks numbered one after another, from n on
abbrev Numbered : ℕ → List Block → Type 0
Numbered n [] = Unit {0}
Numbered n (b ∷ bs) = (number b ≡ n) × Numbered (n + 1) bs

numbered-append : (n m : ℕ) (us vs : List Block) → n + length us ≡ m → Numbered n us → Numbered m vs → Numbered n (us ++ vs)
numbered-append n m [] vs e h k = let z : m ≡ n = omega arith in subst (λ (i : ℕ). Numbered i vs) z k
numbered-append n m (b ∷ us) vs e h k = (h.0, numbered-append (n + 1) m us vs (omega arith) h.1 k)

numbered_at : (n : ℕ) (bs : List Block) (k : ℕ) → k < length bs → Numbered n bs → number (get_or bs k no_block) ≡ n + k
numbered_at n [] k l h = absurd (omega arith)
numbered_at n (b ∷ bs) zero l h = omega (arith, h.0)
numbered_at n (b ∷ bs) (suc k) l h = let r = numbered_at (n + 1) bs k (omega arith) h.1 in omega arith

module _ (w : Scope) where
  mutual
    numbered_in : (c : Command) (d n at : ℕ) → limits.Keeps w d n at c → Numbered n (inside c)
    numbered_in (plain_command o c) d n at k = tt
    numbered_in (choose_block c b e) d n at k =
        let l = length-entered b in
        numbered-append n (n + size_block b) (entered b) (entered e) (omega arith) (numbered_by_block b (d + 1) n (at + choice_head c) k.1) (numbered_by_block e (d + 1) (n + size_block b) (at + choice_head c + length (encode_block b)) k.2)
    numbered_in (loop_block a t b) d n at k = numbered_by_block b (d + 1) n (at + loop_head) k.1
    numbered_in (grant_block g b) d n at k = numbered_by_block b (d + 1) n (at + grant_head) k.1
    numbered_in (call_procedure p) d n at k = tt

    numbered_all : (cs : Commands) (d n at : ℕ) → KeepsCommands w d n at cs → Numbered n (inside_commands cs)
    numbered_all no_commands d n at k = tt
    numbered_all (then_command c cs) d n at k =
        let l = length-inside c in
        numbered-append n (n + size c) (inside c) (inside_commands cs) (omega arith) (numbered_in c d n at k.0) (numbered_all cs d (n + size c) (at + length (command_bytes (flat c))) k.1)

    numbered_by_block : (b : Block) (d n at : ℕ) → KeepsBlock w d n at b → Numbered n (entered b)
    numbered_by_block (numbered_block i cs) d n at k = (k.0, numbered_all cs d (n + 1) at k.1)

numbered_bodies : (c : Contents) (k n : ℕ) (ps : List Procedure) (bs : List Block) → LawfulProcedures c k n ps bs → Numbered n (entered_all bs)
numbered_bodies c k n [] [] h = tt
numbered_bodies c k n [] (b ∷ bs) h = absurd h
numbered_bodies c k n (p ∷ ps) [] h = absurd h
numbered_bodies c k n (p ∷ ps) (b ∷ bs) h =
    let l = length-entered b in
    numbered-append n (n + size_block b) (entered b) (entered_all bs) (omega arith) (numbered_by_block (below c k) b 0 n p.start h.0.body) (numbered_bodies c (k + 1) (n + size_block b) ps bs h.1)

-- what a body may name, its commands name
module _ (w : Scope) where
  abbrev Names : ℕ → Command → Type 0
  Names n c = named w (flat c) ≡ true

  mutual
    names_in : (c : Command) (d n at : ℕ) → limits.Keeps w d n at c → (named w (flat c) ≡ true) × EveryIn Names c
    names_in (plain_command o c) d n at k = (k.0.declared, tt)
    names_in (choose_block c b e) d n at k =
        (k.0.declared, (names_block b (d + 1) n (at + choice_head c) k.1, names_block e (d + 1) (n + size_block b) (at + choice_head c + length (encode_block b)) k.2))
    names_in (loop_block a t b) d n at k = (k.0.declared, names_block b (d + 1) n (at + loop_head) k.1)
    names_in (grant_block g b) d n at k = (k.0.declared, names_block b (d + 1) n (at + grant_head) k.1)
    names_in (call_procedure p) d n at k = (k.declared, tt)

    names_all : (m : ℕ) (cs : Commands) (d n at : ℕ) → KeepsCommands w d n at cs → EveryCommands Names m cs
    names_all m no_commands d n at k = tt
    names_all m (then_command c cs) d n at k = let h = names_in c d n at k.0 in (h.0, h.1, names_all m cs d (n + size c) (at + length (command_bytes (flat c))) k.1)

    names_block : (b : Block) (d n at : ℕ) → KeepsBlock w d n at b → EveryBlock Names b
    names_block (numbered_block i cs) d n at k = names_all i cs d (n + 1) at k.1

-- a command of procedure k names what is declared
abbrev pub NamesBelow : Contents → ℕ → ℕ → Command → Type 0
NamesBelow c k n x = named (below c k) (flat x) ≡ true

-- what holds of each lawful procedure and its body holds of each body by its number, also of one that is not there
pub by_procedure_from : (c : Contents) (Q : ℕ → Block → Type 0) → ((k : ℕ) → Q k no_block) → ((k n at : ℕ) (b : Block) → KeepsBlock (below c k) 0 n at b → Q k b) → (k n : ℕ) (ps : List Procedure) (bs : List Block) → LawfulProcedures c k n ps bs → (p : ℕ) → Q (k + p) (get_or bs p no_block)
by_procedure_from c Q none one k n [] [] h p = none (k + p)
by_procedure_from c Q none one k n [] (b ∷ bs) h p = absurd h
by_procedure_from c Q none one k n (q ∷ ps) [] h p = absurd h
by_procedure_from c Q none one k n (q ∷ ps) (b ∷ bs) h zero = let e : k ≡ k + 0 = omega arith in subst (λ (j : ℕ). Q j b) e (one k n q.start b h.0.body)
by_procedure_from c Q none one k n (q ∷ ps) (b ∷ bs) h (suc p) =
    let e : k + 1 + p ≡ k + suc p = omega arith in
    subst (λ (j : ℕ). Q j (get_or bs p no_block)) e (by_procedure_from c Q none one (k + 1) (n + size_block b) ps bs h.1 p)

pub by_procedure : (c : Contents) (Q : ℕ → Block → Type 0) → ((k : ℕ) → Q k no_block) → ((k n at : ℕ) (b : Block) → KeepsBlock (below c k) 0 n at b → Q k b) → (ps : List Procedure) (bs : List Block) → LawfulProcedures c 0 0 ps bs → (p : ℕ) → Q p (get_or bs p no_block)
by_procedure c Q none one ps bs h p =
    let e : 0 + p ≡ p = omega arith in subst (λ (j : ℕ). Q j (get_or bs p no_block)) e (by_procedure_from c Q none one 0 0 ps bs h p)

module _ (P : Program) where
  -- the blocks of a command stand at their numbers
  abbrev pub Placed : ℕ → Command → Type 0
  Placed n c = AllByRecursion (λ b. block P (number b) ≡ b) (parts c)

  -- the places that a command assigns are declared
  abbrev pub Assigns : ℕ → Command → Type 0
  Assigns n c = (x : ℕ) → assigns P c x ≡ true → x < places P.contents

-- the procedures that a command calls are below k
abbrev pub Calls : ℕ → ℕ → Command → Type 0
Calls k n c = AllByRecursion (λ p. p < k) (calls c)

calls_below : (c : Contents) (k n : ℕ) (x : Command) → NamesBelow c k n x → Calls k n x
calls_below c k n (plain_command o x) h = tt
calls_below c k n (choose_block x b e) h = tt
calls_below c k n (loop_block a t b) h = tt
calls_below c k n (grant_block g b) h = tt
calls_below c k n (call_procedure p) h = (omega (arith, ltb-true _ _ h, length-take k (heights c)), tt)

module _ (P : Program) (k : ℕ) (cells : (t : ℕ) → t < length P.contents.tables → (table P t).first + (table P t).length ≤ places P.contents) where
  abbrev w : Scope
  w = below P.contents k

  same_place : (x y : ℕ) → place w y ≡ true → eqb x y ≡ true → x < places P.contents
  same_place x y h e = let d = ltb-true y (places P.contents) h in omega (arith, eqb-true x y e)

  target_declared : (c : Plain) → plain_named w c ≡ true → (x : ℕ) → target P c x ≡ true → x < places P.contents
  target_declared (set_place y n) h x e = same_place x y h e
  target_declared (copy_place y a) h x e = same_place x y (and_parts _ _ h).0 e
  target_declared (combine_places o y a b) h x e = same_place x y (and_parts _ _ (and_parts _ _ h).0).0 e
  target_declared (pick_cell y t a) h x e = same_place x y (and_parts _ _ (and_parts _ _ h).0).0 e
  target_declared (put_cell t a b) h x e =
      let d = ltb-true t (length P.contents.tables) (and_parts _ _ (and_parts _ _ h).0).0 in
      let i = cells t d in
      let f = (table P t).first in
      let n = (table P t).length in
      let l = ltb-true x (f + n) (and_parts (leb f x) (ltb x (f + n)) e).1 in
      omega arith
  target_declared (drive_device d a) h x e = absurd (false≢true e)

  assigns_declared : (n : ℕ) (c : Command) → NamesBelow P.contents k n c → Assigns P n c
  assigns_declared n (plain_command o c) h x e = target_declared c h x e
  assigns_declared n (choose_block c b d) h x e = absurd (false≢true e)
  assigns_declared n (loop_block a t b) h x e = absurd (false≢true e)
  assigns_declared n (grant_block g b) h x e = absurd (false≢true e)
  assigns_declared n (call_procedure p) h x e = absurd (false≢true e)

-- of an accepted package
module _ (ds : List Declaration) (kept : Keeps ds) where
  abbrev P : Program
  P = program ds

  laws : Lawful (encode ds) P.contents P.bodies
  laws = accepted_lawful_lem ds kept

  stand : All (λ b. (block P (number b) ≡ b) × EveryBlock (Placed P) b) P.bodies
  stand = stand_bodies (blocks P) P.contents 0 0 P.contents.procedures P.bodies [] refl refl laws.procedures

  name : (p : ℕ) → EveryBlock (NamesBelow P.contents p) (body P p)
  name p =
      by_procedure P.contents (λ k. EveryBlock (NamesBelow P.contents k)) (λ k. tt) (λ k n at b. names_block (below P.contents k) b 0 n at)
      P.contents.procedures P.bodies laws.procedures p

  -- the body of each procedure stands at its number
  pub body_stands : (p : ℕ) → p < length P.bodies → block P (number (body P p)) ≡ body P p
  body_stands p l = (All-get_or (λ b. (block P (number b) ≡ b) × EveryBlock (Placed P) b) P.bodies p no_block l stand).0

  -- block n has the number n
  pub block_number : (n : ℕ) → n < length (blocks P) → number (block P n) ≡ n
  block_number n l =
      let r = numbered_at 0 (blocks P) n l (numbered_bodies P.contents 0 0 P.contents.procedures P.bodies laws.procedures) in omega arith

  -- each block inside a body, or inside any other block, stands at its number
  placed_bodies : All (EveryBlock (Placed P)) P.bodies
  placed_bodies = All-weaker (λ b. (block P (number b) ≡ b) × EveryBlock (Placed P) b) (EveryBlock (Placed P)) (λ b h. h.1) P.bodies stand

  pub placed_body : (p : ℕ) → EveryBlock (Placed P) (body P p)
  placed_body p = every_body (Placed P) P.bodies placed_bodies p

  pub placed_block : (n : ℕ) → EveryBlock (Placed P) (block P n)
  placed_block n = every_block (Placed P) P.bodies placed_bodies n

  -- a body calls lower procedures, and a block calls procedures that are there
  pub calls_body : (p : ℕ) → EveryBlock (Calls p) (body P p)
  calls_body p = weaker (NamesBelow P.contents p) (Calls p) (calls_below P.contents p) (body P p) (name p)

  pub calls_block : (n : ℕ) → EveryBlock (Calls (length P.bodies)) (block P n)
  calls_block n =
      every_block (Calls (length P.bodies)) P.bodies (All-from_get_or (EveryBlock (Calls (length P.bodies))) P.bodies no_block (λ p l.
      weaker (Calls p) (Calls (length P.bodies)) (λ m c h. recursion_from_All _ (calls c) (All-weaker (λ q. q < p) (λ q. q < length P.bodies) (λ q i. omega arith) (calls c) (All-from_recursion _ (calls c) h))) (body P p) (calls_body p))) n

  -- a block assigns places that are declared
  pub assigns_block : (n : ℕ) → EveryBlock (Assigns P) (block P n)
  assigns_block n =
      every_block (Assigns P) P.bodies (All-from_get_or (EveryBlock (Assigns P)) P.bodies no_block (λ p l.
      weaker (NamesBelow P.contents p) (Assigns P) (assigns_declared P p (λ t h. (All-get_or (HoldsCells P.contents) P.contents.tables t no_table h laws.cells).2)) (body P p) (name p))) n
