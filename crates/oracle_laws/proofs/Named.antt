-- The laws of sets, command by command over the trees of the bodies.
use Rattle.std.proofs.Common.{◌≡◌, ℕ, ◌<◌, ◌≤◌, true, List, length, sym, subst, ⊎_elim}
use Rattle.std.specs.List.{All, AllByRecursion}
use Rattle.std.proofs.lemmas.List.{get_or_past}
use Rattle.std.proofs.lemmas.List.Elements.{recursion_from_All}
use Rattle.std.proofs.lemmas.Bool.{cases_lt}
use Rattle.layout.specs.Tree.{Command, plain_command, choose_block, loop_block, grant_block, call_procedure, Commands, no_commands, then_command, Block, numbered_block}
use Rattle.layout.specs.Declarations.{Declaration}
use Rattle.layout.specs.Packages.{Keeps}
use Rattle.layout.specs.Program.{Program, program, body, no_block}
use Rattle.oracle_laws.specs.Blocks.{number, commands, blocks, block, EachIn}
use Rattle.oracle_laws.specs.Sets.{Sets, assigns, runs, Within, Lawful}
use Rattle.oracle_laws.proofs.Every.{EveryIn, EveryCommands, EveryBlock, each_joined}
use Rattle.oracle_laws.proofs.Standing.{Placed, block_number, body_stands, placed_body, placed_block}

-- for block n are named the targets of a command, and all that is named for the blocks that it runs
abbrev pub Named : Program → Sets → ℕ → Command → Type 0
Named P names n c = ((x : ℕ) → assigns P c x ≡ true → names n x ≡ true) × AllByRecursion (λ m. Within names m n) (runs P c)

-- so it is for every command of a sequence of block n, of a block, and of the blocks inside
abbrev pub NamedCommands : Program → Sets → ℕ → Commands → Type 0
NamedCommands P names n cs = EveryCommands (Named P names) n cs

abbrev pub NamedBlock : Program → Sets → Block → Type 0
NamedBlock P names b = EveryBlock (Named P names) b

module _ (P : Program) (names : Sets) (law : Lawful P names) where
  named_at : (n : ℕ) → EachIn (Named P names n) (commands (block P n))
  named_at n =
      each_joined _ (λ c. All (λ m. Within names m n) (runs P c)) (Named P names n) (commands (block P n)) (λ c t h. (t, recursion_from_All (λ m. Within names m n) (runs P c) h)) (law.targets n) (law.nests n)

  mutual
    named_in : (m : ℕ) (c : Command) → Placed P m c → EveryIn (Placed P) c → EveryIn (Named P names) c
    named_in m (plain_command o c) h k = tt
    named_in m (choose_block c b e) h k = (named_block b h.0 k.0, named_block e h.1.0 k.1)
    named_in m (loop_block a t b) h k = named_block b h.0 k
    named_in m (grant_block g b) h k = named_block b h.0 k
    named_in m (call_procedure p) h k = tt

    named_all : (n m : ℕ) (cs : Commands) → EachIn (Named P names n) cs → EveryCommands (Placed P) m cs → NamedCommands P names n cs
    named_all n m no_commands h k = tt
    named_all n m (then_command c cs) h k = (h.0, named_in m c k.0 k.1, named_all n m cs h.1 k.2)

    named_block : (b : Block) → block P (number b) ≡ b → EveryBlock (Placed P) b → NamedBlock P names b
    named_block (numbered_block n cs) e k = named_all n n cs (subst (λ (b : Block). EachIn (Named P names n) (commands b)) e (named_at n)) k

  of_placed : (n : ℕ) (b : Block) → EachIn (Named P names n) (commands b) → EveryBlock (Placed P) b → NamedCommands P names n (commands b)
  of_placed n (numbered_block m cs) h k = named_all n m cs h k

-- in the bodies and in the blocks of an accepted package
module _ (ds : List Declaration) (kept : Keeps ds) (names : Sets) (law : Lawful (program ds) names) where
  abbrev P : Program
  P = program ds

  pub named_body : (p : ℕ) → NamedBlock P names (body P p)
  named_body p =
      ⊎_elim
      (λ (l : p < length P.bodies). named_block P names law (body P p) (body_stands ds kept p l) (placed_body ds kept p))
      (λ (l : length P.bodies ≤ p). subst (NamedBlock P names) (sym (get_or_past P.bodies p no_block l)) tt)
      (cases_lt p (length P.bodies))

  pub named_commands : (n : ℕ) → NamedCommands P names n (commands (block P n))
  named_commands n = of_placed P names law n (block P n) (named_at P names law n) (placed_block ds kept n)

  pub named_whole : (n : ℕ) → NamedBlock P names (block P n)
  named_whole n =
      ⊎_elim
      (λ (l : n < length (blocks P)). by_number (block P n) n (block_number ds kept n l) (named_commands n))
      (λ (l : length (blocks P) ≤ n). subst (NamedBlock P names) (sym (get_or_past (blocks P) n no_block l)) tt)
      (cases_lt n (length (blocks P)))
    where
      by_number : (b : Block) (m : ℕ) → number b ≡ m → NamedCommands P names m (commands b) → NamedBlock P names b
      by_number (numbered_block i cs) m e h = subst (λ (j : ℕ). NamedCommands P names j cs) (sym e) h
