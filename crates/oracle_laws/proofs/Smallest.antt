-- The smallest sets keep the laws, and what keeps the laws names all that they name.
use Rattle.std.proofs.Common.{◌≡◌, ℕ, zero, suc, ◌<◌, true, List, length, sym, refl, ap, ◌∙◌, subst, ⊎_elim, arith}
use Rattle.std.specs.List.{All, AllByRecursion}
use Rattle.std.proofs.lemmas.List.Elements.{All-from_recursion, All-weaker}
use Rattle.std.proofs.lemmas.Bool.{eq-eqb, ne_eqb, cases_eq, cond-true, cond-false, or_cases, or_left, or_right, false≢true}
use Rattle.layout.specs.Tree.{Command, plain_command, choose_block, loop_block, grant_block, call_procedure, Commands, no_commands, then_command, Block, numbered_block}
use Rattle.layout.specs.Declarations.{Declaration}
use Rattle.layout.specs.Packages.{Keeps}
use Rattle.layout.specs.Program.{Program, program, body}
use Rattle.oracle_laws.specs.Blocks.{number, commands, block, EachIn}
use Rattle.oracle_laws.specs.Sets.{Sets, assigns, runs, Within, Lawful, OracleLaws, broad}
use Rattle.oracle_laws.specs.Smallest.{writes, writes_commands, writes_block, called_below, smallest, SmallestLeast}
use Rattle.oracle_laws.proofs.Every.{EveryIn, EveryCommands, EveryBlock}
use Rattle.oracle_laws.proofs.Standing.{Placed, Calls, body_stands, placed_block, calls_body, calls_block}
use Rattle.oracle_laws.proofs.Named.{Named, NamedCommands, NamedBlock, named_body, named_commands}
use Rattle.oracle_laws.proofs.Broad.{broad_lawful_lem}
use Rattle.oracle_laws.proofs.Called.{called_at, agree_block}

module _ (ds : List Declaration) (kept : Keeps ds) where
  abbrev P : Program
  P = program ds

  abbrev top : ℕ
  top = length P.bodies

  abbrev env : Sets
  env = called_below P top

  -- the set of a block that stands at its number
  pub at_block : (b : Block) → block P (number b) ≡ b → (x : ℕ) → smallest P (number b) x ≡ writes_block P env b x
  at_block b e x = ap (λ (c : Block). writes_block P env c x) e

  -- the set of a body is what its calls may write
  pub at_body : (p : ℕ) → p < top → (x : ℕ) → smallest P (number (body P p)) x ≡ env p x
  at_body p l x =
      at_block (body P p) (body_stands ds kept p l) x
      ∙ agree_block P env (called_below P p) p x (λ q h. called_at P top q x (omega arith) ∙ sym (called_at P p q x h)) (body P p) (calls_body ds kept p)
      ∙ sym (called_at P top p x l)

  assigns_writes : (c : Command) (x : ℕ) → assigns P c x ≡ true → writes P env c x ≡ true
  assigns_writes (plain_command o c) x e = e
  assigns_writes (choose_block c b f) x e = absurd (false≢true e)
  assigns_writes (loop_block a t b) x e = absurd (false≢true e)
  assigns_writes (grant_block g b) x e = absurd (false≢true e)
  assigns_writes (call_procedure p) x e = absurd (false≢true e)

  abbrev Writes : ℕ → Command → Type 0
  Writes m c = (x : ℕ) → smallest P m x ≡ true → writes P env c x ≡ true

  runs_writes : (n : ℕ) (c : Command) → Placed P n c → Calls top n c → AllByRecursion (λ m. Writes m c) (runs P c)
  runs_writes n (plain_command o c) h k = tt
  runs_writes n (choose_block c b e) h k = (
    λ x w. or_left _ _ (sym (at_block b h.0 x) ∙ w),
    (λ x w. or_right _ _ (sym (at_block e h.1.0 x) ∙ w), tt),
  )
  runs_writes n (loop_block a t b) h k = (λ x w. sym (at_block b h.0 x) ∙ w, tt)
  runs_writes n (grant_block g b) h k = (λ x w. sym (at_block b h.0 x) ∙ w, tt)
  runs_writes n (call_procedure p) h k = (λ x w. sym (at_body p k.0 x) ∙ w, tt)

  within : (n m : ℕ) (c : Command) → ((x : ℕ) → writes P env c x ≡ true → smallest P n x ≡ true) → Placed P m c → Calls top m c → All (λ m. Within (smallest P) m n) (runs P c)
  within n m c f h k = All-weaker (λ m. Writes m c) (λ m. Within (smallest P) m n) (λ m g x w. f x (g x w)) (runs P c) (All-from_recursion _ (runs P c) (runs_writes m c h k))

  abbrev Inside : ℕ → Commands → Type 0
  Inside n cs = (x : ℕ) → writes_commands P env cs x ≡ true → smallest P n x ≡ true

  targets : (n : ℕ) (cs : Commands) → Inside n cs → EachIn (λ c. (x : ℕ) → assigns P c x ≡ true → smallest P n x ≡ true) cs
  targets n no_commands f = tt
  targets n (then_command c cs) f = (λ x e. f x (or_left _ _ (assigns_writes c x e)), targets n cs (λ x w. f x (or_right _ _ w)))

  nests : (n m i : ℕ) (cs : Commands) → Inside n cs → EveryCommands (Placed P) m cs → EveryCommands (Calls top) i cs → EachIn (λ c. All (λ m. Within (smallest P) m n) (runs P c)) cs
  nests n m i no_commands f h k = tt
  nests n m i (then_command c cs) f h k =
      (within n m c (λ x w. f x (or_left _ _ w)) h.0 k.0, nests n m i cs (λ x w. f x (or_right _ _ w)) h.2 k.2)

  by_block : (n : ℕ) (b : Block) → ((x : ℕ) → writes_block P env b x ≡ true → smallest P n x ≡ true) → EveryBlock (Placed P) b → EveryBlock (Calls top) b → EachIn (λ c. (x : ℕ) → assigns P c x ≡ true → smallest P n x ≡ true) (commands b) × EachIn (λ c. All (λ m. Within (smallest P) m n) (runs P c)) (commands b)
  by_block n (numbered_block i cs) f h k = (targets n cs f, nests n i i cs f h k)

  both : (n : ℕ) → EachIn (λ c. (x : ℕ) → assigns P c x ≡ true → smallest P n x ≡ true) (commands (block P n)) × EachIn (λ c. All (λ m. Within (smallest P) m n) (runs P c)) (commands (block P n))
  both n = by_block n (block P n) (λ x w. w) (placed_block ds kept n) (calls_block ds kept n)

  -- whatever keeps the laws
  module _ (names : Sets) (law : Lawful P names) where
    abbrev Knows : Sets → Type 0
    Knows d = (p x : ℕ) → d p x ≡ true → names (number (body P p)) x ≡ true

    module _ (d : Sets) (knows : Knows d) where
      mutual
        small : (n : ℕ) (c : Command) → Named P names n c → EveryIn (Named P names) c → (x : ℕ) → writes P d c x ≡ true → names n x ≡ true
        small n (plain_command o c) h k x w = h.0 x w
        small n (choose_block c b e) h k x w =
            ⊎_elim (λ v. h.1.0 x (small_block b k.0 x v)) (λ v. h.1.1.0 x (small_block e k.1 x v)) (or_cases _ _ w)
        small n (loop_block a t b) h k x w = h.1.0 x (small_block b k x w)
        small n (grant_block g b) h k x w = h.1.0 x (small_block b k x w)
        small n (call_procedure p) h k x w = h.1.0 x (knows p x w)

        small_commands : (n : ℕ) (cs : Commands) → NamedCommands P names n cs → (x : ℕ) → writes_commands P d cs x ≡ true → names n x ≡ true
        small_commands n no_commands h x w = absurd (false≢true w)
        small_commands n (then_command c cs) h x w = ⊎_elim (small n c h.0 h.1 x) (small_commands n cs h.2 x) (or_cases _ _ w)

        small_block : (b : Block) → NamedBlock P names b → (x : ℕ) → writes_block P d b x ≡ true → names (number b) x ≡ true
        small_block (numbered_block n cs) h x w = small_commands n cs h x w

    knows_below : (k : ℕ) → Knows (called_below P k)
    knows_below zero p x w = absurd (false≢true w)
    knows_below (suc k) p x w =
        ⊎_elim
        (λ (e : p ≡ k). subst (λ (j : ℕ). names (number (body P j)) x ≡ true) (sym e) (small_block (called_below P k) (knows_below k) (body P k) (named_body ds kept names law k) x (sym (cond-true _ _ _ (eq-eqb p k e)) ∙ w)))
        (λ (n : p ≡ k → ⊥). knows_below k p x (sym (cond-false _ _ _ (ne_eqb p k n)) ∙ w))
        (cases_eq p k)

    of_commands : (b : Block) (x : ℕ) → writes_block P env b x ≡ writes_commands P env (commands b) x
    of_commands (numbered_block n cs) x = refl

    least : (n x : ℕ) → smallest P n x ≡ true → names n x ≡ true
    least n x w = small_commands env (knows_below top) n (commands (block P n)) (named_commands ds kept names law n) x (sym (of_commands (block P n) x) ∙ w)

pub smallest_least_lem : SmallestLeast
smallest_least_lem ds kept names law n x w = least ds kept names law n x w

pub smallest_lawful_lem : OracleLaws smallest
smallest_lawful_lem =
    record {
      lawful = λ ds kept. record { targets = λ n. (both ds kept n).0; nests = λ n. (both ds kept n).1 };
      declared = λ ds kept n x w. broad_lawful_lem.declared ds kept n x (least ds kept (broad (program ds)) (broad_lawful_lem.lawful ds kept) n x w);
    }
