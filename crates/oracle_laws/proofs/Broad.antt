-- Every place for every block: these sets keep the laws.
use Rattle.std.proofs.Common.{◌≡◌, ℕ, ◌<◌, ◌≤◌, true, length, sym, subst, ⊎_elim}
use Rattle.std.proofs.lemmas.List.{get_or_past}
use Rattle.std.proofs.lemmas.Bool.{ltb-true, lt-ltb, and_parts, and_from, cases_lt}
use Rattle.layout.specs.Tree.{Command, Block}
use Rattle.layout.specs.Declarations.{places}
use Rattle.layout.specs.Program.{Program, program, no_block}
use Rattle.oracle_laws.specs.Blocks.{commands, blocks, block, EachIn}
use Rattle.oracle_laws.specs.Sets.{OracleLaws, broad}
use Rattle.oracle_laws.proofs.Every.{of_block, each_weaker, each_of}
use Rattle.oracle_laws.proofs.Standing.{Assigns, assigns_block}

-- what holds in each block that is there holds in each block
by_there : (P : Program) (A : Command → Type 0) (n : ℕ) → (n < length (blocks P) → EachIn A (commands (block P n))) → EachIn A (commands (block P n))
by_there P A n h =
    ⊎_elim h
    (λ (l : length (blocks P) ≤ n). subst (λ (b : Block). EachIn A (commands b)) (sym (get_or_past (blocks P) n no_block l)) tt)
    (cases_lt n (length (blocks P)))

broad_from : (P : Program) (n x : ℕ) → n < length (blocks P) → x < places P.contents → broad P n x ≡ true
broad_from P n x l m = and_from _ _ (lt-ltb _ _ l) (lt-ltb _ _ m)

broad_parts : (P : Program) (n x : ℕ) → broad P n x ≡ true → (n < length (blocks P)) × (x < places P.contents)
broad_parts P n x e = let h = and_parts _ _ e in (ltb-true _ _ h.0, ltb-true _ _ h.1)

pub broad_lawful_lem : OracleLaws broad
broad_lawful_lem =
    record {
      lawful = λ ds kept.
          let P : Program = program ds in
          record {
            targets = λ n. by_there P _ n (λ l. each_weaker (Assigns P n) _ (commands (block P n)) (λ c h x e. broad_from P n x l (h x e)) (of_block (Assigns P n) (block P n) (assigns_block ds kept n)));
            nests = λ n. by_there P _ n (λ l. each_of _ (commands (block P n)) (λ c k d _ x e. broad_from P n x l (broad_parts P _ x e).1));
          };
      declared = λ ds kept n x e. broad_parts (program ds) n x e;
    }
