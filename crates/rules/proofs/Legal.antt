-- What the commands of an accepted package assign: places that the oracle names for their block, and no inputs.
use Rattle.std.proofs.Common.{◌≡◌, ℕ, ◌+◌, ◌<◌, ◌≤◌, true, eqb, ltb, List, length, refl, arith}
use Rattle.std.proofs.lemmas.List.Elements.{All-get_or}
use Rattle.std.proofs.lemmas.Bool.{eq-eqb, ltb-true, leb-true, lt-ltb, le-leb, eqb-true, and_parts, and_from, false≢true}
use Rattle.layout.specs.declared.Table.{Table}
use Rattle.layout.specs.Tree.{Plain, set_place, copy_place, combine_places, pick_cell, put_cell, drive_device, Command, plain_command, choose_block, loop_block, grant_block, call_procedure, Commands, no_commands, then_command, Block, numbered_block}
use Rattle.layout.specs.Layout.{command_bytes, flat, encode_block, choice_head, loop_head, grant_head}
use Rattle.layout.specs.Folds.{size, size_block}
use Rattle.layout.specs.Scope.{Scope, cell, plain_named, plain_targets}
use Rattle.layout.specs.Limits as limits
use Rattle.layout.specs.Limits.{KeepsCommands, KeepsBlock}
use Rattle.layout.specs.Declarations.{Declaration}
use Rattle.layout.specs.Packages.{Keeps, encode}
use Rattle.layout.specs.Accepted.{below, HoldsCells, Lawful}
use Rattle.layout.specs.Program.{Program, program, body, table, no_table}
use Rattle.layout.proofs.Lawful.{accepted_lawful_lem}
use Rattle.oracle_laws.specs.Sets as sets
use Rattle.oracle_laws.specs.Sets.{Sets, cell_of, target, assigns}
use Rattle.oracle_laws.proofs.Every.{EveryIn, EveryCommands, EveryBlock, joined}
use Rattle.oracle_laws.proofs.Standing.{by_procedure}
use Rattle.oracle_laws.proofs.Named.{Named, named_body}

-- a command of block n assigns no input
abbrev pub Cells : Program → ℕ → Command → Type 0
Cells P n c = (x : ℕ) → assigns P c x ≡ true → length P.contents.inputs ≤ x

-- and the oracle names for block n what it assigns, and all that it names for the blocks that the command runs
abbrev pub Fits : Program → Sets → ℕ → Command → Type 0
Fits P names n c = Named P names n c × Cells P n c

-- a place is the target that it is
pub target_itself : (x : ℕ) → eqb x x ≡ true
target_itself x = eq-eqb x x refl

-- a cell that the index finds is a cell of the table
pub in_table : (t : Table) (v : ℕ) → ltb v t.length ≡ true → cell_of t (t.first + v) ≡ true
in_table t v e =
    let l = ltb-true v t.length e in
    and_from _ _ (le-leb t.first (t.first + v) (omega arith)) (lt-ltb (t.first + v) (t.first + t.length) (omega arith))

-- ---- targets are cells

module _ (P : Program) (k : ℕ) (cells : (t : ℕ) → t < length P.contents.tables → length P.contents.inputs ≤ (table P t).first) where
  abbrev w : Scope
  w = below P.contents k

  same_cell : (x y : ℕ) → cell w y ≡ true → eqb x y ≡ true → length P.contents.inputs ≤ x
  same_cell x y h e = let l = leb-true (length P.contents.inputs) y h in omega (arith, eqb-true x y e)

  target_cell : (c : Plain) → plain_named w c ≡ true → plain_targets w c ≡ true → (x : ℕ) → target P c x ≡ true → length P.contents.inputs ≤ x
  target_cell (set_place y n) d h x e = same_cell x y h e
  target_cell (copy_place y a) d h x e = same_cell x y h e
  target_cell (combine_places o y a b) d h x e = same_cell x y h e
  target_cell (pick_cell y t a) d h x e = same_cell x y h e
  target_cell (put_cell t a b) d h x e =
      let l = ltb-true t (length P.contents.tables) (and_parts _ _ (and_parts _ _ d).0).0 in
      let i = cells t l in
      let m = leb-true (table P t).first x (and_parts _ _ e).0 in
      omega arith
  target_cell (drive_device d a) i h x e = absurd (false≢true e)

  mutual
    cells_in : (m : ℕ) (c : Command) (d n at : ℕ) → limits.Keeps w d n at c → Cells P m c × EveryIn (Cells P) c
    cells_in m (plain_command o c) d n at h = (target_cell c h.0.declared h.0.assigns, tt)
    cells_in m (choose_block c b e) d n at h =
        ((λ x i. absurd (false≢true i)), (cells_block b (d + 1) n (at + choice_head c) h.1, cells_block e (d + 1) (n + size_block b) (at + choice_head c + length (encode_block b)) h.2))
    cells_in m (loop_block a t b) d n at h = ((λ x i. absurd (false≢true i)), cells_block b (d + 1) n (at + loop_head) h.1)
    cells_in m (grant_block g b) d n at h = ((λ x i. absurd (false≢true i)), cells_block b (d + 1) n (at + grant_head) h.1)
    cells_in m (call_procedure p) d n at h = ((λ x i. absurd (false≢true i)), tt)

    cells_all : (m : ℕ) (cs : Commands) (d n at : ℕ) → KeepsCommands w d n at cs → EveryCommands (Cells P) m cs
    cells_all m no_commands d n at h = tt
    cells_all m (then_command c cs) d n at h = let i = cells_in m c d n at h.0 in (i.0, i.1, cells_all m cs d (n + size c) (at + length (command_bytes (flat c))) h.1)

    cells_block : (b : Block) (d n at : ℕ) → KeepsBlock w d n at b → EveryBlock (Cells P) b
    cells_block (numbered_block i cs) d n at h = cells_all i cs d (n + 1) at h.1

-- in an accepted package
module _ (ds : List Declaration) (kept : Keeps ds) where
  pub laws : Lawful (encode ds) (program ds).contents (program ds).bodies
  laws = accepted_lawful_lem ds kept

  pub cells_body : (p : ℕ) → EveryBlock (Cells (program ds)) (body (program ds) p)
  cells_body p =
      by_procedure (program ds).contents (λ k b. EveryBlock (Cells (program ds)) b) (λ k. tt) (λ k n at b h. cells_block (program ds) k (λ t l. (All-get_or (HoldsCells (program ds).contents) (program ds).contents.tables t no_table l laws.cells).1) b 0 n at h)
      (program ds).contents.procedures (program ds).bodies laws.procedures p

  pub fits_body : (names : Sets) → sets.Lawful (program ds) names → (p : ℕ) → EveryBlock (Fits (program ds) names) (body (program ds) p)
  fits_body names law p =
      joined (Named (program ds) names) (Cells (program ds)) (Fits (program ds) names) (λ n c h k. (h, k)) (body (program ds) p) (named_body ds kept names law p) (cells_body p)
