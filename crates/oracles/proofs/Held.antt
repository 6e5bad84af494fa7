-- What a package holds, and what its declarations say.
use Rattle.std.proofs.Common.{◌≡◌, ℕ, ◌+◌, ◌<◌, ◌≤◌, Bool, false, ◌&&◌, ltb, Option, Some, None, Bor, List, [], length, get_or, take, drop, vec_items, sym, ap, ◌∙◌, ⊎_elim, arith, length-drop, length-take}
use Rattle.std.specs.Slice.{IsItemAt}
use Rattle.std.specs.Option.{MatchOption}
use Rattle.std.proofs.lemmas.List.{get_or_past, get_or_default}
use Rattle.std.proofs.lemmas.Bool.{cases_lt, and_right, le-ltb}
use Rattle.layout.specs.declared.Procedure.{Procedure}
use Rattle.layout.specs.declared.Span.{Span}
use Rattle.layout.specs.declared.Table.{Table}
use Rattle.layout.specs.Tree.{Block}
use Rattle.layout.specs.Layout.{encode_block}
use Rattle.layout.specs.Declarations.{Contents, places}
use Rattle.layout.specs.Program.{Program, program, body, table, no_block, no_table}
use Rattle.package.specs.declared.held.Package.{Package}
use Rattle.package.specs.Loads.{tree_of}
use Rattle.package.proofs.Sets.{lawful, holds}
use Rattle.oracle_laws.specs.Blocks.{blocks, block}
use Rattle.oracle_laws.specs.Sets.{cell_of, broad}
use Rattle.oracle_laws.specs.Smallest.{writes_block, called_below, smallest}
use Rattle.oracle_laws.proofs.Lying.{as_many_blocks, block_lies, as_many_bodies, body_lies}
use Rattle.oracles.specs.declared.walking.Question.{Question}
use Rattle.oracles.specs.Answers.{asked, TellsAll}
use Rattle.oracles.proofs.Walks.{block_told}

-- what follows from an item that is there, and from none
pub by_item : {X : Type 0} {R P : Type 0} {Q : Bor X → Type 0} (xs : List X) (i : ℕ) (r : Option (Bor X)) → IsItemAt xs i r → MatchOption r P Q → (length xs ≤ i → P → R) → ((x : Bor X) → i < length xs → x.now ≡ get_or xs i x.now → Q x → R) → R
by_item xs i None h m none some = none h.3 m
by_item xs i (Some x) h m none some = some x h.3.0 (h.3.1 x.now) m

no_procedure : Procedure
no_procedure = record { party = 0; start = 0; length = 0; block = 0; height = 0; steps = 0 }

module _ (h : Package) where
  abbrev P : Program
  P = program (tree_of h)

  abbrev bytes : List ℕ
  bytes = vec_items h.bytes

  -- a procedure that was found, and one that is not there
  module _ (p : ℕ) (ps : List Procedure) (is : ps ≡ vec_items h.contents.procedures) where
    same_procedures : ps ≡ P.contents.procedures
    same_procedures = is ∙ ap (λ (c : Contents). c.procedures) (holds h)

    pub body_found : (found : Procedure) → p < length ps → found ≡ get_or ps p found → take found.length (drop found.start bytes) ≡ encode_block (body P p)
    body_found found l f =
        let g : found ≡ get_or P.contents.procedures p found = f ∙ ap (λ (qs : List Procedure). get_or qs p found) same_procedures in
        ap (λ (q : Procedure). take q.length (drop q.start bytes)) g
        ∙ body_lies bytes (tree_of h) (lawful h) p found (omega (arith, ap length same_procedures))

    pub body_none : length ps ≤ p → [] ≡ encode_block (body P p)
    body_none l =
        sym (ap encode_block (get_or_past P.bodies p no_block (omega (arith, ap length same_procedures, as_many_bodies bytes (tree_of h) (lawful h)))))

  -- no body is longer than the package
  pub body_short : (p : ℕ) → length (encode_block (body P p)) ≤ length bytes
  body_short p =
      ⊎_elim
      (λ (l : p < length P.contents.procedures).
      let e = body_lies bytes (tree_of h) (lawful h) p no_procedure l in
      omega (arith, ap length e, length-take (get_or P.contents.procedures p no_procedure).length (drop (get_or P.contents.procedures p no_procedure).start bytes), length-drop (get_or P.contents.procedures p no_procedure).start bytes))
      (λ (l : length P.contents.procedures ≤ p).
      let e = get_or_past P.bodies p no_block (omega (arith, as_many_bodies bytes (tree_of h) (lawful h))) in
      omega (arith, ap (λ (b : Block). length (encode_block b)) e))
      (cases_lt p (length P.contents.procedures))

  -- a table
  module _ (t : ℕ) (ts : List Table) (is : ts ≡ vec_items h.contents.tables) where
    same_tables : ts ≡ P.contents.tables
    same_tables = is ∙ ap (λ (c : Contents). c.tables) (holds h)

    in_bounds : (found : Table) → t < length ts → found ≡ get_or ts t found → found ≡ table P t
    in_bounds found l f = f ∙ ap (λ (us : List Table). get_or us t found) same_tables ∙ get_or_default P.contents.tables t found no_table (omega (arith, ap length same_tables))

    pub table_found : (found : Table) (x : ℕ) → t < length ts → found ≡ get_or ts t found → cell_of found x ≡ cell_of (table P t) x
    table_found found x l f = ap (λ (u : Table). cell_of u x) (in_bounds found l f)

    pub table_none : (x : ℕ) → length ts ≤ t → false ≡ cell_of (table P t) x
    table_none x l =
        sym (ap (λ (u : Table). cell_of u x) (get_or_past P.contents.tables t no_table (omega (arith, ap length same_tables))) ∙ and_right _ _ (le-ltb x 0 (omega arith)))

  -- a block
  module _ (n : ℕ) (ss : List Span) (is : ss ≡ vec_items h.contents.blocks) where
    same_spans : ss ≡ P.contents.spans
    same_spans = is ∙ ap (λ (c : Contents). c.spans) (holds h)

    pub block_found : (found : Span) → n < length ss → found ≡ get_or ss n found → take found.length (drop found.start bytes) ≡ encode_block (block P n)
    block_found found l f =
        let g : found ≡ get_or P.contents.spans n found = f ∙ ap (λ (ts : List Span). get_or ts n found) same_spans in
        ap (λ (s : Span). take s.length (drop s.start bytes)) g
        ∙ block_lies bytes (tree_of h) (lawful h) n found (omega (arith, ap length same_spans))

    pub block_none : (x : ℕ) → length ss ≤ n → false ≡ smallest P n x
    block_none x l =
        sym (ap (λ (b : Block). writes_block P (called_below P (length P.bodies)) b x) (get_or_past (blocks P) n no_block (omega (arith, ap length same_spans, as_many_blocks bytes (tree_of h) (lawful h)))))

  -- how many blocks and places
  pub counted : (b p n x : ℕ) → b ≡ length (vec_items h.contents.blocks) → p ≡ length (vec_items h.contents.inputs) + length (vec_items h.contents.cells) → (ltb n b && ltb x p) ≡ broad P n x
  counted b p n x e f =
      let g : b ≡ length (blocks P) = e ∙ ap length (ap (λ (c : Contents). c.spans) (holds h)) ∙ as_many_blocks bytes (tree_of h) (lawful h) in
      let i : p ≡ places P.contents = f ∙ ap places (holds h) in
      ap (λ (m : ℕ). ltb n m && ltb x p) g ∙ ap (λ (m : ℕ). ltb n (length (blocks P)) && ltb x m) i

-- a question about the block
pub block_named : (q : Question) (n : ℕ) (ys : List ℕ) (r : Bool) → q.limit ≡ length (vec_items q.held.now.contents.procedures) → ys ≡ encode_block (block (asked q) n) → TellsAll q ys r → r ≡ smallest (asked q) n q.place
block_named q n ys r e f t =
    let h : Package = q.held.now in
    let top : q.limit ≡ length (asked q).bodies = e ∙ ap length (ap (λ (c : Contents). c.procedures) (holds h)) ∙ as_many_bodies (bytes h) (tree_of h) (lawful h) in
    block_told q (block (asked q) n) ys r (sym f) t ∙ ap (λ (j : ℕ). writes_block (asked q) (called_below (asked q) j) (block (asked q) n) q.place) top
