-- Lines added one after another.
use Rattle.std.proofs.Common.{◌≡◌, ℕ, ◌≤◌, List, [], ◌∷◌, ◌++◌, length, vec_items, sym, ap, ◌∙◌, subst, append_assoc}
use Rattle.layout.specs.declared.Input.{Input}
use Rattle.layout.specs.declared.Cell.{Cell}
use Rattle.layout.specs.declared.Procedure.{Procedure}
use Rattle.layout.specs.declared.Span.{Span}
use Rattle.layout.specs.declared.Table.{Table}
use Rattle.layout.specs.Declarations.{Contents, places}
use Rattle.layout.specs.Packages.{contents}
use Rattle.layout.specs.Accepted.{bodies, all_spans}
use Rattle.package.specs.declared.contents.Contents as code
use Rattle.package.specs.declared.held.Package.{Package}
use Rattle.package.specs.Declares.{contents_of}
use Rattle.package.specs.Loads.{tree_of}
use Rattle.package.proofs.Sets.{kept, lawful, holds}
use Rattle.listing.specs.declared.lines.Line.{Line}
use Rattle.listing.specs.declared.lines.Line.TheVariants as line
use Rattle.listing.specs.declared.lines.Sort.TheVariants.{Parties, Places, Tables, Devices, Procedures, Entries}
use Rattle.listing.specs.Numbered.{numbered}
use Rattle.listing.specs.Lines.{section, place_lines, body_lines, listed, TellsProcedures}

-- two rows of lines
pub joined : {X : Type 0} (before mid after xs ys : List X) → mid ≡ before ++ xs → after ≡ mid ++ ys → after ≡ before ++ (xs ++ ys)
joined before mid after xs ys p q = rw (q, p, append_assoc)

-- the places, inputs first
pub places_joined : (c : Contents) (before headed-by mid after : List Line) (n k : ℕ) (is : List Input) (cs : List Cell) → headed-by ≡ before ++ (line.Heading Places n ∷ []) → n ≡ places c → is ≡ c.inputs → mid ≡ headed-by ++ numbered (λ n x. line.Input n x) 0 is → cs ≡ c.cells → k ≡ length c.inputs → after ≡ mid ++ numbered (λ n x. line.Cell n x) k cs → after ≡ before ++ place_lines c
places_joined c before headed-by mid after n k is cs h e i m j l a = rw (a, m, h, e, i, j, l) (simp append_assoc)

-- the procedures, with their bodies
pub bodies_joined : (held : Package) (before headed-by after : List Line) (n i : ℕ) (bytes : List ℕ) (ps : List Procedure) (c : code.Contents) → headed-by ≡ before ++ (line.Heading Procedures n ∷ []) → c ≡ held.contents → n ≡ length (vec_items c.procedures) → i ≡ length (vec_items c.inputs) → bytes ≡ vec_items held.bytes → ps ≡ vec_items c.procedures → TellsProcedures i bytes ps headed-by after → after ≡ before ++ body_lines (contents (tree_of held)) (bodies (tree_of held))
bodies_joined held before headed-by after n i bytes ps c h same nn ii bb pp t =
    let w = lawful held in
    let e : contents_of c ≡ contents (tree_of held) = ap contents_of same ∙ holds held in
    let procs : ps ≡ (contents (tree_of held)).procedures = pp ∙ ap (λ (x : Contents). x.procedures) e in
    let ins : i ≡ length (contents (tree_of held)).inputs = ii ∙ ap (λ (x : Contents). length x.inputs) e in
    let count : n ≡ length (contents (tree_of held)).procedures = nn ∙ ap (λ (x : Contents). length x.procedures) e in
    let few : length (all_spans (contents (tree_of held)).procedures (bodies (tree_of held))) ≤ 256 = subst (λ (s : List Span). length s ≤ 256) w.spans w.few_blocks in
    let small : length (vec_items held.bytes) ≤ 8192 = subst (λ (xs : List ℕ). length xs ≤ 8192) (kept held).1 (kept held).0.small in
    let told = t (contents (tree_of held)) (bodies (tree_of held)) (rw bb small) (rw procs w.procedures) (rw (bb, procs) w.lie) (rw procs few) in
    rw (told, h, count, ins, procs, append_assoc)

-- all lines, one sort after the other
pub all_joined : {X : Type 0} (l0 l1 l2 l3 l4 l5 l6 l7 a b c d e f g : List X) → l0 ≡ [] → l1 ≡ l0 ++ a → l2 ≡ l1 ++ b → l3 ≡ l2 ++ c → l4 ≡ l3 ++ d → l5 ≡ l4 ++ e → l6 ≡ l5 ++ f → l7 ≡ l6 ++ g → l7 ≡ a ++ (b ++ (c ++ (d ++ (e ++ (f ++ g)))))
all_joined l0 l1 l2 l3 l4 l5 l6 l7 a b c d e f g h0 h1 h2 h3 h4 h5 h6 h7 = rw (h7, h6, h5, h4, h3, h2, h1, h0) (simp append_assoc)

pub listed_joined : (held : Package) (x : code.Contents) (ps ns es : List ℕ) (ts : List Table) (l0 l1 l2 l3 l4 l5 l6 l7 : List Line) → x ≡ held.contents → l0 ≡ [] → ps ≡ vec_items x.parties → l1 ≡ l0 ++ section Parties (λ n y. line.Party n y) ps → l2 ≡ l1 ++ place_lines (contents_of x) → ts ≡ vec_items x.tables → l3 ≡ l2 ++ section Tables (λ n y. line.Table n y) ts → ns ≡ vec_items x.needs → l4 ≡ l3 ++ section Devices (λ n y. line.Device n y) ns → l5 ≡ l4 ++ body_lines (contents (tree_of held)) (bodies (tree_of held)) → es ≡ vec_items x.entries → l6 ≡ l5 ++ section Entries (λ n y. line.Entry n y) es → l7 ≡ l6 ++ (line.Cycle x.steps ∷ []) → l7 ≡ listed (contents (tree_of held)) (bodies (tree_of held))
listed_joined held x ps ns es ts l0 l1 l2 l3 l4 l5 l6 l7 same h0 p h1 h2 t h3 n h4 h5 e h6 h7 =
    let is : contents_of x ≡ contents (tree_of held) = ap contents_of same ∙ holds held in
    let h5' : l5 ≡ l4 ++ body_lines (contents_of x) (bodies (tree_of held)) = subst (λ (k : Contents). l5 ≡ l4 ++ body_lines k (bodies (tree_of held))) (sym is) h5 in
    let all : l7 ≡ listed (contents_of x) (bodies (tree_of held)) = all_joined l0 l1 l2 l3 l4 l5 l6 l7 _ _ _ _ _ _ _ h0 (rw p at h1) h2 (rw t at h3) (rw n at h4) h5' (rw e at h6) h7 in
    all ∙ ap (λ (k : Contents). listed k (bodies (tree_of held))) is
