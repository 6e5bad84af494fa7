-- The listing of the procedures so far, and one procedure more.
use Rattle.std.proofs.Common.{◌≡◌, ℕ, ◌+◌, ◌≤◌, List, [], ◌∷◌, ◌++◌, length, take, drop, vec_items, sym, refl, ap, ◌∙◌, append_assoc, append-nil, arith, length-append}
use Rattle.layout.specs.declared.Procedure.{Procedure}
use Rattle.layout.specs.Tree.{Block}
use Rattle.layout.specs.Layout.{encode_block}
use Rattle.layout.specs.Folds.{size_block, spans_block}
use Rattle.layout.specs.Declarations.{Contents}
use Rattle.layout.specs.Accepted.{below, LawfulProcedures, Lie, all_spans}
use Rattle.layout.proofs.Sizes.{spans_size_block}
use Rattle.listing.specs.declared.bodies.BodyLines.{BodyLines}
use Rattle.listing.specs.declared.lines.Line.{Line}
use Rattle.listing.specs.declared.lines.Line.TheVariants as line
use Rattle.listing.specs.declared.lines.Role.TheVariants.{Body}
use Rattle.listing.specs.Bodies.{block_lines, TellsBlock}
use Rattle.listing.specs.Lines.{procedure_lines, TellsProcedures}

-- of the bodies bs, those of the procedures `left` are left, from number k on
pub record Left (i : ℕ) (bytes : List ℕ) (ps : List Procedure) (before : List Line) (c : Contents) (bs : List Block) (left : List Procedure) (k : ℕ) (cur : BodyLines) : Type 0 where
  pub rest : List Block
  pub pre : List Line
  pub lawful : LawfulProcedures c k cur.blocks left rest
  pub lie : Lie bytes left rest
  pub few : cur.blocks + length (all_spans left rest) ≤ 256
  pub inputs : cur.inputs ≡ i
  pub told : vec_items cur.lines ≡ before ++ pre
  pub whole : pre ++ procedure_lines i k left rest ≡ procedure_lines i 0 ps bs

pub record Telling (i : ℕ) (bytes : List ℕ) (ps : List Procedure) (before : List Line) (left : List Procedure) (k : ℕ) (cur : BodyLines) : Type 0 where
  pub tells : (c : Contents) (bs : List Block) → length bytes ≤ 8192 → LawfulProcedures c 0 0 ps bs → Lie bytes ps bs → length (all_spans ps bs) ≤ 256 → Left i bytes ps before c bs left k cur

pub telling_start : {i : ℕ} {bytes : List ℕ} {ps : List Procedure} (cur : BodyLines) → cur.inputs ≡ i → cur.blocks ≡ 0 → Telling i bytes ps (vec_items cur.lines) ps 0 cur
telling_start cur e z = record {
  tells = λ c bs small h lie few. record { rest = bs; pre = []; lawful = rw z h; lie = lie; few = omega arith; inputs = e; told = sym (append-nil _); whole = refl };
}

module _ {i : ℕ} {bytes : List ℕ} {ps : List Procedure} {before : List Line} {left : List Procedure} {k : ℕ} {cur : BodyLines} (so : Telling i bytes ps before left k cur) where
  pub telling_end : length left ≡ 0 → TellsProcedures i bytes ps before (vec_items cur.lines)
  telling_end e c bs small h lie few =
      let l = so.tells c bs small h lie few in
      let none = nothing left l.rest e in
      let whole = l.whole in
      rw (l.told, ← whole, none, append-nil)
    where
      nothing : (xs : List Procedure) (bs : List Block) → length xs ≡ 0 → procedure_lines i k xs bs ≡ []
      nothing [] bs z = refl
      nothing (x ∷ xs) bs z = absurd (omega arith)

  module _ {p : Procedure} {after : List Procedure} (e : left ≡ p ∷ after) where
    pub telling_on : {mid cur' : BodyLines} {part : List ℕ} → vec_items mid.lines ≡ vec_items cur.lines ++ (line.Procedure k p ∷ []) → mid.blocks ≡ cur.blocks → mid.inputs ≡ cur.inputs → part ≡ take p.length (drop p.start bytes) → TellsBlock 0 Body part p.start mid cur' → Telling i bytes ps before after (k + 1) cur'
    telling_on {mid} {cur'} {part} m n j is h = record { tells = λ c bs small law lie few. go c bs small (so.tells c bs small law lie few) }
      where
        step : (c : Contents) (bs rest : List Block) (pre : List Line) → length bytes ≤ 8192 → LawfulProcedures c k cur.blocks (p ∷ after) rest → Lie bytes (p ∷ after) rest → cur.blocks + length (all_spans (p ∷ after) rest) ≤ 256 → cur.inputs ≡ i → vec_items cur.lines ≡ before ++ pre → pre ++ procedure_lines i k (p ∷ after) rest ≡ procedure_lines i 0 ps bs → Left i bytes ps before c bs after (k + 1) cur'
        step c bs [] pre small law lie few ins told whole = absurd law
        step c bs (b ∷ rest) pre small law lie few ins told whole =
            let long = law.0.long in
            let there = lie.0.0 in
            let body : part ≡ encode_block b = is ∙ lie.0.1 in
            let size = ap length body in
            let s = spans_size_block b p.start in
            let l = length-append (spans_block p.start b) (all_spans after rest) in
            let t = h.told (below c k) b (rw n law.0.body) (omega arith) (omega arith) (sym body) in
            let next : cur'.blocks ≡ cur.blocks + size_block b = omega (arith, t.blocks) in
            record {
              rest = rest;
              pre = pre ++ (line.Procedure k p ∷ block_lines i 0 Body p.start b);
              lawful = rw next law.1;
              lie = lie.1;
              few = omega arith;
              inputs = t.inputs ∙ j ∙ ins;
              told = rw (t.lines, m, told, j, ins) (simp append_assoc);
              whole = rw append_assoc whole;
            }

        go : (c : Contents) (bs : List Block) → length bytes ≤ 8192 → Left i bytes ps before c bs left k cur → Left i bytes ps before c bs after (k + 1) cur'
        go c bs small l =
            step c bs l.rest l.pre small
            (rw e at l.lawful) (rw e at l.lie) (rw e at l.few) l.inputs l.told (rw e at l.whole)
