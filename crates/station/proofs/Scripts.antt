-- Calls, as far as they have been read.
use Rattle.std.proofs.Common.{◌≡◌, ℕ, ◌≤◌, List, [], ◌∷◌, ◌++◌, length, get_or, drop, Some, None, refl, ap, sym, ◌∙◌, append_assoc, append-nil, arith}
use Rattle.layout.specs.Bytes.{be32}
use Rattle.rules.specs.declared.Call.{Call}
use Rattle.rules.specs.declared.Call.TheVariants.{Post}
use Rattle.station.specs.declared.lines.Stop.{Stop}
use Rattle.station.specs.Script.{Script, script, halted, with_call, post}

-- a post that is there whole
pub posts : (bs : List ℕ) (v : ℕ) (rest : List ℕ) → 6 ≤ length bs → v ≡ be32 bs 2 → rest ≡ drop 6 bs → post bs ≡ with_call (Post (get_or bs 0 0) (get_or bs 1 0) v) (script rest)
posts [] v rest h e f = absurd (omega arith)
posts (o ∷ []) v rest h e f = absurd (omega arith)
posts (o ∷ x ∷ []) v rest h e f = absurd (omega arith)
posts (o ∷ x ∷ a ∷ []) v rest h e f = absurd (omega arith)
posts (o ∷ x ∷ a ∷ b ∷ []) v rest h e f = absurd (omega arith)
posts (o ∷ x ∷ a ∷ b ∷ c ∷ []) v rest h e f = absurd (omega arith)
posts (o ∷ x ∷ a ∷ b ∷ c ∷ d ∷ bs) v rest h e f = rw (e, f) refl

-- these calls have been read of the bytes, and `rest` is left
pub record Reading (bs rest : List ℕ) (calls : List Call) : Type 0 where
  pub front : calls ++ (script rest).calls ≡ (script bs).calls
  pub stop : (script rest).stop ≡ (script bs).stop

module _ {bs rest : List ℕ} {calls : List Call} where
  pub reading_start : rest ≡ bs → calls ≡ [] → Reading bs rest calls
  reading_start e none = record { front = rw (none, e) refl; stop = rw e refl }

  pub reading_one : (c : Call) (after : List ℕ) → script rest ≡ with_call c (script after) → Reading bs rest calls → Reading bs after (calls ++ (c ∷ []))
  reading_one c after e r = record {
    front = append_assoc calls (c ∷ []) (script after).calls ∙ ap (λ (s : Script). calls ++ s.calls) (sym e) ∙ r.front;
    stop = ap (λ (s : Script). s.stop) (sym e) ∙ r.stop;
  }

  pub reading_halted : (s : Stop) → script rest ≡ halted s → Reading bs rest calls → (calls ≡ (script bs).calls) × (Some s ≡ (script bs).stop)
  reading_halted s e r = (
    sym (append-nil calls) ∙ ap (λ (t : Script). calls ++ t.calls) (sym e) ∙ r.front,
    ap (λ (t : Script). t.stop) (sym e) ∙ r.stop,
  )

  pub reading_over : rest ≡ [] → Reading bs rest calls → (calls ≡ (script bs).calls) × (None ≡ (script bs).stop)
  reading_over e r = (
    sym (append-nil calls) ∙ ap (λ (t : List ℕ). calls ++ (script t).calls) (sym e) ∙ r.front,
    ap (λ (t : List ℕ). (script t).stop) (sym e) ∙ r.stop,
  )
