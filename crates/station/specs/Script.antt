-- The calls of an input, one behind the other.
use Rattle.std.specs.Prelude.{ℕ, cond, List, [], ◌∷◌, None, Some, Option, ◌==◌}
use Rattle.layout.specs.Bytes.{be32}
use Rattle.rules.specs.declared.Call.{Call}
use Rattle.rules.specs.declared.Call.TheVariants.{Post, Cycle, Read, Show}
use Rattle.station.specs.declared.lines.Stop.{Stop}
use Rattle.station.specs.declared.lines.Stop.TheVariants.{EndsEarly, WrongByte}

-- calls, and what stops the station behind them
pub record Script : Type 0 where
  pub calls : List Call
  pub stop : Option Stop

abbrev pub over : Script
over = record { calls = []; stop = None }

abbrev pub halted : Stop → Script
halted s = record { calls = []; stop = Some s }

abbrev pub with_call : Call → Script → Script
with_call c s = record { calls = c ∷ s.calls; stop = s.stop }

-- a call is a byte that names it, and its operands; the end stands where a call would begin
abbrev mutual
  pub script : List ℕ → Script
  script [] = over
  script (b ∷ bs) =
      cond (b == 0x10) (post bs)
      (cond (b == 0x11) (with_call Cycle (script bs))
      (cond (b == 0x12) (read bs)
      (cond (b == 0x13) (show bs)
      (halted WrongByte))))

  -- a party, a place and a value of four bytes, the high one first
  pub post : List ℕ → Script
  post (o ∷ x ∷ v₃ ∷ v₂ ∷ v₁ ∷ v₀ ∷ bs) = with_call (Post o x (be32 (v₃ ∷ v₂ ∷ v₁ ∷ v₀ ∷ []) 0)) (script bs)
  post bs = halted EndsEarly

  -- a place and a right
  pub read : List ℕ → Script
  read (x ∷ q ∷ bs) = with_call (Read x q) (script bs)
  read bs = halted EndsEarly

  -- a device
  pub show : List ℕ → Script
  show (d ∷ bs) = with_call (Show d) (script bs)
  show [] = halted EndsEarly
