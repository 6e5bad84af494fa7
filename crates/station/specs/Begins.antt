-- How the code reads a call.
use Rattle.std.specs.Prelude.{◌≡◌, ◌≤◌, ℕ, List, length, Result, MatchResult}
use Rattle.std.specs.Borrow.{Bor}
use Rattle.rules.specs.declared.Call.{Call}
use Rattle.station.specs.declared.lines.Stop.{Stop}
use Rattle.station.specs.Script.{Script, script, halted, with_call}

-- r is what a script begins with: a call and the bytes behind it, which are no more than these, or a stop
abbrev pub Begins : List ℕ → Script → Result (Call × Bor (List ℕ)) Stop → Type 0
Begins bs s r = MatchResult r (λ p. (s ≡ with_call p.0 (script p.1.now)) × (length p.1.now ≤ length bs)) (λ e. s ≡ halted e)
