-- What the code's values stand for.
use Rattle.std.specs.Prelude.{◌≡◌, ℕ, ◌+◌, ◌≤◌, Result, MatchResult, ◌≢◌}
use Rattle.layout.specs.Tree.{Command}
use Rattle.layout.specs.Layout.{Flat}
use Rattle.layout.specs.Scope as layout
use Rattle.layout.specs.Limits.{Kept}
use Rattle.layout.specs.Declarations.{heights_of, steps_of}
use Rattle.layout.specs.Reading.{Got, fault, checked}
use Rattle.package.specs.declared.bodies.Scope.{Scope}
use Rattle.package.specs.declared.refusal.Refusal.{Refusal}
use Rattle.package.specs.Faults.{number, offset}

-- a refusal with a number is the fault that is read
abbrev pub Refused : {A : Type 0} → Got A → Refusal → Type 0
Refused g e = (number e ≢ 0) → g ≡ fault (number e) (offset e)

abbrev pub scope_of : Scope → layout.Scope
scope_of s = record {
  inputs = s.inputs;
  places = s.places;
  tables = s.tables;
  devices = s.devices;
  heights = heights_of s.procedures.now;
  steps = steps_of s.procedures.now;
}

-- r decides the checks of a command
abbrev pub Decides : layout.Scope → Flat → ℕ → ℕ → ℕ → ℕ → Result (Unit {0}) Refusal → Type 0
Decides w c at d n q r = MatchResult r (λ _. Kept w d c × (n + q + layout.blocks c ≤ 256)) (λ e. (g : Got Command) → checked w c at d n q g ≡ fault (number e) (offset e))
