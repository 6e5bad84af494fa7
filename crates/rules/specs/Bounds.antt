-- How many steps a run takes at most, whatever it is put together from.
use Rattle.std.specs.Prelude.{ℕ, ◌+◌, ◌≤◌, List}
use Rattle.layout.specs.Declarations.{Declaration, Contents, body_steps}
use Rattle.layout.specs.Packages.{Keeps, contents}
use Rattle.layout.specs.Accepted.{cycle_most}
use Rattle.layout.specs.Program.{program}
use Rattle.rules.specs.Assembly.{Assembly}
use Rattle.rules.specs.Running.{State, run_entries}
use Rattle.rules.specs.Calls.{Held, cycle}

-- any entries of an accepted package, run from any state
abbrev pub EntriesBounded : Type 0
EntriesBounded =
    (A : Assembly) (ds : List Declaration) → Keeps ds → (es : List ℕ) (s : State) →
    (run_entries A (program ds) es s).steps ≤ s.steps + cycle_most (body_steps (contents ds)) es

-- a cycle takes no more steps than loading found, and each refused drive is one of them
pub record Bounded (c : Contents) (s : State) : Type 0 where
  pub steps : s.steps ≤ c.steps
  pub brief : s.steps ≤ 1000000
  pub refused : s.refused ≤ s.steps

abbrev pub CycleBounded : Type 0
CycleBounded = (A : Assembly) (ds : List Declaration) → Keeps ds → (h : Held) → Bounded (contents ds) (cycle A (program ds) h)
