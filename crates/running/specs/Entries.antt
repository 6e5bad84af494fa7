-- What an entry runs.
use Rattle.std.specs.Prelude.{ℕ, ◌+◌, ◌<◌, length}
use Rattle.layout.specs.Accepted.{bodies}
use Rattle.layout.specs.Program.{Program, body}
use Rattle.package.specs.declared.held.Package.{Package}
use Rattle.package.specs.Declares.{contents_of}
use Rattle.package.specs.Loads.{tree_of}
use Rattle.rules.specs.Assembly.{Assembly}
use Rattle.rules.specs.Running.{State, run_block, calls, fresh}

-- what a package says, by its own tables
abbrev pub program_of : Package → Program
program_of p = record { contents = contents_of p.contents; bodies = bodies (tree_of p) }

abbrev pub entry_run : Assembly → Program → ℕ → State → State
entry_run A P p s = run_block A P (calls A P p) (body P p) (fresh A P p) s

-- the entry is declared, and its counts fit their numbers
pub record CanRun (A : Assembly) (P : Program) (p : ℕ) (s : State) : Type 0 where
  pub within : p < length P.contents.procedures
  pub steps : (entry_run A P p s).steps + 1 < 4294967296
  pub refused : (entry_run A P p s).refused + 1 < 4294967296
