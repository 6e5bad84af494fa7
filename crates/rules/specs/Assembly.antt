-- What a controller is put together from, and its laws.
use Rattle.std.specs.Prelude.{ℕ, Bool, not, is_some}
use Rattle.frames.specs.Kinds.{Kind, Lawful, Widens, gap}
use Rattle.layout.specs.Program.{Program}
use Rattle.oracle_laws.specs.Sets as oracle
use Rattle.oracle_laws.specs.Sets.{Sets}

-- a frame kind, its widening, and the places that a write oracle names for each block of the package at hand
pub record Assembly : Type 0 where
  pub kind : Kind
  pub widen : ℕ → ℕ → ℕ
  pub names : Sets

-- its laws, for a package
pub record LawfulAssembly (A : Assembly) (P : Program) : Type 0 where
  pub frames : Lawful A.kind
  pub widens : Widens A.kind A.widen
  pub oracle : oracle.Lawful P A.names

-- code a is trusted for every right that code b is
abbrev pub covers : Assembly → ℕ → ℕ → Bool
covers A a b = not (is_some (gap A.kind a b))
