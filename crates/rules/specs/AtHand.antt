-- The controllers at hand: either frame kind, with either write oracle.
use Rattle.std.specs.Prelude.{max, List}
use Rattle.std.specs.Int.Bits.{bit_or}
use Rattle.frames.specs.Rights.{rights}
use Rattle.frames.specs.Levels.{levels}
use Rattle.layout.specs.Declarations.{Declaration}
use Rattle.layout.specs.Packages.{Keeps}
use Rattle.layout.specs.Program.{Program, program}
use Rattle.oracle_laws.specs.Sets.{broad}
use Rattle.oracle_laws.specs.Smallest.{smallest}
use Rattle.rules.specs.Assembly.{Assembly, LawfulAssembly}

abbrev pub by_rights : Program → Assembly
by_rights P = record { kind = rights; widen = bit_or; names = smallest P }

abbrev pub by_rights_broad : Program → Assembly
by_rights_broad P = record { kind = rights; widen = bit_or; names = broad P }

abbrev pub by_levels : Program → Assembly
by_levels P = record { kind = levels; widen = max; names = smallest P }

abbrev pub by_levels_broad : Program → Assembly
by_levels_broad P = record { kind = levels; widen = max; names = broad P }

-- it keeps the laws for every accepted package
abbrev pub AlwaysLawful : (Program → Assembly) → Type 0
AlwaysLawful A = (ds : List Declaration) → Keeps ds → LawfulAssembly (A (program ds)) (program ds)

-- all of them do
pub record AtHandLawful : Type 0 where
  pub by_rights : AlwaysLawful by_rights
  pub by_rights_broad : AlwaysLawful by_rights_broad
  pub by_levels : AlwaysLawful by_levels
  pub by_levels_broad : AlwaysLawful by_levels_broad
