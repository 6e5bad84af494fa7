-- What a controller holds, as the rules have it.
use Rattle.std.specs.Prelude.{◌≡◌, ◌≢◌, ℕ, List, length, vec_items, Result, MatchResult}
use Rattle.frames.specs.Kinds.{Kind}
use Rattle.layout.specs.Reading.{ok}
use Rattle.layout.specs.Declarations.{Declaration}
use Rattle.layout.specs.Packages.{Keeps, encode, read_package, declarations}
use Rattle.layout.specs.Program.{Program, program}
use Rattle.package.specs.declared.held.Package.{Package}
use Rattle.package.specs.declared.refusal.Refusal.{Refusal}
use Rattle.package.specs.Faults.{number}
use Rattle.package.specs.Holds.{Refused}
use Rattle.package.specs.Loads.{tree_of}
use Rattle.oracle_laws.specs.Sets.{Sets}
use Rattle.rules.specs.Assembly.{Assembly}
use Rattle.rules.specs.Calls.{Held, new}
use Rattle.running.specs.Parts.{assembled}

-- what its package says
abbrev pub says : Package → Program
says h = program (tree_of h)

-- a frame kind and its widening, with the sets that an oracle means for the package
abbrev pub built : Kind → (ℕ → ℕ → ℕ) → (Program → Sets) → Package → Assembly
built K widen sets h = assembled K widen (sets (says h))

-- the oracle answers what it means for the package
abbrev pub Serves : Sets → (Program → Sets) → Package → Type 0
Serves answers sets h = (n x : ℕ) → answers n x ≡ sets (says h) n x

-- a controller that is new with these bytes: it holds them as its package, and places, devices and trail as they are then
pub record IsNew (bs : List ℕ) (h : Package) (held : Held) : Type 0 where
  pub bytes : vec_items h.bytes ≡ bs
  pub new : held ≡ new (program (declarations bs))

-- loading these bytes answers their length where they are read as declarations, or the first fault; and they are
-- refused with a number only where they are the layout of no declarations that keep the limits
pub record Accepted (bs : List ℕ) (n : ℕ) : Type 0 where
  pub length : n ≡ length bs
  pub reads : read_package bs ≡ ok (declarations bs)
  pub keeps : Keeps (declarations bs)
  pub laid : encode (declarations bs) ≡ bs

pub record Rejected (bs : List ℕ) (e : Refusal) : Type 0 where
  pub first : Refused (read_package bs) e
  pub rightly : number e ≢ 0 → (ds : List Declaration) → Keeps ds → encode ds ≢ bs

abbrev pub Answered : List ℕ → Result ℕ Refusal → Type 0
Answered bs r = MatchResult r (λ n. Accepted bs n) (λ e. Rejected bs e)
