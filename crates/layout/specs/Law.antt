-- A package is accepted exactly where its bytes are the layout of declarations that keep the limits, and those are read.
use Rattle.std.specs.Prelude.{◌≡◌, ℕ, ◌↔◌, List}
use Rattle.layout.specs.Bytes.{Bytes}
use Rattle.layout.specs.Reading.{ok}
use Rattle.layout.specs.Declarations.{Declaration}
use Rattle.layout.specs.Packages.{Keeps, encode, read_package}

abbrev pub AcceptedExactly : Type 0
AcceptedExactly = (bs : List ℕ) (ds : List Declaration) → Bytes bs → (read_package bs ≡ ok ds) ↔ (Keeps ds × (encode ds ≡ bs))
