-- What one declaration more adds to what has been declared.
use Rattle.std.specs.Prelude.{◌≡◌, ℕ, true, vec_items, Result, MatchResult}
use Rattle.layout.specs.Reading.{ok, fault}
use Rattle.layout.specs.Declarations as layout
use Rattle.layout.specs.Packages.{room, known, filled, declaration}
use Rattle.package.specs.declared.contents.Contents.{Contents}
use Rattle.package.specs.declared.refusal.Refusal.{Refusal}
use Rattle.package.specs.Faults.{number, offset}
use Rattle.package.specs.Holds.{Refused}

abbrev pub contents_of : Contents → layout.Contents
contents_of c = record {
  parties = vec_items c.parties;
  inputs = vec_items c.inputs;
  cells = vec_items c.cells;
  tables = vec_items c.tables;
  needs = vec_items c.needs;
  procedures = vec_items c.procedures;
  entries = vec_items c.entries;
  spans = vec_items c.blocks;
  steps = c.steps;
}

-- the checks before the body
pub record Passes (s : layout.Contents) (i : layout.Item) : Type 0 where
  pub limit : room s i ≡ true
  pub names : known s i ≡ true
  pub length : filled i ≡ true

abbrev pub DecidesItem : layout.Contents → layout.Item → ℕ → Result (Unit {0}) Refusal → Type 0
DecidesItem s i at r = MatchResult r (λ _. Passes s i) (λ e. declaration s i at ≡ fault (number e) (offset e))

-- the declaration that is read, and what has then been declared
pub record Declared (s t : layout.Contents) (i : layout.Item) (at : ℕ) : Type 0 where
  pub made : layout.Declaration
  pub reads : declaration s i at ≡ ok made
  pub is : layout.item made ≡ i
  pub adds : t ≡ layout.declare s at made

abbrev pub DeclaresOne : layout.Contents → layout.Contents → layout.Item → ℕ → Result (Unit {0}) Refusal → Type 0
DeclaresOne s t i at r = MatchResult r (λ _. Declared s t i at) (λ e. Refused (declaration s i at) e)
