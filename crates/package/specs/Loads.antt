-- What loading answers.
use Rattle.std.specs.Prelude.{◌≡◌, ℕ, ◌+◌, List, length, IfOk, vec_items, Result, MatchResult, ◌≢◌}
use Rattle.layout.specs.Reading.{ok}
use Rattle.layout.specs.Declarations.{Declaration, nothing}
use Rattle.layout.specs.Accepted.{bodies, Lawful}
use Rattle.layout.specs.Packages.{Keeps, encode, contents, read_all, read_package, declarations}
use Rattle.package.specs.declared.contents.Contents.{Contents}
use Rattle.package.specs.declared.held.Package.{Package}
use Rattle.package.specs.declared.refusal.Refusal.{Refusal}
use Rattle.package.specs.Faults.{number}
use Rattle.package.specs.Holds.{Refused}
use Rattle.package.specs.Declares.{contents_of}

-- the declarations of an accepted package
abbrev pub tree_of : Package → List Declaration
tree_of p = declarations (vec_items p.bytes)

-- the answer, with number and offset, is what is read
abbrev pub Loads : List ℕ → Result Package Refusal → Type 0
Loads bs r = MatchResult r (λ p. (vec_items p.bytes ≡ bs) × (read_package bs ≡ ok (tree_of p))) (λ e. Refused (read_package bs) e)

-- accepted exactly where the bytes are the layout of declarations that keep the limits
abbrev pub Exactly : List ℕ → Result Package Refusal → Type 0
Exactly bs r =
    MatchResult r (λ p. Keeps (tree_of p) × (encode (tree_of p) ≡ bs)) (λ e. (number e ≢ 0) → (ds : List Declaration) → Keeps ds → encode ds ≢ bs)

-- what is accepted keeps the laws of accepted packages
abbrev pub Keeping : Result Package Refusal → Type 0
Keeping r = IfOk r (λ p. Lawful (vec_items p.bytes) (contents (tree_of p)) (bodies (tree_of p)))

-- what the bytes declare, whatever their length
pub record ReadContents (bs : List ℕ) (c : Contents) : Type 0 where
  pub all : List Declaration
  pub reads : read_all (length bs + 1) nothing 0 0 bs ≡ ok all
  pub holds : contents_of c ≡ contents all

abbrev pub ReadsContents : List ℕ → Result Contents Refusal → Type 0
ReadsContents bs r = MatchResult r (λ c. ReadContents bs c) (λ e. Refused (read_all (length bs + 1) nothing 0 0 bs) e)
