-- What the code's declarations stand for, and what is taken off the front of a package.
use Rattle.std.specs.Prelude.{◌≡◌, ℕ, suc, ◌+◌, ◌≤◌, List, [], length, Option, Result, MatchOption, MatchResult, slice_index}
use Rattle.std.specs.Borrow.{Bor}
use Rattle.layout.specs.Front.{got, bad, cut}
use Rattle.layout.specs.Reading.{ok, fault}
use Rattle.layout.specs.Declarations.{party_item, input_item, cell_item, table_item, device_item, entry_item, Item, simple, proc, lead, Contents}
use Rattle.layout.specs.Packages.{by_lead, next_item, read_all}
use Rattle.package.specs.declared.declarations.Declaration.{Declaration}
use Rattle.package.specs.declared.declarations.Declaration.TheVariants as declaration
use Rattle.package.specs.declared.refusal.Refusal.{Refusal}
use Rattle.package.specs.Faults.{number, offset}

abbrev pub item_of : Declaration → Item
item_of (declaration.Party g) = simple (party_item g)
item_of (declaration.Input i) = simple (input_item i)
item_of (declaration.Cell c) = simple (cell_item c)
item_of (declaration.Table t) = simple (table_item t)
item_of (declaration.Device g) = simple (device_item g)
item_of (declaration.Procedure p y) = proc p y.now
item_of (declaration.Entry p) = simple (entry_item p)

-- r is what the bytes are read as, by the byte that leads them
abbrev pub ReadsItem : List ℕ → Option (Declaration × Bor (List ℕ)) → Type 0
ReadsItem bs r = MatchOption r (by_lead (slice_index bs 0) bs ≡ bad 2) (λ p. by_lead (slice_index bs 0) bs ≡ got (item_of p.0) p.1.now)

-- a procedure whose body of n bytes stands at the front of these bytes, or they are cut short
abbrev pub ReadsProcedure : ℕ → ℕ → List ℕ → Option (Declaration × Bor (List ℕ)) → Type 0
ReadsProcedure p n bs r =
    MatchOption r (cut 2 n bs (λ y after. got (proc p y) after) ≡ bad 2) (λ d. cut 2 n bs (λ y after. got (proc p y) after) ≡ got (item_of d.0) d.1.now)

-- a declaration at the front: it is behind what came before, and the reading goes on behind it
pub record Fronted (bs : List ℕ) (at latest : ℕ) (i : Item) (after : List ℕ) : Type 0 where
  pub led : slice_index bs 0 ≡ lead i
  pub order : latest ≤ lead i
  pub front : by_lead (slice_index bs 0) bs ≡ got i after
  pub reads : (f : ℕ) (s : Contents) → read_all (suc f) s at latest bs ≡ next_item (read_all f) s at (at + length bs) (got i after)

-- r is what stands next in the bytes: a declaration, or the end of the package
abbrev pub TakesNext : List ℕ → ℕ → ℕ → Option (Declaration × Bor (List ℕ)) → Type 0
TakesNext bs at latest r = MatchOption r ((f : ℕ) (s : Contents) → read_all (suc f) s at latest bs ≡ ok []) (λ p. Fronted bs at latest (item_of p.0) p.1.now)

abbrev pub Takes : List ℕ → ℕ → ℕ → Result (Option (Declaration × Bor (List ℕ))) Refusal → Type 0
Takes bs at latest r = MatchResult r (λ n. TakesNext bs at latest n) (λ e. (f : ℕ) (s : Contents) → read_all (suc f) s at latest bs ≡ fault (number e) (offset e))
