-- What a package declares by its own tables is what it says.
use Rattle.std.proofs.Common.{◌≡◌, ℕ, [], ap, ◌∙◌}
use Rattle.oracle_laws.specs.Sets.{Sets}
use Rattle.layout.specs.Declarations.{Contents}
use Rattle.layout.specs.Program.{Program}
use Rattle.package.specs.declared.contents.Contents as code
use Rattle.package.specs.declared.held.Package.{Package}
use Rattle.package.proofs.Sets.{holds}
use Rattle.running.specs.Parts.{declared_by}
use Rattle.controller.specs.Holding.{says}

-- what hangs on the declarations alone, by tables that are a package's own
pub by_tables : {X : Type 0} (f : Program → X) (h : Package) (c : code.Contents) → c ≡ h.contents → f (declared_by c) ≡ f (record { contents = (says h).contents; bodies = [] })
by_tables f h c e = ap (λ (x : code.Contents). f (declared_by x)) e ∙ ap (λ (x : Contents). f (record { contents = x; bodies = [] })) (holds h)

-- sets are the same where they name the same places
pub same_sets : (f g : Sets) → ((n x : ℕ) → f n x ≡ g n x) → f ≡ g
same_sets f g h = λ i. λ n x. h n x i
