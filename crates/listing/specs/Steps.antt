-- The steps that are told of an accepted package.
use Rattle.std.specs.Prelude.{List, [], ◌∷◌, ◌++◌, length}
use Rattle.layout.specs.declared.Procedure.{Procedure}
use Rattle.layout.specs.Declarations.{Contents}
use Rattle.listing.specs.Numbered.{numbered}
use Rattle.listing.specs.declared.lines.Sort.TheVariants.{Parties, Tables, Devices, Entries}
use Rattle.listing.specs.declared.steps.Step.{Step}
use Rattle.listing.specs.declared.steps.Step.TheVariants as step

-- a step for each procedure
abbrev pub checked_all : List Procedure → List Step
checked_all ps = numbered (λ n p. step.Checked n p) 0 ps

abbrev pub told_steps : Contents → List Step
told_steps c =
    step.Declared Parties (length c.parties) ∷ step.Places (length c.inputs) (length c.cells) ∷ step.Declared Tables (length c.tables) ∷ step.Declared Devices (length c.needs)
    ∷ (checked_all c.procedures ++ (step.Declared Entries (length c.entries) ∷ step.Accepted (length c.spans) ∷ []))
