use Rattle.std.proofs.Common.{refl, ap, ◌∙◌}
use Rattle.layout.specs.Program.{Program}
use Rattle.rules.specs.Calls.{new}
use Rattle.running.proofs.Going.{same_program}
use Rattle.controller.proofs.controller.Controller.of.Goals as goal

pub returns : goal.returns
returns g c = (refl, c.in_ok-work.ensures ∙ ap (λ (P : Program). new P) (same_program c.args.held))
