use Rattle.std.proofs.Common.{◌∙◌}
use Rattle.layout.specs.Program.{Program}
use Rattle.rules.specs.Calls.{show_answer}
use Rattle.running.specs.States.{held_of}
use Rattle.controller.proofs.Says.{by_tables}
use Rattle.controller.proofs.controller.Controller.show.Goals as goal

pub returns : goal.returns
returns g c =
    c.show_device.ensures
    ∙ by_tables (λ (P : Program). show_answer P (held_of c.args.self.now.work) c.args.device) c.args.self.now.held _ c.contents.ensures
