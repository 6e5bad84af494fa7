use Rattle.std.proofs.Common.{◌∙◌}
use Rattle.layout.specs.Program.{Program}
use Rattle.rules.specs.Calls.{read_answer}
use Rattle.running.specs.States.{held_of}
use Rattle.running.specs.Parts.{mixing}
use Rattle.controller.proofs.Says.{by_tables}
use Rattle.controller.proofs.controller.Controller.read.Goals as goal

pub returns : goal.returns
returns g c =
    c.read_place.ensures
    ∙ by_tables (λ (P : Program). read_answer (mixing g.A.Kind.FrameKind.meaning) P (held_of c.args.self.now.work) c.args.place c.args.right) c.args.self.now.held _ c.contents.ensures
