use Rattle.std.proofs.Common.{refl, ◌∙◌}
use Rattle.layout.specs.Program.{Program}
use Rattle.rules.specs.Calls.{post_answer, posted}
use Rattle.running.specs.States.{held_of}
use Rattle.controller.proofs.Says.{by_tables}
use Rattle.controller.proofs.controller.Controller.post.Goals as goal

pub returns : goal.returns
returns g c = record {
  answer = c.post_to.ensures.answer ∙ by_tables (λ (P : Program). post_answer P c.args.party c.args.place) c.args.self.now.held _ c.contents.ensures;
  holds = c.post_to.ensures.holds ∙ by_tables (λ (P : Program). posted P c.args.party c.args.place c.args.value (held_of c.args.self.now.work)) c.args.self.now.held _ c.contents.ensures;
  keeps = (refl, refl);
}
