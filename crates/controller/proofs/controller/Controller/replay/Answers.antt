use Rattle.std.proofs.Common.{refl, ap, ◌∙◌}
use Rattle.layout.specs.Program.{Program}
use Rattle.rules.specs.Calls.{new}
use Rattle.running.proofs.Going.{same_program}
use Rattle.controller.proofs.Replays.{replayed_none, agrees}
use Rattle.controller.proofs.controller.Controller.replay.Goals as goal

pub returns-in_err-answers-clause-agreement : goal.returns-in_err-answers-clause-agreement
returns-in_err-answers-clause-agreement g c q small others =
    agrees _ _ _ g.met.A.Kind.FrameKind.lawful g.met.A.Kind.GrantKind.widens g.met.A.Oracle.WriteOracle.lawful c.args.self.now.held q small _ others

pub returns-in_err-work-clause-agreement : goal.returns-in_err-work-clause-agreement
returns-in_err-work-clause-agreement g c q small others =
    agrees _ _ _ g.met.A.Kind.FrameKind.lawful g.met.A.Kind.GrantKind.widens g.met.A.Oracle.WriteOracle.lawful c.args.self.now.held q small _ others

pub loop-call-init : goal.loop-call-init
loop-call-init g c = (
  (refl, refl),
  c.in_ok-answers.ensures.len,
  c.in_ok-answers.ensures.capacity,
  replayed_none _ _ c.in_ok-answers.ensures.items (c.in_ok-work.ensures ∙ ap (λ (P : Program). new P) (same_program c.args.self.now.held)),
)

pub returns-clause-agreement : goal.returns-clause-agreement
returns-clause-agreement g c q small others =
    agrees _ _ _ g.met.A.Kind.FrameKind.lawful g.met.A.Kind.GrantKind.widens g.met.A.Oracle.WriteOracle.lawful c.args.self.now.held q small _ others
