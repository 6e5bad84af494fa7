use Rattle.std.proofs.Common.{sym, ap, ◌∙◌}
use Rattle.running.specs.declared.levels.Closing.{Closing}
use Rattle.running.specs.States.{state_of}
use Rattle.running.specs.Parts.{assembled}
use Rattle.running.specs.Levels.{above, close}
use Rattle.running.proofs.Turning.{ran}
use Rattle.running.proofs.stepping.close.Goals as goal

pub returns-in-Choice : goal.returns-in-Choice
returns-in-Choice g c =
    ran c.leave-in-Choice.ensures c.lower_named.ensures
    ∙ ap (λ (κ : Closing). close (assembled g.A.Kind.FrameKind.meaning g.A.Kind.GrantKind.widening (g.A.Oracle.WriteOracle.answers c.args.oracle.now)) c.args.level.now κ (above c.args.stack.now) (state_of c.args.work.now)) (sym c.in-Choice.is)
