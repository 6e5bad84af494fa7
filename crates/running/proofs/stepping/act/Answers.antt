use Rattle.std.proofs.Common.{false, [], ◌∷◌, ap, ◌∙◌}
use Rattle.commands.specs.Reads.{flat_of, plain_of}
use Rattle.package.specs.Declares.{contents_of}
use Rattle.rules.specs.Running.{State, run_plain}
use Rattle.running.specs.States.{state_of}
use Rattle.running.specs.Parts.{mixing, granting, declared_by}
use Rattle.running.specs.Levels.{above}
use Rattle.running.proofs.Turning.{ran, acted, plain_any}
use Rattle.running.proofs.stepping.act.Goals as goal

pub returns-in-Plain : goal.returns-in-Plain
returns-in-Plain g c =
    acted (granting g.K.FrameKind.meaning g.K.GrantKind.widening) (contents_of c.args.contents.now) c.args.level.now _ _ c.args.rest (above c.args.stack.now) (state_of c.args.work.now) _ (ap flat_of c.in-Plain.is)
    (ran (ap (λ t. t ∷ above c.args.stack.now) c.go_on.ensures)
    (c.run_plain.ensures
    ∙ ap (λ (s : State). run_plain (mixing g.K.FrameKind.meaning) (declared_by c.args.contents.now) c.args.level.now.at (plain_of c.in-Plain.plain) c.args.level.now.context s) c.tick.ensures
    ∙ plain_any g.K.FrameKind.meaning g.K.FrameKind.meaning.mix g.K.GrantKind.widening (λ n x. false) (λ n x. false) (contents_of c.args.contents.now) [] [] _ (plain_of c.in-Plain.plain) _ _))
