use Rattle.std.proofs.Common.{get_or, ap, ◌∙◌}
use Rattle.package.specs.declared.contents.Contents.{Contents}
use Rattle.package.specs.Declares.{contents_of}
use Rattle.rules.specs.Running.{no_procedure, fresh}
use Rattle.running.specs.States.{state_of}
use Rattle.running.specs.Parts.{mixing, assembled, declared_by}
use Rattle.running.specs.Levels.{body_level}
use Rattle.running.proofs.Going.{going_start, going_asks, going_again, going_less, going_done}
use Rattle.running.proofs.cycling.run_entry.Goals as goal

pub loop-level-init : goal.loop-level-init
loop-level-init g c =
    going_start (assembled g.A.Kind.FrameKind.meaning g.A.Kind.GrantKind.widening (g.A.Oracle.WriteOracle.answers c.args.oracle.now)) c.args.held.now c.args.p (state_of c.args.work.now) c.requires c.entry-level.result c.clear.new.self
    (c.entry-level.ensures ∙ ap (λ (x : Contents). body_level (get_or (contents_of x).procedures c.args.p no_procedure) (fresh (mixing g.A.Kind.FrameKind.meaning) (declared_by x) c.args.p)) c.contents.ensures)
    c.clear.ensures

pub step-requires : goal.step-requires
step-requires g c =
    let a = going_asks (assembled g.A.Kind.FrameKind.meaning g.A.Kind.GrantKind.widening (g.A.Oracle.WriteOracle.answers c.args.oracle.now)) c.args.held.now c.args.p (state_of c.args.work.now) c.requires c.loop-level.level c.loop-level.stack (state_of c.loop-level.work) c.loop-level.invariant in
    record { steps = a.0; refusals = a.1; depth = a.2 }

pub loop-level-smaller : goal.loop-level-smaller
loop-level-smaller g c =
    going_less (assembled g.A.Kind.FrameKind.meaning g.A.Kind.GrantKind.widening (g.A.Oracle.WriteOracle.answers c.args.oracle.now)) c.args.held.now c.args.p (state_of c.args.work.now) c.requires c.step.result c.loop-level.level c.step.new.level c.loop-level.stack c.step.new.stack (state_of c.loop-level.work) (state_of c.step.new.work) c.loop-level-test.true c.loop-level.invariant c.step.ensures

pub loop-level-preserved : goal.loop-level-preserved
loop-level-preserved g c =
    going_again (assembled g.A.Kind.FrameKind.meaning g.A.Kind.GrantKind.widening (g.A.Oracle.WriteOracle.answers c.args.oracle.now)) c.args.held.now c.args.p (state_of c.args.work.now) c.step.result c.loop-level.level c.step.new.level c.loop-level.stack c.step.new.stack (state_of c.loop-level.work) (state_of c.step.new.work) c.loop-level-test.true c.loop-level.invariant c.step.ensures

pub returns : goal.returns
returns g c =
    going_done (assembled g.A.Kind.FrameKind.meaning g.A.Kind.GrantKind.widening (g.A.Oracle.WriteOracle.answers c.args.oracle.now)) c.args.held.now c.args.p (state_of c.args.work.now) c.step.result c.loop-level.level c.step.new.level c.loop-level.stack c.step.new.stack (state_of c.loop-level.work) (state_of c.step.new.work) c.loop-level-test.false c.loop-level.invariant c.step.ensures
