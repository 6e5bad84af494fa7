use Rattle.std.proofs.Common.{ℕ, sym, ap, ◌∙◌}
use Rattle.rules.specs.Running.{State, tick, lower}
use Rattle.running.specs.declared.lowering.Blocks.TheVariants.{One}
use Rattle.running.specs.States.{state_of}
use Rattle.running.specs.Parts.{assembled, named_for}
use Rattle.running.specs.Levels.{above}
use Rattle.running.proofs.Turning.{ran, loop_stops}
use Rattle.running.proofs.stepping.close_loop.Goals as goal

pub returns-then-value-eq0 : goal.returns-then-value-eq0
returns-then-value-eq0 g c =
    let A = assembled g.A.Kind.FrameKind.meaning g.A.Kind.GrantKind.widening (g.A.Oracle.WriteOracle.answers c.args.oracle.now) in
    loop_stops A c.args.level.now c.args.turns (above c.args.stack.now) (state_of c.args.work.now) _ c.args.turns.left c.if-turns-eq0.false (sym (ap (λ (x : ℕ × ℕ). x.0) c.learn-value.ensures) ∙ c.if-value-eq0.true)
    (ran c.leave-then-value-eq0.ensures
    (c.lower_named-then-value-eq0.ensures
    ∙ ap (λ (s : State). lower A (named_for A.names (One c.args.turns.block)) c.mix-learned.result s) c.tick.ensures
    ∙ ap (λ (w : ℕ). lower A (named_for A.names (One c.args.turns.block)) w (tick (state_of c.args.work.now))) (c.mix-learned.ensures ∙ ap (λ (x : ℕ × ℕ). A.kind.mix c.args.turns.learned x.1) c.learn-value.ensures)))
