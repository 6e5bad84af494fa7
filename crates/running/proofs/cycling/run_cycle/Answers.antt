use Rattle.std.proofs.Common.{ℕ, List, vec_items, refl, ap, ◌∙◌}
use Rattle.package.specs.declared.contents.Contents.{Contents}
use Rattle.rules.specs.Running.{run_entries}
use Rattle.rules.specs.Calls.{started}
use Rattle.running.specs.States.{state_of, held_of}
use Rattle.running.specs.Parts.{assembled}
use Rattle.running.specs.Entries.{program_of}
use Rattle.running.proofs.Rounds.{round_start, round_end, round_ticks, round_runs, round_again}
use Rattle.running.proofs.cycling.run_cycle.Goals as goal

pub tick-requires : goal.tick-requires
tick-requires g c =
    round_ticks (assembled g.A.Kind.FrameKind.meaning g.A.Kind.GrantKind.widening (g.A.Oracle.WriteOracle.answers c.args.oracle.now)) c.args.held.now c.deref-p-items.result.now _ (c.deref-p-items.ensures.value ∙ ap (λ (x : Contents). vec_items x.entries) c.contents.ensures) c.loop-p.p-index (state_of c.loop-p.work) c.loop-p-test.true c.loop-p.invariant

pub run_entry-requires : goal.run_entry-requires
run_entry-requires g c =
    round_runs (assembled g.A.Kind.FrameKind.meaning g.A.Kind.GrantKind.widening (g.A.Oracle.WriteOracle.answers c.args.oracle.now)) c.args.held.now c.deref-p-items.result.now _ (c.deref-p-items.ensures.value ∙ ap (λ (x : Contents). vec_items x.entries) c.contents.ensures) c.loop-p.p-index (state_of c.loop-p.work) c.loop-p-test.true c.loop-p.invariant (state_of c.tick.new.self) c.tick.ensures

pub loop-p-init : goal.loop-p-init
loop-p-init g c = round_start _ _ _ _ _ _ refl refl

pub loop-p-preserved : goal.loop-p-preserved
loop-p-preserved g c =
    round_again (assembled g.A.Kind.FrameKind.meaning g.A.Kind.GrantKind.widening (g.A.Oracle.WriteOracle.answers c.args.oracle.now)) c.args.held.now c.deref-p-items.result.now _ (c.deref-p-items.ensures.value ∙ ap (λ (x : Contents). vec_items x.entries) c.contents.ensures) c.loop-p.p-index (state_of c.loop-p.work) c.loop-p-test.true c.loop-p.invariant (state_of c.tick.new.self) (state_of c.run_entry.new.work) c.tick.ensures c.run_entry.ensures

pub returns : goal.returns
returns g c =
    round_end (assembled g.A.Kind.FrameKind.meaning g.A.Kind.GrantKind.widening (g.A.Oracle.WriteOracle.answers c.args.oracle.now)) c.args.held.now c.deref-p-items.result.now _ c.loop-p.p-index (state_of c.loop-p.work) c.loop-p-test.false c.loop-p.invariant
    ∙ ap (λ (es : List ℕ). run_entries (assembled g.A.Kind.FrameKind.meaning g.A.Kind.GrantKind.widening (g.A.Oracle.WriteOracle.answers c.args.oracle.now)) (program_of c.args.held.now) es (started (held_of c.args.work.now))) (c.deref-p-items.ensures.value ∙ ap (λ (x : Contents). vec_items x.entries) c.contents.ensures)
