use Rattle.running.specs.States.{state_of}
use Rattle.running.specs.Parts.{assembled}
use Rattle.running.proofs.Going.{Going, falling}
use Rattle.running.proofs.cycling.run_entry.Given as goal

abbrev pub invariant-loop-level : goal.invariant-loop-level
invariant-loop-level g l = Going (assembled g.A.Kind.FrameKind.meaning g.A.Kind.GrantKind.widening (g.A.Oracle.WriteOracle.answers l.oracle)) l.held l.p (state_of l.initial.work) l.level l.stack (state_of l.work)

abbrev pub decreases-loop-level : goal.decreases-loop-level
decreases-loop-level g l = falling l.stack l.work.steps
