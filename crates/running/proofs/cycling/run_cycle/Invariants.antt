use Rattle.running.specs.States.{state_of, held_of}
use Rattle.running.specs.Parts.{assembled}
use Rattle.running.proofs.Rounds.{Round}
use Rattle.running.proofs.cycling.run_cycle.Given as goal

abbrev pub invariant-loop-p : goal.invariant-loop-p
invariant-loop-p g l = Round (assembled g.A.Kind.FrameKind.meaning g.A.Kind.GrantKind.widening (g.A.Oracle.WriteOracle.answers l.oracle)) l.held l.p-items (held_of l.initial.work) l.p-index (state_of l.work)
