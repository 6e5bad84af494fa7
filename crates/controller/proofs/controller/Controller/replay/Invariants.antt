use Rattle.std.proofs.Common.{◌≡◌, ◌≤◌, length, drop, vec_items, vec_len, vec_capacity}
use Rattle.running.specs.States.{held_of}
use Rattle.controller.specs.Holding.{says, built}
use Rattle.controller.proofs.Replays.{Replayed}
use Rattle.controller.proofs.controller.Controller.replay.Given as goal

abbrev pub invariant-loop-call : goal.invariant-loop-call
invariant-loop-call g l =
    ((l.self.held ≡ l.fn.self.held) × (l.self.oracle ≡ l.fn.self.oracle))
    × (vec_len l.answers ≡ l.call-index)
    × (length l.calls ≤ vec_capacity l.answers)
    × Replayed (built g.A.Kind.FrameKind.meaning g.A.Kind.GrantKind.widening g.A.Oracle.WriteOracle.sets l.fn.self.held) (says l.fn.self.held) l.calls (drop l.call-index l.calls) (vec_items l.answers) (held_of l.self.work)
