use Rattle.std.proofs.Common.{length, vec_items}
use Rattle.station.proofs.Scripts.{Reading}
use Rattle.station.proofs.script.read_script.Given as goal

abbrev pub invariant-loop-lead : goal.invariant-loop-lead
invariant-loop-lead l = Reading l.bytes l.rest (vec_items l.calls)

abbrev pub decreases-loop-lead : goal.decreases-loop-lead
decreases-loop-lead l = length l.rest
