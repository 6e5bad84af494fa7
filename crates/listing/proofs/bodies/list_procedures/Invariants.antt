use Rattle.std.proofs.Common.{drop, vec_items}
use Rattle.listing.proofs.Procedures.{Telling}
use Rattle.listing.proofs.bodies.list_procedures.Given as goal

abbrev pub invariant-loop-number : goal.invariant-loop-number
invariant-loop-number l = Telling l.inputs l.bytes l.procedures (vec_items l.fn.lines) (drop l.number l.procedures) l.number l.bodies
