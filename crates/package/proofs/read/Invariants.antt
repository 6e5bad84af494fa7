use Rattle.std.proofs.Common.{◌-◌, ◌≤◌, length}
use Rattle.package.specs.Declares.{contents_of}
use Rattle.package.proofs.Goes.{Going}
use Rattle.package.proofs.read.Given as goal

abbrev pub invariant-loop-contents : goal.invariant-loop-contents
invariant-loop-contents l = (length l.rest ≤ length l.bytes) × Going l.bytes l.rest (length l.bytes - length l.rest) l.latest (contents_of l.contents)

abbrev pub decreases-loop-contents : goal.decreases-loop-contents
decreases-loop-contents l = length l.rest
