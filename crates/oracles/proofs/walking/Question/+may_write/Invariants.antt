use Rattle.std.proofs.Common.{◌+◌, ◌*◌, length, vec_items}
use Rattle.layout.specs.Layout.{command_bytes}
use Rattle.commands.specs.Reads.{flat_of}
use Rattle.oracles.proofs.Walks.{Going}
use Rattle.oracles.proofs.walking.Question.+may_write.Given as goal

-- a lower procedure weighs less, however long its body
abbrev pub decreases-any_writes : goal.decreases-any_writes
decreases-any_writes l = l.self.now.limit * (2 * length (vec_items l.self.now.held.now.bytes) + 2) + (2 * length l.bytes.now + 1)

abbrev pub decreases-either_writes : goal.decreases-either_writes
decreases-either_writes l = l.self.now.limit * (2 * length (vec_items l.self.now.held.now.bytes) + 2) + (2 * (length l.first.now + length l.second.now) + 2)

abbrev pub decreases-writes : goal.decreases-writes
decreases-writes l = l.self.now.limit * (2 * length (vec_items l.self.now.held.now.bytes) + 2) + 2 * length (command_bytes (flat_of l.command))

abbrev pub invariant-any_writes-loop-command : goal.invariant-any_writes-loop-command
invariant-any_writes-loop-command l = Going l.self l.bytes l.rest

abbrev pub decreases-any_writes-loop-command : goal.decreases-any_writes-loop-command
decreases-any_writes-loop-command l = length l.rest
