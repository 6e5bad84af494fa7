use Rattle.std.proofs.Common.{◌+◌, ◌*◌, length}
use Rattle.layout.specs.Layout.{command_bytes}
use Rattle.commands.specs.Reads.{flat_of}
use Rattle.listing.proofs.Tells.{Telling}
use Rattle.listing.proofs.bodies.BodyLines.+lines.Given as goal

abbrev pub decreases-list_block : goal.decreases-list_block
decreases-list_block l = 3 * length l.bytes.now + 2

abbrev pub decreases-list_choice : goal.decreases-list_choice
decreases-list_choice l = 3 * (length l.first.now + length l.second.now) + 3

abbrev pub decreases-list_command : goal.decreases-list_command
decreases-list_command l = 3 * length (command_bytes (flat_of l.command))

abbrev pub decreases-list_commands : goal.decreases-list_commands
decreases-list_commands l = 3 * length l.bytes.now + 1

abbrev pub invariant-list_commands-loop-command : goal.invariant-list_commands-loop-command
invariant-list_commands-loop-command l = Telling l.depth l.bytes l.at l.initial.self l.rest l.offset l.self

abbrev pub decreases-list_commands-loop-command : goal.decreases-list_commands-loop-command
decreases-list_commands-loop-command l = length l.rest
