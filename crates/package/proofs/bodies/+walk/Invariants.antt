use Rattle.std.proofs.Common.{◌≡◌, ◌+◌, ◌-◌, ◌*◌, ◌≤◌, length, vec_items, vec_len}
use Rattle.layout.specs.Layout.{command_bytes}
use Rattle.commands.specs.Reads.{flat_of}
use Rattle.package.specs.Holds.{scope_of}
use Rattle.package.proofs.Turns.{Going}
use Rattle.package.proofs.bodies.+walk.Given as goal

abbrev pub decreases-block : goal.decreases-block
decreases-block l = 3 * length l.bytes.now + 2

abbrev pub decreases-check : goal.decreases-check
decreases-check l = 3 * length l.bytes.now + 1

abbrev pub decreases-choose : goal.decreases-choose
decreases-choose l = 3 * (length l.first.now + length l.second.now) + 3

abbrev pub decreases-step : goal.decreases-step
decreases-step l = 3 * length (command_bytes (flat_of l.command))

abbrev pub invariant-check-loop-rest : goal.invariant-check-loop-rest
invariant-check-loop-rest l =
    (l.end ≡ l.initial.end)
    × (vec_len l.blocks + l.nest.waiting ≤ 256)
    × (length l.rest ≤ length l.bytes)
    × Going (scope_of l.nest.scope) l.bytes (l.initial.end - length l.bytes) l.nest.depth l.nest.waiting (vec_items l.initial.blocks) l.rest (l.end - length l.rest) (vec_items l.blocks) l.steps l.highest

abbrev pub decreases-check-loop-rest : goal.decreases-check-loop-rest
decreases-check-loop-rest l = length l.rest
