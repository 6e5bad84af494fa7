use Rattle.std.proofs.Common.{◌≡◌, vec_items}
use Rattle.rules.specs.Running.{with_places}
use Rattle.running.specs.States.{state_of}
use Rattle.running.specs.Parts.{mixing, between}
use Rattle.running.proofs.Lowers.{Lowering}
use Rattle.running.proofs.lowering.lower_between.Given as goal

abbrev pub invariant-loop-i : goal.invariant-loop-i
invariant-loop-i g l =
    Lowering (mixing g.K.FrameKind.meaning) l.told (between l.first l.end) (vec_items l.initial.work.places.items) l.i (vec_items l.work.places.items)
    × (state_of l.work ≡ with_places (state_of l.initial.work) (vec_items l.work.places.items))
