use Rattle.std.proofs.Common.{◌≡◌, vec_items}
use Rattle.rules.specs.Running.{with_places}
use Rattle.running.specs.States.{state_of}
use Rattle.running.specs.Parts.{mixing, named_for}
use Rattle.running.proofs.Lowers.{Lowering}
use Rattle.running.proofs.lowering.lower_named.Given as goal

abbrev pub invariant-loop-i : goal.invariant-loop-i
invariant-loop-i g l =
    Lowering (mixing g.A.Kind.FrameKind.meaning) l.told (named_for (g.A.Oracle.WriteOracle.answers l.oracle) l.blocks) (vec_items l.initial.work.places.items) l.i (vec_items l.work.places.items)
    × (state_of l.work ≡ with_places (state_of l.initial.work) (vec_items l.work.places.items))
