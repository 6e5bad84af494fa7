use Rattle.std.proofs.Common.{refl}
use Rattle.std.proofs.lemmas.List.{drop_more}
use Rattle.listing.proofs.Procedures.{telling_on}
use Rattle.listing.proofs.bodies.list_procedures.Goals as goal

pub loop-number-preserved : goal.loop-number-preserved
loop-number-preserved c = telling_on c.loop-number.invariant (drop_more _ _ _ c.loop-number-test.true) c.in_ok-push.ensures.items refl refl c.part-body.ensures c.in_ok-list_block.ensures
