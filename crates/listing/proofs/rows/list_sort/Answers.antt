use Rattle.std.proofs.Common.{arith}
use Rattle.std.proofs.lemmas.Result.{IfOk-weaker}
use Rattle.listing.proofs.Joins.{joined}
use Rattle.listing.proofs.rows.list_sort.Goals as goal

pub returns : goal.returns
returns g c line_of gives = IfOk-weaker c.add_rows.result _ _ (λ u h. joined _ _ _ _ _ c.in_ok-push.ensures.items h) (c.add_rows.ensures line_of gives (omega arith))
