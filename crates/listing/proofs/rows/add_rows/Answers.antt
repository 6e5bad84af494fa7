use Rattle.std.proofs.Common.{rules, ◌+◌, min, arith}
use Rattle.std.proofs.lemmas.Iterator.{YieldsList-from_slice, YieldsList-from_map}
use Rattle.std.proofs.lemmas.Iterator.Adapters.{items_from_extend}
use Rattle.std.proofs.lemmas.Iterator.Consumers.{YieldsList-from_enumerate}
use Rattle.listing.proofs.Numbering.{map-enumerate_from}
use Rattle.listing.proofs.rows.add_rows.Goals as goal

pub returns : goal.returns
returns g c row_of gives fits =
    let h = items_from_extend c.extend.result c.extend.ensures.ran (YieldsList-from_map _ (λ p. row_of (min (c.args.first + p.0) 18446744073709551615) p.1) (YieldsList-from_enumerate (YieldsList-from_slice c.args.items.now (cc)) (cc)) c.map.ensures.closure (λ x r q k. search (rules, gives))) in
    let so = rw (map-enumerate_from row_of c.args.first 0 c.args.items.now (omega arith)) at h in
    search rules
