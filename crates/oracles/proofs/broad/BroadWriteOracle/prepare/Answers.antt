use Rattle.std.proofs.Common.{rules}
use Rattle.oracles.proofs.Held.{counted}
use Rattle.oracles.proofs.broad.BroadWriteOracle.prepare.Goals as goal

pub returns : goal.returns
returns c n x = counted c.args.held.now c.len.result c.places.result n x (search rules) (search rules)
