use Rattle.oracle_laws.proofs.Smallest.{smallest_least_lem}
use Rattle.oracle_laws.proofs.smallest_least.Goals as goal

pub returns : goal.returns
returns c = smallest_least_lem
