use Rattle.rules.proofs.Leaving.{always_whole_lem}
use Rattle.rules.proofs.theorems.always_whole.Goals as goal

pub returns : goal.returns
returns c = always_whole_lem
