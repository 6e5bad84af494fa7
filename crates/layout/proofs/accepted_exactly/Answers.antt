use Rattle.layout.proofs.Accepts.{accepted_exactly_lem}
use Rattle.layout.proofs.accepted_exactly.Goals as goal

pub returns : goal.returns
returns c = accepted_exactly_lem
