use Rattle.layout.proofs.Lawful.{accepted_lawful_lem}
use Rattle.layout.proofs.accepted_lawful.Goals as goal

pub returns : goal.returns
returns c = accepted_lawful_lem
