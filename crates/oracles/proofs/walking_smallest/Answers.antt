use Rattle.layout.specs.Program.{program}
use Rattle.oracle_laws.proofs.Smallest.{smallest_least_lem}
use Rattle.oracles.proofs.walking_smallest.Goals as goal

pub returns : goal.returns
returns g c ds kept = smallest_least_lem ds kept (g.O.WriteOracle.sets (program ds)) (g.met.O.WriteOracle.lawful.lawful ds kept)
