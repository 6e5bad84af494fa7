-- Both frame kinds and both write oracles keep their laws.
use Rattle.frames.specs.LevelLaws.{levels_lawful, max_widens}
use Rattle.frames.specs.RightLaws.{rights_lawful, or_widens}
use Rattle.oracle_laws.proofs.Broad.{broad_lawful_lem}
use Rattle.oracle_laws.proofs.Smallest.{smallest_lawful_lem}
use Rattle.rules.specs.AtHand.{AtHandLawful}

pub at_hand_lawful_lem : AtHandLawful
at_hand_lawful_lem = record {
  by_rights = λ ds k. record { frames = rights_lawful; widens = or_widens; oracle = smallest_lawful_lem.lawful ds k };
  by_rights_broad = λ ds k. record { frames = rights_lawful; widens = or_widens; oracle = broad_lawful_lem.lawful ds k };
  by_levels = λ ds k. record { frames = levels_lawful; widens = max_widens; oracle = smallest_lawful_lem.lawful ds k };
  by_levels_broad = λ ds k. record { frames = levels_lawful; widens = max_widens; oracle = broad_lawful_lem.lawful ds k };
}
