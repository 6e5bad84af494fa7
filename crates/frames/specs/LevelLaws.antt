-- The laws of the levels kind.
use Rattle.std.specs.Prelude.{max}
use Rattle.std.proofs.Common.{arith}
use Rattle.std.proofs.lemmas.Bool.{and_from, and_left, lt-ltb, le-ltb}
use Rattle.std.proofs.lemmas.Bool.Decides.{nat_tests}
use Rattle.frames.specs.Kinds.{Lawful, Widens}
use Rattle.frames.specs.Levels.{levels}

pub levels_lawful : Lawful levels
levels_lawful = record {
  full_holds = λ q h. and_from _ _ (lt-ltb q 64 h) (lt-ltb q 64 h);
  mix_holds = λ a b q. grind (arith, nat_tests);
  no_more = λ a q h. and_left _ _ (le-ltb q 64 h);
}

pub max_widens : Widens levels max
max_widens a b q = grind (arith, nat_tests)
