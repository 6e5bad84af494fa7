-- The laws of the rights kind.
use Rattle.std.proofs.Common.{◌≡◌, ℕ, ◌<◌, Bool, ◌&&◌, ◌==◌, ap, arith}
use Rattle.std.specs.Int.{bit_at}
use Rattle.std.specs.Int.Bits.{bit_or}
use Rattle.std.proofs.lemmas.Bool.{and_left, lt-ltb, le-ltb}
use Rattle.std.proofs.lemmas.Bool.Decides.{nat_tests}
use Rattle.std.proofs.lemmas.Nat.Bits.{bit_at-lt, bit_at_and, bit_at_or, bit_at_ones}
use Rattle.frames.specs.Kinds.{Lawful, Widens}
use Rattle.frames.specs.Rights.{rights}

-- a right below 64 is held where its bit is set
pub held_at : (a q : ℕ) → q < 64 → rights.holds a q ≡ (bit_at a q == 1)
held_at a q h = ap (λ (x : Bool). x && bit_at a q == 1) (lt-ltb q 64 h)

pub rights_lawful : Lawful rights
rights_lawful = record {
  full_holds = λ q h. grind (arith, nat_tests, bit_at_ones 64 q h);
  mix_holds = λ a b q. grind (arith, nat_tests, bit_at_and a b q, bit_at-lt a q, bit_at-lt b q);
  no_more = λ a q h. and_left _ _ (le-ltb q 64 h);
}

pub or_widens : Widens rights bit_or
or_widens a b q = grind (arith, nat_tests, bit_at_or a b q, bit_at-lt a q, bit_at-lt b q)
