-- The gap between two levels starts at the lower one.
use Rattle.std.proofs.Common.{◌≡◌, ℕ, ◌<◌, ◌≤◌, min, Some, None, sym, arith}
use Rattle.std.proofs.lemmas.Bool.Decides.{nat_tests}
use Rattle.frames.specs.Kinds.{gap}
use Rattle.frames.specs.Levels.{levels}
use Rattle.frames.proofs.Gaps.{gap_some, gap_none}

pub next_level : (a b : ℕ) → a < min b 64 → Some a ≡ gap levels a b
next_level a b l = sym (gap_some levels a b a (omega arith) (grind (arith, nat_tests)) (grind (arith, nat_tests)) (λ q n e. grind (arith, nat_tests)))

pub no_level : (a b : ℕ) → min b 64 ≤ a → None ≡ gap levels a b
no_level a b h = sym (gap_none levels a b (λ q e. grind (arith, nat_tests)))
