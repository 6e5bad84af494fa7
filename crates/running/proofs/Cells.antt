-- Places in a row.
use Rattle.std.proofs.Common.{◌≡◌, ℕ, ◌≤◌, false, arith}
use Rattle.std.proofs.lemmas.Bool.Decides.{nat_tests}
use Rattle.running.specs.Parts.{between}

module _ (first end k : ℕ) where
  pub past : end ≤ k → between first end k ≡ false
  past h = grind (arith, nat_tests)
