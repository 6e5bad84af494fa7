-- The gap between two codes of rights is the lowest bit of the second without the first.
use Rattle.std.proofs.Common.{◌≡◌, ℕ, ◌-◌, ◌^◌, ◌<◌, ◌≢◌, true, min, Some, None, sym, ap, ◌∙◌, arith, w64}
use Rattle.std.specs.Int.{bit_at, bit_not, trailing_zeros}
use Rattle.std.specs.Int.Bits.{bit_and, and_lt}
use Rattle.std.proofs.lemmas.Bool.{ltb-true, and_parts}
use Rattle.std.proofs.lemmas.Bool.Decides.{nat_tests}
use Rattle.std.proofs.lemmas.Nat.Bits.{bit_at-zero, bit_at-lt, bit_at_and, bit_at_not, bit_at-trailing_zeros}
use Rattle.frames.specs.Kinds.{gap}
use Rattle.frames.specs.Rights.{rights}
use Rattle.frames.proofs.Gaps.{gap_some, gap_none}

-- what b has and a has not
abbrev pub missing : ℕ → ℕ → ℕ
missing a b = bit_and b (bit_not w64 a)

bit_at-missing : (a b q : ℕ) → a < 2 ^ 64 → q < 64 → bit_at (missing a b) q ≡ min (bit_at b q) (1 - bit_at a q)
bit_at-missing a b q l h = rw (bit_at_and b (bit_not w64 a) q, bit_at_not w64 a q l h)

-- a right that b holds and that is not missing, a holds
covered : (a b q : ℕ) → a < 2 ^ 64 → bit_at (missing a b) q ≡ 0 → rights.holds b q ≡ true → rights.holds a q ≡ true
covered a b q l e h =
    let k : q < 64 = ltb-true q 64 (and_parts _ _ h).0 in
    grind (arith, nat_tests, bit_at-missing a b q l k, bit_at-lt a q)

pub no_gap : (a b : ℕ) → a < 2 ^ 64 → missing a b ≡ 0 → None ≡ gap rights a b
no_gap a b l e = sym (gap_none rights a b (λ q. covered a b q l (ap (λ (x : ℕ). bit_at x q) e ∙ bit_at-zero q)))

pub first_gap : (a b : ℕ) → a < 2 ^ 64 → b < 2 ^ 64 → missing a b ≢ 0 → Some (trailing_zeros w64 (missing a b)) ≡ gap rights a b
first_gap a b l m ne =
    let r = bit_at-trailing_zeros w64 (missing a b) (omega arith) (and_lt 64 b (bit_not w64 a) m (omega arith)) in
    let here = bit_at-missing a b (trailing_zeros w64 (missing a b)) l r.0 in
    sym (gap_some rights a b _ r.0 (grind (arith, nat_tests)) (grind (arith, nat_tests)) (λ q h. covered a b q l (r.2 q h)))
