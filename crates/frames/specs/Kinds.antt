-- Frames. A right is a number from 0 to 63, a frame is a code of 64 bits, and a frame kind says for which rights
-- each code is trusted.
use Rattle.std.specs.Prelude.{◌≡◌, ℕ, ◌<◌, ◌≤◌, Bool, true, false, not, ◌&&◌, ◌||◌, find, Option}
use Rattle.std.specs.List.{range_with_len}

-- What a kind says: the code that is trusted for all, the code of what came from two others, and whether a code is
-- trusted for a right.
pub record Kind : Type 0 where
  pub full : ℕ
  pub mix : ℕ → ℕ → ℕ
  pub holds : ℕ → ℕ → Bool

-- The laws of every kind.
pub record Lawful (K : Kind) : Type 0 where
  pub full_holds : (q : ℕ) → q < 64 → K.holds K.full q ≡ true
  pub mix_holds : (a b q : ℕ) → K.holds (K.mix a b) q ≡ (K.holds a q && K.holds b q)
  pub no_more : (a q : ℕ) → 64 ≤ q → K.holds a q ≡ false

-- The law of widening: trusted for what either is.
abbrev pub Widens : Kind → (ℕ → ℕ → ℕ) → Type 0
Widens K widen = (a b q : ℕ) → K.holds (widen a b) q ≡ (K.holds a q || K.holds b q)

-- Code b is trusted for right q, and a is not.
abbrev pub lacks : Kind → ℕ → ℕ → ℕ → Bool
lacks K a b q = K.holds b q && not (K.holds a q)

-- The lowest right for which b is trusted and a is not.
unfoldable pub gap : Kind → ℕ → ℕ → Option ℕ
gap K a b = find (lacks K a b) (range_with_len 0 64)

-- Code a is trusted for every right that b is.
abbrev pub Covers : Kind → ℕ → ℕ → Type 0
Covers K a b = (q : ℕ) → K.holds b q ≡ true → K.holds a q ≡ true
