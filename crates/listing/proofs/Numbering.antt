-- Numbered rows, by the library's words.
use Rattle.std.proofs.Common.{◌≡◌, ℕ, ◌+◌, ◌<◌, ◌^◌, min, List, [], ◌∷◌, length, refl, ap, arith, map}
use Rattle.std.specs.List.{enumerate_from}
use Rattle.listing.specs.Numbered.{numbered}

module _ {X Y : Type 0} (row : ℕ → X → Y) where
  -- what is numbered from k on, where no number passes the greatest
  pub map-enumerate_from : (n k : ℕ) (xs : List X) → n + k + length xs < 2 ^ 64 → map (λ p. row (min (n + p.0) 18446744073709551615) p.1) (enumerate_from k xs) ≡ numbered row (n + k) xs
  map-enumerate_from n k [] h = refl
  map-enumerate_from n k (x ∷ xs) h =
      let here : min (n + k) 18446744073709551615 ≡ n + k = omega arith in
      let next : n + (k + 1) ≡ n + k + 1 = omega arith in
      rw (here, ← next) (ap (λ (t : List Y). row (n + k) x ∷ t) (map-enumerate_from n (k + 1) xs (omega arith)))
