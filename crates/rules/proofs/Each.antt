-- A relation that holds, position by position, of two lists of one length.
use Rattle.std.proofs.Common.{◌≡◌, ℕ, zero, suc, List, [], ◌∷◌, length, get_or, set, refl, ap}

abbrev pub Each : {X : Type 0} → (ℕ → X → X → Type 0) → List X → List X → Type 0
Each Q [] [] = Unit {0}
Each Q [] (y ∷ ys) = ⊥
Each Q (x ∷ xs) [] = ⊥
Each Q (x ∷ xs) (y ∷ ys) = Q 0 x y × Each (λ i. Q (suc i)) xs ys

module _ {X : Type 0} where
  pub each_refl : (Q : ℕ → X → X → Type 0) → ((i : ℕ) (x : X) → Q i x x) → (xs : List X) → Each Q xs xs
  each_refl Q r [] = tt
  each_refl Q r (x ∷ xs) = (r 0 x, each_refl (λ i. Q (suc i)) (λ i. r (suc i)) xs)

  pub each_weaker : (Q W : ℕ → X → X → Type 0) → ((i : ℕ) (x y : X) → Q i x y → W i x y) → (xs ys : List X) → Each Q xs ys → Each W xs ys
  each_weaker Q W f [] [] h = tt
  each_weaker Q W f [] (y ∷ ys) h = elim h [ ]
  each_weaker Q W f (x ∷ xs) [] h = elim h [ ]
  each_weaker Q W f (x ∷ xs) (y ∷ ys) h = (f 0 x y h.0, each_weaker (λ i. Q (suc i)) (λ i. W (suc i)) (λ i. f (suc i)) xs ys h.1)

  pub each_flip : (Q : ℕ → X → X → Type 0) → (xs ys : List X) → Each Q xs ys → Each (λ i x y. Q i y x) ys xs
  each_flip Q [] [] h = tt
  each_flip Q [] (y ∷ ys) h = elim h [ ]
  each_flip Q (x ∷ xs) [] h = elim h [ ]
  each_flip Q (x ∷ xs) (y ∷ ys) h = (h.0, each_flip (λ i. Q (suc i)) xs ys h.1)

  pub each_trans : (Q W V : ℕ → X → X → Type 0) → ((i : ℕ) (x y z : X) → Q i x y → W i y z → V i x z) → (xs ys zs : List X) → Each Q xs ys → Each W ys zs → Each V xs zs
  each_trans Q W V f [] [] [] h k = tt
  each_trans Q W V f [] [] (z ∷ zs) h k = elim k [ ]
  each_trans Q W V f [] (y ∷ ys) zs h k = elim h [ ]
  each_trans Q W V f (x ∷ xs) [] zs h k = elim h [ ]
  each_trans Q W V f (x ∷ xs) (y ∷ ys) [] h k = elim k [ ]
  each_trans Q W V f (x ∷ xs) (y ∷ ys) (z ∷ zs) h k =
      (f 0 x y z h.0 k.0, each_trans (λ i. Q (suc i)) (λ i. W (suc i)) (λ i. V (suc i)) (λ i. f (suc i)) xs ys zs h.1 k.1)

  -- two lists that are related, each followed by another
  pub each_join : (Q W : ℕ → X → X → Type 0) → ((i : ℕ) (x y z w : X) → Q i x y → W i x z → W i y w → Q i z w) → (xs ys zs ws : List X) → Each Q xs ys → Each W xs zs → Each W ys ws → Each Q zs ws
  each_join Q W f xs ys zs ws h k l =
      each_trans (λ i z y. (x : X) × W i x z × Q i x y) W Q (λ i z y w a b. f i a.0 y z w a.2 a.1 b) zs ys ws
      (each_trans (λ i z x. W i x z) Q (λ i z y. (x : X) × W i x z × Q i x y) (λ i z x y a b. (x, a, b)) zs xs ys (each_flip W xs zs k) h) l

  -- at a position, also past the end, where both have d
  pub each_at : (Q W : ℕ → X → X → Type 0) → ((i : ℕ) (x y : X) → Q i x y → W i x y) → (d : X) → ((i : ℕ) → W i d d) → (xs ys : List X) (i : ℕ) → Each Q xs ys → W i (get_or xs i d) (get_or ys i d)
  each_at Q W f d r [] [] i h = r i
  each_at Q W f d r [] (y ∷ ys) i h = elim h [ ]
  each_at Q W f d r (x ∷ xs) [] i h = elim h [ ]
  each_at Q W f d r (x ∷ xs) (y ∷ ys) zero h = f 0 x y h.0
  each_at Q W f d r (x ∷ xs) (y ∷ ys) (suc i) h = each_at (λ i. Q (suc i)) (λ i. W (suc i)) (λ i. f (suc i)) d (λ i. r (suc i)) xs ys i h.1

  pub each_set : (Q : ℕ → X → X → Type 0) (xs ys : List X) (i : ℕ) (a b : X) → Each Q xs ys → Q i a b → Each Q (set xs i a) (set ys i b)
  each_set Q [] [] i a b h k = tt
  each_set Q [] (y ∷ ys) i a b h k = elim h [ ]
  each_set Q (x ∷ xs) [] i a b h k = elim h [ ]
  each_set Q (x ∷ xs) (y ∷ ys) zero a b h k = (k, h.1)
  each_set Q (x ∷ xs) (y ∷ ys) (suc i) a b h k = (h.0, each_set (λ i. Q (suc i)) xs ys i a b h.1 k)

  pub each_set_right : (Q : ℕ → X → X → Type 0) (xs ys : List X) (i : ℕ) (b : X) → Each Q xs ys → ((x y : X) → Q i x y → Q i x b) → Each Q xs (set ys i b)
  each_set_right Q [] [] i b h k = tt
  each_set_right Q [] (y ∷ ys) i b h k = elim h [ ]
  each_set_right Q (x ∷ xs) [] i b h k = elim h [ ]
  each_set_right Q (x ∷ xs) (y ∷ ys) zero b h k = (k x y h.0, h.1)
  each_set_right Q (x ∷ xs) (y ∷ ys) (suc i) b h k = (h.0, each_set_right (λ i. Q (suc i)) xs ys i b h.1 k)

  pub each_set_left : (Q : ℕ → X → X → Type 0) (xs ys : List X) (i : ℕ) (a : X) → Each Q xs ys → ((x y : X) → Q i x y → Q i a y) → Each Q (set xs i a) ys
  each_set_left Q xs ys i a h k =
      each_flip (λ j y x. Q j x y) ys (set xs i a) (each_set_right (λ j y x. Q j x y) ys xs i a (each_flip Q xs ys h) (λ y x. k x y))

  pub each_length : (Q : ℕ → X → X → Type 0) (xs ys : List X) → Each Q xs ys → length xs ≡ length ys
  each_length Q [] [] h = refl
  each_length Q [] (y ∷ ys) h = elim h [ ]
  each_length Q (x ∷ xs) [] h = elim h [ ]
  each_length Q (x ∷ xs) (y ∷ ys) h = ap suc (each_length (λ i. Q (suc i)) xs ys h.1)

  pub each_self : (Q : ℕ → X → X → Type 0) (d : X) (xs : List X) → ((i : ℕ) → Q i (get_or xs i d) (get_or xs i d)) → Each Q xs xs
  each_self Q d [] h = tt
  each_self Q d (x ∷ xs) h = (h 0, each_self (λ i. Q (suc i)) d xs (λ i. h (suc i)))
