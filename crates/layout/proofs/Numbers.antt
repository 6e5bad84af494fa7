-- Numbers read from bytes, and bytes made of numbers.
use Rattle.std.proofs.Common.{◌≡◌, ℕ, zero, suc, ◌+◌, ◌*◌, ◌/◌, ◌%◌, ◌<◌, ◌≤◌, true, ltb, List, [], ◌∷◌, ◌++◌, length, get_or, drop, sym, refl, ap, ◌∙◌, arith, drop-cons}
use Rattle.std.proofs.lemmas.Bool.{and_parts, and_from, ltb-true, lt-ltb}
use Rattle.layout.specs.Bytes.{Bytes, are_bytes, be16, be32, be64, two, four, eight}

pub bytes_at : (bs : List ℕ) → Bytes bs → (i : ℕ) → get_or bs i 0 < 256
bytes_at [] h i = omega arith
bytes_at (x ∷ bs) h zero = h.0
bytes_at (x ∷ bs) h (suc i) = bytes_at bs h.1 i

pub bytes_tested : (bs : List ℕ) → are_bytes bs ≡ true → Bytes bs
bytes_tested [] h = tt
bytes_tested (x ∷ bs) h = let p = and_parts (ltb x 256) (are_bytes bs) h in (ltb-true x 256 p.0, bytes_tested bs p.1)

pub bytes_test : (bs : List ℕ) → Bytes bs → are_bytes bs ≡ true
bytes_test [] h = refl
bytes_test (x ∷ bs) h = and_from (ltb x 256) (are_bytes bs) (lt-ltb x 256 h.0) (bytes_test bs h.1)

pub bytes_left : (xs ys : List ℕ) → Bytes (xs ++ ys) → Bytes xs
bytes_left [] ys h = tt
bytes_left (x ∷ xs) ys h = (h.0, bytes_left xs ys h.1)

pub bytes_right : (xs ys : List ℕ) → Bytes (xs ++ ys) → Bytes ys
bytes_right [] ys h = h
bytes_right (x ∷ xs) ys h = bytes_right xs ys h.1

-- the n bytes from i on
abbrev pub row : ℕ → ℕ → List ℕ → List ℕ
row i zero bs = []
row i (suc n) bs = get_or bs i 0 ∷ row (suc i) n bs

pub row_drop : (n i : ℕ) (bs : List ℕ) → i + n ≤ length bs → row i n bs ++ drop (i + n) bs ≡ drop i bs
row_drop zero i bs h = ap (λ (k : ℕ). drop k bs) (omega arith)
row_drop (suc n) i bs h =
    let p : i < length bs = omega arith in
    let q : suc i + n ≤ length bs = omega arith in
    let e : i + suc n ≡ suc i + n = omega arith in
    ap (λ (k : ℕ). row i (suc n) bs ++ drop k bs) e ∙ ap (λ (r : List ℕ). get_or bs i 0 ∷ r) (row_drop n (suc i) bs q) ∙ sym (drop-cons bs i 0 p)

-- two bytes
high : (n h l : ℕ) → n ≡ h * 256 + l → l < 256 → n / 256 ≡ h
high n h l e s = omega arith

low : (n h l : ℕ) → n ≡ h * 256 + l → l < 256 → n % 256 ≡ l
low n h l e s = omega arith

pub whole2 : (n : ℕ) → n / 256 * 256 + n % 256 ≡ n
whole2 n = omega arith

-- four bytes
four_is : (a b c d : ℕ) (r : List ℕ) → b < 256 → c < 256 → d < 256 → four ((a * 256 + b) * 65536 + (c * 256 + d)) r ≡ a ∷ b ∷ c ∷ d ∷ r
four_is a b c d r hb hc hd =
    let n : ℕ = (a * 256 + b) * 65536 + (c * 256 + d) in
    let e : n / 16777216 ≡ a = omega arith in
    let f : n / 65536 % 256 ≡ b = omega arith in
    let g : n / 256 % 256 ≡ c = omega arith in
    let h : n % 256 ≡ d = omega arith in
    cc

four_small : (a b c d : ℕ) → a < 256 → b < 256 → c < 256 → d < 256 → (a * 256 + b) * 65536 + (c * 256 + d) < 4294967296
four_small a b c d ha hb hc hd = omega arith

pub whole4 : (n : ℕ) → (n / 16777216 * 256 + n / 65536 % 256) * 65536 + (n / 256 % 256 * 256 + n % 256) ≡ n
whole4 n = omega arith

-- eight bytes
high32 : (x y : ℕ) → y < 4294967296 → (x * 4294967296 + y) / 4294967296 ≡ x
high32 x y h = omega arith

low32 : (x y : ℕ) → y < 4294967296 → (x * 4294967296 + y) % 4294967296 ≡ y
low32 x y h = omega arith

whole_halves : (n : ℕ) → n / 4294967296 * 4294967296 + n % 4294967296 ≡ n
whole_halves n = omega arith

pub whole8 : (g : ℕ) (rest : List ℕ) → be64 (eight g rest) 0 ≡ g
whole8 g rest = cc (whole4 (g / 4294967296), whole4 (g % 4294967296), whole_halves g)

-- a number that was read is laid out as the bytes that it was read from
module _ (bs : List ℕ) (small : Bytes bs) where
  pub two_at : (i n : ℕ) (r : List ℕ) → n ≡ be16 bs i → two n r ≡ get_or bs i 0 ∷ get_or bs (i + 1) 0 ∷ r
  two_at i n r e =
      let q = bytes_at bs small (i + 1) in
      let h = high n (get_or bs i 0) (get_or bs (i + 1) 0) e q in
      let l = low n (get_or bs i 0) (get_or bs (i + 1) 0) e q in
      cc

  pub four_at : (i : ℕ) (r : List ℕ) → four (be32 bs i) r ≡ get_or bs i 0 ∷ get_or bs (i + 1) 0 ∷ get_or bs (i + 2) 0 ∷ get_or bs (i + 2 + 1) 0 ∷ r
  four_at i r = four_is _ _ _ _ r (bytes_at bs small (i + 1)) (bytes_at bs small (i + 2)) (bytes_at bs small (i + 2 + 1))

  pub eight_at : (i : ℕ) (r : List ℕ) → eight (be64 bs i) r ≡ get_or bs i 0 ∷ get_or bs (i + 1) 0 ∷ get_or bs (i + 2) 0 ∷ get_or bs (i + 2 + 1) 0 ∷ get_or bs (i + 4) 0 ∷ get_or bs (i + 4 + 1) 0 ∷ get_or bs (i + 4 + 2) 0 ∷ get_or bs (i + 4 + 2 + 1) 0 ∷ r
  eight_at i r =
      let q = four_small (get_or bs (i + 4) 0) (get_or bs (i + 4 + 1) 0) (get_or bs (i + 4 + 2) 0) (get_or bs (i + 4 + 2 + 1) 0) (bytes_at bs small (i + 4)) (bytes_at bs small (i + 4 + 1)) (bytes_at bs small (i + 4 + 2)) (bytes_at bs small (i + 4 + 2 + 1)) in
      rw (high32 (be32 bs i) (be32 bs (i + 4)) q, low32 (be32 bs i) (be32 bs (i + 4)) q) (four_at i (four (be32 bs (i + 4)) r) ∙ ap (λ (t : List ℕ). get_or bs i 0 ∷ get_or bs (i + 1) 0 ∷ get_or bs (i + 2) 0 ∷ get_or bs (i + 2 + 1) 0 ∷ t) (four_at (i + 4) r))
