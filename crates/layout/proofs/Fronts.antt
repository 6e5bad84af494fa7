-- The front of a block and the layout of a command.
use Rattle.std.proofs.Common.{◌≡◌, ℕ, ◌+◌, ◌≤◌, cond, eqb, leb, List, [], ◌∷◌, ◌++◌, length, get_or, take, drop, refl, ap, ◌∙◌, append_assoc, arith, length-append, take-append-drop, length-take-le}
use Rattle.std.proofs.Math.Seq.{take-append_seam, drop-append_seam}
use Rattle.std.proofs.lemmas.Bool.{cond_both, cond-true, leb-true, le-leb, eqb-true}
use Rattle.layout.specs.Tree.{add, sub, less, same, bits, Plain, set_place, copy_place, combine_places, pick_cell, put_cell, drive_device, Choice, when_place, try_frame}
use Rattle.layout.specs.Bytes.{Bytes, be16, be64, two, four, eight}
use Rattle.layout.specs.Layout.{Flat, plain, choose, loop, grant, call, plain_bytes, choice_bytes, command_bytes}
use Rattle.layout.specs.Front.{Front, got, bad, need, cut, set_at, pair_at, triple_at, choice_at, loop_at, grant_at, call_at, front_by_code, front}
use Rattle.layout.proofs.Numbers.{row_drop, whole2, whole4, whole8, two_at, four_at, eight_at}

-- f is a true account of bs, by the layout of what is read
abbrev pub True : {C : Type 0} → (C → List ℕ) → List ℕ → Front C → Type 0
True B bs (got c rest) = B c ++ rest ≡ bs
True B bs (bad n) = Unit {0}

pub by_need : {C : Type 0} (P : Front C → Type 0) (k n : ℕ) (bs : List ℕ) (f : Front C) → P (bad k) → (n ≤ length bs → P f) → P (need k n bs f)
by_need P k n bs f b h = cond_both (leb n (length bs)) f (bad k) P (λ e. h (leb-true n (length bs) e)) (λ e. b)

pub by_cut : {C : Type 0} (P : Front C → Type 0) (k n : ℕ) (bs : List ℕ) (f : List ℕ → List ℕ → Front C) → P (bad k) → ((y t : List ℕ) → length y ≡ n → y ++ t ≡ bs → P (f y t)) → P (cut k n bs f)
by_cut P k n bs f b h = by_need P k n bs _ b (λ le. h (take n bs) (drop n bs) (length-take-le n bs le) (take-append-drop n bs))

pub by_code : {C : Type 0} (P : Front C → Type 0) (op k : ℕ) (f g : Front C) → (op ≡ k → P f) → P g → P (cond (eqb op k) f g)
by_code P op k f g h i = cond_both (eqb op k) f g P (λ e. h (eqb-true op k e)) (λ e. i)

-- what is read stands in the bytes
abbrev Fair : List ℕ → Front Flat → Type 0
Fair bs f = True command_bytes bs f

choice_more : (c : Choice) (r t : List ℕ) → choice_bytes c r ++ t ≡ choice_bytes c (r ++ t)
choice_more (when_place a) r t = refl
choice_more (try_frame g a) r t = refl

module _ (bs : List ℕ) (small : Bytes bs) where
  set_true : get_or bs 0 0 ≡ 0x01 → Fair bs (set_at bs)
  set_true e = by_need (Fair bs) 8 6 bs _ tt (λ h. let l = row_drop 6 0 bs h in let f = four_at bs small 2 (drop 6 bs) in cc)

  pair_true : (c : ℕ → ℕ → Plain) → ((x a : ℕ) → plain_bytes (c x a) ≡ get_or bs 0 0 ∷ x ∷ a ∷ []) → Fair bs (pair_at c bs)
  pair_true c e = by_need (Fair bs) 8 3 bs _ tt (λ h. ap (λ (r : List ℕ). r ++ drop 3 bs) (e _ _) ∙ row_drop 3 0 bs h)

  triple_true : (c : ℕ → ℕ → ℕ → Plain) → ((x a b : ℕ) → plain_bytes (c x a b) ≡ get_or bs 0 0 ∷ x ∷ a ∷ b ∷ []) → Fair bs (triple_at c bs)
  triple_true c e = by_need (Fair bs) 8 4 bs _ tt (λ h. ap (λ (r : List ℕ). r ++ drop 4 bs) (e _ _ _) ∙ row_drop 4 0 bs h)

  call_true : get_or bs 0 0 ≡ 0x0E → Fair bs (call_at bs)
  call_true e = by_need (Fair bs) 8 2 bs _ tt (λ h. let l = row_drop 2 0 bs h in cc)

  loop_true : get_or bs 0 0 ≡ 0x0C → Fair bs (loop_at bs)
  loop_true e =
      by_need (Fair bs) 8 5 bs _ tt (λ h.
      by_cut (Fair bs) 8 (be16 bs 3) (drop 5 bs) (λ y t. got (loop (get_or bs 1 0) (get_or bs 2 0) y) t) tt (λ y t n p.
      let l = row_drop 5 0 bs h in
      let f = two_at bs small 3 (length y) (y ++ t) n in
      cc))

  grant_true : get_or bs 0 0 ≡ 0x0D → Fair bs (grant_at bs)
  grant_true e =
      by_need (Fair bs) 8 11 bs _ tt (λ h.
      by_cut (Fair bs) 8 (be16 bs 9) (drop 11 bs) (λ y t. got (grant (be64 bs 1) y) t) tt (λ y t n p.
      let l = row_drop 11 0 bs h in
      let f = two_at bs small 9 (length y) (y ++ t) n in
      let g = eight_at bs small 1 (two (length y) (y ++ t)) in
      cc))

  -- the four bytes at i are the two lengths
  choice_true : (c : Choice) (i : ℕ) → (i + 4 ≤ length bs → choice_bytes c (get_or bs i 0 ∷ get_or bs (i + 1) 0 ∷ get_or bs (i + 2) 0 ∷ get_or bs (i + 2 + 1) 0 ∷ drop (i + 4) bs) ≡ bs) → Fair bs (choice_at c i bs)
  choice_true c i whole =
      by_need (Fair bs) 8 (i + 4) bs _ tt (λ h.
      by_cut (Fair bs) 8 (be16 bs i) (drop (i + 4) bs) (λ y s. cut 8 (be16 bs (i + 2)) s (λ z t. got (choose c y z) t)) tt (λ y s n p.
      by_cut (Fair bs) 8 (be16 bs (i + 2)) s (λ z t. got (choose c y z) t) tt (λ z t m q.
      let w = whole h in
      let u : (y ++ z) ++ t ≡ drop (i + 4) bs = append_assoc y z t ∙ ap (λ (r : List ℕ). y ++ r) q ∙ p in
      let f = two_at bs small i (length y) (two (length z) ((y ++ z) ++ t)) n in
      let g = two_at bs small (i + 2) (length z) ((y ++ z) ++ t) m in
      let e = choice_more c (two (length y) (two (length z) (y ++ z))) t in
      cc)))

  when_true : get_or bs 0 0 ≡ 0x0B → Fair bs (choice_at (when_place (get_or bs 1 0)) 2 bs)
  when_true e = choice_true (when_place (get_or bs 1 0)) 2 (λ h. let l = row_drop 6 0 bs h in cc)

  try_true : get_or bs 0 0 ≡ 0x0F → Fair bs (choice_at (try_frame (be64 bs 1) (get_or bs 9 0)) 10 bs)
  try_true e = choice_true (try_frame (be64 bs 1) (get_or bs 9 0)) 10 (λ h. let l = row_drop 14 0 bs h in let g = eight_at bs small 1 (get_or bs 9 0 ∷ get_or bs 10 0 ∷ get_or bs 11 0 ∷ get_or bs 12 0 ∷ get_or bs 13 0 ∷ drop 14 bs) in cc)

  code_true : (op : ℕ) → get_or bs 0 0 ≡ op → Fair bs (front_by_code op bs)
  code_true op at =
      by_code (Fair bs) op 0x01 _ _ (λ e. set_true (at ∙ e))
      (by_code (Fair bs) op 0x02 _ _ (λ e. pair_true copy_place (λ x a. rw (at, e)))
      (by_code (Fair bs) op 0x03 _ _ (λ e. triple_true (combine_places add) (λ x a b. rw (at, e)))
      (by_code (Fair bs) op 0x04 _ _ (λ e. triple_true (combine_places sub) (λ x a b. rw (at, e)))
      (by_code (Fair bs) op 0x05 _ _ (λ e. triple_true (combine_places less) (λ x a b. rw (at, e)))
      (by_code (Fair bs) op 0x06 _ _ (λ e. triple_true (combine_places same) (λ x a b. rw (at, e)))
      (by_code (Fair bs) op 0x07 _ _ (λ e. triple_true (combine_places bits) (λ x a b. rw (at, e)))
      (by_code (Fair bs) op 0x08 _ _ (λ e. triple_true pick_cell (λ x a b. rw (at, e)))
      (by_code (Fair bs) op 0x09 _ _ (λ e. triple_true put_cell (λ x a b. rw (at, e)))
      (by_code (Fair bs) op 0x0A _ _ (λ e. pair_true drive_device (λ x a. rw (at, e)))
      (by_code (Fair bs) op 0x0B _ _ (λ e. when_true (at ∙ e))
      (by_code (Fair bs) op 0x0C _ _ (λ e. loop_true (at ∙ e))
      (by_code (Fair bs) op 0x0D _ _ (λ e. grant_true (at ∙ e))
      (by_code (Fair bs) op 0x0E _ _ (λ e. call_true (at ∙ e))
      (by_code (Fair bs) op 0x0F _ _ (λ e. try_true (at ∙ e)) tt))))))))))))))

pub front_true : (bs : List ℕ) → Bytes bs → True command_bytes bs (front bs)
unfolding front
front_true [] h = tt
front_true (op ∷ bs) h = code_true (op ∷ bs) h op refl

-- what is laid out is read

pub met : {C : Type 0} (k n : ℕ) (bs : List ℕ) (f : Front C) → n ≤ length bs → need k n bs f ≡ f
met k n bs f h = cond-true _ _ _ (le-leb n (length bs) h)

pub cut_seam : {C : Type 0} (k n : ℕ) (y t : List ℕ) (f : List ℕ → List ℕ → Front C) → n ≡ length y → cut k n (y ++ t) f ≡ f y t
cut_seam k n y t f e = rw e (met k (length y) (y ++ t) _ (omega (arith, length-append y t)) ∙ rw (take-append_seam, drop-append_seam))

plain_of : (c : Plain) (rest : List ℕ) → front (plain_bytes c ++ rest) ≡ got (plain c) rest
unfolding front
plain_of (set_place x n) rest = met 8 6 (0x01 ∷ x ∷ four n rest) _ (omega arith) ∙ ap (λ (m : ℕ). got (plain (set_place x m)) rest) (whole4 n)
plain_of (copy_place x a) rest = met 8 3 (0x02 ∷ x ∷ a ∷ rest) _ (omega arith)
plain_of (combine_places add x a b) rest = met 8 4 (0x03 ∷ x ∷ a ∷ b ∷ rest) _ (omega arith)
plain_of (combine_places sub x a b) rest = met 8 4 (0x04 ∷ x ∷ a ∷ b ∷ rest) _ (omega arith)
plain_of (combine_places less x a b) rest = met 8 4 (0x05 ∷ x ∷ a ∷ b ∷ rest) _ (omega arith)
plain_of (combine_places same x a b) rest = met 8 4 (0x06 ∷ x ∷ a ∷ b ∷ rest) _ (omega arith)
plain_of (combine_places bits x a b) rest = met 8 4 (0x07 ∷ x ∷ a ∷ b ∷ rest) _ (omega arith)
plain_of (pick_cell x t a) rest = met 8 4 (0x08 ∷ x ∷ t ∷ a ∷ rest) _ (omega arith)
plain_of (put_cell t a b) rest = met 8 4 (0x09 ∷ t ∷ a ∷ b ∷ rest) _ (omega arith)
plain_of (drive_device d a) rest = met 8 3 (0x0A ∷ d ∷ a ∷ rest) _ (omega arith)

-- the two blocks of a choice, by their lengths
cuts : (c : Choice) (y z rest : List ℕ) (n m : ℕ) → n ≡ length y → m ≡ length z → cut 8 n ((y ++ z) ++ rest) (λ y s. cut 8 m s (λ z t. got (choose c y z) t)) ≡ got (choose c y z) rest
cuts c y z rest n m e f =
    rw append_assoc (cut_seam 8 n y (z ++ rest) (λ y s. cut 8 m s (λ z t. got (choose c y z) t)) e ∙ cut_seam 8 m z rest (λ z t. got (choose c y z) t) f)

choice_of : (c : Choice) (y z rest : List ℕ) → front (command_bytes (choose c y z) ++ rest) ≡ got (choose c y z) rest
unfolding front
choice_of (when_place a) y z rest =
    met 8 6 (0x0B ∷ a ∷ two (length y) (two (length z) ((y ++ z) ++ rest))) _ (omega arith)
    ∙ cuts (when_place a) y z rest _ _ (whole2 (length y)) (whole2 (length z))
choice_of (try_frame g a) y z rest =
    met 8 14 (0x0F ∷ eight g (a ∷ two (length y) (two (length z) ((y ++ z) ++ rest)))) _ (omega arith)
    ∙ cuts _ y z rest _ _ (whole2 (length y)) (whole2 (length z))
    ∙ ap (λ (f : ℕ). got (choose (try_frame f a) y z) rest) (whole8 g [])

pub front_of : (c : Flat) (rest : List ℕ) → front (command_bytes c ++ rest) ≡ got c rest
unfolding front
front_of (plain c) rest = plain_of c rest
front_of (choose c y z) rest = choice_of c y z rest
front_of (loop a k y) rest = met 8 5 (0x0C ∷ a ∷ k ∷ two (length y) (y ++ rest)) _ (omega arith) ∙ cut_seam 8 _ y rest (λ y t. got (loop a k y) t) (whole2 (length y))
front_of (grant g y) rest =
    met 8 11 (0x0D ∷ eight g (two (length y) (y ++ rest))) _ (omega arith)
    ∙ cut_seam 8 _ y rest (λ y t. got (grant _ y) t) (whole2 (length y))
    ∙ ap (λ (f : ℕ). got (grant f y) rest) (whole8 g [])
front_of (call p) rest = met 8 2 (0x0E ∷ p ∷ rest) _ (omega arith)
