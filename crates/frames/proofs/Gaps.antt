-- The lowest right in a gap, and that a code covers another where there is none.
use Rattle.std.proofs.Common.{◌≡◌, ℕ, zero, suc, ◌+◌, ◌<◌, ◌≤◌, Bool, true, false, not, ◌&&◌, Some, None, Option, sym, refl, ap, subst, ◌∙◌, ⊎_elim, arith}
use Rattle.std.specs.Option.{IfSome, is_some}
use Rattle.std.specs.List.{find, range_with_len}
use Rattle.std.proofs.lemmas.Bool.{cond-true, cond-false, cases_Bool, cases_lt}
use Rattle.std.proofs.lemmas.Option.{none-some}
use borrow.Author.Clash.{clash}
use Rattle.frames.specs.Kinds.{Kind, Lawful, lacks, gap, Covers}

-- ---- the lowest of k numbers, from i on, that passes a test

module _ (f : ℕ → Bool) where
  pub found : (k i g : ℕ) → i ≤ g → g < i + k → f g ≡ true → ((q : ℕ) → i ≤ q → q < g → f q ≡ false) → find f (range_with_len i k) ≡ Some g
  found zero i g h l e low = absurd (omega arith)
  found (suc k) i g h l e low =
      ⊎_elim
      (λ (m : i < g). cond-false _ _ _ (low i (omega arith) m) ∙ found k (i + 1) g (omega arith) (omega arith) e (λ q n. low q (omega arith)))
      (λ (m : g ≤ i). let p : g ≡ i = omega arith in cond-true _ _ _ (subst (λ (x : ℕ). f x ≡ true) p e) ∙ ap (λ (x : ℕ). Some x) (sym p))
      (cases_lt i g)

  pub none_found : (k i : ℕ) → ((q : ℕ) → i ≤ q → q < i + k → f q ≡ false) → find f (range_with_len i k) ≡ None
  none_found zero i h = refl
  none_found (suc k) i h = cond-false _ _ _ (h i (omega arith) (omega arith)) ∙ none_found k (i + 1) (λ q l m. h q (omega arith) (omega arith))

  pub no_lower : (k i : ℕ) → find f (range_with_len i k) ≡ None → (q : ℕ) → i ≤ q → q < i + k → f q ≡ false
  no_lower zero i e q h l = absurd (omega arith)
  no_lower (suc k) i e q h l =
      ⊎_elim
      (λ t. absurd (none-some i (sym e ∙ cond-true _ _ _ t)))
      (λ t.
      ⊎_elim
      (λ (m : i < q). no_lower k (i + 1) (sym (cond-false _ _ _ t) ∙ e) q (omega arith) (omega arith))
      (λ (m : q ≤ i). let p : i ≡ q = omega arith in subst (λ (x : ℕ). f x ≡ false) p t)
      (cases_lt i q))
      (cases_Bool (f i))

-- ---- gaps

pub held : (x y : Bool) → (y && not x) ≡ false → y ≡ true → x ≡ true
held x y e t = grind arith

closed : (x y : Bool) → (y ≡ true → x ≡ true) → (y && not x) ≡ false
closed x y h = grind arith

lacking : (x y : Bool) → y ≡ true → x ≡ false → (y && not x) ≡ true
lacking x y h e = grind arith

pub gap_some : (K : Kind) (a b g : ℕ) → g < 64 → K.holds b g ≡ true → K.holds a g ≡ false → ((q : ℕ) → q < g → K.holds b q ≡ true → K.holds a q ≡ true) → gap K a b ≡ Some g
unfolding gap
gap_some K a b g l h e low = found (lacks K a b) 64 0 g (omega arith) (omega arith) (lacking _ _ h e) (λ q _ m. closed _ _ (low q m))

pub gap_none : (K : Kind) (a b : ℕ) → Covers K a b → gap K a b ≡ None
unfolding gap
gap_none K a b c = none_found (lacks K a b) 64 0 (λ q _ _. closed _ _ (c q))

pub gap_covers : (K : Kind) → Lawful K → (a b : ℕ) → gap K a b ≡ None → Covers K a b
unfolding gap
gap_covers K L a b e q h =
    ⊎_elim
    (λ (l : q < 64). held _ _ (no_lower (lacks K a b) 64 0 e q (omega arith) l) h)
    (λ (l : 64 ≤ q). clash _ h (L.no_more b q l))
    (cases_lt q 64)

-- an answer that is there exactly where a test passes
pub told : {g : Option ℕ} {t : Bool} {x : ℕ} (r : Option ℕ) → is_some r ≡ t → IfSome r (λ y. y ≡ x) → (t ≡ true → Some x ≡ g) → (t ≡ false → None ≡ g) → r ≡ g
told None e h some none = none (sym e)
told (Some y) e h some none = ap (λ (z : ℕ). Some z) h ∙ some (sym e)

-- an answer that is none exactly where a test passes
pub none_of : (r : Option ℕ) (b : Bool) → is_some r ≡ not b → b ≡ true → r ≡ None
none_of None b h e = refl
none_of (Some x) b h e = clash _ (sym h) (ap not e)

pub of_none : (r : Option ℕ) (b : Bool) → is_some r ≡ not b → r ≡ None → b ≡ true
of_none r true h e = refl
of_none r false h e = clash _ h (ap is_some e)
