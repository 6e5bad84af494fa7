-- Cases on a test.
use Rattle.std.proofs.Common.{◌≡◌, Bool, true, false, cond, refl}
use borrow.Author.Clash.{clash}

-- the same test on both sides
pub by_cond₂ : {X : Type 0} (Q : X → X → Type 0) (b : Bool) {x y z w : X} → (b ≡ true → Q x z) → (b ≡ false → Q y w) → Q (cond b x y) (cond b z w)
by_cond₂ Q true f g = f refl
by_cond₂ Q false f g = g refl

-- what makes a test true is missing where the test is false
pub not_within : (M N : Bool) → (M ≡ true → N ≡ true) → N ≡ false → M ≡ false
not_within true N h e = clash N (h refl) e
not_within false N h e = refl
