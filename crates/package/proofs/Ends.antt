-- What loading answers, from what is read.
use Rattle.std.proofs.Common.{◌≡◌, ℕ, ◌+◌, ◌≤◌, true, leb, List, length, get_or, sym, ap, ◌∙◌, subst, arith, w8, Fits}
use Rattle.std.proofs.lemmas.Bool.{le-leb}
use Rattle.layout.specs.Reading.{Got, ok}
use Rattle.layout.specs.Declarations.{Declaration, Contents, nothing}
use Rattle.layout.specs.Packages.{Keeps, encode, contents, read_all, read_package, accepts, declarations, held}
use Rattle.layout.proofs.Completes.{passes}
use Rattle.layout.specs.Accepted.{bodies, Lawful}
use Rattle.layout.proofs.Accepts.{accepted_exactly_lem, accepts_read}
use Rattle.layout.proofs.Lawful.{accepted_lawful_lem}
use Rattle.package.specs.declared.refusal.Refusal.{Refusal}
use Rattle.package.specs.Faults.{number}
use Rattle.package.specs.Holds.{Refused}
use Rattle.package.proofs.Turns.{bytes_all}

module _ (bs : List ℕ) (small : (i : ℕ) → Fits w8 (get_or bs i 0)) where
  -- a refusal with a number: no declarations that keep the limits have this layout
  pub refused_exactly : (e : Refusal) → Refused (read_package bs) e → (number e ≡ 0 → ⊥) → (ds : List Declaration) → Keeps ds → encode ds ≡ bs → ⊥
  refused_exactly e r n ds k is =
      let p = (accepted_exactly_lem bs ds (bytes_all bs small)).1 (k, is) in
      let q = r n in
      let z : ◌≡◌ {A = ℕ} 0 1 = cc in
      omega arith

  module _ (short : length bs ≤ 8192) where
    through : (g : Got (List Declaration)) → read_all (length bs + 1) nothing 0 0 bs ≡ g → read_package bs ≡ g
    through g e = passes (leb (length bs) 8192) 1 0 _ g (le-leb (length bs) 8192 short) e

    pub refused_read : (e : Refusal) → Refused (read_all (length bs + 1) nothing 0 0 bs) e → Refused (read_package bs) e
    refused_read e r n = through _ (r n)

    module _ (all : List Declaration) (e : read_all (length bs + 1) nothing 0 0 bs ≡ ok all) where
      pub accepted : accepts bs ≡ true
      accepted = (accepts_read bs all (through (ok all) e)).0

      pub is_all : declarations bs ≡ all
      is_all = (accepts_read bs all (through (ok all) e)).1

      pub read_as : read_package bs ≡ ok (declarations bs)
      read_as = through (ok all) e ∙ ap ok (sym is_all)

      pub keeps : Keeps (declarations bs) × (encode (declarations bs) ≡ bs)
      keeps = (accepted_exactly_lem bs (declarations bs) (bytes_all bs small)).0 read_as

      pub held_all : (c : Contents) → c ≡ contents all → c ≡ held bs
      unfolding held
      held_all c h = h ∙ ap contents (sym is_all)

-- the laws of accepted packages, of the bytes themselves
pub lawful_bytes : (bs : List ℕ) → Keeps (declarations bs) × (encode (declarations bs) ≡ bs) → Lawful bs (contents (declarations bs)) (bodies (declarations bs))
lawful_bytes bs k = subst (λ (xs : List ℕ). Lawful xs (contents (declarations bs)) (bodies (declarations bs))) k.1 (accepted_lawful_lem (declarations bs) k.0)
