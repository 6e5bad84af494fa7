-- The reading of a package so far, and one declaration more.
use Rattle.std.proofs.Common.{◌≡◌, ℕ, zero, suc, ◌+◌, ◌≤◌, List, [], ◌∷◌, ◌++◌, length, get_or, sym, refl, ap, ◌∙◌, subst, append_assoc, append-nil, arith, length-append, w8, Fits, Some, Option, Bor}
use Rattle.layout.specs.Bytes.{Bytes}
use Rattle.layout.specs.Front.{got}
use Rattle.layout.specs.Reading.{Got, ok, fault, and_then}
use Rattle.layout.specs.Declarations.{Declaration, Item, item_bytes, lead, Contents, nothing}
use Rattle.layout.specs.Packages.{contents_from, contents, by_lead, declaration, next_item, read_all}
use Rattle.layout.proofs.Numbers.{bytes_right}
use Rattle.layout.proofs.Fronts.{True}
use Rattle.layout.proofs.Items.{lead_true, led}
use Rattle.package.specs.declared.refusal.Refusal.{Refusal}
use Rattle.package.specs.Faults.{number, offset}
use Rattle.package.specs.Holds.{Refused}
use Rattle.package.specs.declared.declarations.Declaration.{Declaration as Code}
use Rattle.package.specs.Items.{item_of, Fronted, TakesNext}
use Rattle.package.specs.Declares.{Declared}
use Rattle.package.proofs.Steps.{stops, refused_as}
use Rattle.package.proofs.Turns.{bytes_all}

and_ok : (g : Got (List Declaration)) → g ≡ and_then g (λ ds. ok ([] ++ ds))
and_ok (ok a) = refl
and_ok (fault n o) = refl

and_more : (g : Got (List Declaration)) (pre : List Declaration) (x : Declaration) → and_then (and_then g (λ ds. ok (x ∷ ds))) (λ ds. ok (pre ++ ds)) ≡ and_then g (λ ds. ok ((pre ++ (x ∷ [])) ++ ds))
and_more (ok a) pre x = ap ok (sym (append_assoc pre (x ∷ []) a))
and_more (fault n o) pre x = refl

-- a declaration is as long as its bytes
pub item_off : (bs : List ℕ) → Bytes bs → (i : Item) (after : List ℕ) → by_lead (get_or bs 0 0) bs ≡ got i after → (length (item_bytes i) + length after ≡ length bs) × (1 ≤ length (item_bytes i)) × Bytes after
item_off bs small i after e =
    let t : item_bytes i ++ after ≡ bs = subst (True item_bytes bs) e (lead_true bs small (get_or bs 0 0) refl) in
    let l : length (item_bytes i ++ after) ≡ length bs = ap length t in
    (sym (length-append (item_bytes i) after) ∙ l, rw led (omega arith), bytes_right (item_bytes i) after (rw t small))

-- what was taken where a declaration stands next
pub taken : (rest : List ℕ) (at latest : ℕ) (o : Option (Code × Bor (List ℕ))) (d : Code) (after : Bor (List ℕ)) → o ≡ Some (d, after) → TakesNext rest at latest o → Fronted rest at latest (item_of d) after.now
taken rest at latest o d after e h = subst (TakesNext rest at latest) e h

pub record Going (bs rest : List ℕ) (at latest : ℕ) (s : Contents) : Type 0 where
  pub pre : List Declaration
  pub held : (ds : List Declaration) → contents (pre ++ ds) ≡ contents_from s at ds
  pub bytes : Bytes rest
  pub goes : (f : ℕ) → length bs + 1 ≤ f → (g : ℕ) × (length rest + 1 ≤ g) × (read_all f nothing 0 0 bs ≡ and_then (read_all g s at latest rest) (λ ds. ok (pre ++ ds)))

pub going_start : (bs : List ℕ) (at : ℕ) (s : Contents) → at ≡ 0 → s ≡ nothing → ((i : ℕ) → Fits w8 (get_or bs i 0)) → Going bs bs at 0 s
going_start bs at s z new small = record {
  pre = [];
  held = λ ds. rw (z, new);
  bytes = bytes_all bs small;
  goes = λ f h. (f, h, rw (z, new) (and_ok (read_all f nothing 0 0 bs)));
}

module _ {bs rest : List ℕ} {at latest : ℕ} {s : Contents} (so : Going bs rest at latest s) where
  step : (f : ℕ) → length bs + 1 ≤ f → (g : ℕ) × (length rest ≤ g) × (read_all f nothing 0 0 bs ≡ and_then (read_all (suc g) s at latest rest) (λ ds. ok (so.pre ++ ds)))
  step f h = let i = so.goes f h in less i.0 i.1 i.2
    where
      less : (g : ℕ) → length rest + 1 ≤ g → read_all f nothing 0 0 bs ≡ and_then (read_all g s at latest rest) (λ ds. ok (so.pre ++ ds)) → (g : ℕ) × (length rest ≤ g) × (read_all f nothing 0 0 bs ≡ and_then (read_all (suc g) s at latest rest) (λ ds. ok (so.pre ++ ds)))
      less zero l e = absurd (omega arith)
      less (suc g) l e = (g, omega arith, e)

  pub going_refused : (e : Refusal) → ((f : ℕ) (s : Contents) → read_all (suc f) s at latest rest ≡ fault (number e) (offset e)) → Refused (read_all (length bs + 1) nothing 0 0 bs) e
  going_refused e h = let t = step (length bs + 1) (omega arith) in refused_as _ _ e t.2 (stops (read_all (suc t.0) s at latest rest) _ e (λ n. h t.0 s))

  pub going_end : ((f : ℕ) (s : Contents) → read_all (suc f) s at latest rest ≡ ok []) → (read_all (length bs + 1) nothing 0 0 bs ≡ ok so.pre) × (s ≡ contents so.pre)
  going_end h =
      let t = step (length bs + 1) (omega arith) in (
        t.2 ∙ ap (λ (g : Got (List Declaration)). and_then g (λ ds. ok (so.pre ++ ds))) (h t.0 s) ∙ ap ok (append-nil so.pre),
        sym (ap contents (sym (append-nil so.pre)) ∙ so.held []),
      )

  module _ {i : Item} {after : List ℕ} (e : Fronted rest at latest i after) where
    pub off : (length (item_bytes i) + length after ≡ length rest) × (1 ≤ length (item_bytes i)) × Bytes after
    off = item_off rest so.bytes i after e.front

    turn : (f : ℕ) → length bs + 1 ≤ f → (g : ℕ) × (length rest ≤ g) × (read_all f nothing 0 0 bs ≡ and_then (next_item (read_all g) s at (at + length rest) (got i after)) (λ ds. ok (so.pre ++ ds)))
    turn f h = let t = step f h in (t.0, t.1, t.2 ∙ ap (λ (g : Got (List Declaration)). and_then g (λ ds. ok (so.pre ++ ds))) (e.reads t.0 s))

    pub going_stops : (x : Refusal) → Refused (declaration s i at) x → Refused (read_all (length bs + 1) nothing 0 0 bs) x
    going_stops x r =
        let t = turn (length bs + 1) (omega arith) in
        refused_as _ _ x t.2 (stops _ _ x (stops (declaration s i at) _ x r))

    pub going_on : (s' : Contents) (at' latest' : ℕ) → at' ≡ at + length (item_bytes i) → latest' ≡ lead i → Declared s s' i at → Going bs after at' latest' s'
    going_on s' at' latest' o l r =
        let is = r.is in
        let adds = r.adds in
        record {
          pre = so.pre ++ (r.made ∷ []);
          held = λ ds. ap contents (append_assoc so.pre (r.made ∷ []) ds) ∙ so.held (r.made ∷ ds) ∙ rw (is, ← o, ← adds);
          bytes = off.2;
          goes = λ f h.
              let t = turn f h in
              let n = off in
              (t.0, omega (arith, t.1), t.2 ∙ rw (r.reads, ← o, ← l, ← adds) (and_more (read_all t.0 s' at' latest' after) so.pre r.made));
        }
