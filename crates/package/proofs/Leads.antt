-- What stands at the front of a package, by its first byte.
use Rattle.std.proofs.Common.{◌≡◌, ℕ, suc, ◌+◌, ◌<◌, ◌≤◌, true, false, leb, List, [], ◌∷◌, ◌++◌, length, get_or, drop, Some, None, Option, sym, refl, ap, ◌∙◌, subst, arith, w8, Fits, Bor}
use Rattle.std.proofs.lemmas.Bool.{cond-false, ne_eqb, leb-true, le-leb, lt-leb, and_parts}
use Rattle.layout.specs.Bytes.{be16}
use Rattle.layout.specs.Front.{Front, got, bad, cut}
use Rattle.layout.specs.Reading.{ok, fault}
use Rattle.layout.specs.Declarations.{Item, proc, Contents, lead, item_bytes}
use Rattle.layout.specs.Packages.{proc_at, by_lead, next_item, leads, read_all}
use Rattle.layout.proofs.Fronts.{True}
use Rattle.layout.proofs.Completes.{passes}
use Rattle.layout.proofs.Items.{lead_true, led, rest}
use Rattle.layout.proofs.Fronts.{met}
use Rattle.package.specs.declared.declarations.Declaration.{Declaration}
use Rattle.package.specs.Items.{ReadsItem, ReadsProcedure, Fronted}
use Rattle.package.proofs.Turns.{bytes_all}
use Rattle.commands.proofs.Rest.{by_byte, unmet}

pub at_lead : (bs : List ℕ) (op : ℕ) → get_or bs 0 0 ≡ op → by_lead (get_or bs 0 0) bs ≡ by_lead op bs
at_lead bs op e = ap (λ (o : ℕ). by_lead o bs) e

abbrev Cut : Front Item → Type 0
Cut g = g ≡ bad 2

-- a declaration that the bytes cut short
pub short_item : (bs : List ℕ) → 0x81 ≤ get_or bs 0 0 → get_or bs 0 0 ≤ 0x87 → (get_or bs 0 0 ≡ 0x81 → length bs < 9) → (get_or bs 0 0 ≡ 0x82 → length bs < 6) → (get_or bs 0 0 ≡ 0x83 → length bs < 13) → (get_or bs 0 0 ≡ 0x84 → length bs < 3) → (get_or bs 0 0 ≡ 0x85 → length bs < 9) → (get_or bs 0 0 ≡ 0x86 → length bs < 4) → (get_or bs 0 0 ≡ 0x87 → length bs < 2) → by_lead (get_or bs 0 0) bs ≡ bad 2
short_item bs least top party input cell table device body entry =
    by_byte Cut (get_or bs 0 0) 0x81 _ _ (λ e. unmet 2 9 bs _ (party e)) (λ n1.
    by_byte Cut (get_or bs 0 0) 0x82 _ _ (λ e. unmet 2 6 bs _ (input e)) (λ n2.
    by_byte Cut (get_or bs 0 0) 0x83 _ _ (λ e. unmet 2 13 bs _ (cell e)) (λ n3.
    by_byte Cut (get_or bs 0 0) 0x84 _ _ (λ e. unmet 2 3 bs _ (table e)) (λ n4.
    by_byte Cut (get_or bs 0 0) 0x85 _ _ (λ e. unmet 2 9 bs _ (device e)) (λ n5.
    by_byte Cut (get_or bs 0 0) 0x86 _ _ (λ e. unmet 2 4 bs _ (body e)) (λ n6.
    by_byte Cut (get_or bs 0 0) 0x87 _ _ (λ e. unmet 2 2 bs _ (entry e)) (λ n7. absurd (omega arith))))))))

module _ (f : ℕ) (s : Contents) (at latest : ℕ) where
  pub no_bytes : (bs : List ℕ) → length bs ≡ 0 → read_all (suc f) s at latest bs ≡ fault 2 at
  unfolding read_all
  no_bytes [] h = refl
  no_bytes (op ∷ bs) h = absurd (omega arith)

  pub no_lead : (bs : List ℕ) → 0 < length bs → leads (get_or bs 0 0) ≡ false → read_all (suc f) s at latest bs ≡ fault 3 at
  unfolding read_all
  no_lead [] some h = absurd (omega arith)
  no_lead (op ∷ bs) some h = cond-false _ _ _ h

  pub falls : (bs : List ℕ) → 0 < length bs → leads (get_or bs 0 0) ≡ true → get_or bs 0 0 < latest → read_all (suc f) s at latest bs ≡ fault 4 at
  unfolding read_all
  falls [] some h l = absurd (omega arith)
  falls (op ∷ bs) some h l = passes (leads op) 3 at _ _ h (cond-false _ _ _ (lt-leb latest op l))

  pub finished : (bs : List ℕ) → length bs ≡ 1 → get_or bs 0 0 ≡ 0x88 → latest ≤ 0x88 → read_all (suc f) s at latest bs ≡ ok []
  unfolding read_all
  finished [] l e o = absurd (omega arith)
  finished (op ∷ []) l e o = rw e (passes (leb latest 0x88) 4 at _ _ (le-leb latest 0x88 o) refl)
  finished (op ∷ b ∷ bs) l e o = absurd (omega arith)

  pub after_finish : (bs : List ℕ) → 1 < length bs → get_or bs 0 0 ≡ 0x88 → latest ≤ 0x88 → read_all (suc f) s at latest bs ≡ fault 11 (at + 1)
  unfolding read_all
  after_finish [] l e o = absurd (omega arith)
  after_finish (op ∷ []) l e o = absurd (omega arith)
  after_finish (op ∷ b ∷ bs) l e o = rw e (passes (leb latest 0x88) 4 at _ _ (le-leb latest 0x88 o) refl)

  pub on_item : (bs : List ℕ) → 0 < length bs → leads (get_or bs 0 0) ≡ true → latest ≤ get_or bs 0 0 → get_or bs 0 0 < 0x88 → read_all (suc f) s at latest bs ≡ next_item (read_all f) s at (at + length bs) (by_lead (get_or bs 0 0) bs)
  unfolding read_all
  on_item [] some h o t = absurd (omega arith)
  on_item (op ∷ bs) some h o t = passes (leads op) 3 at _ _ h (passes (leb latest op) 4 at _ _ (le-leb latest op o) (cond-false _ _ _ (ne_eqb op 0x88 (λ e. omega arith))))

pub leads_least : (op : ℕ) → leads op ≡ true → 0x81 ≤ op
leads_least op h = leb-true 0x81 op (and_parts _ _ h).0

pub leads_most : (op : ℕ) → leads op ≡ true → op ≤ 0x88
leads_most op h = leb-true op 0x88 (and_parts _ _ h).1

-- the reading of a declaration at the front goes on behind it
pub fronted : (bs : List ℕ) (at latest : ℕ) (i : Item) (after : List ℕ) → 0 < length bs → leads (get_or bs 0 0) ≡ true → latest ≤ get_or bs 0 0 → get_or bs 0 0 < 0x88 → ((j : ℕ) → Fits w8 (get_or bs j 0)) → by_lead (get_or bs 0 0) bs ≡ got i after → Fronted bs at latest i after
fronted bs at latest i after some h o t small e =
    let whole = subst (True item_bytes bs) e (lead_true bs (bytes_all bs small) (get_or bs 0 0) refl) in
    record {
      led = sym (first bs i after whole);
      order = rw (first bs i after whole) o;
      front = e;
      reads = λ f s. on_item f s at latest bs some h o t ∙ ap (next_item (read_all f) s at (at + length bs)) e;
    }
  where
    first : (bs : List ℕ) (i : Item) (after : List ℕ) → item_bytes i ++ after ≡ bs → lead i ≡ get_or bs 0 0
    first bs i after w = rw led at (ap (λ (xs : List ℕ). get_or xs 0 0) w)

-- a procedure, by the bytes behind its operands
pub item_as : (bs : List ℕ) (n : ℕ) (rest : List ℕ) → by_lead (get_or bs 0 0) bs ≡ proc_at bs → 4 ≤ length bs → n ≡ be16 bs 2 → rest ≡ drop 4 bs → (r : Option (Declaration × Bor (List ℕ))) → ReadsProcedure (get_or bs 1 0) n rest r → ReadsItem bs r
item_as bs n rest e h k t r d = carry r d
  where
    same : by_lead (get_or bs 0 0) bs ≡ cut 2 n rest (λ y after. got (proc (get_or bs 1 0) y) after)
    same = e ∙ met 2 4 bs _ h ∙ rw (← k, ← t)

    carry : (r : Option (Declaration × Bor (List ℕ))) → ReadsProcedure (get_or bs 1 0) n rest r → ReadsItem bs r
    carry None d = same ∙ d
    carry (Some x) d = same ∙ d
