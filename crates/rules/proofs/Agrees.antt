-- Two controllers that right q cannot tell apart, call by call.
use Rattle.std.proofs.Common.{◌≡◌, ℕ, ◌<◌, Bool, true, false, cond, not, ◌&&◌, eqb, ltb, List, [], ◌∷◌, map, length, get_or, is_ok, Some, None, Ok, Option, Result, sym, refl, ap, ◌∙◌, ap₂, inl, inr, ⊎_elim, arith}
use borrow.Author.Clash.{clash}
use Rattle.std.proofs.lemmas.List.{length-map, get_or_append_left, get_or-map}
use Rattle.std.proofs.lemmas.Bool.{cond_both, ltb-true, eqb-true, and_parts, not-true, not-false, cases_Bool, cond-false, false≢true}
use Rattle.frames.specs.Kinds.{Lawful}
use Rattle.layout.specs.Program.{Program, program, body}
use Rattle.oracle_laws.proofs.Every.{EveryBlock}
use Rattle.rules.specs.declared.Place.{Place}
use Rattle.rules.specs.declared.Device.{Device}
use Rattle.rules.specs.declared.Refusal.{Refusal}
use Rattle.rules.specs.declared.Refusal.TheVariants.{NoSuchParty, NoSuchPlace, NotItsInput, NoSuchRight, NotTrusted}
use Rattle.rules.specs.declared.Call.{Call}
use Rattle.rules.specs.declared.Call.TheVariants as call
use Rattle.rules.specs.Assembly.{Assembly}
use Rattle.rules.specs.Running.{place}
use Rattle.rules.specs.Calls.{Held, place_in, party_frame, new_input, new_cell, new, is_party, is_place, is_right, no_input, owns, demand, post_answer, read_answer, started, kept, cycle, after}
use Rattle.rules.specs.Agreement.{Seen, struck, remaining, needing, devices_seen, read_seen, seen_from, seen, Agreement}
use Rattle.rules.proofs.Tests.{by_cond₂}
use Rattle.rules.proofs.Each.{Each, each_set, each_set_left, each_self, each_at}
use Rattle.rules.proofs.Legal.{Fits, fits_body}
use Rattle.rules.proofs.InStep.{lacks, hidden, Alike, AlikeAt, ShowsAt, InStep, shows_refl, locked_entries}

-- ---- posts

-- a post is accepted where all three tests pass
pub accepted_post : (P : Program) (o x : ℕ) → is_ok (post_answer P o x) ≡ true → (is_party P o ≡ true) × (is_place P x ≡ true) × (owns P o x ≡ true)
accepted_post P o x e = all_three (is_party P o) (is_place P x) (owns P o x) e
  where
    all_three : (a b c : Bool) → is_ok (demand {X = Unit {0}} a NoSuchParty (demand b NoSuchPlace (demand c NotItsInput (Ok tt)))) ≡ true → (a ≡ true) × (b ≡ true) × (c ≡ true)
    all_three true true true e = (refl, refl, refl)
    all_three true true false e = absurd (false≢true e)
    all_three true false c e = absurd (false≢true e)
    all_three false b c e = absurd (false≢true e)

-- a new input, with its party's frame
pub new_input_lacks : (P : Program) (x : ℕ) → x < length P.contents.inputs → place_in (new P) x ≡ new_input P (get_or P.contents.inputs x no_input)
new_input_lacks P x h =
    let l : x < length (map (new_input P) P.contents.inputs) = omega (arith, length-map P.contents.inputs (new_input P)) in
    get_or_append_left (map (new_input P) P.contents.inputs) (map new_cell P.contents.cells) (place 0 0) x l ∙ get_or-map (new_input P) P.contents.inputs x no_input (place 0 0) h

module _ (A : Assembly) (L : Lawful A.kind) (P : Program) (q : ℕ) where
  -- an input is hidden as the frame of its party says
  owner_hides : (o x : ℕ) → owns P o x ≡ true → hidden A L P q x ≡ not (A.kind.holds (party_frame P o) q)
  owner_hides o x e =
      let h = and_parts (ltb x (length P.contents.inputs)) (eqb (get_or P.contents.inputs x no_input).party o) e in
      let i : (get_or P.contents.inputs x no_input).party ≡ o = eqb-true _ _ h.1 in
      ap (λ (b : Bool). b && not (A.kind.holds (party_frame P (get_or P.contents.inputs x no_input).party) q)) h.0 ∙ ap (λ (n : ℕ). not (A.kind.holds (party_frame P n) q)) i

  -- ---- two controllers

  -- the invariant: places are alike, and the devices that need q show the same
  pub record Agree (h g : Held) : Type 0 where
    pub places : Each (AlikeAt A L P q) h.places g.places
    pub devices : Each (ShowsAt A L P q) h.devices g.devices

  pub agree_at : (h g : Held) → Agree h g → (x : ℕ) → Alike A L P q (place_in h x) (place_in g x)
  agree_at h g a x =
      each_at (AlikeAt A L P q) (λ i. Alike A L P q) (λ i x y. elim [ inl e ↦ inl e.1 | inr l ↦ inr l ]) (place 0 0) (λ i. inl refl) h.places g.places x a.places

  -- a new controller agrees with itself: a hidden input has its party's frame
  pub agree_new : Agree (new P) (new P)
  agree_new = record {
    places = each_self (AlikeAt A L P q) (place 0 0) (new P).places alike;
    devices = shows_refl A L P q (new P).devices;
  }
    where
      alike : (x : ℕ) → AlikeAt A L P q x (place_in (new P) x) (place_in (new P) x)
      alike x =
          ⊎_elim
          (λ e.
          let h = and_parts _ _ e in
          let l : lacks A L P q (place_in (new P) x).frame =
          ap (λ (p : Place). A.kind.holds p.frame q) (new_input_lacks P x (ltb-true _ _ h.0)) ∙ not-true _ h.1 in
          inr (l, l))
          (λ e. inl (e, refl))
          (cases_Bool (hidden A L P q x))

  -- a post of a party without q, on one side
  pub agree_struck : (c : Call) → struck A P q c ≡ true → (h g : Held) → Agree h g → Agree (after A P c h) g
  agree_struck (call.Post o x v) k h g a =
      cond_both (is_ok (post_answer P o x)) _ _ (λ (z : Held). Agree z g)
      (λ e.
      let i = accepted_post P o x e in
      let l = without i.0 in
      record {
        places = each_set_left (AlikeAt A L P q) h.places g.places x _ a.places (λ y z. elim [ inl s ↦ clash _ (owner_hides o x i.2 ∙ ap not l) s.0 | inr s ↦ inr (l, s.1) ]);
        devices = a.devices;
      })
      (λ e. a)
    where
      without : is_party P o ≡ true → lacks A L P q (party_frame P o)
      without e = rw e at (not-true _ k)
  agree_struck call.Cycle k h g a = clash _ k refl
  agree_struck (call.Read x p) k h g a = clash _ k refl
  agree_struck (call.Show d) k h g a = clash _ k refl

  module _ (small : q < 64) (fit : (p : ℕ) → EveryBlock (Fits P A.names) (body P p)) where
    pub agree_cycle : (h g : Held) → Agree h g → Agree (kept (cycle A P h)) (kept (cycle A P g))
    agree_cycle h g a =
        let s : InStep A L P q (started h) (started g) = record { places = a.places; devices = a.devices } in
        let e = locked_entries A L P q small fit P.contents.entries (started h) (started g) s in
        record { places = e.places; devices = e.devices }

    -- any other call, on both sides
    pub agree_call : (c : Call) → struck A P q c ≡ false → (h g : Held) → Agree h g → Agree (after A P c h) (after A P c g)
    agree_call (call.Post o x v) k h g a =
        by_cond₂ Agree (is_ok (post_answer P o x))
        (λ e.
        let i = accepted_post P o x e in
        let l = (and_parts _ _ (not-false _ k)).1 in
        record {
          places = each_set (AlikeAt A L P q) h.places g.places x _ _ a.places (inl (owner_hides o x i.2 ∙ ap not l, refl));
          devices = a.devices;
        })
        (λ e. a)
    agree_call call.Cycle k h g a = agree_cycle h g a
    agree_call (call.Read x p) k h g a = a
    agree_call (call.Show d) k h g a = a

  -- ---- what is seen of controllers that agree

  same_devices : (ns : List ℕ) (ds es : List Device) → Each (λ i u v. A.kind.holds (get_or ns i 0) q ≡ true → u ≡ v) ds es → needing A P q ns ds ≡ needing A P q ns es
  same_devices [] ds es h = refl
  same_devices (n ∷ ns) [] [] h = refl
  same_devices (n ∷ ns) [] (e ∷ es) h = elim h [ ]
  same_devices (n ∷ ns) (d ∷ ds) [] h = elim h [ ]
  same_devices (n ∷ ns) (d ∷ ds) (e ∷ es) h =
      by_cond₂ ◌≡◌ (A.kind.holds n q) (λ b. ap₂ ◌∷◌ (h.0 b) (same_devices ns ds es h.1)) (λ b. same_devices ns ds es h.1)

  pub agree_devices : (h g : Held) → Agree h g → devices_seen A P q h ≡ devices_seen A P q g
  agree_devices h g a = same_devices P.contents.needs h.devices g.devices a.devices

  -- what a read of place x for q answers, by what the place holds
  abbrev read_of : ℕ → Place → Result (ℕ × ℕ) Refusal
  read_of x p = demand (is_place P x) NoSuchPlace (demand (is_right q) NoSuchRight (demand (A.kind.holds p.frame q) NotTrusted (Ok (p.value, p.frame))))

  same_read : (x : ℕ) (p o : Place) → Alike A L P q p o → read_of x p ≡ read_of x o
  same_read x p o (inl e) = ap (read_of x) e
  same_read x p o (inr l) =
      ap (λ (r : Result (ℕ × ℕ) Refusal). demand (is_place P x) NoSuchPlace (demand (is_right q) NoSuchRight r)) (cond-false _ _ _ l.0 ∙ sym (cond-false _ _ _ l.1))

  pub agree_read : (h g : Held) → Agree h g → (x : ℕ) → read_answer A P h x q ≡ read_answer A P g x q
  agree_read h g a x = same_read x (place_in h x) (place_in g x) (agree_at h g a x)

  agree_seen : (c : Call) (h g : Held) → Agree h g → read_seen A P q c h ≡ read_seen A P q c g
  agree_seen (call.Post o x v) h g a = refl
  agree_seen call.Cycle h g a = refl
  agree_seen (call.Read x p) h g a = ap (λ (r : Result (ℕ × ℕ) Refusal). cond (eqb p q) (Some r) None) (agree_read h g a x)
  agree_seen (call.Show d) h g a = refl

  seens : (ds es : List Device) (r s : Option (Result (ℕ × ℕ) Refusal)) → ds ≡ es → r ≡ s → ◌≡◌ {A = Seen} (record { devices = ds; read = r }) (record { devices = es; read = s })
  seens ds es r s e f = rw (e, f)

  -- ---- lists of calls

  module _ (small : q < 64) (fit : (p : ℕ) → EveryBlock (Fits P A.names) (body P p)) where
    -- what is seen of a list of calls is what is seen of those that remain
    seen_remaining : (cs : List Call) (h g : Held) → Agree h g → seen_from A P q cs h ≡ seen_from A P q (remaining A P q cs) g
    seen_remaining [] h g a = refl
    seen_remaining (c ∷ cs) h g a =
        ⊎_elim
        (λ e. rw e (seen_remaining cs (after A P c h) g (agree_struck c e h g a)))
        (λ e.
        let b = agree_call small fit c e h g a in
        rw (e, e)
        (ap₂ ◌∷◌ (seens _ _ _ _ (agree_devices (after A P c h) (after A P c g) b) (agree_seen c h g a)) (seen_remaining cs (after A P c h) (after A P c g) b)))
        (cases_Bool (struck A P q c))

    pub seen_new : (cs : List Call) → seen A P q cs ≡ record { devices = devices_seen A P q (new P); read = None } ∷ seen_from A P q (remaining A P q cs) (new P)
    seen_new cs = ap (λ (ss : List Seen). record { devices = devices_seen A P q (new P); read = None } ∷ ss) (seen_remaining cs (new P) (new P) agree_new)

pub agreement_lem : Agreement
agreement_lem ds keeps A law q small cs es e =
    let fit = fits_body ds keeps A.names law.oracle in
    seen_new A law.frames (program ds) q small fit cs
    ∙ ap (λ (rs : List Call). record { devices = devices_seen A (program ds) q (new (program ds)); read = None } ∷ seen_from A (program ds) q rs (new (program ds))) e
    ∙ sym (seen_new A law.frames (program ds) q small fit es)
