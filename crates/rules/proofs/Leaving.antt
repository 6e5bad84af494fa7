-- What calls and refused drives leave as it was.
use Rattle.std.proofs.Common.{◌≡◌, ℕ, zero, suc, ◌+◌, ◌<◌, ◌≤◌, Bool, true, false, cond, ◌&&◌, eqb, ltb, List, [], ◌∷◌, map, length, get_or, set, is_some, is_ok, Option, sym, refl, ap, ◌∙◌, subst, ⊎_elim, arith, length-append}
use Rattle.std.specs.declared.option.Option.TheVariants as option
use Rattle.std.specs.Option.{option_or}
use Rattle.std.proofs.lemmas.List.{length-map, length-set, get_or-set_same, get_or-set_other}
use Rattle.std.proofs.lemmas.Bool.{cond_both, lt-ltb, eq-eqb, ne_eqb, cases_eq, not-true, cond-true, cond-false, false≢true}
use Rattle.layout.specs.declared.Table.{Table}
use Rattle.layout.specs.Tree.{Plain, set_place, copy_place, combine_places, pick_cell, put_cell, drive_device, plain_command}
use Rattle.layout.specs.Declarations.{Declaration}
use Rattle.layout.specs.Packages.{Keeps}
use Rattle.layout.specs.Program.{Program, program, table}
use Rattle.oracle_laws.specs.Sets.{cell_of}
use Rattle.rules.specs.declared.Place.{Place}
use Rattle.rules.specs.declared.Cause.{Cause}
use Rattle.rules.specs.declared.Trail.{Trail}
use Rattle.rules.specs.declared.Call.{Call}
use Rattle.rules.specs.declared.Call.TheVariants.{Post, Cycle, Read, Show}
use Rattle.rules.specs.Assembly.{Assembly}
use Rattle.rules.specs.declared.Context.{Context}
use Rattle.rules.specs.Running.{State, place, at, write, lower_all, lower, told, within, cell_at, put_in, put, obstacle, drive_by, need_of, run_plain, run_entries}
use Rattle.rules.specs.Calls.{Held, place_in, party_frame, new_input, new_cell, new_device, new, post_answer, posted, started, cycle, after, after_all}
use Rattle.rules.specs.Leaves.{AllAsItWas, Whole, AlwaysWhole, latest, InputsArePosted, Unmoved, RefusedUnmoved, TrailStays, TrailTells}
use Rattle.rules.proofs.Legal.{Cells, cells_body, in_table, target_itself}
use Rattle.rules.proofs.Runs.{Steady, keeps_entries}
use Rattle.rules.proofs.Agrees.{new_input_lacks}

-- ---- calls and drives that leave all as it was

pub all_as_it_was_lem : AllAsItWas
all_as_it_was_lem A P (Post o x v) h e = cond-false _ _ _ (not-true _ e)
all_as_it_was_lem A P Cycle h e = absurd (false≢true e)
all_as_it_was_lem A P (Read x q) h e = refl
all_as_it_was_lem A P (Show d) h e = refl

pub refused_unmoved_lem : RefusedUnmoved
refused_unmoved_lem A r offset d need p s e = by_reason (obstacle A r need p) e
  where
    by_reason : (why : Option (Cause × ℕ)) → is_some why ≡ true → Unmoved s (drive_by A why r offset d p s)
    by_reason option.None e = absurd (false≢true e)
    by_reason (option.Some w) e = record { places = refl; devices = refl; steps = refl; refused = refl }

-- ---- runs

-- a run from s to t leaves the number of places and devices, the values of inputs and what is in the trail, and leaves a
-- trail where it refused a drive
record Leaves (inputs : ℕ) (s t : State) : Type 0 where
  places : length t.places ≡ length s.places
  devices : length t.devices ≡ length s.devices
  values : (x : ℕ) → x < inputs → (at t x).value ≡ (at s x).value
  stays : (w : Trail) → s.trail ≡ option.Some w → t.trail ≡ option.Some w
  trail : is_some s.trail ≡ ltb 0 s.refused → is_some t.trail ≡ ltb 0 t.refused

module _ (A : Assembly) where
  length-lower : (N : ℕ → Bool) (g : ℕ) (ps : List Place) → length (lower_all A N g ps) ≡ length ps
  length-lower N g [] = refl
  length-lower N g (p ∷ ps) = ap suc (length-lower (λ x. N (suc x)) g ps)

  value_lower : (N : ℕ → Bool) (g : ℕ) (ps : List Place) (x : ℕ) → (get_or (lower_all A N g ps) x (place 0 0)).value ≡ (get_or ps x (place 0 0)).value
  value_lower N g [] x = refl
  value_lower N g (p ∷ ps) zero = cond_both (N 0) _ _ (λ (z : Place). z.value ≡ p.value) (λ e. refl) (λ e. refl)
  value_lower N g (p ∷ ps) (suc x) = value_lower (λ x. N (suc x)) g ps x

module _ (A : Assembly) (P : Program) where
  abbrev inputs : ℕ
  inputs = length P.contents.inputs

  leaves_next : (s t u : State) → Leaves inputs s t → Leaves inputs t u → Leaves inputs s u
  leaves_next s t u h k = record {
    places = k.places ∙ h.places;
    devices = k.devices ∙ h.devices;
    values = λ x l. k.values x l ∙ h.values x l;
    stays = λ w e. k.stays w (h.stays w e);
    trail = λ e. k.trail (h.trail e);
  }

  leaves_lower : (N : ℕ → Bool) (g : ℕ) (s : State) → Leaves inputs s (lower A N g s)
  leaves_lower N g s = record { places = length-lower A N g s.places; devices = refl; values = λ x l. value_lower A N g s.places x; stays = λ w e. e; trail = λ e. e }

  leaves_write : (y : ℕ) (p : Place) (s : State) → inputs ≤ y → Leaves inputs s (write s y p)
  leaves_write y p s h = record {
    places = length-set s.places y p;
    devices = refl;
    values = λ x l. ap (λ (z : Place). z.value) (get_or-set_other s.places y x p (place 0 0) (λ e. omega arith));
    stays = λ w e. e;
    trail = λ e. e;
  }

  leaves_put : (r : Context) (t : Table) (i p : Place) (s : State) → ((x : ℕ) → cell_of t x ≡ true → inputs ≤ x) → Leaves inputs s (put A r t i p s)
  leaves_put r t i p s h =
      cond_both (within A t i) _ _ (Leaves inputs s)
      (λ e. leaves_next s (lower A (cell_of t) (told A r i) s) _ (leaves_lower (cell_of t) (told A r i) s) (leaves_write (cell_at A t i) (put_in A r i p) (lower A (cell_of t) (told A r i) s) (h _ (in_table t i.value e))))
      (λ e. leaves_lower (cell_of t) (told A r i) s)

  leaves_drive : (why : Option (Cause × ℕ)) (r : Context) (o d : ℕ) (p : Place) (s : State) → Leaves inputs s (drive_by A why r o d p s)
  leaves_drive option.None r o d p s = record { places = refl; devices = length-set s.devices d _; values = λ x l. refl; stays = λ w e. e; trail = λ e. e }
  leaves_drive (option.Some w) r o d p s = record {
    places = refl;
    devices = refl;
    values = λ x l. refl;
    stays = λ t. first_stays s.trail _ t;
    trail = λ e. some_first s.trail _ ∙ sym (lt-ltb 0 (s.refused + 1) (omega arith));
  }
    where
      first_stays : (o p : Option Trail) (t : Trail) → o ≡ option.Some t → option_or o p ≡ option.Some t
      first_stays o p t e = ap (λ (o : Option Trail). option_or o p) e

      some_first : (o : Option Trail) (t : Trail) → is_some (option_or o (option.Some t)) ≡ true
      some_first option.None t = refl
      some_first (option.Some u) t = refl

  leaves_plain : (n o : ℕ) (c : Plain) → Cells P n (plain_command o c) → (r : Context) (s : State) → Leaves inputs s (run_plain A P o c r s)
  leaves_plain n o (set_place x v) h r s = leaves_write x _ s (h x (target_itself x))
  leaves_plain n o (copy_place x a) h r s = leaves_write x _ s (h x (target_itself x))
  leaves_plain n o (combine_places f x a b) h r s = leaves_write x _ s (h x (target_itself x))
  leaves_plain n o (pick_cell x t a) h r s = leaves_write x _ s (h x (target_itself x))
  leaves_plain n o (put_cell t a b) h r s = leaves_put r (table P t) (at s a) (at s b) s h
  leaves_plain n o (drive_device d a) h r s = leaves_drive (obstacle A r (need_of P d) (at s a)) r o d (at s a) s

  steady : Steady A P (Cells P) (Leaves inputs)
  steady = record {
    same = λ s. record { places = refl; devices = refl; values = λ x l. refl; stays = λ w e. e; trail = λ e. e };
    next = leaves_next;
    ticks = λ s. record { places = refl; devices = refl; values = λ x l. refl; stays = λ w e. e; trail = λ e. e };
    lowers = leaves_lower;
    plain = leaves_plain;
  }

-- ---- calls of an accepted package

-- the value at x, after p was put at y
set_value : (ps : List Place) (y : ℕ) (p : Place) (x : ℕ) → x < length ps → (get_or (set ps y p) x (place 0 0)).value ≡ cond (eqb x y) p.value (get_or ps x (place 0 0)).value
set_value ps y p x l =
    ⊎_elim
    (λ (e : x ≡ y).
    subst (λ (z : ℕ). (get_or (set ps z p) x (place 0 0)).value ≡ p.value) e (ap (λ (z : Place). z.value) (get_or-set_same ps x p (place 0 0) l))
    ∙ sym (cond-true _ p.value (get_or ps x (place 0 0)).value (eq-eqb x y e)))
    (λ (n : x ≡ y → ⊥). ap (λ (z : Place). z.value) (get_or-set_other ps y x p (place 0 0) n) ∙ sym (cond-false _ p.value (get_or ps x (place 0 0)).value (ne_eqb x y n)))
    (cases_eq x y)

module _ (A : Assembly) (ds : List Declaration) (keeps : Keeps ds) where
  abbrev P : Program
  P = program ds

  entries_leave : (es : List ℕ) (s : State) → Leaves (length P.contents.inputs) s (run_entries A P es s)
  entries_leave es s = keeps_entries A P (Cells P) (Leaves (length P.contents.inputs)) (steady A P) (cells_body ds keeps) es s

  cycle_leaves : (h : Held) → Leaves (length P.contents.inputs) (started h) (cycle A P h)
  cycle_leaves h = entries_leave P.contents.entries (started h)

  whole_new : Whole P.contents (new P)
  whole_new = record {
    places =
        length-append (map (new_input P) P.contents.inputs) (map new_cell P.contents.cells) ∙ rw (length-map P.contents.inputs (new_input P), length-map P.contents.cells new_cell);
    devices = length-map P.contents.needs new_device;
  }

  whole_after : (c : Call) (h : Held) → Whole P.contents h → Whole P.contents (after A P c h)
  whole_after (Post o x v) h w =
      cond_both (is_ok (post_answer P o x)) _ _ (Whole P.contents) (λ e. record { places = length-set h.places x _ ∙ w.places; devices = w.devices }) (λ e. w)
  whole_after Cycle h w = let l = cycle_leaves h in record { places = l.places ∙ w.places; devices = l.devices ∙ w.devices }
  whole_after (Read x q) h w = w
  whole_after (Show d) h w = w

  pub whole_all : (cs : List Call) (h : Held) → Whole P.contents h → Whole P.contents (after_all A P cs h)
  whole_all [] h w = w
  whole_all (c ∷ cs) h w = whole_all cs (after A P c h) (whole_after c h w)

  -- the value of input x after a post: that of the post where it is accepted and to x
  posted_value : (o y v : ℕ) (h : Held) (x : ℕ) → x < length h.places → (place_in (posted P o y v h) x).value ≡ cond (is_ok (post_answer P o y) && eqb x y) v (place_in h x).value
  posted_value o y v h x l = by_test (is_ok (post_answer P o y))
    where
      by_test : (b : Bool) → (place_in (cond b (record { places = set h.places y (place v (party_frame P o)); devices = h.devices; trail = h.trail }) h) x).value ≡ cond (b && eqb x y) v (place_in h x).value
      by_test true = set_value h.places y (place v (party_frame P o)) x l
      by_test false = refl

  values_all : (cs : List Call) (h : Held) → Whole P.contents h → (x : ℕ) → x < length P.contents.inputs → (place_in (after_all A P cs h) x).value ≡ latest P x cs (place_in h x).value
  values_all [] h w x l = refl
  values_all (Post o y v ∷ cs) h w x l =
      values_all cs (posted P o y v h) (whole_after (Post o y v) h w) x l ∙ ap (latest P x cs) (posted_value o y v h x (omega (arith, w.places)))
  values_all (Cycle ∷ cs) h w x l = values_all cs (after A P Cycle h) (whole_after Cycle h w) x l ∙ ap (latest P x cs) ((cycle_leaves h).values x l)
  values_all (Read y q ∷ cs) h w x l = values_all cs h w x l
  values_all (Show d ∷ cs) h w x l = values_all cs h w x l

pub always_whole_lem : AlwaysWhole
always_whole_lem A ds keeps cs = whole_all A ds keeps cs (new (program ds)) (whole_new A ds keeps)

pub inputs_are_posted_lem : InputsArePosted
inputs_are_posted_lem A ds keeps cs x l =
    values_all A ds keeps cs (new (program ds)) (whole_new A ds keeps) x l
    ∙ ap (λ (p : Place). latest (program ds) x cs p.value) (new_input_lacks (program ds) x l)

pub trail_stays_lem : TrailStays
trail_stays_lem A ds keeps es s t e = (entries_leave A ds keeps es s).stays t e

pub trail_tells_lem : TrailTells
trail_tells_lem A ds keeps h = (cycle_leaves A ds keeps h).trail refl
