-- Two runs of the same commands that right q cannot tell apart.
use Rattle.std.proofs.Common.{◌≡◌, ℕ, zero, suc, ◌<◌, ◌≤◌, Bool, true, false, cond, not, ◌&&◌, eqb, ltb, ◌⊎◌, List, [], ◌∷◌, length, get_or, Option, sym, refl, ap, ◌∙◌, subst, inl, inr, ⊎_elim, arith}
use borrow.Author.Clash.{clash}
use Rattle.std.specs.declared.option.Option.TheVariants as option
use Rattle.std.specs.Option.{option_or}
use Rattle.std.proofs.lemmas.Bool.{cond_both, le-ltb, eqb-true, cases_Bool, or_left, or_right}
use Rattle.frames.specs.Kinds.{Lawful, gap}
use Rattle.frames.proofs.Gaps.{gap_covers}
use Rattle.layout.specs.declared.Table.{Table}
use Rattle.layout.specs.Tree.{Operation, Plain, set_place, copy_place, combine_places, pick_cell, put_cell, drive_device, asked, Command, plain_command, choose_block, loop_block, grant_block, call_procedure, Commands, no_commands, then_command, Block, numbered_block}
use Rattle.layout.specs.Program.{Program, body, table}
use Rattle.oracle_laws.specs.Sets.{cell_of}
use Rattle.oracle_laws.proofs.Every.{EveryIn, EveryCommands, EveryBlock}
use Rattle.rules.specs.declared.Place.{Place}
use Rattle.rules.specs.declared.Device.{Device}
use Rattle.rules.specs.declared.Cause.{Cause}
use Rattle.rules.specs.declared.Cause.TheVariants as cause
use Rattle.rules.specs.Assembly.{Assembly}
use Rattle.rules.specs.declared.Context.{Context}
use Rattle.rules.specs.Running.{State, place, device, at, tick, write, given, told, basis, under, granted, lowered, lower_all, lower, set_to, copied, combined, within, cell_at, picked, pick, put_in, put, because, obstacle, drive_by, drive, takes, decide, turns, need_of, named, either, run_plain, run, run_commands, run_block, entering, calls, fresh, run_entries}
use Rattle.rules.specs.Calls.{party_frame, no_input}
use Rattle.rules.proofs.Tests.{by_cond₂, not_within}
use Rattle.rules.proofs.Each.{Each, each_refl, each_weaker, each_trans, each_at, each_set, each_set_right, each_join}
use Rattle.rules.proofs.Legal.{Fits, in_table, target_itself}

-- ---- small facts

first_none : {X : Type 0} (x y : Option X) → option_or x y ≡ option.None → y ≡ option.None
first_none (option.Some x) y e = let z : ◌≡◌ {A = ℕ} 0 1 = cc in absurd (omega arith)
first_none option.None y e = e

no_cause : (A : Assembly) (c : Cause) (g : Option ℕ) → because A c g ≡ option.None → g ≡ option.None
no_cause A c (option.Some x) e = let z : ◌≡◌ {A = ℕ} 0 1 = cc in absurd (omega arith)
no_cause A c option.None e = refl

abbrev Names : Type 0
Names = ℕ → Bool

-- all that M names, N names
abbrev Sub : Names → Names → Type 0
Sub M N = (x : ℕ) → M x ≡ true → N x ≡ true

module _ (A : Assembly) (L : Lawful A.kind) (P : Program) (q : ℕ) where
  -- ---- frames that hold q, and frames that lack it

  abbrev pub holds : ℕ → Type 0
  holds f = A.kind.holds f q ≡ true

  abbrev pub lacks : ℕ → Type 0
  lacks f = A.kind.holds f q ≡ false

  pub lacks_left : {a b : ℕ} → lacks a → lacks (A.kind.mix a b)
  lacks_left {a} {b} e = grind (arith, L.mix_holds)

  pub lacks_right : {a b : ℕ} → lacks b → lacks (A.kind.mix a b)
  lacks_right {a} {b} e = grind (arith, L.mix_holds)

  holds_both : {a b : ℕ} → holds a → holds b → holds (A.kind.mix a b)
  holds_both {a} {b} e h = grind (arith, L.mix_holds)

  -- a drive by what lacks q is refused where the need holds q
  never_driven : (r : Context) (need : ℕ) (p : Place) → lacks (basis A r p) → holds need → obstacle A r need p ≡ option.None → ⊥
  never_driven r need p l h e =
      clash _ (gap_covers A.kind L (basis A r p) need (no_cause A cause.Information (gap A.kind (basis A r p) need) (first_none _ _ e)) q h) l

  -- ---- relations

  -- an input of a party without q
  abbrev pub hidden : ℕ → Bool
  hidden x = ltb x (length P.contents.inputs) && not (A.kind.holds (party_frame P (get_or P.contents.inputs x no_input).party) q)

  pub cell_shown : (x : ℕ) → length P.contents.inputs ≤ x → hidden x ≡ false
  cell_shown x h = let e = le-ltb x (length P.contents.inputs) h in rw e

  -- what two places hold: the same, or both lack q
  abbrev pub Alike : Place → Place → Type 0
  Alike p o = (p ≡ o) ⊎ (lacks p.frame × lacks o.frame)

  -- and a hidden place lacks q
  abbrev pub AlikeAt : ℕ → Place → Place → Type 0
  AlikeAt x p o = ((hidden x ≡ false) × (p ≡ o)) ⊎ (lacks p.frame × lacks o.frame)

  -- what device d shows is the same where it needs q
  abbrev pub ShowsAt : ℕ → Device → Device → Type 0
  ShowsAt d u v = holds (need_of P d) → u ≡ v

  -- two runs: places are alike, and the devices that need q show the same
  pub record InStep (s t : State) : Type 0 where
    pub places : Each AlikeAt s.places t.places
    pub devices : Each ShowsAt s.devices t.devices

  abbrev KeptAt : Names → ℕ → Place → Place → Type 0
  KeptAt N x p o = N x ≡ false → p ≡ o

  abbrev ClosedAt : Names → ℕ → Place → Place → Type 0
  ClosedAt N x p o = (N x ≡ false → p ≡ o) × (N x ≡ true → lacks o.frame)

  -- one run, from s to t: only named places have changed, and no device that needs q
  record Confined (N : Names) (s t : State) : Type 0 where
    places : Each (KeptAt N) s.places t.places
    devices : Each ShowsAt s.devices t.devices

  -- and the named places lack q now
  record Closed (N : Names) (s t : State) : Type 0 where
    places : Each (ClosedAt N) s.places t.places
    devices : Each ShowsAt s.devices t.devices

  pub shows_refl : (ds : List Device) → Each ShowsAt ds ds
  shows_refl = each_refl ShowsAt (λ d v h. refl)

  shows_trans : (us vs ws : List Device) → Each ShowsAt us vs → Each ShowsAt vs ws → Each ShowsAt us ws
  shows_trans = each_trans ShowsAt ShowsAt ShowsAt (λ i x y z f g h. f h ∙ g h)

  -- ---- lowered places

  abbrev low : Names → ℕ → ℕ → Place → Place
  low N g i p = cond (N i) (lowered A g p) p

  each_lower : (N : Names) (g : ℕ) (Q W : ℕ → Place → Place → Type 0) → ((i : ℕ) (x y : Place) → Q i x y → W i (low N g i x) (low N g i y)) → (xs ys : List Place) → Each Q xs ys → Each W (lower_all A N g xs) (lower_all A N g ys)
  each_lower N g Q W f [] [] h = tt
  each_lower N g Q W f [] (y ∷ ys) h = elim h [ ]
  each_lower N g Q W f (x ∷ xs) [] h = elim h [ ]
  each_lower N g Q W f (x ∷ xs) (y ∷ ys) h = (f 0 x y h.0, each_lower (λ i. N (suc i)) g (λ i. Q (suc i)) (λ i. W (suc i)) (λ i. f (suc i)) xs ys h.1)

  each_lower_right : (N : Names) (g : ℕ) (Q W : ℕ → Place → Place → Type 0) → ((i : ℕ) (x y : Place) → Q i x y → W i x (low N g i y)) → (xs ys : List Place) → Each Q xs ys → Each W xs (lower_all A N g ys)
  each_lower_right N g Q W f [] [] h = tt
  each_lower_right N g Q W f [] (y ∷ ys) h = elim h [ ]
  each_lower_right N g Q W f (x ∷ xs) [] h = elim h [ ]
  each_lower_right N g Q W f (x ∷ xs) (y ∷ ys) h = (f 0 x y h.0, each_lower_right (λ i. N (suc i)) g (λ i. Q (suc i)) (λ i. W (suc i)) (λ i. f (suc i)) xs ys h.1)

  -- ---- confined runs

  confined_refl : {N : Names} {s : State} → Confined N s s
  confined_refl {N} {s} = record { places = each_refl (KeptAt N) (λ i x h. refl) s.places; devices = shows_refl s.devices }

  confined_trans : {N : Names} {s t u : State} → Confined N s t → Confined N t u → Confined N s u
  confined_trans {N} {s} {t} {u} h k = record {
    places = each_trans (KeptAt N) (KeptAt N) (KeptAt N) (λ i x y z f g e. f e ∙ g e) s.places t.places u.places h.places k.places;
    devices = shows_trans s.devices t.devices u.devices h.devices k.devices;
  }

  confined_wider : {M N : Names} {s t : State} → Sub M N → Confined M s t → Confined N s t
  confined_wider {M} {N} {s} {t} h k = record {
    places = each_weaker (KeptAt M) (KeptAt N) (λ i x y f e. f (not_within (M i) (N i) (h i) e)) s.places t.places k.places;
    devices = k.devices;
  }

  confined_tick : {N : Names} {s : State} → Confined N s (tick s)
  confined_tick {N} {s} = record { places = each_refl (KeptAt N) (λ i x h. refl) s.places; devices = shows_refl s.devices }

  confined_write : {N : Names} {s t : State} (x : ℕ) (p : Place) → N x ≡ true → Confined N s t → Confined N s (write t x p)
  confined_write {N} {s} {t} x p n h = record {
    places = each_set_right (KeptAt N) s.places t.places x p h.places (λ a b k e. clash _ n e);
    devices = h.devices;
  }

  confined_lower : {M N : Names} {s t : State} → Sub M N → (g : ℕ) → Confined N s t → Confined N s (lower A M g t)
  confined_lower {M} {N} {s} {t} h g k = record {
    places = each_lower_right M g (KeptAt N) (KeptAt N) (λ i x y f e. let m = not_within (M i) (N i) (h i) e in rw m (f e)) s.places t.places k.places;
    devices = k.devices;
  }

  -- the closing lowering: by a frame that lacks q
  close : {N : Names} {s t : State} (g : ℕ) → lacks g → Confined N s t → Closed N s (lower A N g t)
  close {N} {s} {t} g l k = record {
    places = each_lower_right N g (KeptAt N) (ClosedAt N) (λ i x y f. ((λ e. rw e (f e)), (λ e. rw e (lacks_right l)))) s.places t.places k.places;
    devices = k.devices;
  }

  closed_after : {N : Names} {s t u : State} → Confined N s t → Closed N t u → Closed N s u
  closed_after {N} {s} {t} {u} h k = record {
    places = each_trans (KeptAt N) (ClosedAt N) (ClosedAt N) (λ i x y z f g. ((λ e. f e ∙ g.0 e), g.1)) s.places t.places u.places h.places k.places;
    devices = shows_trans s.devices t.devices u.devices h.devices k.devices;
  }

  closed_write : {N : Names} {s t : State} (x : ℕ) (p : Place) → N x ≡ true → lacks p.frame → Closed N s t → Closed N s (write t x p)
  closed_write {N} {s} {t} x p n l h = record {
    places = each_set_right (ClosedAt N) s.places t.places x p h.places (λ a b k. ((λ e. clash _ n e), (λ e. l)));
    devices = h.devices;
  }

  -- two runs in step, each closed by itself, are in step again
  closed_in_step : {N : Names} {s t s' t' : State} → InStep s t → Closed N s s' → Closed N t t' → InStep s' t'
  closed_in_step {N} {s} {t} {s'} {t'} h k l = record {
    places = each_join AlikeAt (ClosedAt N) over s.places t.places s'.places t'.places h.places k.places l.places;
    devices = each_join ShowsAt ShowsAt (λ i x y x' y' a b c e. sym (b e) ∙ a e ∙ c e) s.devices t.devices s'.devices t'.devices h.devices k.devices l.devices;
  }
    where
      over : (i : ℕ) (x y x' y' : Place) → AlikeAt i x y → ClosedAt N i x x' → ClosedAt N i y y' → AlikeAt i x' y'
      over i x y x' y' a b c =
          ⊎_elim
          (λ e. inr (b.1 e, c.1 e))
          (λ e. subst (λ (z : Place). AlikeAt i z y') (b.0 e) (subst (λ (z : Place). AlikeAt i x z) (c.0 e) a))
          (cases_Bool (N i))

  -- a PUT whose index lacks q closes every cell of the table
  closed_put : (r : Context) (t : Table) (i p : Place) (s : State) → lacks (told A r i) → Closed (cell_of t) s (put A r t i p s)
  closed_put r t i p s l =
      let k : Closed (cell_of t) s (lower A (cell_of t) (told A r i) s) = close (told A r i) l confined_refl in
      cond_both (within A t i) _ _ (Closed (cell_of t) s)
      (λ e. closed_write (cell_at A t i) (put_in A r i p) (in_table t i.value e) (lacks_right (lacks_left l)) k)
      (λ e. k)

  -- ---- confinement: under decisions that lack q, only named places change, and no device that needs q

  abbrev ConfinedRun : Names → (Context → State → State) → Type 0
  ConfinedRun N f = (r : Context) (s : State) → lacks r.decisions → Confined N s (f r s)

  confined_choice : {N : Names} (f g : Context → State → State) → ConfinedRun N f → ConfinedRun N g → (b : Bool) (r : Context) (s : State) → lacks r.decisions → Confined N s (cond b (f r s) (g r s))
  confined_choice {N} f g y n b r s l = cond_both b _ _ (Confined N s) (λ e. y r s l) (λ e. n r s l)

  confined_decide : {M N : Names} → Sub M N → (f g : Context → State → State) → ConfinedRun N f → ConfinedRun N g → (b : Bool) (p : Place) (r : Context) (s : State) → lacks r.decisions → Confined N s (decide A M f g b p r s)
  confined_decide h f g y n b p r s l = confined_lower h _ (confined_choice f g y n b (under A r (told A r p)) s (lacks_left l))

  confined_turns : (N : Names) (f : Context → State → State) → ConfinedRun N f → (a k w : ℕ) (r : Context) (s : State) → lacks r.decisions → Confined N s (turns A N f a k w r s)
  confined_turns N f h a zero w r s l = confined_lower (λ x e. e) _ confined_refl
  confined_turns N f h a (suc k) w r s l =
      let v : ℕ = A.kind.mix w (told A r (at s a)) in
      cond_both (eqb (at s a).value 0) _ _ (Confined N s)
      (λ e. confined_lower (λ x e. e) _ confined_tick)
      (λ e. confined_trans confined_tick (confined_trans (h (under A r v) (tick s) (lacks_left l)) (confined_turns N f h a k v r (f (under A r v) (tick s)) l)))

  confined_put : {N : Names} (t : Table) → Sub (cell_of t) N → (r : Context) (i p : Place) (s : State) → Confined N s (put A r t i p s)
  confined_put {N} t h r i p s =
      let k : Confined N s (lower A (cell_of t) (told A r i) s) = confined_lower h (told A r i) confined_refl in
      cond_both (within A t i) _ _ (Confined N s)
      (λ e. confined_write (cell_at A t i) (put_in A r i p) (h (cell_at A t i) (in_table t i.value e)) k)
      (λ e. k)

  confined_drive_by : {N : Names} (why : Option (Cause × ℕ)) (r : Context) (o d : ℕ) (p : Place) (s : State) → (why ≡ option.None → holds (need_of P d) → ⊥) → Confined N s (drive_by A why r o d p s)
  confined_drive_by {N} option.None r o d p s h = record {
    places = each_refl (KeptAt N) (λ i x e. refl) s.places;
    devices = each_set_right ShowsAt s.devices s.devices d _ (shows_refl s.devices) (λ u v f n. absurd (h refl n));
  }
  confined_drive_by {N} (option.Some w) r o d p s h = record { places = each_refl (KeptAt N) (λ i x e. refl) s.places; devices = shows_refl s.devices }

  confined_drive : {N : Names} (r : Context) (o d : ℕ) (p : Place) (s : State) → lacks (basis A r p) → Confined N s (drive A r o d (need_of P d) p s)
  confined_drive r o d p s l = confined_drive_by (obstacle A r (need_of P d) p) r o d p s (λ e h. never_driven r (need_of P d) p l h e)

  abbrev Calls : Type 0
  Calls = ℕ → Context → State → State

  abbrev ConfinedCalls : Calls → Type 0
  ConfinedCalls call = (p : ℕ) → ConfinedRun (named A P (body P p)) (call p)

  abbrev Fit : ℕ → Command → Type 0
  Fit = Fits P A.names

  confined_plain : (n o : ℕ) (c : Plain) → Fit n (plain_command o c) → ConfinedRun (A.names n) (run_plain A P o c)
  confined_plain n o (set_place x v) h r s l = confined_write x _ (h.0.0 x (target_itself x)) confined_refl
  confined_plain n o (copy_place x a) h r s l = confined_write x _ (h.0.0 x (target_itself x)) confined_refl
  confined_plain n o (combine_places f x a b) h r s l = confined_write x _ (h.0.0 x (target_itself x)) confined_refl
  confined_plain n o (pick_cell x t a) h r s l = confined_write x _ (h.0.0 x (target_itself x)) confined_refl
  confined_plain n o (put_cell t a b) h r s l = confined_put (table P t) h.0.0 r (at s a) (at s b) s
  confined_plain n o (drive_device d a) h r s l = confined_drive r o d (at s a) s (lacks_left l)

  either_within : (b e : Block) {N : Names} → Sub (named A P b) N → Sub (named A P e) N → Sub (either A P b e) N
  either_within b e {N} f g x = let h = f x in let k = g x in grind arith

  module _ (call : Calls) (quiet : ConfinedCalls call) where
    mutual
      confined : (n : ℕ) (c : Command) → Fit n c → EveryIn Fit c → ConfinedRun (A.names n) (run A P call c)
      confined n (plain_command o c) h i r s l = confined_trans confined_tick (confined_plain n o c h r (tick s) l)
      confined n (choose_block c b e) h i r s l =
          confined_trans confined_tick
          (confined_decide (either_within b e h.0.1.0 h.0.1.1.0) (run_block A P call b) (run_block A P call e)
          (λ r s l. confined_wider h.0.1.0 (confined_block b i.0 r s l)) (λ r s l. confined_wider h.0.1.1.0 (confined_block e i.1 r s l))
          (takes A c r (at s (asked c))) (at s (asked c)) r (tick s) l)
      confined n (loop_block a k b) h i r s l =
          confined_trans confined_tick (confined_wider h.0.1.0 (confined_turns (named A P b) (run_block A P call b) (confined_block b i) a k A.kind.full r (tick s) l))
      confined n (grant_block g b) h i r s l = confined_trans confined_tick (confined_wider h.0.1.0 (confined_block b i (granted A r g) (tick s) l))
      confined n (call_procedure p) h i r s l = confined_trans confined_tick (confined_wider h.0.1.0 (quiet p r (tick s) l))

      confined_all : (n : ℕ) (cs : Commands) → EveryCommands Fit n cs → ConfinedRun (A.names n) (run_commands A P call cs)
      confined_all n no_commands h r s l = confined_refl
      confined_all n (then_command c cs) h r s l = confined_trans (confined n c h.0 h.1 r s l) (confined_all n cs h.2 r (run A P call c r s) l)

      confined_block : (b : Block) → EveryBlock Fit b → ConfinedRun (named A P b) (run_block A P call b)
      confined_block (numbered_block n cs) h r s l = confined_all n cs h r s l

  confined_calls : ((p : ℕ) → EveryBlock Fit (body P p)) → (k : ℕ) → ConfinedCalls (calls A P k)
  confined_calls fit zero p r s l = confined_refl
  confined_calls fit (suc k) p r s l =
      cond_both (eqb p k) _ _ (Confined (named A P (body P p)) s)
      (λ e. subst (λ (j : ℕ). Confined (named A P (body P j)) s (run_block A P (calls A P k) (body P k) (entering A P k r) s)) (sym (eqb-true p k e))
      (confined_block (calls A P k) (confined_calls fit k) (body P k) (fit k) (entering A P k r) s l))
      (λ e. confined_calls fit k p r s l)

  -- ---- closed runs: under a decision that lacks q, the closing lowering included

  closed_decide : {N : Names} (f g : Context → State → State) → ConfinedRun N f → ConfinedRun N g → (b : Bool) (p : Place) (r : Context) (s : State) → lacks (told A r p) → Closed N s (decide A N f g b p r s)
  closed_decide f g y n b p r s l = close (told A r p) l (confined_choice f g y n b (under A r (told A r p)) s (lacks_right l))

  -- a turn whose decision lacks q, where the turns after it are closed
  closed_turn : (N : Names) (f : Context → State → State) → ConfinedRun N f → (a k w : ℕ) (r : Context) (s : State) → ((w : ℕ) (s : State) → lacks w → Closed N s (turns A N f a k w r s)) → lacks (A.kind.mix w (told A r (at s a))) → Closed N s (turns A N f a (suc k) w r s)
  closed_turn N f h a k w r s more l =
      let v : ℕ = A.kind.mix w (told A r (at s a)) in
      cond_both (eqb (at s a).value 0) _ _ (Closed N s)
      (λ e. close v l confined_tick)
      (λ e. closed_after confined_tick (closed_after (h (under A r v) (tick s) (lacks_right l)) (more v (f (under A r v) (tick s)) l)))

  closed_turns : (N : Names) (f : Context → State → State) → ConfinedRun N f → (a k : ℕ) (r : Context) (w : ℕ) (s : State) → lacks w → Closed N s (turns A N f a k w r s)
  closed_turns N f h a zero r w s l = close w l confined_refl
  closed_turns N f h a (suc k) r w s l = closed_turn N f h a k w r s (closed_turns N f h a k r) (lacks_left l)

  -- ---- lock-step: runs in step stay in step

  pub in_step_at : {s t : State} → InStep s t → (x : ℕ) → Alike (at s x) (at t x)
  in_step_at {s} {t} h x = each_at AlikeAt (λ i. Alike) (λ i x y. elim [ inl e ↦ inl e.1 | inr l ↦ inr l ]) (place 0 0) (λ i. inl refl) s.places t.places x h.places

  in_step_write : {s t : State} (x : ℕ) → hidden x ≡ false → (p o : Place) → Alike p o → InStep s t → InStep (write s x p) (write t x o)
  in_step_write {s} {t} x c p o k h = record {
    places = each_set AlikeAt s.places t.places x p o h.places (elim k [ inl e ↦ inl (c, e) | inr l ↦ inr l ]);
    devices = h.devices;
  }

  in_step_tick : {s t : State} → InStep s t → InStep (tick s) (tick t)
  in_step_tick h = record { places = h.places; devices = h.devices }

  in_step_lower : {s t : State} (N : Names) (g : ℕ) → InStep s t → InStep (lower A N g s) (lower A N g t)
  in_step_lower {s} {t} N g h = record {
    places = each_lower N g AlikeAt AlikeAt (λ i x y a. lowered_alike i x y a) s.places t.places h.places;
    devices = h.devices;
  }
    where
      lowered_alike : (i : ℕ) (x y : Place) → AlikeAt i x y → AlikeAt i (low N g i x) (low N g i y)
      lowered_alike i x y (inl e) = inl (e.0, ap (low N g i) e.1)
      lowered_alike i x y (inr l) = by_cond₂ (AlikeAt i) (N i) (λ e. inr (lacks_left l.0, lacks_left l.1)) (λ e. inr l)

  -- what commands give places

  alike_copied : (r : Context) (p o : Place) → Alike p o → Alike (copied A r p) (copied A r o)
  alike_copied r p o (inl e) = inl (ap (copied A r) e)
  alike_copied r p o (inr l) = inr (lacks_right (lacks_right l.0), lacks_right (lacks_right l.1))

  alike_combined : (f : Operation) (r : Context) (p o p' o' : Place) → Alike p o → Alike p' o' → Alike (combined A f r p p') (combined A f r o o')
  alike_combined f r p o p' o' (inr l) k = inr (lacks_right (lacks_right (lacks_left l.0)), lacks_right (lacks_right (lacks_left l.1)))
  alike_combined f r p o p' o' (inl e) (inr l) = inr (lacks_right (lacks_right (lacks_right l.0)), lacks_right (lacks_right (lacks_right l.1)))
  alike_combined f r p o p' o' (inl e) (inl h) = inl (ap (λ (z : Place). combined A f r z p') e ∙ ap (combined A f r o) h)

  lacks_pick : (r : Context) (t : Table) (i : Place) (s : State) → lacks i.frame → lacks (pick A r t i s).frame
  lacks_pick r t i s l = cond_both (within A t i) _ _ (λ (p : Place). lacks p.frame) (λ e. lacks_right (lacks_left (lacks_right l))) (λ e. lacks_right (lacks_right l))

  alike_picked : (r : Context) (i p o : Place) → Alike p o → Alike (picked A r i p) (picked A r i o)
  alike_picked r i p o (inl e) = inl (ap (picked A r i) e)
  alike_picked r i p o (inr l) = inr (lacks_right (lacks_right l.0), lacks_right (lacks_right l.1))

  alike_pick : (r : Context) (t : Table) (i j : Place) (s u : State) → InStep s u → Alike i j → Alike (pick A r t i s) (pick A r t j u)
  alike_pick r t i j s u h (inl e) =
      subst (λ (j : Place). Alike (pick A r t i s) (pick A r t j u)) e
      (by_cond₂ Alike (within A t i) (λ b. alike_picked r i _ _ (in_step_at h (cell_at A t i))) (λ b. inl refl))
  alike_pick r t i j s u h (inr l) = inr (lacks_pick r t i s l.0, lacks_pick r t j u l.1)

  alike_put_in : (r : Context) (i p o : Place) → Alike p o → Alike (put_in A r i p) (put_in A r i o)
  alike_put_in r i p o (inl e) = inl (ap (put_in A r i) e)
  alike_put_in r i p o (inr l) = inr (lacks_right (lacks_right (lacks_right l.0)), lacks_right (lacks_right (lacks_right l.1)))

  -- a decision that holds q is the same on both sides, and one that lacks it lacks it on both

  told_same : (r : Context) (p o : Place) → Alike p o → holds (told A r p) → p ≡ o
  told_same r p o (inl e) h = e
  told_same r p o (inr l) h = clash _ h (lacks_right l.0)

  told_lacks : (r : Context) (p o : Place) → Alike p o → lacks (told A r p) → lacks (told A r o)
  told_lacks r p o (inl e) h = subst (λ (z : Place). lacks (told A r z)) e h
  told_lacks r p o (inr l) h = lacks_right l.1

  abbrev Locked : (Context → State → State) → Type 0
  Locked f = (r : Context) (s t : State) → holds r.decisions → InStep s t → InStep (f r s) (f r t)

  locked_decide : {N : Names} (f g : Context → State → State) → ConfinedRun N f → ConfinedRun N g → Locked f → Locked g → (test : Place → Bool) (p o : Place) → Alike p o → (r : Context) (s t : State) → holds r.decisions → InStep s t → InStep (decide A N f g (test p) p r s) (decide A N f g (test o) o r t)
  locked_decide {N} f g y n y' n' test p o k r s t h a =
      ⊎_elim
      (λ d.
      subst (λ (o : Place). InStep (decide A N f g (test p) p r s) (decide A N f g (test o) o r t)) (told_same r p o k d)
      (let u : Context = under A r (told A r p) in
      in_step_lower N (told A r p) (by_cond₂ InStep (test p) (λ e. y' u s t (holds_both h d) a) (λ e. n' u s t (holds_both h d) a))))
      (λ d. closed_in_step a (closed_decide f g y n (test p) p r s d) (closed_decide f g y n (test o) o r t (told_lacks r p o k d)))
      (cases_Bool (A.kind.holds (told A r p) q))

  -- one reading of a loop's place, which holds p
  abbrev reading : Names → (Context → State → State) → ℕ → ℕ → ℕ → Context → Place → State → State
  reading N f a k w r p s =
      cond (eqb p.value 0)
      (lower A N (A.kind.mix w (told A r p)) (tick s))
      (turns A N f a k (A.kind.mix w (told A r p)) r (f (under A r (A.kind.mix w (told A r p))) (tick s)))

  locked_turns : (N : Names) (f : Context → State → State) → ConfinedRun N f → Locked f → (a k w : ℕ) (r : Context) (s t : State) → holds w → holds r.decisions → InStep s t → InStep (turns A N f a k w r s) (turns A N f a k w r t)
  locked_turns N f y y' a zero w r s t hw h g = in_step_lower N w g
  locked_turns N f y y' a (suc k) w r s t hw h g =
      ⊎_elim
      (λ d.
      subst (λ (o : Place). InStep (reading N f a k w r (at s a) s) (reading N f a k w r o t)) (told_same r (at s a) (at t a) (in_step_at g a) d)
      (let v : ℕ = A.kind.mix w (told A r (at s a)) in
      let hv : holds v = holds_both hw d in
      by_cond₂ InStep (eqb (at s a).value 0)
      (λ e. in_step_lower N v (in_step_tick g))
      (λ e. locked_turns N f y y' a k v r (f (under A r v) (tick s)) (f (under A r v) (tick t)) hv h (y' (under A r v) (tick s) (tick t) (holds_both h hv) (in_step_tick g)))))
      (λ d.
      closed_in_step g
      (closed_turn N f y a k w r s (closed_turns N f y a k r) (lacks_right d))
      (closed_turn N f y a k w r t (closed_turns N f y a k r) (lacks_right (told_lacks r (at s a) (at t a) (in_step_at g a) d))))
      (cases_Bool (A.kind.holds (told A r (at s a)) q))

  locked_put : (t : Table) → ((x : ℕ) → cell_of t x ≡ true → length P.contents.inputs ≤ x) → (r : Context) (i j p o : Place) → Alike i j → Alike p o → (s u : State) → InStep s u → InStep (put A r t i p s) (put A r t j o u)
  locked_put t cells r i j p o k l s u a =
      ⊎_elim
      (λ d.
      subst (λ (j : Place). InStep (put A r t i p s) (put A r t j o u)) (told_same r i j k d)
      (by_cond₂ InStep (within A t i)
      (λ e. in_step_write (cell_at A t i) (cell_shown _ (cells _ (in_table t i.value e))) (put_in A r i p) (put_in A r i o) (alike_put_in r i p o l) (in_step_lower (cell_of t) (told A r i) a))
      (λ e. in_step_lower (cell_of t) (told A r i) a)))
      (λ d. closed_in_step a (closed_put r t i p s d) (closed_put r t j o u (told_lacks r i j k d)))
      (cases_Bool (A.kind.holds (told A r i) q))

  in_step_drive_by : (why : Option (Cause × ℕ)) (r : Context) (o d : ℕ) (p : Place) (s t : State) → InStep s t → InStep (drive_by A why r o d p s) (drive_by A why r o d p t)
  in_step_drive_by option.None r o d p s t a = record {
    places = a.places;
    devices = each_set ShowsAt s.devices t.devices d _ _ a.devices
        (λ n. ap (λ (u : Device). given u p.value) (each_at ShowsAt ShowsAt (λ i x y f. f) (device 0 0) (λ i n. refl) s.devices t.devices d a.devices n));
  }
  in_step_drive_by (option.Some w) r o d p s t a = record { places = a.places; devices = a.devices }

  abbrev nowhere : Names
  nowhere x = false

  -- a confined run in which no place is named is closed
  closed_nowhere : {s t : State} → Confined nowhere s t → Closed nowhere s t
  closed_nowhere {s} {t} h = record {
    places = each_weaker (KeptAt nowhere) (ClosedAt nowhere) (λ i x y f. (f, (λ e. clash _ e refl))) s.places t.places h.places;
    devices = h.devices;
  }

  locked_drive : (r : Context) (o d : ℕ) (p p' : Place) → Alike p p' → (s t : State) → InStep s t → InStep (drive A r o d (need_of P d) p s) (drive A r o d (need_of P d) p' t)
  locked_drive r o d p p' k s t a =
      ⊎_elim
      (λ h.
      subst (λ (p' : Place). InStep (drive A r o d (need_of P d) p s) (drive A r o d (need_of P d) p' t)) (told_same r p p' k h)
      (in_step_drive_by (obstacle A r (need_of P d) p) r o d p s t a))
      (λ l.
      closed_in_step {N = nowhere} a
      (closed_nowhere (confined_drive r o d p s (lacks_right l)))
      (closed_nowhere (confined_drive r o d p' t (lacks_right (told_lacks r p p' k l)))))
      (cases_Bool (A.kind.holds (told A r p) q))

  locked_plain : (n o : ℕ) (c : Plain) → Fit n (plain_command o c) → Locked (run_plain A P o c)
  locked_plain n o (set_place x v) h r s t p a = in_step_write x (cell_shown x (h.1 x (target_itself x))) (set_to A r v) (set_to A r v) (inl refl) a
  locked_plain n o (copy_place x y) h r s t p a = in_step_write x (cell_shown x (h.1 x (target_itself x))) _ _ (alike_copied r (at s y) (at t y) (in_step_at a y)) a
  locked_plain n o (combine_places f x y z) h r s t p a =
      in_step_write x (cell_shown x (h.1 x (target_itself x))) _ _ (alike_combined f r (at s y) (at t y) (at s z) (at t z) (in_step_at a y) (in_step_at a z)) a
  locked_plain n o (pick_cell x y z) h r s t p a =
      in_step_write x (cell_shown x (h.1 x (target_itself x))) _ _ (alike_pick r (table P y) (at s z) (at t z) s t a (in_step_at a z)) a
  locked_plain n o (put_cell y i b) h r s t p a = locked_put (table P y) h.1 r (at s i) (at t i) (at s b) (at t b) (in_step_at a i) (in_step_at a b) s t a
  locked_plain n o (drive_device d y) h r s t p a = locked_drive r o d (at s y) (at t y) (in_step_at a y) s t a

  module _ (small : q < 64) (call : Calls) (quiet : ConfinedCalls call) (locked : (p : ℕ) → Locked (call p)) where
    -- each block of a decision is confined to the places named for either
    first_confined : (b e : Block) → EveryBlock Fit b → ConfinedRun (either A P b e) (run_block A P call b)
    first_confined b e h r s l = confined_wider (λ x i. or_left _ _ i) (confined_block call quiet b h r s l)

    second_confined : (b e : Block) → EveryBlock Fit e → ConfinedRun (either A P b e) (run_block A P call e)
    second_confined b e h r s l = confined_wider (λ x i. or_right _ _ i) (confined_block call quiet e h r s l)

    mutual
      locked_command : (n : ℕ) (c : Command) → Fit n c → EveryIn Fit c → Locked (run A P call c)
      locked_command n (plain_command o c) h i r s t p a = locked_plain n o c h r (tick s) (tick t) p (in_step_tick a)
      locked_command n (choose_block c b e) h i r s t p a =
          locked_decide (run_block A P call b) (run_block A P call e) (first_confined b e i.0) (second_confined b e i.1) (locked_block b i.0) (locked_block e i.1)
          (takes A c r) (at s (asked c)) (at t (asked c)) (in_step_at a (asked c)) r (tick s) (tick t) p (in_step_tick a)
      locked_command n (loop_block y k b) h i r s t p a =
          locked_turns (named A P b) (run_block A P call b) (confined_block call quiet b i) (locked_block b i) y k A.kind.full r (tick s) (tick t) (L.full_holds q small) p (in_step_tick a)
      locked_command n (grant_block g b) h i r s t p a = locked_block b i (granted A r g) (tick s) (tick t) p (in_step_tick a)
      locked_command n (call_procedure y) h i r s t p a = locked y r (tick s) (tick t) p (in_step_tick a)

      locked_all : (n : ℕ) (cs : Commands) → EveryCommands Fit n cs → Locked (run_commands A P call cs)
      locked_all n no_commands h r s t p a = a
      locked_all n (then_command c cs) h r s t p a = locked_all n cs h.2 r _ _ p (locked_command n c h.0 h.1 r s t p a)

      locked_block : (b : Block) → EveryBlock Fit b → Locked (run_block A P call b)
      locked_block (numbered_block n cs) h r s t p a = locked_all n cs h r s t p a

  module _ (small : q < 64) (fit : (p : ℕ) → EveryBlock Fit (body P p)) where
    locked_calls : (k p : ℕ) → Locked (calls A P k p)
    locked_calls zero p r s t h a = a
    locked_calls (suc k) p r s t h a =
        by_cond₂ InStep (eqb p k)
        (λ e. locked_block small (calls A P k) (confined_calls fit k) (locked_calls k) (body P k) (fit k) (entering A P k r) s t h a)
        (λ e. locked_calls k p r s t h a)

    pub locked_entries : (ps : List ℕ) (s t : State) → InStep s t → InStep (run_entries A P ps s) (run_entries A P ps t)
    locked_entries [] s t a = a
    locked_entries (p ∷ ps) s t a =
        locked_entries ps _ _
        (locked_block small (calls A P p) (confined_calls fit p) (locked_calls p) (body P p) (fit p) (fresh A P p) (tick s) (tick t) (L.full_holds q small) (in_step_tick a))
