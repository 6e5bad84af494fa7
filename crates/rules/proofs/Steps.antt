-- The steps of a run, and the drives that it refuses.
use Rattle.std.proofs.Common.{◌≡◌, ℕ, zero, suc, ◌+◌, ◌*◌, ◌≤◌, max, Bool, eqb, List, [], ◌∷◌, get_or, take, Option, sym, refl, subst, arith}
use Rattle.std.specs.declared.option.Option.TheVariants as option
use Rattle.std.proofs.lemmas.List.{get_or-take}
use Rattle.std.proofs.lemmas.Bool.{cond_both, eqb-true}
use Rattle.layout.specs.declared.Procedure.{Procedure}
use Rattle.layout.specs.Tree.{Plain, set_place, copy_place, combine_places, pick_cell, put_cell, drive_device, asked, Command, plain_command, choose_block, loop_block, grant_block, call_procedure, Commands, no_commands, then_command, Block, numbered_block}
use Rattle.layout.specs.Folds.{size_block, most, most_commands, most_block}
use Rattle.layout.specs.Declarations.{Declaration, Contents, steps_of, body_steps}
use Rattle.layout.specs.Packages.{Keeps}
use Rattle.layout.specs.Accepted.{LawfulProcedures, cycle_most}
use Rattle.layout.specs.Program.{Program, program, body, table, no_block}
use Rattle.rules.specs.declared.Place.{Place}
use Rattle.rules.specs.declared.Cause.{Cause}
use Rattle.rules.specs.Assembly.{Assembly}
use Rattle.rules.specs.declared.Context.{Context}
use Rattle.rules.specs.Running.{State, at, tick, told, under, granted, lower, within, put, obstacle, drive_by, takes, decide, turns, need_of, named, either, run_plain, run, run_commands, run_block, entering, calls, fresh, run_entries}
use Rattle.rules.specs.Calls.{started}
use Rattle.rules.specs.Bounds.{EntriesBounded, CycleBounded}
use Rattle.rules.proofs.Legal.{laws}

-- a run from s to t takes at most n steps, and refuses at most one drive at each
pub record Takes (n : ℕ) (s t : State) : Type 0 where
  pub grows : s.steps ≤ t.steps
  pub steps : t.steps ≤ s.steps + n
  pub refused : t.refused + s.steps ≤ s.refused + t.steps

takes_none : {s : State} → Takes 0 s s
takes_none {s} = record { grows = omega arith; steps = omega arith; refused = omega arith }

takes_tick : {s : State} → Takes 1 s (tick s)
takes_tick {s} = record { grows = omega arith; steps = omega arith; refused = omega arith }

takes_both : {m n : ℕ} {s t u : State} → Takes m s t → Takes n t u → Takes (m + n) s u
takes_both {m} {n} {s} {t} {u} h k = record { grows = omega (arith, h.grows, k.grows); steps = omega (arith, h.steps, k.steps); refused = omega (arith, h.refused, k.refused) }

takes_more : {m n : ℕ} {s t : State} → m ≤ n → Takes m s t → Takes n s t
takes_more {m} {n} {s} {t} l h = record { grows = h.grows; steps = omega (arith, h.steps); refused = h.refused }

-- lowering takes no steps
takes_lower : (A : Assembly) (named : ℕ → Bool) (g : ℕ) {n : ℕ} {s t : State} → Takes n s t → Takes n s (lower A named g t)
takes_lower A named g h = record { grows = h.grows; steps = h.steps; refused = h.refused }

-- what comes behind a step takes none, and refuses at most one drive
pub record Rests (s t : State) : Type 0 where
  pub steps : t.steps ≡ s.steps
  pub refused : t.refused ≤ s.refused + 1
  pub kept : s.refused ≤ t.refused

step_rests : {s t : State} → Rests (tick s) t → Takes 1 s t
step_rests {s} {t} h = record { grows = omega (arith, h.steps); steps = omega (arith, h.steps); refused = omega (arith, h.steps, h.refused) }

module _ (A : Assembly) (P : Program) where
  rests_put : (r : Context) (t : ℕ) (i p : Place) (s : State) → Rests s (put A r (table P t) i p s)
  rests_put r t i p s = cond_both (within A (table P t) i) _ _ (Rests s) (λ e. record { steps = refl; refused = omega arith; kept = omega arith }) (λ e. record { steps = refl; refused = omega arith; kept = omega arith })

  rests_drive : (why : Option (Cause × ℕ)) (r : Context) (o d : ℕ) (p : Place) (s : State) → Rests s (drive_by A why r o d p s)
  rests_drive option.None r o d p s = record { steps = refl; refused = omega arith; kept = omega arith }
  rests_drive (option.Some w) r o d p s = record { steps = refl; refused = omega arith; kept = omega arith }

  pub rests_plain : (o : ℕ) (c : Plain) (r : Context) (s : State) → Rests s (run_plain A P o c r s)
  rests_plain o (set_place x n) r s = record { steps = refl; refused = omega arith; kept = omega arith }
  rests_plain o (copy_place x a) r s = record { steps = refl; refused = omega arith; kept = omega arith }
  rests_plain o (combine_places f x a b) r s = record { steps = refl; refused = omega arith; kept = omega arith }
  rests_plain o (pick_cell x t a) r s = record { steps = refl; refused = omega arith; kept = omega arith }
  rests_plain o (put_cell t a b) r s = rests_put r t (at s a) (at s b) s
  rests_plain o (drive_device d a) r s = rests_drive (obstacle A r (need_of P d) (at s a)) r o d (at s a) s

  -- what runs in at most n steps, from any state
  abbrev Within : ℕ → (Context → State → State) → Type 0
  Within n f = (r : Context) (s : State) → Takes n s (f r s)

  takes_decide : (m n : ℕ) (N : ℕ → Bool) (f g : Context → State → State) → Within m f → Within n g → (b : Bool) (p : Place) (r : Context) (s : State) → Takes (max m n) s (decide A N f g b p r s)
  takes_decide m n N f g y z b p r s =
      takes_lower A N (told A r p)
      (cond_both b _ _ (Takes (max m n) s) (λ e. takes_more (omega arith) (y (under A r (told A r p)) s)) (λ e. takes_more (omega arith) (z (under A r (told A r p)) s)))

  takes_turns : (m : ℕ) (N : ℕ → Bool) (f : Context → State → State) → Within m f → (a k w : ℕ) (r : Context) (s : State) → Takes (k * (1 + m)) s (turns A N f a k w r s)
  takes_turns m N f h a zero w r s = takes_lower A N w (takes_more (omega arith) takes_none)
  takes_turns m N f h a (suc k) w r s =
      let v : ℕ = A.kind.mix w (told A r (at s a)) in
      cond_both (eqb (at s a).value 0) _ _ (Takes (suc k * (1 + m)) s)
      (λ e. takes_lower A N v (takes_more (omega arith) takes_tick))
      (λ e. takes_more (omega arith) (takes_both takes_tick (takes_both (h (under A r v) (tick s)) (takes_turns m N f h a k v r (f (under A r v) (tick s))))))

  -- calls take at most `below`
  module _ (call : ℕ → Context → State → State) (below : List ℕ) (few : (p : ℕ) → Within (get_or below p 0) (call p)) where
    mutual
      takes_command : (c : Command) → Within (most below c) (run A P call c)
      takes_command (plain_command o c) r s = step_rests (rests_plain o c r (tick s))
      takes_command (choose_block c b e) r s =
          takes_both takes_tick
          (takes_decide (most_block below b) (most_block below e) (either A P b e) (run_block A P call b) (run_block A P call e) (takes_block b) (takes_block e) (takes A c r (at s (asked c))) (at s (asked c)) r (tick s))
      takes_command (loop_block a k b) r s =
          takes_both takes_tick (takes_turns (most_block below b) (named A P b) (run_block A P call b) (takes_block b) a k A.kind.full r (tick s))
      takes_command (grant_block g b) r s = takes_both takes_tick (takes_block b (granted A r g) (tick s))
      takes_command (call_procedure p) r s = takes_both takes_tick (few p r (tick s))

      takes_commands : (cs : Commands) → Within (most_commands below cs) (run_commands A P call cs)
      takes_commands no_commands r s = takes_none
      takes_commands (then_command c cs) r s = takes_both (takes_command c r s) (takes_commands cs r (run A P call c r s))

      pub takes_block : (b : Block) → Within (most_block below b) (run_block A P call b)
      takes_block (numbered_block n cs) r s = takes_commands cs r s

-- ---- accepted packages

-- a body takes at most what its procedure says
body_most : (c : Contents) (k n : ℕ) (ps : List Procedure) (bs : List Block) → LawfulProcedures c k n ps bs → (p : ℕ) → most_block (take (k + p) (body_steps c)) (get_or bs p no_block) ≤ get_or (steps_of ps) p 0
body_most c k n [] [] h p = omega arith
body_most c k n [] (b ∷ bs) h p = absurd h
body_most c k n (q ∷ ps) [] h p = absurd h
body_most c k n (q ∷ ps) (b ∷ bs) h zero =
    let e : k ≡ k + 0 = omega arith in
    subst (λ (j : ℕ). most_block (take j (body_steps c)) b ≤ q.steps) e (omega (arith, h.0.steps))
body_most c k n (q ∷ ps) (b ∷ bs) h (suc p) =
    let e : k + 1 + p ≡ k + suc p = omega arith in
    subst (λ (j : ℕ). most_block (take j (body_steps c)) (get_or bs p no_block) ≤ get_or (steps_of ps) p 0) e (body_most c (k + 1) (n + size_block b) ps bs h.1 p)

take_grows : (k : ℕ) (xs : List ℕ) (p : ℕ) → get_or (take k xs) p 0 ≤ get_or (take (suc k) xs) p 0
take_grows zero xs p = omega arith
take_grows (suc k) [] p = omega arith
take_grows (suc k) (x ∷ xs) zero = omega arith
take_grows (suc k) (x ∷ xs) (suc p) = take_grows k xs p

module _ (A : Assembly) (ds : List Declaration) (keeps : Keeps ds) where
  abbrev P : Program
  P = program ds

  abbrev steps : List ℕ
  steps = body_steps P.contents

  most_of_all : (p : ℕ) → most_block (take p steps) (body P p) ≤ get_or steps p 0
  most_of_all p =
      let e : 0 + p ≡ p = omega arith in
      subst (λ (j : ℕ). most_block (take j steps) (body P p) ≤ get_or steps p 0) e (body_most P.contents 0 0 P.contents.procedures P.bodies (laws ds keeps).procedures p)

  takes_call : (k p : ℕ) → Within A P (get_or (take k steps) p 0) (calls A P k p)
  takes_call zero p r s = takes_more (omega arith) takes_none
  takes_call (suc k) p r s =
      cond_both (eqb p k) _ _ (Takes (get_or (take (suc k) steps) p 0) s)
      (λ e.
      let i : p ≡ k = eqb-true p k e in
      subst (λ (j : ℕ). Takes (get_or (take (suc k) steps) j 0) s (run_block A P (calls A P k) (body P k) (entering A P k r) s)) (sym i)
      (takes_more (omega (arith, most_of_all k, get_or-take (suc k) steps k 0 (omega arith))) (takes_block A P (calls A P k) (take k steps) (takes_call k) (body P k) (entering A P k r) s)))
      (λ e. takes_more (take_grows k steps p) (takes_call k p r s))

  -- any block, where it may call the procedures below k
  pub block_takes : (k : ℕ) (b : Block) → Within A P (most_block (take k steps) b) (run_block A P (calls A P k) b)
  block_takes k b = takes_block A P (calls A P k) (take k steps) (takes_call k) b

  pub body_takes : (p : ℕ) → Within A P (get_or steps p 0) (run_block A P (calls A P p) (body P p))
  body_takes p r s = takes_more (most_of_all p) (block_takes p (body P p) r s)

  pub entries_take : (es : List ℕ) (s : State) → Takes (cycle_most steps es) s (run_entries A P es s)
  entries_take [] s = takes_none
  entries_take (e ∷ es) s = takes_both (takes_both takes_tick (body_takes e (fresh A P e) (tick s))) (entries_take es _)

pub entries_bounded_lem : EntriesBounded
entries_bounded_lem A ds keeps es s = (entries_take A ds keeps es s).steps

pub cycle_bounded_lem : CycleBounded
cycle_bounded_lem A ds keeps h =
    let c = (program ds).contents in
    let t = entries_take A ds keeps (program ds).contents.entries (started h) in
    let l = laws ds keeps in
    record { steps = omega (arith, t.steps, l.steps); brief = omega (arith, t.steps, l.steps, l.brief); refused = omega (arith, t.refused) }
