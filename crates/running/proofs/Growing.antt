-- Steps and refused drives never fall, and each turn counts a step or leaves a block.
use Rattle.std.proofs.Common.{ℕ, zero, suc, ◌+◌, ◌*◌, ◌<◌, ◌≤◌, eqb, ltb, List, [], ◌∷◌, length, subst, arith}
use Rattle.std.proofs.lemmas.Bool.{cond_both}
use Rattle.layout.specs.Tree.{Command, Commands}
use Rattle.layout.specs.Layout.{Flat}
use Rattle.layout.specs.Layout as flat
use Rattle.layout.specs.Front.{Front, got, bad, front}
use Rattle.layout.specs.Declarations.{Contents}
use Rattle.layout.specs.Program.{Program, body}
use Rattle.oracle_laws.proofs.Every.{always_all, always}
use Rattle.rules.specs.declared.Context.{Context}
use Rattle.rules.specs.Assembly.{Assembly}
use Rattle.rules.specs.Running.{State, at, tick, run_commands, calls, run_entries}
use Rattle.rules.proofs.Steps.{rests_plain}
use Rattle.rules.proofs.Runs.{Steady, keeps_turns, keeps_commands, keeps_calls, keeps_entries}
use Rattle.running.specs.declared.levels.Level.{Level}
use Rattle.running.specs.declared.levels.Turns.{Turns}
use Rattle.running.specs.declared.levels.Closing.{Closing}
use Rattle.running.specs.declared.levels.Closing.TheVariants as closing
use Rattle.running.specs.Levels.{Run, act, closed_loop, close, act_front, part_of, turn_of}
use Rattle.running.proofs.Resuming.{Left, deciding, closes, finishes, resumes, Leads}

pub record Grows (s t : State) : Type 0 where
  pub steps : s.steps ≤ t.steps
  pub refused : s.refused ≤ t.refused

grows_same : (s : State) → Grows s s
grows_same s = record { steps = omega arith; refused = omega arith }

pub grows_next : (s t u : State) → Grows s t → Grows t u → Grows s u
grows_next s t u h k = record { steps = omega (arith, h.steps, k.steps); refused = omega (arith, h.refused, k.refused) }

abbrev Any : ℕ → Command → Type 0
Any n c = Unit {0}

module _ (A : Assembly) (P : Program) where
  steady : Steady A P Any Grows
  steady = record {
    same = grows_same;
    next = grows_next;
    ticks = λ s. record { steps = omega arith; refused = omega arith };
    lowers = λ N g s. record { steps = omega arith; refused = omega arith };
    plain = λ n o c u r s. let h = rests_plain A P o c r s in record { steps = omega (arith, h.steps); refused = h.kept };
  }

  grows_calls : (k p : ℕ) (r : Context) (s : State) → Grows s (calls A P k p r s)
  grows_calls k = keeps_calls A P Any Grows steady (λ p. always Any (λ n c. tt) (body P p)) k

  grows_commands : (k : ℕ) (cs : Commands) (r : Context) (s : State) → Grows s (run_commands A P (calls A P k) cs r s)
  grows_commands k cs = keeps_commands A P Any Grows steady (calls A P k) (grows_calls k) 0 cs (always_all Any (λ n c. tt) 0 cs)

  pub grows_entries : (es : List ℕ) (s : State) → Grows s (run_entries A P es s)
  grows_entries = keeps_entries A P Any Grows steady (λ p. always Any (λ n c. tt) (body P p))

  grows_closes : (k : ℕ) (cs : Commands) (r : Context) (κ : Closing) (s : State) → Grows s (closes A P k cs r κ s)
  grows_closes k cs r closing.Nothing s = grows_same s
  grows_closes k cs r (closing.Choice n m g) s = record { steps = omega arith; refused = omega arith }
  grows_closes k cs r (closing.Loop u) s = keeps_turns A P Any Grows steady _ (run_commands A P (calls A P k) cs) (grows_commands k cs) u.place u.left u.learned (deciding r u.decisions) s

  grows_finishes : (t : Level) (x : Left) (s : State) → Grows s (finishes A P t x s)
  grows_finishes t x s =
      let u : State = run_commands A P (calls A P x.proc) x.rest t.context s in
      grows_next s u _ (grows_commands x.proc x.rest t.context s) (grows_closes x.proc x.turn t.context t.closing u)

  grows_resumes : (ts : List Level) (xs : List Left) (s : State) → Grows s (resumes A P ts xs s)
  grows_resumes [] xs s = grows_same s
  grows_resumes (t ∷ ts) [] s = grows_same s
  grows_resumes (t ∷ ts) (x ∷ xs) s = grows_next s (finishes A P t x s) _ (grows_finishes t x s) (grows_resumes ts xs (finishes A P t x s))

  -- what leads to the goal has counted no more than the goal
  pub grows_goal : (bytes : List ℕ) (goal : State) (run : Run) → Leads A bytes P goal run → Grows run.state goal
  grows_goal bytes goal run so = subst (Grows run.state) so.same (grows_resumes run.levels so.lefts run.state)

-- ---- a turn

module _ (A : Assembly) (C : Contents) (t : Level) (ts : List Level) (s : State) where
  -- it counts a step and enters one block at most, or it leaves a block
  abbrev pub Falls : Run → Type 0
  Falls run = length run.levels + 2 * s.steps < length (t ∷ ts) + 2 * run.state.steps

  act_falls : (c : Flat) (rest : ℕ) → Falls (act A C t c rest ts s)
  act_falls (flat.plain c) rest = let h = rests_plain A (record { contents = C; bodies = [] }) t.at c t.context (tick s) in omega (arith, h.steps)
  act_falls (flat.choose c y z) rest = omega arith
  act_falls (flat.loop a k y) rest = omega arith
  act_falls (flat.grant g y) rest = omega arith
  act_falls (flat.call p) rest = omega arith

  front_falls : (f : Front Flat) → Falls (act_front A C t f ts s)
  front_falls (got c rest) = act_falls c (length rest)
  front_falls (bad n) = omega arith

  loop_falls : (u : Turns) (k : ℕ) → Falls (closed_loop A t u k ts s)
  loop_falls u zero = omega arith
  loop_falls u (suc k) = cond_both (eqb (at s u.place).value 0) _ _ Falls (λ e. omega arith) (λ e. omega arith)

  close_falls : (κ : Closing) → Falls (close A t κ ts s)
  close_falls closing.Nothing = omega arith
  close_falls (closing.Choice n m g) = omega arith
  close_falls (closing.Loop u) = loop_falls u u.left

  pub turn_falls : (bytes : List ℕ) → Falls (turn_of A bytes C t ts s)
  unfolding turn_of
  turn_falls bytes = cond_both (ltb t.at t.end) _ _ Falls (λ e. front_falls (front (part_of bytes t))) (λ e. close_falls t.closing)
