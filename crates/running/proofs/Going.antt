-- What the loop of an entry keeps.
use Rattle.std.proofs.Common.{◌≡◌, ℕ, ◌+◌, ◌-◌, ◌*◌, ◌<◌, ◌≤◌, Bool, true, false, List, [], ◌∷◌, length, get_or, vec_items, vec_len, sym, ap, ◌∙◌, subst, arith}
use Rattle.layout.specs.Tree.{no_commands}
use Rattle.layout.specs.Declarations.{Contents}
use Rattle.layout.specs.Accepted.{bodies, Lawful}
use Rattle.layout.specs.Program.{Program, program, body}
use Rattle.package.specs.declared.held.Package.{Package}
use Rattle.package.specs.Loads.{tree_of}
use Rattle.package.proofs.Sets as accepted
use Rattle.oracle_laws.specs.Blocks.{commands}
use Rattle.oracle_laws.proofs.Lying.{lie_length}
use Rattle.rules.specs.Assembly.{Assembly}
use Rattle.rules.specs.Running.{State, no_procedure, calls, fresh}
use Rattle.running.specs.declared.levels.Level.{Level}
use Rattle.running.specs.declared.levels.Stack.{Stack}
use Rattle.running.specs.Levels.{Run, running, above, left, body_level, turn_of}
use Rattle.running.specs.Entries.{program_of, entry_run, CanRun}
use Rattle.running.proofs.Stacks.{above_length}
use Rattle.running.proofs.Bodies.{runs_commands, low, lay_body}
use Rattle.running.proofs.Resuming.{Left, leaving, Fits, Leads}
use Rattle.running.proofs.Keeping.{keeps}
use Rattle.running.proofs.Growing.{grows_goal, turn_falls}

-- ---- what every package keeps, by its own tables

pub same_program : (h : Package) → program_of h ≡ program (tree_of h)
same_program h = ap (λ (c : Contents). record { contents = c; bodies = bodies (tree_of h) }) (accepted.holds h)

pub laws_of : (h : Package) → Lawful (vec_items h.bytes) (program_of h).contents (program_of h).bodies
laws_of h = subst (λ (P : Program). Lawful (vec_items h.bytes) P.contents P.bodies) (sym (same_program h)) (accepted.lawful h)

pub short_of : (h : Package) → length (vec_items h.bytes) ≤ 8192
short_of h = let k = accepted.kept h in subst (λ (bs : List ℕ). length bs ≤ 8192) k.1 k.0.small

-- ---- the loop

-- what is left to run leads to what the entry runs
unfoldable pub Going : Assembly → Package → ℕ → State → Level → Stack → State → Type 0
Going A h p from t st s = Leads A (vec_items h.bytes) (program_of h) (entry_run A (program_of h) p from) (running (t ∷ above st) s)

abbrev pub falling : Stack → ℕ → ℕ
falling st steps = 2 * (4294967296 - steps) + vec_len st.levels

module _ (A : Assembly) (h : Package) (p : ℕ) (from : State) where
  abbrev P : Program
  P = program_of h

  abbrev bytes : List ℕ
  bytes = vec_items h.bytes

  abbrev goal : State
  goal = entry_run A P p from

  pub going_start : CanRun A P p from → (t : Level) (st : Stack) → t ≡ body_level (get_or P.contents.procedures p no_procedure) (fresh A P p) → above st ≡ [] → Going A h p from t st from
  unfolding Going
  going_start can t st is none =
      let l = low bytes P (laws_of h) (short_of h) p can.within in
      subst (λ (ts : List Level). Leads A bytes P goal (running ts from)) (ap (λ (x : Level). x ∷ []) (sym is) ∙ ap (λ (ts : List Level). t ∷ ts) (sym none))
      (record {
        lefts = leaving (commands (body P p)) no_commands p (get_or P.contents.procedures p no_procedure).height 0 ∷ [];
        fits = (
          record {
            lay = lay_body bytes P (laws_of h) (short_of h) p can.within;
            loops = tt;
            room = omega (arith, l.0, l.1);
            deep = omega arith;
            level = omega (arith, can.within, lie_length bytes P.contents.procedures P.bodies (laws_of h).lie);
          },
          tt,
        );
        same = sym (runs_commands A P (calls A P p) (body P p) (fresh A P p) from);
      })

  pub going_asks : CanRun A P p from → (t : Level) (st : Stack) (s : State) → Going A h p from t st s → (s.steps + 1 < 4294967296) × (s.refused + 1 < 4294967296) × (vec_len st.levels < 72)
  unfolding Going
  going_asks can t st s so =
      let g = grows_goal A P bytes goal (running (t ∷ above st) s) so in
      (omega (arith, g.steps, can.steps), omega (arith, g.refused, can.refused), deep so.lefts so.fits)
    where
      deep : (xs : List Left) → Fits bytes P (t ∷ above st) xs → vec_len st.levels < 72
      deep [] fits = absurd fits
      deep (x ∷ xs) fits = omega (arith, fits.0.room, above_length st)

  turned : (t : Level) (st : Stack) (s : State) (run : Run) → Going A h p from t st s → run ≡ turn_of A bytes P.contents t (above st) s → Leads A bytes P goal run
  unfolding Going
  turned t st s run so e = subst (Leads A bytes P goal) (sym e) (keeps A bytes P (laws_of h) (short_of h) goal t (above st) s so)

  pub going_again : (b : Bool) (t t' : Level) (st st' : Stack) (s s' : State) → b ≡ true → Going A h p from t st s → running (left b t' st') s' ≡ turn_of A bytes P.contents t (above st) s → Going A h p from t' st' s'
  unfolding Going
  going_again b t t' st st' s s' some so e = subst (λ (x : Bool). Leads A bytes P goal (running (left x t' st') s')) some (turned t st s (running (left b t' st') s') so e)

  pub going_less : CanRun A P p from → (b : Bool) (t t' : Level) (st st' : Stack) (s s' : State) → b ≡ true → Going A h p from t st s → running (left b t' st') s' ≡ turn_of A bytes P.contents t (above st) s → falling st' s'.steps < falling st s.steps
  going_less can b t t' st st' s s' some so e =
      let f = turn_falls A P.contents t (above st) s bytes in
      let run : running (t' ∷ above st') s' ≡ turn_of A bytes P.contents t (above st) s = subst (λ (x : Bool). running (left x t' st') s' ≡ turn_of A bytes P.contents t (above st) s) some e in
      let g = subst (λ (r : Run). length r.levels + 2 * s.steps < length (t ∷ above st) + 2 * r.state.steps) (sym run) f in
      let small = going_asks can t' st' s' (going_again b t t' st st' s s' some so e) in
      omega (arith, g, small.0, above_length st, above_length st')

  pub going_done : (b : Bool) (t t' : Level) (st st' : Stack) (s s' : State) → b ≡ false → Going A h p from t st s → running (left b t' st') s' ≡ turn_of A bytes P.contents t (above st) s → s' ≡ goal
  going_done b t t' st st' s s' none so e =
      let l : Leads A bytes P goal (running [] s') = subst (λ (x : Bool). Leads A bytes P goal (running (left x t' st') s')) none (turned t st s (running (left b t' st') s') so e) in
      l.same
