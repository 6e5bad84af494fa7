-- The entries of a cycle, one after the other.
use Rattle.std.proofs.Common.{◌≡◌, ℕ, suc, ◌+◌, ◌<◌, ◌≤◌, List, length, get_or, drop, sym, ap, ◌∙◌, subst, add-one, arith, drop_of_length-le, drop-cons}
use Rattle.std.specs.List.{All}
use Rattle.std.proofs.lemmas.List.Elements.{All-get_or}
use Rattle.layout.specs.Program.{Program}
use Rattle.package.specs.declared.held.Package.{Package}
use Rattle.package.specs.Loads.{tree_of}
use Rattle.package.proofs.Sets as accepted
use Rattle.rules.specs.Assembly.{Assembly}
use Rattle.rules.specs.Running.{State, tick, run_entries}
use Rattle.rules.specs.Calls.{Held, started, cycle}
use Rattle.rules.proofs.Steps.{cycle_bounded_lem}
use Rattle.running.specs.Entries.{program_of, entry_run, CanRun}
use Rattle.running.proofs.Growing.{grows_entries}
use Rattle.running.proofs.Going.{same_program, laws_of}

module _ (A : Assembly) (h : Package) (es : List ℕ) (from : Held) where
  abbrev P : Program
  P = program_of h

  abbrev goal : State
  goal = run_entries A P es (started from)

  -- the entries from i on, run from s, come to the whole cycle
  unfoldable pub Round : ℕ → State → Type 0
  Round i s = run_entries A P (drop i es) s ≡ goal

  pub round_start : (i : ℕ) (s : State) → i ≡ 0 → s ≡ started from → Round i s
  unfolding Round
  round_start i s z e = rw (z, e)

  pub round_end : (i : ℕ) (s : State) → length es ≤ i → Round i s → s ≡ goal
  unfolding Round
  round_end i s le so = ap (λ (xs : List ℕ). run_entries A P xs s) (sym (drop_of_length-le es le)) ∙ so

  module _ (is : es ≡ P.contents.entries) where
    whole : ((cycle A P from).steps ≤ 1000000) × ((cycle A P from).refused ≤ 1000000)
    whole =
        subst (λ (Q : Program). ((cycle A Q from).steps ≤ 1000000) × ((cycle A Q from).refused ≤ 1000000)) (sym (same_program h))
        (let b = cycle_bounded_lem A (tree_of h) (accepted.kept h).0 from in (b.brief, omega (arith, b.brief, b.refused)))

    bound : (goal.steps ≤ 1000000) × (goal.refused ≤ 1000000)
    bound = subst (λ (xs : List ℕ). ((run_entries A P xs (started from)).steps ≤ 1000000) × ((run_entries A P xs (started from)).refused ≤ 1000000)) (sym is) whole

    module _ (i : ℕ) (s : State) (lt : i < length es) (so : Round i s) where
      next : run_entries A P (drop (suc i) es) (entry_run A P (get_or es i 0) (tick s)) ≡ goal
      unfolding Round
      next = ap (λ (xs : List ℕ). run_entries A P xs s) (sym (drop-cons es i 0 lt)) ∙ so

      pub round_ticks : s.steps + 1 < 4294967296
      unfolding Round
      round_ticks = let g = subst (λ (u : State). s.steps ≤ u.steps) so (grows_entries A P (drop i es) s).steps in omega (arith, g, bound.0)

      pub round_runs : (t : State) → t ≡ tick s → CanRun A P (get_or es i 0) t
      round_runs t e =
          let u : State = entry_run A P (get_or es i 0) (tick s) in
          let g = grows_entries A P (drop (suc i) es) u in
          let steps : u.steps ≤ 1000000 = omega (arith, g.steps, ap (λ (x : State). x.steps) next, bound.0) in
          let refused : u.refused ≤ 1000000 = omega (arith, g.refused, ap (λ (x : State). x.refused) next, bound.1) in
          subst (CanRun A P (get_or es i 0)) (sym e)
          (record {
            within = All-get_or (λ (x : ℕ). x < length P.contents.procedures) es i 0 lt (subst (λ (xs : List ℕ). All (λ (x : ℕ). x < length P.contents.procedures) xs) (sym is) (laws_of h).entries);
            steps = omega (arith, steps);
            refused = omega (arith, refused);
          })

      pub round_again : (t u : State) → t ≡ tick s → u ≡ entry_run A P (get_or es i 0) t → Round (i + 1) u
      unfolding Round
      round_again t u e f =
          ap (λ (x : ℕ). run_entries A P (drop x es) u) (add-one i)
          ∙ ap (run_entries A P (drop (suc i) es)) (f ∙ ap (entry_run A P (get_or es i 0)) e)
          ∙ next
