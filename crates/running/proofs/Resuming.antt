-- What is left to run: the stack as trees, and what they come to.
use Rattle.std.proofs.Common.{◌≡◌, ℕ, zero, suc, ◌+◌, ◌-◌, ◌*◌, ◌<◌, ◌≤◌, Bool, true, false, cond, eqb, ◌≢◌, List, [], ◌∷◌, length, sym, refl, ap, arith}
use Rattle.std.proofs.lemmas.Bool.{eqb-true, eqb-false}
use Rattle.layout.specs.Tree.{Commands}
use Rattle.layout.specs.Program.{Program, body}
use Rattle.rules.specs.declared.Context.{Context}
use Rattle.rules.specs.Assembly.{Assembly}
use Rattle.rules.specs.Running.{State, lower, turns, run_commands, run_block, entering, calls}
use Rattle.running.specs.declared.levels.Level.{Level}
use Rattle.running.specs.declared.levels.Closing.{Closing}
use Rattle.running.specs.declared.levels.Closing.TheVariants as closing
use Rattle.running.specs.declared.lowering.Blocks.TheVariants.{One, Either}
use Rattle.running.specs.Parts.{named_for}
use Rattle.running.specs.Levels.{Run}
use Rattle.running.proofs.Laying.{Lay}

-- what is left of a block; of a loop also the whole block; the procedure, its height, and how deep the block lies
pub record Left : Type 0 where
  pub rest : Commands
  pub turn : Commands
  pub proc : ℕ
  pub height : ℕ
  pub depth : ℕ

abbrev pub leaving : Commands → Commands → ℕ → ℕ → ℕ → Left
leaving rest turn k h d = record { rest = rest; turn = turn; proc = k; height = h; depth = d }

-- a context, under other decisions
abbrev pub deciding : Context → ℕ → Context
deciding r g = record { procedure = r.procedure; own = r.own; rights = r.rights; decisions = g }

module _ (A : Assembly) (P : Program) where
  -- the end of a block: nothing, a lowering, or the turns that are left of a loop
  abbrev pub closes : ℕ → Commands → Context → Closing → State → State
  closes k cs r closing.Nothing s = s
  closes k cs r (closing.Choice n m g) s = lower A (named_for A.names (Either n m)) g s
  closes k cs r (closing.Loop u) s = turns A (named_for A.names (One u.block)) (run_commands A P (calls A P k) cs) u.place u.left u.learned (deciding r u.decisions) s

  -- the rest of a block, then its end
  abbrev pub finishes : Level → Left → State → State
  finishes t x s = closes x.proc x.turn t.context t.closing (run_commands A P (calls A P x.proc) x.rest t.context s)

  -- every block, the innermost first
  abbrev pub resumes : List Level → List Left → State → State
  resumes [] xs s = s
  resumes (t ∷ ts) [] s = s
  resumes (t ∷ ts) (x ∷ xs) s = resumes ts xs (finishes t x s)

  -- a call of a lower procedure runs its body
  pub calls_body : (k p : ℕ) (r : Context) (s : State) → p < k → calls A P k p r s ≡ run_block A P (calls A P p) (body P p) (entering A P p r) s
  calls_body zero p r s lt = absurd (omega arith)
  calls_body (suc k) p r s lt = by (eqb p k) refl (calls_body k p r s) where
    by : (b : Bool) → eqb p k ≡ b → (p < k → calls A P k p r s ≡ run_block A P (calls A P p) (body P p) (entering A P p r) s) → cond b (run_block A P (calls A P k) (body P k) (entering A P k r) s) (calls A P k p r s) ≡ run_block A P (calls A P p) (body P p) (entering A P p r) s
    by true e more = ap (λ (m : ℕ). run_block A P (calls A P m) (body P m) (entering A P m r) s) (sym (eqb-true p k e))
    by false e more = let ne : p ≢ k = eqb-false p k e in more (omega arith)

module _ (bytes : List ℕ) (P : Program) where
  -- of a loop, the whole block lies there too
  abbrev pub LoopLies : (k d h end : ℕ) → Commands → Closing → Type 0
  LoopLies k d h end cs closing.Nothing = Unit {0}
  LoopLies k d h end cs (closing.Choice n m g) = Unit {0}
  LoopLies k d h end cs (closing.Loop u) = Lay bytes P.contents k d h (u.block + 1) u.start end cs

  -- a block that lies where its record says, with so many blocks around it
  pub record Fit (around : ℕ) (t : Level) (x : Left) : Type 0 where
    pub lay : Lay bytes P.contents x.proc x.depth x.height t.next t.at t.end x.rest
    pub loops : LoopLies x.proc x.depth x.height t.end x.turn t.closing
    pub room : around + (8 - x.depth) + 9 * (x.height - 1) ≤ 71
    pub deep : x.depth ≤ 8
    pub level : x.proc < length P.bodies

  abbrev pub Fits : List Level → List Left → Type 0
  Fits [] [] = Unit {0}
  Fits [] (x ∷ xs) = ⊥
  Fits (t ∷ ts) [] = ⊥
  Fits (t ∷ ts) (x ∷ xs) = Fit (length ts) t x × Fits ts xs

-- what is left to run leads to the goal
pub record Leads (A : Assembly) (bytes : List ℕ) (P : Program) (goal : State) (run : Run) : Type 0 where
  pub lefts : List Left
  pub fits : Fits bytes P run.levels lefts
  pub same : resumes A P run.levels lefts run.state ≡ goal
