-- What every step of a run keeps, the run keeps.
use Rattle.std.proofs.Common.{ℕ, zero, suc, Bool, eqb, List, [], ◌∷◌}
use Rattle.std.proofs.lemmas.Bool.{cond_both}
use Rattle.layout.specs.Tree.{Plain, asked, Command, plain_command, choose_block, loop_block, grant_block, call_procedure, Commands, no_commands, then_command, Block, numbered_block}
use Rattle.layout.specs.Program.{Program, body}
use Rattle.oracle_laws.proofs.Every.{EveryIn, EveryCommands, EveryBlock}
use Rattle.rules.specs.declared.Place.{Place}
use Rattle.rules.specs.Assembly.{Assembly}
use Rattle.rules.specs.declared.Context.{Context}
use Rattle.rules.specs.Running.{State, at, tick, told, under, granted, lower, takes, decide, turns, named, either, run_plain, run, run_commands, run_block, entering, calls, fresh, run_entries}

-- a relation of the states before and after, which each plain command that fits keeps
pub record Steady (A : Assembly) (P : Program) (Fit : ℕ → Command → Type 0) (R : State → State → Type 0) : Type 0 where
  pub same : (s : State) → R s s
  pub next : (s t u : State) → R s t → R t u → R s u
  pub ticks : (s : State) → R s (tick s)
  pub lowers : (N : ℕ → Bool) (g : ℕ) (s : State) → R s (lower A N g s)
  pub plain : (n o : ℕ) (c : Plain) → Fit n (plain_command o c) → (r : Context) (s : State) → R s (run_plain A P o c r s)

module _ (A : Assembly) (P : Program) (Fit : ℕ → Command → Type 0) (R : State → State → Type 0) (steady : Steady A P Fit R) where
  abbrev Keeps : (Context → State → State) → Type 0
  Keeps f = (r : Context) (s : State) → R s (f r s)

  -- a step, and what comes behind it
  ticked : (s t : State) → R (tick s) t → R s t
  ticked s t h = steady.next s (tick s) t (steady.ticks s) h

  lowered : (N : ℕ → Bool) (g : ℕ) (s t : State) → R s t → R s (lower A N g t)
  lowered N g s t h = steady.next s t (lower A N g t) h (steady.lowers N g t)

  keeps_decide : (N : ℕ → Bool) (f g : Context → State → State) → Keeps f → Keeps g → (b : Bool) (p : Place) (r : Context) (s : State) → R s (decide A N f g b p r s)
  keeps_decide N f g y n b p r s = lowered N (told A r p) s _ (cond_both b _ _ (R s) (λ e. y (under A r (told A r p)) s) (λ e. n (under A r (told A r p)) s))

  pub keeps_turns : (N : ℕ → Bool) (f : Context → State → State) → Keeps f → (a k w : ℕ) (r : Context) (s : State) → R s (turns A N f a k w r s)
  keeps_turns N f h a zero w r s = steady.lowers N w s
  keeps_turns N f h a (suc k) w r s =
      let v : ℕ = A.kind.mix w (told A r (at s a)) in
      cond_both (eqb (at s a).value 0) _ _ (R s)
      (λ e. lowered N v s (tick s) (steady.ticks s))
      (λ e. ticked s _ (steady.next (tick s) (f (under A r v) (tick s)) _ (h (under A r v) (tick s)) (keeps_turns N f h a k v r (f (under A r v) (tick s)))))

  module _ (call : ℕ → Context → State → State) (called : (p : ℕ) → Keeps (call p)) where
    mutual
      keeps_command : (n : ℕ) (c : Command) → Fit n c → EveryIn Fit c → Keeps (run A P call c)
      keeps_command n (plain_command o c) h i r s = ticked s _ (steady.plain n o c h r (tick s))
      keeps_command n (choose_block c b e) h i r s =
          ticked s _ (keeps_decide (either A P b e) (run_block A P call b) (run_block A P call e) (keeps_block b i.0) (keeps_block e i.1) (takes A c r (at s (asked c))) (at s (asked c)) r (tick s))
      keeps_command n (loop_block a k b) h i r s = ticked s _ (keeps_turns (named A P b) (run_block A P call b) (keeps_block b i) a k A.kind.full r (tick s))
      keeps_command n (grant_block g b) h i r s = ticked s _ (keeps_block b i (granted A r g) (tick s))
      keeps_command n (call_procedure p) h i r s = ticked s _ (called p r (tick s))

      pub keeps_commands : (n : ℕ) (cs : Commands) → EveryCommands Fit n cs → Keeps (run_commands A P call cs)
      keeps_commands n no_commands h r s = steady.same s
      keeps_commands n (then_command c cs) h r s = steady.next s (run A P call c r s) _ (keeps_command n c h.0 h.1 r s) (keeps_commands n cs h.2 r (run A P call c r s))

      keeps_block : (b : Block) → EveryBlock Fit b → Keeps (run_block A P call b)
      keeps_block (numbered_block n cs) h r s = keeps_commands n cs h r s

  module _ (fit : (p : ℕ) → EveryBlock Fit (body P p)) where
    pub keeps_calls : (k p : ℕ) → Keeps (calls A P k p)
    keeps_calls zero p r s = steady.same s
    keeps_calls (suc k) p r s =
        cond_both (eqb p k) _ _ (R s) (λ e. keeps_block (calls A P k) (keeps_calls k) (body P k) (fit k) (entering A P k r) s) (λ e. keeps_calls k p r s)

    pub keeps_entries : (es : List ℕ) (s : State) → R s (run_entries A P es s)
    keeps_entries [] s = steady.same s
    keeps_entries (e ∷ es) s =
        ticked s _
        (steady.next (tick s) (run_block A P (calls A P e) (body P e) (fresh A P e) (tick s)) _ (keeps_block (calls A P e) (keeps_calls e) (body P e) (fit e) (fresh A P e) (tick s)) (keeps_entries es _))
