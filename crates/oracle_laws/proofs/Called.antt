-- What calls may write.
use Rattle.std.proofs.Common.{◌≡◌, ℕ, zero, suc, ◌<◌, ◌≤◌, false, sym, refl, ap, ◌∙◌, ⊎_elim, arith}
use Rattle.std.proofs.lemmas.Bool.{eq-eqb, ne_eqb, cases_eq, cond-true, cond-false}
use Rattle.layout.specs.Tree.{Command, plain_command, choose_block, loop_block, grant_block, call_procedure, Commands, no_commands, then_command, Block, numbered_block}
use Rattle.layout.specs.Program.{Program, body}
use Rattle.oracle_laws.specs.Sets.{Sets}
use Rattle.oracle_laws.specs.Smallest.{writes, writes_commands, writes_block, called_below}
use Rattle.oracle_laws.proofs.Every.{EveryIn, EveryCommands, EveryBlock}
use Rattle.oracle_laws.proofs.Standing.{Calls}

module _ (P : Program) where
  -- a call of a procedure below k may write what its body may write
  pub called_at : (k p x : ℕ) → p < k → called_below P k p x ≡ writes_block P (called_below P p) (body P p) x
  called_at zero p x h = absurd (omega arith)
  called_at (suc k) p x h =
      ⊎_elim
      (λ (e : p ≡ k). cond-true _ _ _ (eq-eqb p k e) ∙ ap (λ (j : ℕ). writes_block P (called_below P j) (body P j) x) (sym e))
      (λ (n : p ≡ k → ⊥). cond-false _ _ _ (ne_eqb p k n) ∙ called_at k p x (below k p h n))
      (cases_eq p k)
    where
      below : (k p : ℕ) → p < suc k → (p ≡ k → ⊥) → p < k
      below k p h n = omega (arith, n)

  -- a call of another may write nothing
  pub called_past : (k p x : ℕ) → k ≤ p → called_below P k p x ≡ false
  called_past zero p x h = refl
  called_past (suc k) p x h = let n : p ≡ k → ⊥ = λ e. omega arith in cond-false _ _ _ (ne_eqb p k n) ∙ called_past k p x (omega arith)

  -- a tree that calls procedures below k depends on those alone
  module _ (d e : Sets) (k x : ℕ) (same : (p : ℕ) → p < k → d p x ≡ e p x) where
    mutual
      agree : (n : ℕ) (c : Command) → Calls k n c → EveryIn (Calls k) c → writes P d c x ≡ writes P e c x
      agree n (plain_command o c) h q = refl
      agree n (choose_block c b f) h q = rw (agree_block b q.0, agree_block f q.1)
      agree n (loop_block a t b) h q = agree_block b q
      agree n (grant_block g b) h q = agree_block b q
      agree n (call_procedure p) h q = same p h.0

      agree_commands : (n : ℕ) (cs : Commands) → EveryCommands (Calls k) n cs → writes_commands P d cs x ≡ writes_commands P e cs x
      agree_commands n no_commands q = refl
      agree_commands n (then_command c cs) q = rw (agree n c q.0 q.1, agree_commands n cs q.2)

      pub agree_block : (b : Block) → EveryBlock (Calls k) b → writes_block P d b x ≡ writes_block P e b x
      agree_block (numbered_block n cs) q = agree_commands n cs q
