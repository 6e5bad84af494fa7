-- One turn, by its parts.
use Rattle.std.proofs.Common.{◌≡◌, ℕ, zero, suc, ◌<◌, ◌≤◌, List, [], ◌∷◌, sym, refl, ap, ◌∙◌}
use Rattle.std.proofs.lemmas.Bool.{cond-true, cond-false, eq-eqb, lt-ltb, le-ltb}
use Rattle.frames.specs.Kinds.{Kind}
use Rattle.layout.specs.Tree.{Plain, set_place, copy_place, combine_places, pick_cell, put_cell, drive_device, when_place, try_frame, Block}
use Rattle.layout.specs.Layout.{Flat}
use Rattle.layout.specs.Layout as flat
use Rattle.layout.specs.Front.{Front, front}
use Rattle.layout.specs.Declarations.{Contents}
use Rattle.oracle_laws.specs.Sets.{Sets}
use Rattle.rules.specs.declared.Context.{Context}
use Rattle.rules.specs.Assembly.{Assembly}
use Rattle.rules.specs.Running.{State, at, tick, lower, run_plain}
use Rattle.running.specs.declared.levels.Level.{Level}
use Rattle.running.specs.declared.levels.Turns.{Turns}
use Rattle.running.specs.declared.lowering.Blocks.TheVariants.{One}
use Rattle.running.specs.Parts.{assembled, named_for}
use Rattle.running.specs.Levels.{Run, running, act, onward, learned, closed_loop, close, act_front, part_of, turn_of}

-- plain commands hang on the frame kind and the declarations alone
pub plain_any : (K : Kind) (w v : ℕ → ℕ → ℕ) (N M : Sets) (C : Contents) (B D : List Block) (o : ℕ) (c : Plain) (r : Context) (s : State) → run_plain (assembled K w N) (record { contents = C; bodies = B }) o c r s ≡ run_plain (assembled K v M) (record { contents = C; bodies = D }) o c r s
plain_any K w v N M C B D o (set_place x n) r s = refl
plain_any K w v N M C B D o (copy_place x a) r s = refl
plain_any K w v N M C B D o (combine_places f x a b) r s = refl
plain_any K w v N M C B D o (pick_cell x t a) r s = refl
plain_any K w v N M C B D o (put_cell t a b) r s = refl
plain_any K w v N M C B D o (drive_device d a) r s = refl

-- so do all commands, but for the grants
pub act_any : (K : Kind) (w : ℕ → ℕ → ℕ) (N M : Sets) (C : Contents) (t : Level) (c : Flat) (rest : ℕ) (ts : List Level) (s : State) → act (assembled K w N) C t c rest ts s ≡ act (assembled K w M) C t c rest ts s
act_any K w N M C t (flat.plain c) rest ts s = ap (running (onward t rest t.next ∷ ts)) (plain_any K w w N M C [] [] t.at c t.context (tick s))
act_any K w N M C t (flat.choose (when_place a) y z) rest ts s = refl
act_any K w N M C t (flat.choose (try_frame g a) y z) rest ts s = refl
act_any K w N M C t (flat.loop a k y) rest ts s = refl
act_any K w N M C t (flat.grant g y) rest ts s = refl
act_any K w N M C t (flat.call p) rest ts s = refl

-- a command that is this one
pub acted : (A : Assembly) (C : Contents) (t : Level) (c d : Flat) (rest : ℕ) (ts : List Level) (s : State) (run : Run) → c ≡ d → run ≡ act A C t d rest ts s → run ≡ act A C t c rest ts s
acted A C t c d rest ts s run e did = did ∙ ap (λ (x : Flat). act A C t x rest ts s) (sym e)

pub ran : {ts us : List Level} {s t : State} → ts ≡ us → s ≡ t → running ts s ≡ running us t
ran {ts} {us} {s} {t} e f = ap (λ (x : List Level). running x s) e ∙ ap (running us) f

-- a loop that goes on reads its place: it stops at 0, and else turns
module _ (A : Assembly) (t : Level) (u : Turns) (ts : List Level) (s : State) (run : Run) where
  pub loop_stops : (k : ℕ) → (k ≡ 0 → ⊥) → (at s u.place).value ≡ 0 → run ≡ running ts (lower A (named_for A.names (One u.block)) (learned A t.context u (at s u.place)) (tick s)) → run ≡ closed_loop A t u k ts s
  loop_stops zero some stop did = absurd (some refl)
  loop_stops (suc k) some stop did = did ∙ sym (cond-true _ _ _ (eq-eqb (at s u.place).value 0 stop))

-- a turn closes a block that has ended, and else does the command at its front
module _ (A : Assembly) (bytes : List ℕ) (C : Contents) (t : Level) (ts : List Level) (s : State) (run : Run) where
  pub turn_close : t.end ≤ t.at → run ≡ close A t t.closing ts s → run ≡ turn_of A bytes C t ts s
  unfolding turn_of
  turn_close le did = did ∙ sym (cond-false _ _ _ (le-ltb t.at t.end le))

  pub turn_front : (f : Front Flat) → t.at < t.end → front (part_of bytes t) ≡ f → run ≡ act_front A C t f ts s → run ≡ turn_of A bytes C t ts s
  unfolding turn_of
  turn_front f lt is did = did ∙ ap (λ (x : Front Flat). act_front A C t x ts s) (sym is) ∙ sym (cond-true _ _ _ (lt-ltb t.at t.end lt))
