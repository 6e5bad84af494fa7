-- The reading of a block so far, and one command more.
use Rattle.std.proofs.Common.{◌≡◌, ℕ, zero, suc, ◌+◌, ◌≤◌, max, List, [], ◌∷◌, ◌++◌, length, get_or, sym, refl, ap, ◌∙◌, subst, append_assoc, append-nil, arith, length-append, w8, Fits}
use Rattle.layout.specs.declared.Span.{Span}
use Rattle.layout.specs.Tree.{Commands, no_commands, then_command}
use Rattle.layout.specs.Bytes.{Bytes}
use Rattle.layout.specs.Layout.{Flat, command_bytes, encode_commands}
use Rattle.layout.specs.Folds.{size, most_commands, highest_commands, spans, spans_commands}
use Rattle.layout.specs.Scope.{Scope}
use Rattle.layout.specs.Front.{Front, got, bad, front}
use Rattle.layout.specs.Reading.{Got, ok, fault, and_then, one, next, read, inner}
use Rattle.layout.proofs.Numbers.{bytes_right}
use Rattle.layout.proofs.Fronts.{True, front_true}
use Rattle.layout.proofs.Completes.{command_long, read_front}
use Rattle.layout.proofs.Sizes.{spans_size}
use Rattle.package.specs.declared.bodies.Cost.{Cost}
use Rattle.package.specs.declared.refusal.Refusal.{Refusal}
use Rattle.package.specs.Faults.{number, offset}
use Rattle.package.specs.Walks.{capped, Stops, WalkedOne, WalkedAll}
use Rattle.package.proofs.Steps.{stops, refused_as}

and_ok : {A : Type 0} (g : Got A) → g ≡ and_then g (λ a. ok a)
and_ok (ok a) = refl
and_ok (fault n o) = refl

and_and : {A B C : Type 0} (g : Got A) (h : A → B) (k : B → C) → and_then (and_then g (λ a. ok (h a))) (λ b. ok (k b)) ≡ and_then g (λ a. ok (k (h a)))
and_and (ok a) h k = refl
and_and (fault n o) h k = refl

read_end : (g : ℕ) (w : Scope) (bs : List ℕ) (at d n q : ℕ) → length bs ≡ 0 → 1 ≤ g → read g w bs at d n q ≡ ok no_commands
unfolding read
read_end zero w bs at d n q e h = absurd (omega arith)
read_end (suc g) w [] at d n q e h = refl
read_end (suc g) w (x ∷ bs) at d n q e h = absurd (omega arith)

read_next : (g : ℕ) (w : Scope) (bs : List ℕ) (at d n q : ℕ) → 1 ≤ length bs → 1 ≤ g → (h : ℕ) × (g ≡ suc h) × (read g w bs at d n q ≡ next (inner h w (d + 1)) (λ ys a m. read h w ys a d m q) w (front bs) at d n q)
read_next zero w bs at d n q l h = absurd (omega arith)
read_next (suc g) w bs at d n q l h = (g, refl, read_front g w bs at d n q l)

pub bytes_all : (bs : List ℕ) → ((i : ℕ) → Fits w8 (get_or bs i 0)) → Bytes bs
bytes_all [] h = tt
bytes_all (x ∷ bs) h = ((h 0).fits, bytes_all bs (λ i. h (suc i)))

-- a command is as long as its bytes
pub took_off : (bs : List ℕ) → Bytes bs → (c : Flat) (after : List ℕ) → front bs ≡ got c after → (command_bytes c ++ after ≡ bs) × (length (command_bytes c) + length after ≡ length bs) × (1 ≤ length (command_bytes c)) × Bytes after
took_off bs small c after e =
    let t = subst (True command_bytes bs) e (front_true bs small) in
    let l : length (command_bytes c ++ after) ≡ length bs = ap length t in
    (t, sym (length-append (command_bytes c) after) ∙ l, command_long c, bytes_right (command_bytes c) after (rw t small))

-- the reading of bs from `start` on has come to `rest`
pub record Going (w : Scope) (bs : List ℕ) (start d q : ℕ) (before : List Span) (rest : List ℕ) (at : ℕ) (cur : List Span) (steps high : ℕ) : Type 0 where
  pub pre : Commands → Commands
  pub passed : List Span
  pub laid : (ts : Commands) → encode_commands ts ≡ rest → encode_commands (pre ts) ≡ bs
  pub spanned : (ts : Commands) → spans_commands start (pre ts) ≡ passed ++ spans_commands at ts
  pub table : cur ≡ before ++ passed
  pub took : (ts : Commands) → capped (most_commands w.steps (pre ts)) ≡ capped (steps + most_commands w.steps ts)
  pub small : steps ≡ capped steps
  pub top : (ts : Commands) → highest_commands w.heights (pre ts) ≡ max high (highest_commands w.heights ts)
  pub bytes : Bytes rest
  pub goes : (f : ℕ) → length bs + 1 ≤ f → (g : ℕ) × (length rest + 1 ≤ g) × (read f w bs start d (length before) q ≡ and_then (read g w rest at d (length cur) q) (λ ts. ok (pre ts)))

pub going_start : (w : Scope) (bs : List ℕ) (at d q : ℕ) (before : List Span) → Bytes bs → Going w bs at d q before bs at before 0 0
going_start w bs at d q before these = record {
  pre = λ ts. ts;
  passed = [];
  laid = λ ts e. e;
  spanned = λ ts. refl;
  table = sym (append-nil before);
  took = λ ts. ap capped (omega arith);
  small = refl;
  top = λ ts. omega arith;
  bytes = these;
  goes = λ f h. (f, h, and_ok (read f w bs at d (length before) q));
}

module _ {w : Scope} {bs : List ℕ} {start d q : ℕ} {before : List Span} {rest : List ℕ} {at : ℕ} {cur : List Span} {steps high : ℕ} (so : Going w bs start d q before rest at cur steps high) where
  pub going_end : (c : Cost) → c.steps ≡ steps → c.highest ≡ high → length rest ≡ 0 → WalkedAll w bs start d q before cur c
  going_end c s t e = record {
    tree = so.pre no_commands;
    reads = λ f h. let i = so.goes f h in i.2 ∙ ap (λ g. and_then g (λ ts. ok (so.pre ts))) (read_end i.0 w rest at d (length cur) q e (omega (arith, i.1)));
    is = so.laid no_commands (none rest e);
    blocks = so.table ∙ ap (λ (t : List Span). before ++ t) (sym (so.spanned no_commands ∙ append-nil so.passed));
    steps = s ∙ so.small ∙ sym (so.took no_commands ∙ ap capped (omega arith));
    high = t ∙ sym (so.top no_commands ∙ omega arith);
  }
    where
      none : (xs : List ℕ) → length xs ≡ 0 → [] ≡ xs
      none [] h = refl
      none (x ∷ xs) h = absurd (omega arith)

  pub going_bad : (m : ℕ) (e : Refusal) → 1 ≤ length rest → front rest ≡ bad m → number e ≡ m → offset e ≡ at → Stops (length bs + 1) (λ f. read f w bs start d (length before) q) e
  going_bad m e l b p o f h =
      let i = so.goes f h in
      let t = read_next i.0 w rest at d (length cur) q l (omega (arith, i.1)) in
      λ n. i.2 ∙ ap (λ g. and_then g (λ ts. ok (so.pre ts))) (t.2 ∙ ap (λ (x : Front Flat). next (inner t.0 w (d + 1)) (λ ys a m. read t.0 w ys a d m q) w x at d (length cur) q) b) ∙ rw (p, o)

  module _ {c : Flat} {after : List ℕ} (e : front rest ≡ got c after) where
    pub off : (command_bytes c ++ after ≡ rest) × (length (command_bytes c) + length after ≡ length rest) × (1 ≤ length (command_bytes c)) × Bytes after
    off = took_off rest so.bytes c after e

    turn : (f : ℕ) → length bs + 1 ≤ f → (g : ℕ) × (length rest ≤ g) × (read f w bs start d (length before) q ≡ and_then (next (inner g w (d + 1)) (λ ys a m. read g w ys a d m q) w (got c after) at d (length cur) q) (λ ts. ok (so.pre ts)))
    turn f h =
        let i = so.goes f h in
        let l = off in
        let t = read_next i.0 w rest at d (length cur) q (omega arith) (omega (arith, i.1)) in
        (t.0, omega (arith, t.1, i.1), i.2 ∙ ap (λ g. and_then g (λ ts. ok (so.pre ts))) (t.2 ∙ ap (λ (x : Front Flat). next (inner t.0 w (d + 1)) (λ ys a m. read t.0 w ys a d m q) w x at d (length cur) q) e))

    pub going_stops : (x : Refusal) → Stops (length (command_bytes c)) (λ f. one (inner f w (d + 1)) w c at d (length cur) q) x → Stops (length bs + 1) (λ f. read f w bs start d (length before) q) x
    going_stops x r f h =
        let t = turn f h in
        let l = off in
        refused_as _ _ x t.2 (stops _ _ x (stops (one (inner t.0 w (d + 1)) w c at d (length cur) q) _ x (r t.0 (omega (arith, t.1)))))

    pub going_on : (x : Cost) (cur' : List Span) (steps' high' at' : ℕ) → at' ≡ at + length (command_bytes c) → WalkedOne w c at d q cur cur' x → steps' ≡ capped (steps + x.steps) → high' ≡ max high x.highest → Going w bs start d q before after at' cur' steps' high'
    going_on x cur' steps' high' at' o r p t = record {
      pre = λ ts. so.pre (then_command r.tree ts);
      passed = so.passed ++ spans at r.tree;
      laid = λ ts l. so.laid (then_command r.tree ts) (let a = r.is in let b = off.0 in cc);
      spanned = λ ts. so.spanned (then_command r.tree ts) ∙ (let i = r.is in rw (i, ← o) (sym (append_assoc so.passed (spans at r.tree) (spans_commands at' ts))));
      table = r.blocks ∙ ap (λ (t : List Span). t ++ spans at r.tree) so.table ∙ append_assoc before so.passed (spans at r.tree);
      took = λ ts. so.took (then_command r.tree ts) ∙ omega (arith, r.steps);
      small = omega arith;
      top = λ ts. so.top (then_command r.tree ts) ∙ omega (arith, r.high);
      bytes = off.3;
      goes = λ f h.
          let u = turn f h in
          let l = off in
          let s = spans_size r.tree at in
          let k : length cur + size r.tree ≡ length cur' = sym (ap length r.blocks ∙ length-append cur (spans at r.tree) ∙ omega arith) in
          (u.0, omega (arith, u.1), u.2 ∙ rw (r.reads u.0 (omega (arith, u.1)), k, ← o) (and_and (read u.0 w after at' d (length cur') q) (λ ts. then_command r.tree ts) so.pre));
    }
