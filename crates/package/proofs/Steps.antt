-- What each command comes to, from what its blocks come to.
use Rattle.std.proofs.Common.{◌≡◌, ℕ, zero, suc, ◌+◌, ◌-◌, ◌*◌, ◌≤◌, max, List, [], ◌∷◌, ◌++◌, length, get_or, set, Result, sym, refl, ap, ◌∙◌, inl, inr, append_assoc, append-nil, arith, length-append}
use Rattle.std.proofs.Math.Seq.{set-append_seam}
use Rattle.std.proofs.lemmas.Bool.{cases_lt}
use Rattle.layout.specs.declared.Span.{Span}
use Rattle.layout.specs.Tree.{Plain, Choice, Command, plain_command, choose_block, loop_block, grant_block, call_procedure, Commands, Block, numbered_block}
use Rattle.layout.specs.Layout.{Flat, plain, choose, loop, grant, call, command_bytes, encode_block, choice_head, loop_head, grant_head}
use Rattle.layout.specs.Folds.{size_commands, size_block, most_block, spans_commands, spans_block}
use Rattle.layout.specs.Scope.{Scope, blocks}
use Rattle.layout.specs.Limits.{Kept}
use Rattle.layout.specs.Reading.{Got, ok, and_then, checked, one, read, inner}
use Rattle.layout.proofs.Completes.{goes, check_passes, choice_length}
use Rattle.layout.proofs.Sizes.{spans_size_commands, spans_size_block}
use Rattle.package.specs.declared.bodies.Cost.{Cost}
use Rattle.package.specs.declared.refusal.Refusal.{Refusal}
use Rattle.package.specs.Holds.{Refused}
use Rattle.package.specs.Walks.{capped, Stops, WalkedOne, WalksOne, WalkedAll, WalkedBlock}

pub stops : {A B : Type 0} (g : Got A) (k : A → Got B) (e : Refusal) → Refused g e → Refused (and_then g k) e
stops g k e h = λ n. let p = h n in rw p

pub refused_as : {A : Type 0} (g h : Got A) (e : Refusal) → h ≡ g → Refused g e → Refused h e
refused_as g h e p r = λ n. p ∙ r n

capped_loop : (c k : ℕ) → capped (1 + k * (1 + c)) ≡ capped (capped (capped (capped c + 1) * k) + 1)
capped_loop c zero = omega arith
capped_loop c (suc k) =
    elim (cases_lt c 18446744073709551615) [
      | inl p ↦ let e : capped (capped c + 1) ≡ c + 1 = omega arith in rw e (omega arith)
      | inr p ↦ let e : capped (capped c + 1) ≡ 18446744073709551615 = omega arith in rw e (omega arith)
    ]

same_span : (a b c x y z : ℕ) → a ≡ x → b ≡ y → c ≡ z → ◌≡◌ {A = Span} (record { start = a; length = b; inside = c }) (record { start = x; length = y; inside = z })
same_span a b c x y z p q r = rw (p, q, r)

-- the span of a block, put where its place was kept
mark : (before tail : List Span) (s t : Span) (n : ℕ) → n ≡ length before → set ((before ++ (s ∷ [])) ++ tail) n t ≡ before ++ (t ∷ tail)
mark before tail s t n e = rw (e, append_assoc before (s ∷ []) tail) (set-append_seam before s tail t)

module _ (w : Scope) (bs : List ℕ) (at at' d q : ℕ) (before pushed : List Span) (s : Span) (same : at' ≡ at) (push : pushed ≡ before ++ (s ∷ [])) where
  one_more : length pushed ≡ length before + 1
  one_more = ap length push ∙ length-append before (s ∷ [])

  pub block_walked : (mid : List Span) (n : ℕ) (c : Cost) (t : Span) → n ≡ length before → t.start ≡ at → t.length ≡ length bs → t.inside ≡ length mid - length before - 1 → WalkedAll w bs at' d q pushed mid c → WalkedBlock w bs at d q before (set mid n t) c
  block_walked mid n c t e start long inside h =
      let k = one_more in
      let count = spans_size_commands h.tree at in
      let whole : mid ≡ (before ++ (s ∷ [])) ++ spans_commands at h.tree = rw (← same, ← push) h.blocks in
      let many = length-append (before ++ (s ∷ [])) (spans_commands at h.tree) in
      let total : length mid ≡ length before + 1 + size_commands h.tree = ap length whole ∙ many ∙ rw (← push) (omega arith) in
      let is = h.is in
      let span : t ≡ record { start = at; length = length (encode_block (numbered_block (length before) h.tree)); inside = size_commands h.tree } =
      same_span _ _ _ _ _ _ start (long ∙ sym (ap length is)) (inside ∙ omega arith) in
      record {
        tree = numbered_block (length before) h.tree;
        reads = λ f l. goes (read f w bs at d (length before + 1) q) _ h.tree _ (rw (← same, ← k) (h.reads f l)) refl;
        is = is;
        blocks = ap (λ (m : List Span). set m n t) whole ∙ mark before (spans_commands at h.tree) s t n e ∙ ap (λ (u : Span). before ++ (u ∷ spans_commands at h.tree)) span;
        steps = h.steps;
        high = h.high;
      }

pub decided : (w : Scope) (c c' : Flat) (d n q : ℕ) → c ≡ c' → Kept w d c × (n + q + blocks c ≤ 256) → Kept w d c' × (n + q + blocks c' ≤ 256)
decided w c c' d n q e h = rw (← e) h

-- a command is the one that its bytes are read as
pub carry_walks : (w : Scope) (c c' : Flat) (at d q : ℕ) (before after : List Span) (r : Result Cost Refusal) → c ≡ c' → WalksOne w c' at d q before after r → WalksOne w c at d q before after r
carry_walks w c c' at d q before after r e h = rw e h

module _ (w : Scope) (at d q : ℕ) (before : List Span) where
  pub walked_plain : (c : Plain) (r : Cost) → r.steps ≡ 1 → r.highest ≡ 0 → Kept w d (plain c) → length before + q ≤ 256 → WalkedOne w (plain c) at d q before before r
  walked_plain c r s h k few = record {
    tree = plain_command at c;
    reads = λ f l. check_passes w (plain c) at d (length before) q _ _ k (omega arith) refl;
    is = refl;
    blocks = sym (append-nil before);
    steps = s;
    high = h;
  }

  pub walked_call : (p : ℕ) (r : Cost) → r.steps ≡ capped (1 + get_or w.steps p 0) → r.highest ≡ get_or w.heights p 0 → Kept w d (call p) → length before + q ≤ 256 → WalkedOne w (call p) at d q before before r
  walked_call p r s h k few = record {
    tree = call_procedure p;
    reads = λ f l. check_passes w (call p) at d (length before) q _ _ k (omega arith) refl;
    is = refl;
    blocks = sym (append-nil before);
    steps = s;
    high = h;
  }

  module _ (a k : ℕ) (y : List ℕ) (kept : Kept w d (loop a k y)) (few : length before + q + 1 ≤ 256) where
    pub walked_loop : (after : List Span) (x r : Cost) → WalkedBlock w y (at + loop_head) (d + 1) q before after x → r.steps ≡ capped (capped (capped (x.steps + 1) * k) + 1) → r.highest ≡ x.highest → WalkedOne w (loop a k y) at d q before after r
    walked_loop after x r h s i =
        let is = h.is in
        record {
          tree = loop_block a k h.tree;
          reads = λ f l. check_passes w (loop a k y) at d (length before) q _ _ kept few (goes _ _ h.tree _ (h.reads f (omega arith)) refl);
          is = ap (λ (z : List ℕ). command_bytes (loop a k z)) is;
          blocks = h.blocks;
          steps = s ∙ ap (λ (m : ℕ). capped (capped (capped (m + 1) * k) + 1)) h.steps ∙ sym (capped_loop (most_block w.steps h.tree) k);
          high = i ∙ h.high;
        }

    pub stops_loop : (e : Refusal) → Stops (length y + 1) (λ f. inner f w (d + 1) y (at + loop_head) (length before) q) e → Stops (length (command_bytes (loop a k y))) (λ f. one (inner f w (d + 1)) w (loop a k y) at d (length before) q) e
    stops_loop e h f l = refused_as _ _ e (check_passes w (loop a k y) at d (length before) q _ _ kept few refl) (stops (inner f w (d + 1) y (at + loop_head) (length before) q) _ e (h f (omega arith)))

  module _ (g : ℕ) (y : List ℕ) (kept : Kept w d (grant g y)) (few : length before + q + 1 ≤ 256) where
    pub walked_grant : (after : List Span) (x r : Cost) → WalkedBlock w y (at + grant_head) (d + 1) q before after x → r.steps ≡ capped (x.steps + 1) → r.highest ≡ x.highest → WalkedOne w (grant g y) at d q before after r
    walked_grant after x r h s i =
        let is = h.is in
        record {
          tree = grant_block g h.tree;
          reads = λ f l. check_passes w (grant g y) at d (length before) q _ _ kept few (goes _ _ h.tree _ (h.reads f (omega arith)) refl);
          is = ap (λ (z : List ℕ). command_bytes (grant g z)) is;
          blocks = h.blocks;
          steps = omega (arith, s, h.steps);
          high = i ∙ h.high;
        }

    pub stops_grant : (e : Refusal) → Stops (length y + 1) (λ f. inner f w (d + 1) y (at + grant_head) (length before) q) e → Stops (length (command_bytes (grant g y))) (λ f. one (inner f w (d + 1)) w (grant g y) at d (length before) q) e
    stops_grant e h f l = refused_as _ _ e (check_passes w (grant g y) at d (length before) q _ _ kept few refl) (stops (inner f w (d + 1) y (at + grant_head) (length before) q) _ e (h f (omega arith)))

  module _ (c : Choice) (y z : List ℕ) (start : ℕ) (head : at + choice_head c ≡ start) (kept : Kept w d (choose c y z)) (few : length before + q + 2 ≤ 256) where
    into : (g h : Got Command) → g ≡ h → checked w (choose c y z) at d (length before) q g ≡ h
    into g h e = check_passes w (choose c y z) at d (length before) q g h kept few e

    room : (f : ℕ) → length (command_bytes (choose c y z)) ≤ f → (length y + 1 ≤ f) × (length z + 1 ≤ f)
    room f l = let n = choice_length c y z in let h = some c in (omega arith, omega arith)
      where
        some : (c : Choice) → 1 ≤ choice_head c
        some (Rattle.layout.specs.Tree.when_place a) = omega arith
        some (Rattle.layout.specs.Tree.try_frame g a) = omega arith

    module _ (mid : List Span) (x : Cost) (h : WalkedBlock w y start (d + 1) (q + 1) before mid x) where
      next : length mid ≡ length before + size_block h.tree
      next = ap length h.blocks ∙ length-append before (spans_block start h.tree) ∙ (let s = spans_size_block h.tree start in omega arith)

      first_read : (f : ℕ) → length (command_bytes (choose c y z)) ≤ f → inner f w (d + 1) y (at + choice_head c) (length before) (q + 1) ≡ ok h.tree
      first_read f l = rw head (h.reads f (room f l).0)

      pub stops_second : (e : Refusal) → Stops (length z + 1) (λ f. inner f w (d + 1) z (start + length y) (length mid) q) e → Stops (length (command_bytes (choose c y z))) (λ f. one (inner f w (d + 1)) w (choose c y z) at d (length before) q) e
      stops_second e i f l =
          let n = next in
          refused_as _ _ e (into _ _ (goes _ _ h.tree _ (first_read f l) refl))
          (stops (inner f w (d + 1) z (at + choice_head c + length y) (length before + size_block h.tree) q) _ e (rw (head, ← n) (i f (room f l).1)))

      pub walked_choose : (after : List Span) (v r : Cost) → WalkedBlock w z (start + length y) (d + 1) q mid after v → r.steps ≡ capped (max x.steps v.steps + 1) → r.highest ≡ max x.highest v.highest → WalkedOne w (choose c y z) at d q before after r
      walked_choose after v r i s top =
          let n = next in
          let is₁ = h.is in
          let is₂ = i.is in
          record {
            tree = choose_block c h.tree i.tree;
            reads = λ f l. into _ _ (goes _ _ h.tree _ (first_read f l) (goes (inner f w (d + 1) z (at + choice_head c + length y) (length before + size_block h.tree) q) _ i.tree _ (rw (head, ← n) (i.reads f (room f l).1)) refl));
            is = ap (λ (u : List ℕ). command_bytes (choose c u (encode_block i.tree))) is₁ ∙ ap (λ (u : List ℕ). command_bytes (choose c y u)) is₂;
            blocks = rw (head, is₁) (i.blocks ∙ ap (λ (m : List Span). m ++ spans_block (start + length y) i.tree) h.blocks ∙ append_assoc before (spans_block start h.tree) (spans_block (start + length y) i.tree));
            steps = omega (arith, s, h.steps, i.steps);
            high = top ∙ (let p = h.high in let o = i.high in cc);
          }
