-- A walk over the bytes of commands, and what their tree may write.
use Rattle.std.proofs.Common.{◌≡◌, ℕ, suc, ◌+◌, ◌*◌, ◌<◌, ◌≤◌, Bool, true, false, ◌||◌, ltb, List, [], ◌++◌, length, get_or, sym, refl, ap, ◌∙◌, mul-le-mul_right, arith, w8, Fits}
use Rattle.std.proofs.lemmas.Bool.{or_left, le-ltb}
use Rattle.layout.specs.Tree.{Plain, Choice, Command, plain_command, choose_block, loop_block, grant_block, call_procedure, Commands, no_commands, then_command, Block, numbered_block}
use Rattle.layout.specs.Bytes.{Bytes}
use Rattle.layout.specs.Layout.{Flat, plain, choose, loop, grant, call, command_bytes, flat, encode_commands, encode_block}
use Rattle.layout.specs.Front.{got, bad, front}
use Rattle.layout.specs.Program.{body}
use Rattle.layout.proofs.Fronts.{front_of}
use Rattle.package.proofs.Turns.{bytes_all, took_off}
use Rattle.oracle_laws.specs.Sets.{target}
use Rattle.oracle_laws.specs.Smallest.{writes, writes_commands, writes_block}
use Rattle.oracle_laws.proofs.Called.{called_at, called_past}
use Rattle.oracles.specs.declared.walking.Question.{Question}
use Rattle.oracles.specs.Answers.{asked, callable, TellsOne, TellsAll, TellsTwo}

-- whether a command, commands or a block may write the place of a question
abbrev one : Question → Command → Bool
one q c = writes (asked q) (callable q) c q.place

abbrev all : Question → Commands → Bool
all q cs = writes_commands (asked q) (callable q) cs q.place

abbrev whole : Question → Block → Bool
whole q b = writes_block (asked q) (callable q) b q.place

-- of the commands of bs, those of rest are left, and the others do not write it
pub record Going (q : Question) (bs rest : List ℕ) : Type 0 where
  pub bytes : Bytes rest
  pub short : length rest ≤ length bs
  pub left : (cs : Commands) → encode_commands cs ≡ bs → (ts : Commands) × (encode_commands ts ≡ rest) × (all q cs ≡ all q ts)

pub going_start : (q : Question) (bs : List ℕ) → ((i : ℕ) → Fits w8 (get_or bs i 0)) → Going q bs bs
going_start q bs small = record { bytes = bytes_all bs small; short = omega arith; left = λ cs e. (cs, e, refl) }

none_left : (f : Flat) (after rest : List ℕ) → front rest ≡ got f after → [] ≡ rest → ⊥
unfolding front
none_left f after rest e z = let p : front [] ≡ got f after = ap front z ∙ e in cc

module _ {q : Question} {bs rest : List ℕ} (so : Going q bs rest) where
  pub going_end : (m : ℕ) → front rest ≡ bad m → TellsAll q bs false
  going_end m e cs is = let l = so.left cs is in last l.0 l.1 l.2
    where
      last : (ts : Commands) → encode_commands ts ≡ rest → all q cs ≡ all q ts → false ≡ all q cs
      last no_commands i w = sym w
      last (then_command t ts) i w =
          let p : front rest ≡ got (flat t) (encode_commands ts) = ap front (sym i) ∙ front_of (flat t) (encode_commands ts) in cc

  module _ {f : Flat} {after : List ℕ} (e : front rest ≡ got f after) where
    pub off_bytes : (command_bytes f ++ after ≡ rest) × (length (command_bytes f) + length after ≡ length rest) × (1 ≤ length (command_bytes f)) × Bytes after
    off_bytes = took_off rest so.bytes f after e

    -- the command at the front of what is left
    at_front : (cs ts : Commands) → encode_commands ts ≡ rest → all q cs ≡ all q ts → (t : Command) × (us : Commands) × (flat t ≡ f) × (encode_commands us ≡ after) × (all q cs ≡ (one q t || all q us))
    at_front cs no_commands i w = absurd (none_left f after rest e i)
    at_front cs (then_command t us) i w =
        let p : front rest ≡ got (flat t) (encode_commands us) = ap front (sym i) ∙ front_of (flat t) (encode_commands us) in
        (t, us, (cc), (cc), w)

    first : (cs : Commands) → encode_commands cs ≡ bs → (t : Command) × (us : Commands) × (flat t ≡ f) × (encode_commands us ≡ after) × (all q cs ≡ (one q t || all q us))
    first cs is = let l = so.left cs is in at_front cs l.0 l.1 l.2

    pub going_hit : (r : Bool) → TellsOne q f r → r ≡ true → TellsAll q bs true
    going_hit r h told cs is =
        let l = first cs is in
        sym (l.4 ∙ or_left _ _ (sym (h l.0 l.2) ∙ told))

    pub going_on : (r : Bool) → TellsOne q f r → r ≡ false → Going q bs after
    going_on r h untold = let b = off_bytes in record {
      bytes = b.3;
      short = omega (arith, so.short);
      left = λ cs is.
          let l = first cs is in
          (l.1, l.3, l.4 ∙ ap (λ (t : Bool). t || all q l.1) (sym (h l.0 l.2) ∙ untold));
    }

-- a block, by its bytes
pub block_told : (q : Question) (b : Block) (ys : List ℕ) (r : Bool) → encode_block b ≡ ys → TellsAll q ys r → r ≡ whole q b
block_told q (numbered_block n cs) ys r e h = h cs e

-- two blocks: the first may write it, or else what the second says
module _ (q : Question) (y z : List ℕ) (r : Bool) (h : TellsAll q y r) where
  pub first_told : r ≡ true → TellsTwo q y z r
  first_told told b d i j = told ∙ sym (or_left _ _ (sym (block_told q b y r i h) ∙ told))

  pub second_told : (s : Bool) → r ≡ false → TellsAll q z s → TellsTwo q y z s
  second_told s untold k b d i j =
      block_told q d z s j k ∙ ap (λ (t : Bool). t || whole q d) (sym untold ∙ block_told q b y r i h)

module _ (q : Question) (f : Flat) where
  pub plain_told : (c : Plain) (r : Bool) → f ≡ plain c → r ≡ target (asked q) c q.place → TellsOne q f r
  plain_told c r e h (plain_command o p) is = let same : c ≡ p = cc in h ∙ ap (λ (p : Plain). target (asked q) p q.place) same
  plain_told c r e h (choose_block p b d) is = cc
  plain_told c r e h (loop_block a k b) is = cc
  plain_told c r e h (grant_block g b) is = cc
  plain_told c r e h (call_procedure p) is = cc

  pub choice_told : (c : Choice) (y z : List ℕ) (r : Bool) → f ≡ choose c y z → TellsTwo q y z r → TellsOne q f r
  choice_told c y z r e h (choose_block p b d) is = h b d (cc) (cc)
  choice_told c y z r e h (plain_command o p) is = cc
  choice_told c y z r e h (loop_block a k b) is = cc
  choice_told c y z r e h (grant_block g b) is = cc
  choice_told c y z r e h (call_procedure p) is = cc

  pub loop_told : (a k : ℕ) (y : List ℕ) (r : Bool) → f ≡ loop a k y → TellsAll q y r → TellsOne q f r
  loop_told a k y r e h (loop_block u v b) is = block_told q b y r (cc) h
  loop_told a k y r e h (plain_command o p) is = cc
  loop_told a k y r e h (choose_block p b d) is = cc
  loop_told a k y r e h (grant_block g b) is = cc
  loop_told a k y r e h (call_procedure p) is = cc

  pub grant_told : (g : ℕ) (y : List ℕ) (r : Bool) → f ≡ grant g y → TellsAll q y r → TellsOne q f r
  grant_told g y r e h (grant_block u b) is = block_told q b y r (cc) h
  grant_told g y r e h (plain_command o p) is = cc
  grant_told g y r e h (choose_block p b d) is = cc
  grant_told g y r e h (loop_block a k b) is = cc
  grant_told g y r e h (call_procedure p) is = cc

  call_is : (p : ℕ) (r : Bool) → f ≡ call p → r ≡ callable q p q.place → TellsOne q f r
  call_is p r e h (call_procedure o) is = let same : p ≡ o = cc in h ∙ ap (λ (s : ℕ). callable q s q.place) same
  call_is p r e h (plain_command o c) is = cc
  call_is p r e h (choose_block c b d) is = cc
  call_is p r e h (loop_block a k b) is = cc
  call_is p r e h (grant_block g b) is = cc

  -- the body of a procedure below the limit may call lower ones
  pub call_told : (p k : ℕ) (ys : List ℕ) (r : Bool) → f ≡ call p → k ≡ p → k < q.limit → ys ≡ encode_block (body (asked q) k) → TellsAll (record q { limit = k }) ys r → TellsOne q f r
  call_told p k ys r e same l i h =
      call_is p r e (block_told (record q { limit = k }) (body (asked q) k) ys r (sym i) h ∙ sym (called_at (asked q) q.limit k q.place l) ∙ ap (λ (s : ℕ). callable q s q.place) same)

  pub no_call_told : (p k : ℕ) → f ≡ call p → k ≡ p → q.limit ≤ k → TellsOne q f (ltb k q.limit)
  no_call_told p k e same l =
      call_is p (ltb k q.limit) e (le-ltb k q.limit l ∙ sym (called_past (asked q) q.limit k q.place l) ∙ ap (λ (s : ℕ). callable q s q.place) same)

-- a lower procedure weighs less, however long its body
pub lighter : (p k n a b : ℕ) → p < k → a ≤ n → p * (2 * n + 2) + (2 * a + 1) < k * (2 * n + 2) + b
lighter p k n a b l s = let h : suc p * (2 * n + 2) ≤ k * (2 * n + 2) = mul-le-mul_right (2 * n + 2) l in omega (arith, h)
