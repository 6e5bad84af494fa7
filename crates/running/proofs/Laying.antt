-- Where what is left of a block lies in a package.
use Rattle.std.proofs.Common.{◌≡◌, ℕ, ◌+◌, ◌-◌, ◌<◌, ◌≤◌, List, [], ◌∷◌, length, get_or, take, drop, sym, refl, ap, ◌∙◌, subst, add-zero, arith, length-append, get_or-drop}
use lib.Seq.{take-append_seam}
use Rattle.layout.specs.declared.Span.{Span}
use Rattle.layout.specs.Tree.{Choice, when_place, try_frame, Command, Commands, no_commands, then_command, numbered_block}
use Rattle.layout.specs.Layout.{choose, command_bytes, flat, encode_commands, choice_head}
use Rattle.layout.specs.Folds.{size, size_commands, size_block, highest_commands, spans, spans_commands, spans_block}
use Rattle.layout.specs.Limits.{KeepsCommands, KeepsBlock}
use Rattle.layout.specs.Front.{front, got}
use Rattle.layout.specs.Declarations.{Contents}
use Rattle.layout.specs.Accepted.{below}
use Rattle.layout.proofs.Fronts.{front_of}
use Rattle.layout.proofs.Sizes.{spans_size}
use Rattle.oracle_laws.proofs.Lying.{Laid, laid_front, laid_rest}
use Rattle.running.specs.Levels.{capped, no_span, behind}

-- the n-th of what stands at n is the first of it
first_of : {X : Type 0} (all : List X) (n : ℕ) (x : X) (xs : List X) (none : X) → Laid all n (x ∷ xs) → get_or all n none ≡ x
first_of {X} all n x xs none h = sym (get_or-drop n all 0 none ∙ ap (λ (m : ℕ). get_or all m none) (add-zero n)) ∙ ap (λ (ys : List X). get_or ys 0 none) h.1

pub choice_length : (c : Choice) (y z : List ℕ) → length (command_bytes (choose c y z)) ≡ choice_head c + length y + length z
choice_length (when_place a) y z = omega (arith, length-append y z)
choice_length (try_frame g a) y z = omega (arith, length-append y z)

module _ (bytes : List ℕ) (C : Contents) where
  -- the commands cs, from the offset `at` to `end`, of procedure k, which is h high, at depth d; the next block is n
  pub record Lay (k d h n at end : ℕ) (cs : Commands) : Type 0 where
    pub keeps : KeepsCommands (below C k) d n at cs
    pub long : at + length (encode_commands cs) ≡ end
    pub inside : end ≤ length bytes
    pub lies : Laid bytes at (encode_commands cs)
    pub spans : Laid C.spans n (spans_commands at cs)
    pub few : n + size_commands cs ≤ 256
    pub high : highest_commands (below C k).heights cs < h

  pub lay_as : {k d h n n' at at' end end' : ℕ} {cs : Commands} → n ≡ n' → at ≡ at' → end ≡ end' → Lay k d h n at end cs → Lay k d h n' at' end' cs
  lay_as {k} {d} {h} {n} {n'} {at} {at'} {end} {end'} {cs} e f g l =
      subst (λ (x : ℕ). Lay k d h x at' end' cs) e (subst (λ (x : ℕ). Lay k d h n x end' cs) f (subst (λ (x : ℕ). Lay k d h n at x cs) g l))

  -- what is left of the block is its commands
  pub lay_part : {k d h n at end : ℕ} {cs : Commands} → Lay k d h n at end cs → take (end - at) (drop at bytes) ≡ encode_commands cs
  lay_part {k} {d} {h} {n} {at} {end} {cs} l =
      let e : end - at ≡ length (encode_commands cs) = omega (arith, l.long) in
      ap (λ (m : ℕ). take m (drop at bytes)) e ∙ ap (take (length (encode_commands cs))) l.lies.1 ∙ take-append_seam (encode_commands cs) l.lies.0

  module _ {k d h n at end : ℕ} {c : Command} {cs : Commands} (l : Lay k d h n at end (then_command c cs)) where
    pub lay_command : Laid bytes at (command_bytes (flat c))
    lay_command = laid_front bytes at (command_bytes (flat c)) (encode_commands cs) l.lies

    pub lay_spans : Laid C.spans n (spans at c)
    lay_spans = laid_front C.spans n (spans at c) (spans_commands (at + length (command_bytes (flat c))) cs) l.spans

    pub lay_ends : at + length (command_bytes (flat c)) + length (encode_commands cs) ≡ end
    lay_ends = omega (arith, l.long, length-append (command_bytes (flat c)) (encode_commands cs))

    pub lay_next : Lay k d h (n + size c) (at + length (command_bytes (flat c))) end cs
    lay_next = record {
      keeps = l.keeps.1;
      long = lay_ends;
      inside = l.inside;
      lies = laid_rest bytes at (command_bytes (flat c)) (encode_commands cs) l.lies;
      spans = subst (λ (m : ℕ). Laid C.spans (n + m) (spans_commands (at + length (command_bytes (flat c))) cs)) (spans_size c at) (laid_rest C.spans n (spans at c) (spans_commands (at + length (command_bytes (flat c))) cs) l.spans);
      few = omega (arith, l.few);
      high = omega (arith, l.high);
    }

    -- the command stands at the front
    pub lay_front : front (take (end - at) (drop at bytes)) ≡ got (flat c) (encode_commands cs)
    lay_front = ap front (lay_part l) ∙ front_of (flat c) (encode_commands cs)

  -- a block inside
  module _ (k d h n at i : ℕ) (xs : Commands) (keeps : KeepsBlock (below C k) d n at (numbered_block i xs)) (lies : Laid bytes at (encode_commands xs)) (inside : at + length (encode_commands xs) ≤ length bytes) (there : Laid C.spans n (spans_block at (numbered_block i xs))) (few : n + size_block (numbered_block i xs) ≤ 256) (high : highest_commands (below C k).heights xs < h) where
    pub lay_block : Lay k d h (capped (n + 1)) at (at + length (encode_commands xs)) xs
    lay_block =
        let e : n + 1 ≡ capped (n + 1) = omega arith in
        lay_as e refl refl (record {
          keeps = keeps.1;
          long = refl;
          inside = inside;
          lies = lies;
          spans = laid_rest C.spans n (record { start = at; length = length (encode_commands xs); inside = size_commands xs } ∷ []) (spans_commands at xs) there;
          few = omega arith;
          high = high;
        })

    pub block_behind : behind C.spans n ≡ n + size_block (numbered_block i xs)
    block_behind =
        let e : (get_or C.spans n no_span).inside ≡ size_commands xs = ap (λ (s : Span). s.inside) (first_of C.spans n _ (spans_commands at xs) no_span there) in
        omega arith

  -- nothing is left at the end
  pub lay_end : (k d h n at : ℕ) → at ≤ length bytes → n ≤ 256 → 0 < h → Lay k d h n at at no_commands
  lay_end k d h n at inside few high = record {
    keeps = tt;
    long = omega arith;
    inside = inside;
    lies = (drop at bytes, refl);
    spans = (drop n C.spans, refl);
    few = omega arith;
    high = high;
  }
