-- The layout of a body that keeps the limits is read as that body.
use Rattle.std.proofs.Common.{◌≡◌, ℕ, zero, suc, ◌+◌, ◌<◌, ◌≤◌, Bool, true, leb, List, [], ◌∷◌, length, sym, refl, ap, ◌∙◌, arith, length-append}
use Rattle.std.proofs.lemmas.Bool.{cond-true, le-leb}
use Rattle.layout.specs.Tree.{Plain, set_place, copy_place, combine_places, pick_cell, put_cell, drive_device, Choice, when_place, try_frame, Command, plain_command, choose_block, loop_block, grant_block, call_procedure, Commands, no_commands, then_command, Block, numbered_block}
use Rattle.layout.specs.Layout.{Flat, plain, choose, loop, grant, call, plain_bytes, command_bytes, flat, encode_commands, encode_block, choice_head, loop_head, grant_head}
use Rattle.layout.specs.Folds.{size, size_commands, size_block}
use Rattle.layout.specs.Scope.{Scope, turns, named, targets, low, blocks}
use Rattle.layout.specs.Limits.{Kept, Keeps, KeepsCommands, KeepsBlock, Sound}
use Rattle.layout.specs.Front.{front}
use Rattle.layout.specs.Reading.{Got, ok, and_then, demand, checked, one, next, read, inner, read_body}
use Rattle.layout.proofs.Fronts.{front_of}

pub passes : {A : Type 0} (b : Bool) (m o : ℕ) (g h : Got A) → b ≡ true → g ≡ h → demand b m o g ≡ h
passes b m o g h e p = cond-true b _ _ e ∙ p

pub goes : {A B : Type 0} (g : Got A) (k : A → Got B) (a : A) (h : Got B) → g ≡ ok a → k a ≡ h → and_then g k ≡ h
goes g k a h e p = rw e p

pub check_passes : {A : Type 0} (w : Scope) (c : Flat) (at d n q : ℕ) (g h : Got A) → Kept w d c → n + q + blocks c ≤ 256 → g ≡ h → checked w c at d n q g ≡ h
check_passes w c at d n q g h k few p =
    passes (turns c) 8 at _ h k.repeats
    (passes (named w c) 6 at _ h k.declared
    (passes (targets w c) 7 at _ h k.assigns
    (passes (low w d c) 9 at _ h k.reaches
    (passes (leb (n + q + blocks c) 256) 5 at g h (le-leb (n + q + blocks c) 256 few) p))))

some : (b : Block) → 1 ≤ size_block b
some (numbered_block i cs) = omega arith

-- a command has at least one byte
plain_long : (c : Plain) → 1 ≤ length (plain_bytes c)
plain_long (set_place x n) = omega arith
plain_long (copy_place x a) = omega arith
plain_long (combine_places o x a b) = omega arith
plain_long (pick_cell x t a) = omega arith
plain_long (put_cell t a b) = omega arith
plain_long (drive_device d a) = omega arith

-- a choice is as long as its head and its blocks
pub choice_length : (c : Choice) (y z : List ℕ) → length (command_bytes (choose c y z)) ≡ choice_head c + (length y + length z)
choice_length (when_place a) y z = let l = length-append y z in omega arith
choice_length (try_frame g a) y z = let l = length-append y z in omega arith

choice_head_long : (c : Choice) → 1 ≤ choice_head c
choice_head_long (when_place a) = omega arith
choice_head_long (try_frame g a) = omega arith

pub command_long : (c : Flat) → 1 ≤ length (command_bytes c)
command_long (plain c) = plain_long c
command_long (choose c y z) = let l = choice_length c y z in let h = choice_head_long c in omega arith
command_long (loop a k y) = omega arith
command_long (grant g y) = omega arith
command_long (call p) = omega arith

-- a block that has a command left
pub read_front : (f : ℕ) (w : Scope) (bs : List ℕ) (at d n q : ℕ) → 1 ≤ length bs → read (suc f) w bs at d n q ≡ next (inner f w (d + 1)) (λ ys a m. read f w ys a d m q) w (front bs) at d n q
unfolding read
read_front f w [] at d n q h = absurd (omega arith)
read_front f w (b ∷ bs) at d n q h = refl

mutual
  unfolding read

  one_complete : (c : Command) (f : ℕ) (w : Scope) (at d n q : ℕ) → length (command_bytes (flat c)) ≤ f → Keeps w d n at c → n + q + size c ≤ 256 → one (inner f w (d + 1)) w (flat c) at d n q ≡ ok c
  one_complete (plain_command o c) f w at d n q l h few = check_passes w (plain c) at d n q _ _ h.0 (omega arith) (ap (λ (m : ℕ). ok (plain_command m c)) (sym h.1))
  one_complete (choose_block c b e) f w at d n q l h few =
      let s = some b in
      let t = some e in
      let len = choice_length c (encode_block b) (encode_block e) in
      let head = choice_head_long c in
      check_passes w (choose c (encode_block b) (encode_block e)) at d n q _ _ h.0 (omega arith)
      (goes _ _ b _ (block_complete b f w (at + choice_head c) (d + 1) n (q + 1) (omega arith) h.1 (omega arith))
      (goes _ _ e _ (block_complete e f w (at + choice_head c + length (encode_block b)) (d + 1) (n + size_block b) q (omega arith) h.2 (omega arith)) refl))
  one_complete (loop_block a k b) f w at d n q l h few =
      let s = some b in
      check_passes w (loop a k (encode_block b)) at d n q _ _ h.0 (omega arith)
      (goes _ _ b _ (block_complete b f w (at + loop_head) (d + 1) n q (omega arith) h.1 (omega arith)) refl)
  one_complete (grant_block g b) f w at d n q l h few =
      let s = some b in
      check_passes w (grant g (encode_block b)) at d n q _ _ h.0 (omega arith)
      (goes _ _ b _ (block_complete b f w (at + grant_head) (d + 1) n q (omega arith) h.1 (omega arith)) refl)
  one_complete (call_procedure p) f w at d n q l h few = check_passes w (call p) at d n q _ _ h (omega arith) refl

  read_complete : (cs : Commands) (f : ℕ) (w : Scope) (at d n q : ℕ) → length (encode_commands cs) < f → KeepsCommands w d n at cs → n + q + size_commands cs ≤ 256 → read f w (encode_commands cs) at d n q ≡ ok cs
  read_complete no_commands zero w at d n q l h few = absurd (omega arith)
  read_complete no_commands (suc f) w at d n q l h few = refl
  read_complete (then_command c cs) zero w at d n q l h few = absurd (omega arith)
  read_complete (then_command c cs) (suc f) w at d n q l h few =
      let len = length-append (command_bytes (flat c)) (encode_commands cs) in
      let more = command_long (flat c) in
      read_front f w (encode_commands (then_command c cs)) at d n q (omega arith)
      ∙ rw (front_of (flat c) (encode_commands cs))
      (goes _ _ c _ (one_complete c f w at d n q (omega arith) h.0 (omega arith))
      (goes _ _ cs _ (read_complete cs f w (at + length (command_bytes (flat c))) d (n + size c) q (omega arith) h.1 (omega arith)) refl))

  block_complete : (b : Block) (f : ℕ) (w : Scope) (at d n q : ℕ) → length (encode_block b) < f → KeepsBlock w d n at b → n + q + size_block b ≤ 256 → inner f w d (encode_block b) at n q ≡ ok b
  block_complete (numbered_block i cs) f w at d n q l h few =
      goes _ _ cs _ (read_complete cs f w at d (n + 1) q l h.1 (omega arith)) (ap (λ (m : ℕ). ok (numbered_block m cs)) (sym h.0))

pub body_complete : (w : Scope) (at n : ℕ) (b : Block) → Sound w n at b → read_body w (encode_block b) at n ≡ ok b
body_complete w at n b h = block_complete b (length (encode_block b) + 1) w at 0 n 0 (omega arith) h.fits (omega (arith, h.few))
