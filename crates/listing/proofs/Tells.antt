-- The listing of a block so far, and one command more.
use Rattle.std.proofs.Common.{◌≡◌, ℕ, ◌+◌, ◌-◌, ◌≤◌, min, List, [], ◌∷◌, ◌++◌, length, get_or, vec_items, sym, refl, ap, ◌∙◌, append_assoc, append-nil, arith, w8, Fits}
use Rattle.std.proofs.lemmas.Bool.{ltb-true}
use Rattle.layout.specs.Tree.{Plain, Choice, Command, Block, plain_command, choose_block, loop_block, grant_block, call_procedure, Commands, no_commands, then_command, numbered_block}
use Rattle.layout.specs.Bytes.{Bytes}
use Rattle.layout.specs.Layout.{Flat, plain, choose, loop, grant, call, command_bytes, flat, encode_commands, encode_block, choice_head, loop_head, grant_head}
use Rattle.layout.specs.Folds.{size, size_commands, size_block}
use Rattle.layout.specs.Scope.{Scope}
use Rattle.layout.specs.Limits.{Keeps, KeepsCommands, KeepsBlock}
use Rattle.layout.specs.Front.{got, bad, front}
use Rattle.layout.proofs.Fronts.{front_of}
use Rattle.layout.proofs.Completes.{choice_length}
use Rattle.package.proofs.Turns.{bytes_all, took_off}
use Rattle.listing.specs.declared.lines.Action.{Action}
use Rattle.listing.specs.declared.lines.Line.{Line}
use Rattle.listing.specs.declared.lines.Line.TheVariants as line
use Rattle.listing.specs.declared.lines.Role.{Role}
use Rattle.listing.specs.declared.lines.Role.TheVariants.{First, Second, Turn, Granted}
use Rattle.listing.specs.declared.bodies.BodyLines.{BodyLines}
use Rattle.listing.specs.Bodies.{tell, part_lines, sequence_lines, block_lines, command_lines, Adds, TellsBlock, TellsAll, TellsOne, TellsTwo}

-- of the commands cs, ts are left
pub record Left (d : ℕ) (w : Scope) (cs : Commands) (at last : ℕ) (old : BodyLines) (rest : List ℕ) (off : ℕ) (cur : BodyLines) : Type 0 where
  pub ts : Commands
  pub pre : List Line
  pub keeps : KeepsCommands w d cur.blocks off ts
  pub count : cur.blocks + size_commands ts ≡ old.blocks + size_commands cs
  pub end : off + length rest ≡ last
  pub is : encode_commands ts ≡ rest
  pub told : vec_items cur.lines ≡ vec_items old.lines ++ pre
  pub inputs : cur.inputs ≡ old.inputs
  pub whole : pre ++ sequence_lines old.inputs d off ts ≡ sequence_lines old.inputs d at cs

pub record Telling (d : ℕ) (bs : List ℕ) (at : ℕ) (old : BodyLines) (rest : List ℕ) (off : ℕ) (cur : BodyLines) : Type 0 where
  pub shorter : length rest ≤ length bs
  pub bytes : Bytes rest
  pub tells : (w : Scope) (cs : Commands) → KeepsCommands w d old.blocks at cs → old.blocks + size_commands cs ≤ 256 → at + length bs ≤ 8192 → encode_commands cs ≡ bs → Left d w cs at (at + length bs) old rest off cur

pub telling_start : (d : ℕ) (bs : List ℕ) (at : ℕ) (old : BodyLines) → ((j : ℕ) → Fits w8 (get_or bs j 0)) → Telling d bs at old bs at old
telling_start d bs at old small = record {
  shorter = omega arith;
  bytes = bytes_all bs small;
  tells = λ w cs k few low e. record { ts = cs; pre = []; keeps = k; count = refl; end = refl; is = e; told = sym (append-nil _); inputs = refl; whole = refl };
}

-- what stands at the front of commands that are left
none_left : (f : Flat) (after rest : List ℕ) → front rest ≡ got f after → [] ≡ rest → ⊥
unfolding front
none_left f after rest e z = let p : front [] ≡ got f after = ap front z ∙ e in cc

module _ {d : ℕ} {bs : List ℕ} {at : ℕ} {old : BodyLines} {rest : List ℕ} {off : ℕ} {cur : BodyLines} (so : Telling d bs at old rest off cur) where
  pub telling_end : (m : ℕ) → front rest ≡ bad m → TellsAll d bs at old cur
  telling_end m e = record { told = λ w cs k few low is. done w cs (so.tells w cs k few low is) }
    where
      done : (w : Scope) (cs : Commands) → Left d w cs at (at + length bs) old rest off cur → Adds (size_commands cs) (sequence_lines old.inputs d at cs) old cur
      done w cs l = last l.ts l.count l.is l.whole
        where
          last : (ts : Commands) → cur.blocks + size_commands ts ≡ old.blocks + size_commands cs → encode_commands ts ≡ rest → l.pre ++ sequence_lines old.inputs d off ts ≡ sequence_lines old.inputs d at cs → Adds (size_commands cs) (sequence_lines old.inputs d at cs) old cur
          last no_commands c x y = record {
            lines = rw (l.told, ← y, append-nil);
            blocks = omega arith;
            inputs = l.inputs;
          }
          last (then_command t ts) c x y =
              let p = front_of (flat t) (encode_commands ts) in
              let q : front rest ≡ got (flat t) (encode_commands ts) = ap front (sym x) ∙ p in
              absurd (cc)

  module _ {f : Flat} {after : List ℕ} (e : front rest ≡ got f after) where
    pub off_bytes : (command_bytes f ++ after ≡ rest) × (length (command_bytes f) + length after ≡ length rest) × (1 ≤ length (command_bytes f)) × Bytes after
    off_bytes = took_off rest so.bytes f after e

    pub telling_on : (off' : ℕ) (cur' : BodyLines) → off' ≡ min (off + (length rest - length after)) 18446744073709551615 → TellsOne d f off cur cur' → Telling d bs at old after off' cur'
    telling_on off' cur' o r = record {
      shorter = omega (arith, so.shorter, off_bytes.1);
      bytes = off_bytes.3;
      tells = λ w cs k few low e. go w cs few low (so.tells w cs k few low e);
    }
      where
        go : (w : Scope) (cs : Commands) → old.blocks + size_commands cs ≤ 256 → at + length bs ≤ 8192 → Left d w cs at (at + length bs) old rest off cur → Left d w cs at (at + length bs) old after off' cur'
        go w cs few low l = step l.ts l.keeps l.count l.is l.whole
          where
            step : (ts : Commands) → KeepsCommands w d cur.blocks off ts → cur.blocks + size_commands ts ≡ old.blocks + size_commands cs → encode_commands ts ≡ rest → l.pre ++ sequence_lines old.inputs d off ts ≡ sequence_lines old.inputs d at cs → Left d w cs at (at + length bs) old after off' cur'
            step no_commands k c x y = absurd (none_left f after rest e x)
            step (then_command t ts) k c x y =
                let p = front_of (flat t) (encode_commands ts) in
                let q : front rest ≡ got (flat t) (encode_commands ts) = ap front (sym x) ∙ p in
                let same : flat t ≡ f = cc in
                let tail : encode_commands ts ≡ after = cc in
                let b = off_bytes in
                let end = l.end in
                let one = r.told w t k.0 (omega arith) (omega arith) same in
                let here : off + length (command_bytes (flat t)) ≡ off' = rw same (omega arith) in
                let number : cur.blocks + size t ≡ cur'.blocks = sym one.blocks in
                record {
                  ts = ts;
                  pre = l.pre ++ command_lines old.inputs d off t;
                  keeps = rw (here, number) at k.1;
                  count = omega arith;
                  end = omega arith;
                  is = tail;
                  told = rw (one.lines, l.told, l.inputs, append_assoc);
                  inputs = one.inputs ∙ l.inputs;
                  whole = rw append_assoc (rw here at y);
                }

-- a block, its line first
pub block_tells : {d : ℕ} {r : Role} {bs : List ℕ} {at : ℕ} (old : BodyLines) {mid new : BodyLines} → vec_items mid.lines ≡ vec_items old.lines ++ (line.Block old.blocks d r ∷ []) → mid.blocks ≡ min (old.blocks + 1) 18446744073709551615 → mid.inputs ≡ old.inputs → TellsAll d bs at mid new → TellsBlock d r bs at old new
block_tells {d} {r} {bs} {at} old {mid} {new} p e i h = record { told = tells }
  where
    tells : (w : Scope) (b : Block) → KeepsBlock w d old.blocks at b → old.blocks + size_block b ≤ 256 → at + length bs ≤ 8192 → encode_block b ≡ bs → Adds (size_block b) (block_lines old.inputs d r at b) old new
    tells w (numbered_block x cs) k few low is =
        let same : mid.blocks ≡ old.blocks + 1 = omega arith in
        let t = h.told w cs (rw same k.1) (omega arith) low is in
        record {
          lines = rw (t.lines, p, i, k.0, append_assoc);
          blocks = omega (arith, t.blocks);
          inputs = t.inputs ∙ i;
        }

-- two blocks, one after the other
pub two_tell : {d : ℕ} {ys zs : List ℕ} {start second : ℕ} {old mid new : BodyLines} → second ≡ min (start + length ys) 18446744073709551615 → TellsBlock d First ys start old mid → TellsBlock d Second zs second mid new → TellsTwo d ys zs start old new
two_tell {d} {ys} {zs} {start} {second} {old} {mid} {new} o h g = record { told = tells }
  where
    tells : (w : Scope) (b e : Block) → KeepsBlock w d old.blocks start b → KeepsBlock w d (old.blocks + size_block b) (start + length ys) e → old.blocks + (size_block b + size_block e) ≤ 256 → start + length ys + length zs ≤ 8192 → encode_block b ≡ ys → encode_block e ≡ zs → Adds (size_block b + size_block e) (block_lines old.inputs d First start b ++ block_lines old.inputs d Second (start + length ys) e) old new
    tells w b e k j few low y z =
        let s : second ≡ start + length ys = omega arith in
        let t = h.told w b k (omega arith) (omega arith) y in
        let m = t.blocks in
        let u = g.told w e (rw (s, m) j) (omega arith) (omega arith) z in
        record {
          lines = rw (u.lines, t.lines, t.inputs, s, append_assoc);
          blocks = omega (arith, u.blocks);
          inputs = u.inputs ∙ t.inputs;
        }

-- a command, its line first, then its blocks

module _ {d : ℕ} {f : Flat} {at : ℕ} (old : BodyLines) {mid : BodyLines} {act : Action} (line_first : vec_items mid.lines ≡ vec_items old.lines ++ (line.Command at d old.inputs act ∷ [])) (acts : act ≡ tell f) (blocks : mid.blocks ≡ old.blocks) (inputs : mid.inputs ≡ old.inputs) where
  join : {new : BodyLines} (c : Command) → flat c ≡ f → Adds (size c) (part_lines mid.inputs d at c) mid new → Adds (size c) (command_lines old.inputs d at c) old new
  join {new} c e a = record {
    lines = rw (a.lines, line_first, acts, ← e, inputs, append_assoc);
    blocks = rw (a.blocks, blocks);
    inputs = a.inputs ∙ inputs;
  }

  -- a command with no block
  bare : (c : Command) → flat c ≡ f → size c ≡ 0 → part_lines mid.inputs d at c ≡ [] → Adds (size c) (command_lines old.inputs d at c) old mid
  bare c e z none = join c e (record { lines = rw (none, append-nil); blocks = omega arith; inputs = refl })

  pub plain_tells : (p : Plain) → f ≡ plain p → TellsOne d f at old mid
  plain_tells p e = record { told = λ w c k few low. tells c }
    where
      tells : (c : Command) → flat c ≡ f → Adds (size c) (command_lines old.inputs d at c) old mid
      tells (plain_command o c) is = bare (plain_command o c) is refl refl
      tells (choose_block c x y) is = absurd (cc)
      tells (loop_block a t b) is = absurd (cc)
      tells (grant_block g b) is = absurd (cc)
      tells (call_procedure x) is = absurd (cc)

  pub call_tells : (p : ℕ) → f ≡ call p → TellsOne d f at old mid
  call_tells p e = record { told = λ w c k few low. tells c }
    where
      tells : (c : Command) → flat c ≡ f → Adds (size c) (command_lines old.inputs d at c) old mid
      tells (plain_command o c) is = absurd (cc)
      tells (choose_block c x y) is = absurd (cc)
      tells (loop_block a t b) is = absurd (cc)
      tells (grant_block g b) is = absurd (cc)
      tells (call_procedure x) is = bare (call_procedure x) is refl refl

  module _ {deeper start : ℕ} {new : BodyLines} (deep : deeper ≡ min (d + 1) 18446744073709551615) where
    pub loop_tells : (a t : ℕ) (y : List ℕ) → f ≡ loop a t y → start ≡ min (at + loop_head) 18446744073709551615 → TellsBlock deeper Turn y start mid new → TellsOne d f at old new
    loop_tells a t y e s h = record { told = tells }
      where
        tells : (w : Scope) (c : Command) → Keeps w d old.blocks at c → old.blocks + size c ≤ 256 → at + length (command_bytes f) ≤ 8192 → flat c ≡ f → Adds (size c) (command_lines old.inputs d at c) old new
        tells w (loop_block u v b) k few low is =
            let x : encode_block b ≡ y = cc in
            let eight = ltb-true d 8 k.0.reaches in
            let under : deeper ≡ d + 1 = omega arith in
            let long : length (command_bytes f) ≡ loop_head + length y = ap (λ (g : Flat). length (command_bytes g)) e ∙ omega arith in
            let there : start ≡ at + loop_head = omega arith in
            let r = h.told w b (rw (under, there, blocks) k.1) (omega arith) (omega arith) x in
            join (loop_block u v b) is (rw (under, there) at r)
        tells w (plain_command o c) k few low is = absurd (cc)
        tells w (choose_block c x z) k few low is = absurd (cc)
        tells w (grant_block g b) k few low is = absurd (cc)
        tells w (call_procedure x) k few low is = absurd (cc)

    pub grant_tells : (g : ℕ) (y : List ℕ) → f ≡ grant g y → start ≡ min (at + grant_head) 18446744073709551615 → TellsBlock deeper Granted y start mid new → TellsOne d f at old new
    grant_tells g y e s h = record { told = tells }
      where
        tells : (w : Scope) (c : Command) → Keeps w d old.blocks at c → old.blocks + size c ≤ 256 → at + length (command_bytes f) ≤ 8192 → flat c ≡ f → Adds (size c) (command_lines old.inputs d at c) old new
        tells w (grant_block u b) k few low is =
            let x : encode_block b ≡ y = cc in
            let eight = ltb-true d 8 k.0.reaches in
            let under : deeper ≡ d + 1 = omega arith in
            let long : length (command_bytes f) ≡ grant_head + length y = ap (λ (g : Flat). length (command_bytes g)) e ∙ omega arith in
            let there : start ≡ at + grant_head = omega arith in
            let r = h.told w b (rw (under, there, blocks) k.1) (omega arith) (omega arith) x in
            join (grant_block u b) is (rw (under, there) at r)
        tells w (plain_command o c) k few low is = absurd (cc)
        tells w (choose_block c x z) k few low is = absurd (cc)
        tells w (loop_block a t b) k few low is = absurd (cc)
        tells w (call_procedure x) k few low is = absurd (cc)

    pub choice_tells : (c : Choice) (y z : List ℕ) → f ≡ choose c y z → start ≡ min (at + choice_head c) 18446744073709551615 → TellsTwo deeper y z start mid new → TellsOne d f at old new
    choice_tells c y z e s h = record { told = tells }
      where
        tells : (w : Scope) (c : Command) → Keeps w d old.blocks at c → old.blocks + size c ≤ 256 → at + length (command_bytes f) ≤ 8192 → flat c ≡ f → Adds (size c) (command_lines old.inputs d at c) old new
        tells w (choose_block v b x) k few low is =
            let one : encode_block b ≡ y = cc in
            let other : encode_block x ≡ z = cc in
            let which : v ≡ c = cc in
            let eight = ltb-true d 8 k.0.reaches in
            let under : deeper ≡ d + 1 = omega arith in
            let long : length (command_bytes f) ≡ choice_head c + (length y + length z) = ap (λ (g : Flat). length (command_bytes g)) e ∙ choice_length c y z in
            let there : start ≡ at + choice_head v = rw which (omega arith) in
            let r = h.told w b x (rw (under, there, blocks) k.1) (rw (under, there, ← one, blocks) k.2) (omega arith) (omega (arith, ap choice_head which)) one other in
            join (choose_block v b x) is (rw (under, there, ← one) at r)
        tells w (plain_command o q) k few low is = absurd (cc)
        tells w (loop_block a t b) k few low is = absurd (cc)
        tells w (grant_block g b) k few low is = absurd (cc)
        tells w (call_procedure x) k few low is = absurd (cc)
