-- What is read of a body keeps the limits, and is laid out as the bytes are.
use Rattle.std.proofs.Common.{◌≡◌, ℕ, zero, suc, ◌+◌, ◌<◌, ◌≤◌, Bool, true, false, leb, List, [], ◌∷◌, ◌++◌, length, refl, ap, arith}
use Rattle.std.proofs.lemmas.Bool.{leb-true}
use Rattle.layout.specs.Tree.{Choice, when_place, try_frame, Command, Commands, Block}
use Rattle.layout.specs.Bytes.{Bytes, two}
use Rattle.layout.specs.Layout.{Flat, plain, choose, loop, grant, call, choice_bytes, command_bytes, flat, encode_commands, encode_block, choice_head, loop_head, grant_head}
use Rattle.layout.specs.Folds.{size, size_commands, size_block}
use Rattle.layout.specs.Scope.{Scope, turns, named, targets, low, blocks}
use Rattle.layout.specs.Limits.{Kept, Keeps, KeepsCommands, KeepsBlock, Sound}
use Rattle.layout.specs.Front.{Front, got, bad, front}
use Rattle.layout.specs.Reading.{Got, ok, fault, and_then, demand, checked, Reader, parts, one, next, read, inner, read_body}
use Rattle.layout.proofs.Numbers.{bytes_left, bytes_right}
use Rattle.layout.proofs.Fronts.{True, front_true}

-- P of what is read, if anything is
abbrev pub Holds : {A : Type 0} → (A → Type 0) → Got A → Type 0
Holds P (ok a) = P a
Holds P (fault n o) = Unit {0}

pub by_demand : {A : Type 0} (P : A → Type 0) (b : Bool) (m o : ℕ) (g : Got A) → (b ≡ true → Holds P g) → Holds P (demand b m o g)
by_demand P true m o g h = h refl
by_demand P false m o g h = tt

pub by_then : {A B : Type 0} (P : A → Type 0) (Q : B → Type 0) (g : Got A) (k : A → Got B) → Holds P g → ((a : A) → P a → Holds Q (k a)) → Holds Q (and_then g k)
by_then P Q (ok a) k h i = i a h
by_then P Q (fault m o) k h i = tt

pub weaken : {A : Type 0} (P Q : A → Type 0) (g : Got A) → Holds P g → ((a : A) → P a → Q a) → Holds Q g
weaken P Q (ok a) h i = i a h
weaken P Q (fault m o) h i = tt

by_checked : {A : Type 0} (P : A → Type 0) (w : Scope) (c : Flat) (at d n q : ℕ) (g : Got A) → (Kept w d c → n + q + blocks c ≤ 256 → Holds P g) → Holds P (checked w c at d n q g)
by_checked P w c at d n q g h =
    by_demand P (turns c) 8 at _ (λ r.
    by_demand P (named w c) 6 at _ (λ x.
    by_demand P (targets w c) 7 at _ (λ a.
    by_demand P (low w d c) 9 at _ (λ l.
    by_demand P (leb (n + q + blocks c) 256) 5 at g (λ f.
    h (record { repeats = r; declared = x; assigns = a; reaches = l }) (leb-true (n + q + blocks c) 256 f))))))

-- what is read, where block n is next and q wait
pub record Read1 (w : Scope) (d n q at : ℕ) (c : Flat) (t : Command) : Type 0 where
  pub keeps : Keeps w d n at t
  pub few : n + q + size t ≤ 256
  pub is : flat t ≡ c

pub record ReadCommands (w : Scope) (d n q at : ℕ) (bs : List ℕ) (ts : Commands) : Type 0 where
  pub keeps : KeepsCommands w d n at ts
  pub few : n + q + size_commands ts ≤ 256
  pub is : encode_commands ts ≡ bs

pub record ReadBlock (w : Scope) (d n q at : ℕ) (bs : List ℕ) (b : Block) : Type 0 where
  pub keeps : KeepsBlock w d n at b
  pub few : n + q + size_block b ≤ 256
  pub is : encode_block b ≡ bs

abbrev Tells : Reader → Scope → ℕ → Type 0
Tells r w d = (ys : List ℕ) (at n q : ℕ) → Bytes ys → n + 1 + q ≤ 256 → Holds (ReadBlock w d n q at ys) (r ys at n q)

-- the bytes of a command's blocks
abbrev Parts : Flat → Type 0
Parts (plain c) = Unit {0}
Parts (choose c y z) = Bytes y × Bytes z
Parts (loop a k y) = Bytes y
Parts (grant g y) = Bytes y
Parts (call p) = Unit {0}

behind_choice : (c : Choice) (r t : List ℕ) → Bytes (choice_bytes c r ++ t) → Bytes (r ++ t)
behind_choice (when_place a) r t h = h.1.1
behind_choice (try_frame g a) r t h = h.1.1.1.1.1.1.1.1.1.1

parts_bytes : (c : Flat) (rest : List ℕ) → Bytes (command_bytes c ++ rest) → Parts c
parts_bytes (plain c) rest h = tt
parts_bytes (choose c y z) rest h =
    let b = bytes_left (y ++ z) rest (behind_choice c (two (length y) (two (length z) (y ++ z))) rest h).1.1.1.1 in
    (bytes_left y z b, bytes_right y z b)
parts_bytes (loop a k y) rest h = bytes_left y rest h.1.1.1.1.1
parts_bytes (grant g y) rest h = bytes_left y rest h.1.1.1.1.1.1.1.1.1.1.1
parts_bytes (call p) rest h = tt

module _ (r : Reader) (w : Scope) (at d n q : ℕ) (tells : Tells r w (d + 1)) (room : n + q ≤ 256) where
  parts_sound : (c : Flat) → Parts c → Kept w d c → n + q + blocks c ≤ 256 → Holds (Read1 w d n q at c) (parts r c at n q)
  parts_sound (plain c) p k few = record { keeps = (k, refl); few = omega arith; is = refl }
  parts_sound (choose c y z) p k few =
      by_then (ReadBlock w (d + 1) n (q + 1) (at + choice_head c) y) (Read1 w d n q at (choose c y z)) _ _ (tells y _ n (q + 1) p.0 (omega arith)) (λ b h.
      by_then (ReadBlock w (d + 1) (n + size_block b) q (at + choice_head c + length y) z) (Read1 w d n q at (choose c y z)) _ _ (tells z _ (n + size_block b) q p.1 (omega (arith, h.few))) (λ e i.
      let s = h.is in
      let t = i.is in
      let same : choose c (encode_block b) (encode_block e) ≡ choose c y z = cc in
      record {
        keeps = (rw same k, h.keeps, rw s i.keeps);
        few = omega (arith, i.few);
        is = same;
      }))
  parts_sound (loop a k y) p kept few =
      by_then (ReadBlock w (d + 1) n q (at + loop_head) y) (Read1 w d n q at (loop a k y)) _ _ (tells y _ n q p (omega arith)) (λ b h.
      let same : loop a k (encode_block b) ≡ loop a k y = ap (loop a k) h.is in
      record { keeps = (rw same kept, h.keeps); few = h.few; is = same })
  parts_sound (grant g y) p kept few =
      by_then (ReadBlock w (d + 1) n q (at + grant_head) y) (Read1 w d n q at (grant g y)) _ _ (tells y _ n q p (omega arith)) (λ b h.
      let same : grant g (encode_block b) ≡ grant g y = ap (grant g) h.is in
      record { keeps = (rw same kept, h.keeps); few = h.few; is = same })
  parts_sound (call x) p kept few = record { keeps = kept; few = omega arith; is = refl }

  one_sound : (c : Flat) → Parts c → Holds (Read1 w d n q at c) (one r w c at d n q)
  one_sound c p = by_checked (Read1 w d n q at c) w c at d n q _ (λ k few. parts_sound c p k few)

  next_sound : (more : List ℕ → ℕ → ℕ → Got Commands) → ((ys : List ℕ) (a m : ℕ) → Bytes ys → m + q ≤ 256 → Holds (ReadCommands w d m q a ys) (more ys a m)) → (bs : List ℕ) → Bytes bs → (f : Front Flat) → True command_bytes bs f → Holds (ReadCommands w d n q at bs) (next r more w f at d n q)
  next_sound more tail bs small (bad m) h = tt
  next_sound more tail bs small (got c rest) h =
      let these : Bytes (command_bytes c ++ rest) = rw h small in
      by_then (Read1 w d n q at c) (ReadCommands w d n q at bs) _ _ (one_sound c (parts_bytes c rest these)) (λ t i.
      by_then (ReadCommands w d (n + size t) q (at + length (command_bytes c)) rest) (ReadCommands w d n q at bs) _ _ (tail rest _ (n + size t) (bytes_right (command_bytes c) rest these) (omega (arith, i.few))) (λ ts j.
      let a = i.is in
      let b = j.is in
      record { keeps = (i.keeps, rw a j.keeps); few = omega (arith, j.few); is = cc }))

pub read_sound : (f : ℕ) (w : Scope) (bs : List ℕ) (at d n q : ℕ) → Bytes bs → n + q ≤ 256 → Holds (ReadCommands w d n q at bs) (read f w bs at d n q)
unfolding read
read_sound zero w bs at d n q small room = tt
read_sound (suc f) w [] at d n q small room = record { keeps = tt; few = omega arith; is = refl }
read_sound (suc f) w (b ∷ bs) at d n q small room =
    next_sound (inner f w (d + 1)) w at d n q
    (λ ys a m p small few.
    by_then (ReadCommands w (d + 1) (m + 1) p a ys) (ReadBlock w (d + 1) m p a ys) _ _ (read_sound f w ys a (d + 1) (m + 1) p small few) (λ ts h.
    record { keeps = (refl, h.keeps); few = omega (arith, h.few); is = h.is }))
    room (λ ys a m. read f w ys a d m q) (λ ys a m small few. read_sound f w ys a d m q small few) (b ∷ bs) small (front (b ∷ bs)) (front_true (b ∷ bs) small)

-- a body that is read is sound, and laid out as the bytes are
pub body_sound : (w : Scope) (bs : List ℕ) (at n : ℕ) → Bytes bs → n < 256 → Holds (λ b. Sound w n at b × (encode_block b ≡ bs)) (read_body w bs at n)
body_sound w bs at n small few =
    by_then (ReadCommands w 0 (n + 1) 0 at bs) (λ b. Sound w n at b × (encode_block b ≡ bs)) _ _ (read_sound (length bs + 1) w bs at 0 (n + 1) 0 small (omega arith)) (λ ts h.
    (record { fits = (refl, h.keeps); few = omega (arith, h.few) }, h.is))
