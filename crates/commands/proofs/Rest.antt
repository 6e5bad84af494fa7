-- What `rest @ ..` names, and what stands at the front of a block, by its first byte.
use Rattle.std.proofs.Common.{◌≡◌, ℕ, ◌-◌, ◌<◌, ◌≤◌, cond, eqb, List, [], ◌∷◌, length, get_or, take, drop, Result, sym, refl, ap, ◌∙◌, arith, length-drop, take_all, Bor}
use Rattle.std.proofs.lemmas.Bool.{cond_both, cond-false, lt-leb, eqb-true, eqb-false}
use Rattle.layout.specs.Tree as tree
use Rattle.layout.specs.Tree.{set_place, when_place, try_frame}
use Rattle.layout.specs.Bytes.{be16, be32, be64}
use Rattle.layout.specs.Layout as flat
use Rattle.layout.specs.Layout.{Flat}
use Rattle.layout.specs.Front.{Front, got, bad, need, set_at, pair_at, triple_at, choice_at, loop_at, grant_at, call_at, front, front_by_code}
use Rattle.layout.proofs.Fronts.{met}
use Rattle.commands.specs.declared.Command.{Command}
use Rattle.commands.specs.declared.Plain.{Plain}
use Rattle.commands.specs.declared.Unread.{Unread}
use Rattle.commands.specs.Reads.{plain_of, Reads, one_block, two_blocks}

pub rest_all : {X : Type 0} (n : ℕ) (xs : List X) → take (length xs - n) (drop n xs) ≡ drop n xs
rest_all n xs = take_all (length xs - n) (drop n xs) (omega (arith, length-drop n xs))

pub front_none : (bs : List ℕ) → length bs ≡ 0 → front bs ≡ bad 8
unfolding front
front_none [] h = refl
front_none (x ∷ bs) h = absurd (omega arith)

pub front_at : (bs : List ℕ) (op : ℕ) → 0 < length bs → get_or bs 0 0 ≡ op → front bs ≡ front_by_code op bs
unfolding front
front_at [] op h e = absurd (omega arith)
front_at (x ∷ bs) op h e = ap (λ (o : ℕ). front_by_code o (x ∷ bs)) e

-- a command that the bytes cut short
pub unmet : {C : Type 0} (k n : ℕ) (bs : List ℕ) (f : Front C) → length bs < n → need k n bs f ≡ bad k
unmet k n bs f h = cond-false _ _ _ (lt-leb n (length bs) h)

-- one test of a first byte
pub by_byte : {C : Type 0} (P : Front C → Type 0) (op k : ℕ) (f g : Front C) → (op ≡ k → P f) → ((op ≡ k → ⊥) → P g) → P (cond (eqb op k) f g)
by_byte P op k f g h i = cond_both (eqb op k) f g P (λ e. h (eqb-true op k e)) (λ e. i (eqb-false op k e))

abbrev Is : Front Flat → Front Flat → Type 0
Is f g = g ≡ f

-- every command with one of these bytes is cut short, and no other byte is a command's
module _ (bs : List ℕ) (some : 0 < length bs) where
  pub refused : (f : Front Flat)
      → (get_or bs 0 0 ≡ 0x01 → (length bs < 6) × (bad 8 ≡ f))
      → (get_or bs 0 0 ≡ 0x02 → (length bs < 3) × (bad 8 ≡ f))
      → (0x03 ≤ get_or bs 0 0 → get_or bs 0 0 ≤ 0x09 → (length bs < 4) × (bad 8 ≡ f))
      → (get_or bs 0 0 ≡ 0x0A → (length bs < 3) × (bad 8 ≡ f))
      → (get_or bs 0 0 ≡ 0x0B → (length bs < 6) × (bad 8 ≡ f))
      → (get_or bs 0 0 ≡ 0x0C → (length bs < 5) × (bad 8 ≡ f))
      → (get_or bs 0 0 ≡ 0x0D → (length bs < 11) × (bad 8 ≡ f))
      → (get_or bs 0 0 ≡ 0x0E → (length bs < 2) × (bad 8 ≡ f))
      → (get_or bs 0 0 ≡ 0x0F → (length bs < 14) × (bad 8 ≡ f))
      → ((1 ≤ get_or bs 0 0 → get_or bs 0 0 ≤ 15 → ⊥) → bad 3 ≡ f)
      → front bs ≡ f
  refused f set copy triple drive when loop grant call try none =
      front_at bs _ some refl
      ∙ by_byte (Is f) (get_or bs 0 0) 0x01 _ _ (λ e. unmet 8 6 bs _ (set e).0 ∙ (set e).1) (λ n1.
      by_byte (Is f) (get_or bs 0 0) 0x02 _ _ (λ e. unmet 8 3 bs _ (copy e).0 ∙ (copy e).1) (λ n2.
      by_byte (Is f) (get_or bs 0 0) 0x03 _ _ (λ e. let t = triple (omega arith) (omega arith) in unmet 8 4 bs _ t.0 ∙ t.1) (λ n3.
      by_byte (Is f) (get_or bs 0 0) 0x04 _ _ (λ e. let t = triple (omega arith) (omega arith) in unmet 8 4 bs _ t.0 ∙ t.1) (λ n4.
      by_byte (Is f) (get_or bs 0 0) 0x05 _ _ (λ e. let t = triple (omega arith) (omega arith) in unmet 8 4 bs _ t.0 ∙ t.1) (λ n5.
      by_byte (Is f) (get_or bs 0 0) 0x06 _ _ (λ e. let t = triple (omega arith) (omega arith) in unmet 8 4 bs _ t.0 ∙ t.1) (λ n6.
      by_byte (Is f) (get_or bs 0 0) 0x07 _ _ (λ e. let t = triple (omega arith) (omega arith) in unmet 8 4 bs _ t.0 ∙ t.1) (λ n7.
      by_byte (Is f) (get_or bs 0 0) 0x08 _ _ (λ e. let t = triple (omega arith) (omega arith) in unmet 8 4 bs _ t.0 ∙ t.1) (λ n8.
      by_byte (Is f) (get_or bs 0 0) 0x09 _ _ (λ e. let t = triple (omega arith) (omega arith) in unmet 8 4 bs _ t.0 ∙ t.1) (λ n9.
      by_byte (Is f) (get_or bs 0 0) 0x0A _ _ (λ e. unmet 8 3 bs _ (drive e).0 ∙ (drive e).1) (λ n10.
      by_byte (Is f) (get_or bs 0 0) 0x0B _ _ (λ e. unmet 8 6 bs _ (when e).0 ∙ (when e).1) (λ n11.
      by_byte (Is f) (get_or bs 0 0) 0x0C _ _ (λ e. unmet 8 5 bs _ (loop e).0 ∙ (loop e).1) (λ n12.
      by_byte (Is f) (get_or bs 0 0) 0x0D _ _ (λ e. unmet 8 11 bs _ (grant e).0 ∙ (grant e).1) (λ n13.
      by_byte (Is f) (get_or bs 0 0) 0x0E _ _ (λ e. unmet 8 2 bs _ (call e).0 ∙ (call e).1) (λ n14.
      by_byte (Is f) (get_or bs 0 0) 0x0F _ _ (λ e. unmet 8 14 bs _ (try e).0 ∙ (try e).1) (λ n15.
      none (λ a b. omega arith))))))))))))))))

-- a byte of no command
pub front_unknown : (bs : List ℕ) → 0 < length bs → (1 ≤ get_or bs 0 0 → get_or bs 0 0 ≤ 15 → ⊥) → front bs ≡ bad 3
front_unknown bs some away =
    refused bs some (bad 3) (λ e. absurd (away (omega arith) (omega arith))) (λ e. absurd (away (omega arith) (omega arith))) (λ a b. absurd (away (omega arith) (omega arith))) (λ e. absurd (away (omega arith) (omega arith))) (λ e. absurd (away (omega arith) (omega arith))) (λ e. absurd (away (omega arith) (omega arith))) (λ e. absurd (away (omega arith) (omega arith))) (λ e. absurd (away (omega arith) (omega arith))) (λ e. absurd (away (omega arith) (omega arith))) (λ n. refl)

-- a plain command that is cut short
pub short_plain : (bs : List ℕ) → 0 < length bs → 1 ≤ get_or bs 0 0 → get_or bs 0 0 ≤ 0x0A → (get_or bs 0 0 ≡ 0x01 → length bs < 6) → (get_or bs 0 0 ≡ 0x02 → length bs < 3) → (0x03 ≤ get_or bs 0 0 → get_or bs 0 0 ≤ 0x09 → length bs < 4) → (get_or bs 0 0 ≡ 0x0A → length bs < 3) → front bs ≡ bad 8
short_plain bs some least top set copy triple drive =
    refused bs some (bad 8) (λ e. (set e, refl)) (λ e. (copy e, refl)) (λ a b. (triple a b, refl)) (λ e. (drive e, refl)) (λ e. absurd (omega arith)) (λ e. absurd (omega arith)) (λ e. absurd (omega arith)) (λ e. absurd (omega arith)) (λ e. absurd (omega arith)) (λ away. absurd (away (omega arith) (omega arith)))

-- a command with blocks, or a call, that is cut short
pub short_block : (bs : List ℕ) → 0 < length bs → 0x0B ≤ get_or bs 0 0 → get_or bs 0 0 ≤ 0x0F → (get_or bs 0 0 ≡ 0x0B → length bs < 6) → (get_or bs 0 0 ≡ 0x0C → length bs < 5) → (get_or bs 0 0 ≡ 0x0D → length bs < 11) → (get_or bs 0 0 ≡ 0x0E → length bs < 2) → (get_or bs 0 0 ≡ 0x0F → length bs < 14) → front bs ≡ bad 8
short_block bs some least top when loop grant call try =
    refused bs some (bad 8) (λ e. absurd (omega arith)) (λ e. absurd (omega arith)) (λ a b. absurd (omega arith)) (λ e. absurd (omega arith)) (λ e. (when e, refl)) (λ e. (loop e, refl)) (λ e. (grant e, refl)) (λ e. (call e, refl)) (λ e. (try e, refl)) (λ away. absurd (away (omega arith) (omega arith)))

-- a first byte above 0 is there
pub some_byte : (bs : List ℕ) → 1 ≤ get_or bs 0 0 → 0 < length bs
some_byte [] h = h
some_byte (x ∷ bs) h = omega arith

-- whole commands, by the bytes that they take

module _ (bs rest : List ℕ) where
  pub pair_got : (c : ℕ → ℕ → tree.Plain) → 3 ≤ length bs → rest ≡ drop 3 bs → pair_at c bs ≡ got (flat.plain (c (get_or bs 1 0) (get_or bs 2 0))) rest
  pair_got c h e = met 8 3 bs _ h ∙ ap (λ (r : List ℕ). got (flat.plain (c (get_or bs 1 0) (get_or bs 2 0))) r) (sym e)

  pub triple_got : (c : ℕ → ℕ → ℕ → tree.Plain) → 4 ≤ length bs → rest ≡ drop 4 bs → triple_at c bs ≡ got (flat.plain (c (get_or bs 1 0) (get_or bs 2 0) (get_or bs 3 0))) rest
  triple_got c h e = met 8 4 bs _ h ∙ ap (λ (r : List ℕ). got (flat.plain (c (get_or bs 1 0) (get_or bs 2 0) (get_or bs 3 0))) r) (sym e)

  pub set_got : (n : ℕ) → 6 ≤ length bs → n ≡ be32 bs 2 → rest ≡ drop 6 bs → set_at bs ≡ got (flat.plain (set_place (get_or bs 1 0) n)) rest
  set_got n h k e = met 8 6 bs _ h ∙ rw (← k, ← e)

  pub call_got : 2 ≤ length bs → rest ≡ drop 2 bs → call_at bs ≡ got (flat.call (get_or bs 1 0)) rest
  call_got h e = met 8 2 bs _ h ∙ ap (λ (r : List ℕ). got (flat.call (get_or bs 1 0)) r) (sym e)

  pub loop_got : (l : ℕ) → 5 ≤ length bs → l ≡ be16 bs 3 → rest ≡ drop 5 bs → loop_at bs ≡ one_block (λ y. flat.loop (get_or bs 1 0) (get_or bs 2 0) y) l rest
  loop_got l h k e = met 8 5 bs _ h ∙ rw (← k, ← e)

  pub grant_got : (g l : ℕ) → 11 ≤ length bs → g ≡ be64 bs 1 → l ≡ be16 bs 9 → rest ≡ drop 11 bs → grant_at bs ≡ one_block (λ y. flat.grant g y) l rest
  grant_got g l h f k e = met 8 11 bs _ h ∙ rw (← f, ← k, ← e)

  pub when_got : (l m : ℕ) → 6 ≤ length bs → l ≡ be16 bs 2 → m ≡ be16 bs 4 → rest ≡ drop 6 bs → choice_at (when_place (get_or bs 1 0)) 2 bs ≡ two_blocks (when_place (get_or bs 1 0)) l m rest
  when_got l m h j k e = met 8 6 bs _ h ∙ rw (← j, ← k, ← e)

  pub try_got : (g l m : ℕ) → 14 ≤ length bs → g ≡ be64 bs 1 → l ≡ be16 bs 10 → m ≡ be16 bs 12 → rest ≡ drop 14 bs → choice_at (try_frame (be64 bs 1) (get_or bs 9 0)) 10 bs ≡ two_blocks (try_frame g (get_or bs 9 0)) l m rest
  try_got g l m h f j k e = met 8 14 bs _ h ∙ rw (← f, ← j, ← k, ← e)

-- what was read of a front that is this one
pub reads_as : (f g : Front Flat) (r : Result (Command × Bor (List ℕ)) Unread) → f ≡ g → Reads g r → Reads f r
reads_as f g r e h = rw e h

-- the same of a plain command
pub told_as : (f : Front Flat) (c d : Plain) (rest : List ℕ) → d ≡ c → f ≡ got (flat.plain (plain_of c)) rest → f ≡ got (flat.plain (plain_of d)) rest
told_as f c d rest e h = rw e h
