-- The command at the front of a block.
use Rattle.std.specs.Prelude.{ℕ, ◌+◌, cond, List, [], ◌∷◌, length, take, drop, ◌==◌, nat_le, slice_index}
use Rattle.layout.specs.Tree.{add, sub, less, same, bits, Plain, set_place, copy_place, combine_places, pick_cell, put_cell, drive_device, Choice, when_place, try_frame}
use Rattle.layout.specs.Bytes.{be16, be32, be64}
use Rattle.layout.specs.Layout.{Flat, plain, choose, loop, grant, call}

-- what is read and the bytes behind it, or the number of the fault
pub data Front (C : Type 0) : Type 0 where
  got : C → List ℕ → Front C
  bad : ℕ → Front C

-- where the first n bytes are there, or else fault k
abbrev pub need : {C : Type 0} → ℕ → ℕ → List ℕ → Front C → Front C
need k n bs f = cond (nat_le n (length bs)) f (bad k)

-- a block of n bytes off the front, or else fault k
abbrev pub cut : {C : Type 0} → ℕ → ℕ → List ℕ → (List ℕ → List ℕ → Front C) → Front C
cut k n bs f = need k n bs (f (take n bs) (drop n bs))

-- each command, by the bytes from the command byte on
abbrev pub set_at : List ℕ → Front Flat
set_at bs = need 8 6 bs (got (plain (set_place (slice_index bs 1) (be32 bs 2))) (drop 6 bs))

abbrev pub pair_at : (ℕ → ℕ → Plain) → List ℕ → Front Flat
pair_at c bs = need 8 3 bs (got (plain (c (slice_index bs 1) (slice_index bs 2))) (drop 3 bs))

abbrev pub triple_at : (ℕ → ℕ → ℕ → Plain) → List ℕ → Front Flat
triple_at c bs = need 8 4 bs (got (plain (c (slice_index bs 1) (slice_index bs 2) (slice_index bs 3))) (drop 4 bs))

-- a choice whose two lengths stand at i
abbrev pub choice_at : Choice → ℕ → List ℕ → Front Flat
choice_at c i bs = need 8 (i + 4) bs (cut 8 (be16 bs i) (drop (i + 4) bs) (λ y rest. cut 8 (be16 bs (i + 2)) rest (λ z after. got (choose c y z) after)))

abbrev pub loop_at : List ℕ → Front Flat
loop_at bs = need 8 5 bs (cut 8 (be16 bs 3) (drop 5 bs) (λ y after. got (loop (slice_index bs 1) (slice_index bs 2) y) after))

abbrev pub grant_at : List ℕ → Front Flat
grant_at bs = need 8 11 bs (cut 8 (be16 bs 9) (drop 11 bs) (λ y after. got (grant (be64 bs 1) y) after))

abbrev pub call_at : List ℕ → Front Flat
call_at bs = need 8 2 bs (got (call (slice_index bs 1)) (drop 2 bs))

abbrev pub front_by_code : ℕ → List ℕ → Front Flat
front_by_code op bs =
    cond (op == 0x01) (set_at bs)
    (cond (op == 0x02) (pair_at copy_place bs)
    (cond (op == 0x03) (triple_at (combine_places add) bs)
    (cond (op == 0x04) (triple_at (combine_places sub) bs)
    (cond (op == 0x05) (triple_at (combine_places less) bs)
    (cond (op == 0x06) (triple_at (combine_places same) bs)
    (cond (op == 0x07) (triple_at (combine_places bits) bs)
    (cond (op == 0x08) (triple_at pick_cell bs)
    (cond (op == 0x09) (triple_at put_cell bs)
    (cond (op == 0x0A) (pair_at drive_device bs)
    (cond (op == 0x0B) (choice_at (when_place (slice_index bs 1)) 2 bs)
    (cond (op == 0x0C) (loop_at bs)
    (cond (op == 0x0D) (grant_at bs)
    (cond (op == 0x0E) (call_at bs)
    (cond (op == 0x0F) (choice_at (try_frame (be64 bs 1) (slice_index bs 9)) 10 bs)
    (bad 3)))))))))))))))

unfoldable pub front : List ℕ → Front Flat
front [] = bad 8
front (op ∷ bs) = front_by_code op (op ∷ bs)
