-- The front of a package and the layout of a declaration.
use Rattle.std.proofs.Common.{◌≡◌, ℕ, ◌<◌, ◌≤◌, List, [], ◌∷◌, ◌++◌, length, get_or, drop, refl, ap, ◌∙◌, arith}
use Rattle.layout.specs.Bytes.{Bytes, be16, be64, two, four, eight}
use Rattle.layout.specs.Front.{Front, got}
use Rattle.layout.specs.Declarations.{Simple, party_item, input_item, cell_item, table_item, device_item, entry_item, Item, simple, proc, simple_bytes, item_bytes, lead}
use Rattle.layout.specs.Packages.{frame_at, input_at, cell_at, table_at, proc_at, entry_at, by_lead}
use Rattle.layout.proofs.Numbers.{row_drop, whole2, whole4, whole8, two_at, four_at, eight_at}
use Rattle.layout.proofs.Fronts.{True, by_need, by_cut, by_code, met, cut_seam}

abbrev Fair : List ℕ → Front Item → Type 0
Fair bs f = True item_bytes bs f

module _ (bs : List ℕ) (small : Bytes bs) where
  frame_true : (c : ℕ → Simple) → ((g : ℕ) → simple_bytes (c g) ≡ get_or bs 0 0 ∷ eight g []) → Fair bs (frame_at c bs)
  frame_true c e =
      by_need (Fair bs) 2 9 bs _ tt (λ h.
      ap (λ (r : List ℕ). r ++ drop 9 bs) (e _) ∙ ap (λ (r : List ℕ). get_or bs 0 0 ∷ r) (eight_at bs small 1 (drop 9 bs)) ∙ row_drop 9 0 bs h)

  input_true : get_or bs 0 0 ≡ 0x82 → Fair bs (input_at bs)
  input_true e = by_need (Fair bs) 2 6 bs _ tt (λ h. let l = row_drop 6 0 bs h in let f = four_at bs small 2 (drop 6 bs) in cc)

  cell_true : get_or bs 0 0 ≡ 0x83 → Fair bs (cell_at bs)
  cell_true e =
      by_need (Fair bs) 2 13 bs _ tt (λ h.
      let l = row_drop 13 0 bs h in
      let f = four_at bs small 1 (eight (be64 bs 5) (drop 13 bs)) in
      let g = eight_at bs small 5 (drop 13 bs) in
      cc)

  table_true : get_or bs 0 0 ≡ 0x84 → Fair bs (table_at bs)
  table_true e = by_need (Fair bs) 2 3 bs _ tt (λ h. let l = row_drop 3 0 bs h in cc)

  proc_true : get_or bs 0 0 ≡ 0x86 → Fair bs (proc_at bs)
  proc_true e =
      by_need (Fair bs) 2 4 bs _ tt (λ h.
      by_cut (Fair bs) 2 (be16 bs 2) (drop 4 bs) (λ y t. got (proc (get_or bs 1 0) y) t) tt (λ y t n p.
      let l = row_drop 4 0 bs h in
      let f = two_at bs small 2 (length y) (y ++ t) n in
      cc))

  entry_true : get_or bs 0 0 ≡ 0x87 → Fair bs (entry_at bs)
  entry_true e = by_need (Fair bs) 2 2 bs _ tt (λ h. let l = row_drop 2 0 bs h in cc)

  pub lead_true : (op : ℕ) → get_or bs 0 0 ≡ op → True item_bytes bs (by_lead op bs)
  lead_true op at =
      by_code (Fair bs) op 0x81 _ _ (λ e. frame_true party_item (λ g. rw (at, e)))
      (by_code (Fair bs) op 0x82 _ _ (λ e. input_true (at ∙ e))
      (by_code (Fair bs) op 0x83 _ _ (λ e. cell_true (at ∙ e))
      (by_code (Fair bs) op 0x84 _ _ (λ e. table_true (at ∙ e))
      (by_code (Fair bs) op 0x85 _ _ (λ e. frame_true device_item (λ g. rw (at, e)))
      (by_code (Fair bs) op 0x86 _ _ (λ e. proc_true (at ∙ e))
      (by_code (Fair bs) op 0x87 _ _ (λ e. entry_true (at ∙ e)) tt))))))

-- what leads a declaration is its first byte
abbrev pub rest : Item → List ℕ
rest (simple (party_item g)) = eight g []
rest (simple (input_item i)) = i.party ∷ four i.value []
rest (simple (cell_item c)) = four c.value (eight c.frame [])
rest (simple (table_item t)) = t.first ∷ t.length ∷ []
rest (simple (device_item g)) = eight g []
rest (simple (entry_item p)) = p ∷ []
rest (proc p y) = p ∷ two (length y) y

pub led : (i : Item) → item_bytes i ≡ lead i ∷ rest i
led (simple (party_item g)) = refl
led (simple (input_item i)) = refl
led (simple (cell_item c)) = refl
led (simple (table_item t)) = refl
led (simple (device_item g)) = refl
led (simple (entry_item p)) = refl
led (proc p y) = refl

pub lead_least : (i : Item) → 0x81 ≤ lead i
lead_least (simple (party_item g)) = omega arith
lead_least (simple (input_item i)) = omega arith
lead_least (simple (cell_item c)) = omega arith
lead_least (simple (table_item t)) = omega arith
lead_least (simple (device_item g)) = omega arith
lead_least (simple (entry_item p)) = omega arith
lead_least (proc p y) = omega arith

pub lead_most : (i : Item) → lead i < 0x88
lead_most (simple (party_item g)) = omega arith
lead_most (simple (input_item i)) = omega arith
lead_most (simple (cell_item c)) = omega arith
lead_most (simple (table_item t)) = omega arith
lead_most (simple (device_item g)) = omega arith
lead_most (simple (entry_item p)) = omega arith
lead_most (proc p y) = omega arith

-- what is laid out is read
pub lead_of : (i : Item) (more : List ℕ) → by_lead (lead i) (item_bytes i ++ more) ≡ got i more
lead_of (simple (party_item g)) more = met 2 9 (0x81 ∷ eight g more) _ (omega arith) ∙ ap (λ (n : ℕ). got (simple (party_item n)) more) (whole8 g [])
lead_of (simple (input_item i)) more =
    met 2 6 (0x82 ∷ i.party ∷ four i.value more) _ (omega arith)
    ∙ ap (λ (n : ℕ). got (simple (input_item (record { party = i.party; value = n }))) more) (whole4 i.value)
lead_of (simple (cell_item c)) more =
    met 2 13 (0x83 ∷ four c.value (eight c.frame more)) _ (omega arith)
    ∙ ap (λ (n : ℕ). got (simple (cell_item (record { value = n; frame = be64 (eight c.frame more) 0 }))) more) (whole4 c.value)
    ∙ ap (λ (n : ℕ). got (simple (cell_item (record { value = c.value; frame = n }))) more) (whole8 c.frame more)
lead_of (simple (table_item t)) more = met 2 3 (0x84 ∷ t.first ∷ t.length ∷ more) _ (omega arith)
lead_of (simple (device_item g)) more = met 2 9 (0x85 ∷ eight g more) _ (omega arith) ∙ ap (λ (n : ℕ). got (simple (device_item n)) more) (whole8 g [])
lead_of (simple (entry_item p)) more = met 2 2 (0x87 ∷ p ∷ more) _ (omega arith)
lead_of (proc p y) more =
    met 2 4 (0x86 ∷ p ∷ two (length y) (y ++ more)) _ (omega arith)
    ∙ cut_seam 2 _ y more (λ y t. got (proc p y) t) (whole2 (length y))
