-- A package is accepted exactly where its bytes are the layout of declarations that keep the limits.
use Rattle.std.proofs.Common.{◌≡◌, ℕ, zero, suc, ◌+◌, ◌<◌, ◌≤◌, true, false, eqb, leb, List, [], ◌∷◌, ◌++◌, length, sym, refl, ap, ◌∙◌, subst, arith, length-append}
use Rattle.std.proofs.lemmas.Bool.{cond_both, cond-false, leb-true, le-leb, ltb-true, eqb-true, ne_eqb, and_parts, and_from, both_ways}
use Rattle.layout.specs.Bytes.{Bytes}
use Rattle.layout.specs.Layout.{encode_block}
use Rattle.layout.specs.Limits.{Sound}
use Rattle.layout.specs.Front.{Front, got, bad}
use Rattle.layout.specs.Reading.{Got, ok, fault}
use Rattle.layout.specs.Declarations.{Declaration, simple_declaration, procedure_declaration, Item, simple, proc, item_bytes, item, lead, proc_head, Contents, nothing, scope, declare}
use Rattle.layout.specs.Packages.{room, known, filled, brief, SoundBody, Keep, KeepAll, encode, Keeps, by_lead, bodied, declaration, finish, next_item, leads, read_all, read_package, was_read, declared, accepts, declarations}
use Rattle.layout.specs.Law.{AcceptedExactly}
use Rattle.layout.proofs.Numbers.{bytes_left, bytes_right}
use Rattle.layout.proofs.Fronts.{True}
use Rattle.layout.proofs.Sounds.{Holds, by_demand, by_then, weaken, body_sound}
use Rattle.layout.proofs.Completes.{passes, goes, body_complete}
use Rattle.layout.proofs.Items.{lead_true, rest, led, lead_least, lead_most, lead_of}

-- what is read keeps the limits

record Bodied (s : Contents) (at : ℕ) (i : Item) (x : Declaration) : Type 0 where
  pub body : SoundBody s at x
  pub is : item x ≡ i

pub record Read1 (s : Contents) (at latest : ℕ) (i : Item) (x : Declaration) : Type 0 where
  pub keeps : Keep s at latest x
  pub is : item x ≡ i

pub record ReadDeclarations (s : Contents) (at latest : ℕ) (bs : List ℕ) (xs : List Declaration) : Type 0 where
  pub keeps : KeepAll s at latest xs
  pub is : encode xs ≡ bs

bodied_sound : (s : Contents) (at : ℕ) (i : Item) (more : List ℕ) → Bytes (item_bytes i ++ more) → room s i ≡ true → Holds (Bodied s at i) (bodied s i at)
bodied_sound s at (simple x) more b r = record { body = tt; is = refl }
bodied_sound s at (proc p y) more b r =
    let few = ltb-true (length s.spans) 256 (and_parts _ _ r).1 in
    by_then (λ t. Sound (scope s) (length s.spans) (at + proc_head) t × (encode_block t ≡ y)) (Bodied s at (proc p y)) _ _ (body_sound (scope s) y (at + proc_head) (length s.spans) (bytes_left y more b.1.1.1.1) few) (λ t h.
    record { body = h.0; is = ap (proc p) h.1 })

one_sound : (s : Contents) (at latest : ℕ) (i : Item) (more : List ℕ) → Bytes (item_bytes i ++ more) → latest ≤ lead i → Holds (Read1 s at latest i) (declaration s i at)
one_sound s at latest i more b o =
    by_demand (Read1 s at latest i) (room s i) 5 at _ (λ r.
    by_demand (Read1 s at latest i) (known s i) 6 at _ (λ k.
    by_demand (Read1 s at latest i) (filled i) 8 at _ (λ f.
    by_then (Bodied s at i) (Read1 s at latest i) _ _ (bodied_sound s at i more b r) (λ x h.
    by_demand (Read1 s at latest i) (brief s x) 10 at (ok x) (λ e.
    let is = h.is in
    record { keeps = record { order = rw is o; limit = rw is r; names = rw is k; length = rw is f; body = h.body; steps = e }; is = is })))))

first : (i : Item) (more bs : List ℕ) (op : ℕ) → item_bytes i ++ more ≡ op ∷ bs → lead i ≡ op
first i more bs op e = let l = led i in let h : lead i ∷ (rest i ++ more) ≡ op ∷ bs = rw l at e in cc

next_sound : (more : Contents → ℕ → ℕ → List ℕ → Got (List Declaration)) → ((s : Contents) (a l : ℕ) (ys : List ℕ) → Bytes ys → Holds (ReadDeclarations s a l ys) (more s a l ys)) → (s : Contents) (at latest last op : ℕ) (bs : List ℕ) → Bytes (op ∷ bs) → latest ≤ op → (f : Front Item) → True item_bytes (op ∷ bs) f → Holds (ReadDeclarations s at latest (op ∷ bs)) (next_item more s at last f)
next_sound more tail s at latest last op bs small o (bad m) h = tt
next_sound more tail s at latest last op bs small o (got i after) h =
    let these : Bytes (item_bytes i ++ after) = rw h small in
    let same = first i after bs op h in
    by_then (Read1 s at latest i) (ReadDeclarations s at latest (op ∷ bs)) _ _ (one_sound s at latest i after these (rw same o)) (λ x k.
    by_then (ReadDeclarations (declare s at x) (at + length (item_bytes i)) (lead i) after) (ReadDeclarations s at latest (op ∷ bs)) _ _ (tail (declare s at x) _ (lead i) after (bytes_right (item_bytes i) after these)) (λ xs j.
    let a = k.is in
    let b = j.is in
    record { keeps = (k.keeps, rw a j.keeps); is = cc }))

finish_sound : (s : Contents) (at latest : ℕ) (bs : List ℕ) → Holds (ReadDeclarations s at latest (0x88 ∷ bs)) (finish bs (at + 1))
finish_sound s at latest [] = record { keeps = tt; is = refl }
finish_sound s at latest (b ∷ bs) = tt

all_sound : (f : ℕ) (s : Contents) (at latest : ℕ) (bs : List ℕ) → Bytes bs → Holds (ReadDeclarations s at latest bs) (read_all f s at latest bs)
unfolding read_all
all_sound zero s at latest bs small = tt
all_sound (suc f) s at latest [] small = tt
all_sound (suc f) s at latest (op ∷ bs) small =
    by_demand (ReadDeclarations s at latest (op ∷ bs)) (leads op) 3 at _ (λ l.
    by_demand (ReadDeclarations s at latest (op ∷ bs)) (leb latest op) 4 at _ (λ o.
    cond_both (eqb op 0x88) (finish bs (at + 1)) (next_item (read_all f) s at (at + length (op ∷ bs)) (by_lead op (op ∷ bs))) (Holds (ReadDeclarations s at latest (op ∷ bs)))
    (λ e. let q = eqb-true op 0x88 e in rw q (finish_sound s at latest bs))
    (λ e. next_sound (read_all f) (λ s a l ys h. all_sound f s a l ys h) s at latest _ op bs small (leb-true latest op o) (by_lead op (op ∷ bs)) (lead_true (op ∷ bs) small op refl))))

-- what keeps the limits is read

bodied_complete : (x : Declaration) (s : Contents) (at : ℕ) → SoundBody s at x → bodied s (item x) at ≡ ok x
bodied_complete (simple_declaration x) s at h = refl
bodied_complete (procedure_declaration p b) s at h = goes _ _ b _ (body_complete (scope s) (at + proc_head) (length s.spans) b h) refl

one_complete : (x : Declaration) (s : Contents) (at latest : ℕ) → Keep s at latest x → declaration s (item x) at ≡ ok x
one_complete x s at latest h =
    passes (room s (item x)) 5 at _ _ h.limit
    (passes (known s (item x)) 6 at _ _ h.names
    (passes (filled (item x)) 8 at _ _ h.length
    (goes _ _ x _ (bodied_complete x s at h.body)
    (passes (brief s x) 10 at _ _ h.steps refl))))

leads_of : (i : Item) → leads (lead i) ≡ true
leads_of i = and_from _ _ (le-leb 0x81 (lead i) (lead_least i)) (le-leb (lead i) 0x88 (let m = lead_most i in omega arith))

-- one declaration, where its bytes are at the front
step_at : (f : ℕ) (s : Contents) (at latest op : ℕ) (bs : List ℕ) → leads op ≡ true → latest ≤ op → op < 0x88 → read_all (suc f) s at latest (op ∷ bs) ≡ next_item (read_all f) s at (at + length (op ∷ bs)) (by_lead op (op ∷ bs))
unfolding read_all
step_at f s at latest op bs l o m =
    passes (leads op) 3 at _ _ l
    (passes (leb latest op) 4 at _ _ (le-leb latest op o)
    (cond-false (eqb op 0x88) _ _ (ne_eqb op 0x88 (λ e. omega arith))))

step_complete : (f : ℕ) (s : Contents) (at latest last : ℕ) (i : Item) (more : List ℕ) → latest ≤ lead i → read_all (suc f) s at latest (item_bytes i ++ more) ≡ next_item (read_all f) s at last (got i more)
step_complete f s at latest last i more o =
    let e : item_bytes i ++ more ≡ lead i ∷ (rest i ++ more) = ap (λ (r : List ℕ). r ++ more) (led i) in
    let front : by_lead (lead i) (lead i ∷ (rest i ++ more)) ≡ got i more = ap (by_lead (lead i)) (sym e) ∙ lead_of i more in
    ap (read_all (suc f) s at latest) e ∙ step_at f s at latest (lead i) (rest i ++ more) (leads_of i) o (lead_most i)
    ∙ ap (next_item (read_all f) s at (at + length (lead i ∷ (rest i ++ more)))) front

some : (i : Item) → 1 ≤ length (item_bytes i)
some i = rw led (omega arith)

all_complete : (xs : List Declaration) (f : ℕ) (s : Contents) (at latest : ℕ) → latest ≤ 0x88 → length (encode xs) < f → KeepAll s at latest xs → read_all f s at latest (encode xs) ≡ ok xs
unfolding read_all
all_complete [] zero s at latest o l h = absurd (omega arith)
all_complete [] (suc f) s at latest o l h = passes (leb latest 0x88) 4 at _ _ (le-leb latest 0x88 o) refl
all_complete (x ∷ xs) zero s at latest o l h = absurd (omega arith)
all_complete (x ∷ xs) (suc f) s at latest o l h =
    let len = length-append (item_bytes (item x)) (encode xs) in
    let more = some (item x) in
    let top = lead_most (item x) in
    step_complete f s at latest 0 (item x) (encode xs) h.0.order
    ∙ goes _ _ x _ (one_complete x s at latest h.0)
    (goes _ _ xs _ (all_complete xs f (declare s at x) (at + length (item_bytes (item x))) (lead (item x)) (omega arith) (omega arith) h.1) refl)

pub accepted_exactly_lem : AcceptedExactly
accepted_exactly_lem bs ds small = (
  (λ e. subst (Holds (λ xs. Keeps xs × (encode xs ≡ bs))) e sound),
  (λ p. subst (λ (ys : List ℕ). read_package ys ≡ ok ds) p.1 (complete p.0)),
)
  where
    sound : Holds (λ xs. Keeps xs × (encode xs ≡ bs)) (read_package bs)
    sound =
        by_demand (λ xs. Keeps xs × (encode xs ≡ bs)) (leb (length bs) 8192) 1 0 _ (λ l.
        weaken (ReadDeclarations nothing 0 0 bs) (λ xs. Keeps xs × (encode xs ≡ bs)) (read_all (length bs + 1) nothing 0 0 bs) (all_sound (length bs + 1) nothing 0 0 bs small) (λ xs h.
        let e = h.is in
        (record { small = rw e (leb-true (length bs) 8192 l); each = h.keeps }, e)))

    complete : Keeps ds → read_package (encode ds) ≡ ok ds
    complete h =
        passes (leb (length (encode ds)) 8192) 1 0 _ _ (le-leb (length (encode ds)) 8192 h.small)
        (all_complete ds (length (encode ds) + 1) nothing 0 0 (omega arith) (omega arith) h.each)

-- what is accepted is read as its declarations
pub accepts_read : (bs : List ℕ) (ds : List Declaration) → read_package bs ≡ ok ds → (accepts bs ≡ true) × (declarations bs ≡ ds)
unfolding accepts declarations
accepts_read bs ds e = (ap was_read e, ap declared e)

pub read_accepted : (bs : List ℕ) → accepts bs ≡ true → read_package bs ≡ ok (declarations bs)
unfolding accepts declarations
read_accepted bs h = known (read_package bs) h
  where
    known : (g : Got (List Declaration)) → was_read g ≡ true → g ≡ ok (declared g)
    known (ok ds) h = refl
    known (fault n o) h = absurd (both_ways false refl h)
