-- A package: declarations in a row, each under those before it. Its layout, its limits, and how it is read.
use Rattle.std.specs.Prelude.{◌≡◌, ℕ, zero, suc, ◌+◌, ◌≤◌, Bool, true, false, cond, not, ◌&&◌, List, [], ◌∷◌, ◌++◌, length, drop, ◌==◌, nat_le, nat_lt, slice_index}
use Rattle.layout.specs.Bytes.{be16, be32, be64}
use Rattle.layout.specs.Folds.{most_block}
use Rattle.layout.specs.Limits.{Sound}
use Rattle.layout.specs.Front.{Front, got, bad, need, cut}
use Rattle.layout.specs.Reading.{Got, ok, fault, and_then, demand, read_body}
use Rattle.layout.specs.Declarations.{Simple, party_item, input_item, cell_item, table_item, device_item, entry_item, Declaration, simple_declaration, procedure_declaration, Item, simple, proc, item_bytes, item, lead, proc_head, Contents, nothing, places, body_steps, scope, with_entry, declare}

-- there is room for one more of its sort; a body is a block, of which there are at most 256
abbrev pub room : Contents → Item → Bool
room s (simple (party_item g)) = nat_lt (length s.parties) 16
room s (simple (input_item i)) = nat_lt (places s) 128
room s (simple (cell_item c)) = nat_lt (places s) 128
room s (simple (table_item t)) = nat_lt (length s.tables) 16
room s (simple (device_item g)) = nat_lt (length s.needs) 32
room s (simple (entry_item p)) = nat_lt (length s.entries) 32
room s (proc p y) = nat_lt (length s.procedures) 32 && nat_lt (length s.spans) 256

-- every number that a declaration uses is declared, and a table's places are cells
abbrev pub known : Contents → Item → Bool
known s (simple (party_item g)) = true
known s (simple (input_item i)) = nat_lt i.party (length s.parties)
known s (simple (cell_item c)) = true
known s (simple (table_item t)) = nat_le (length s.inputs) t.first && nat_lt t.first (places s) && nat_le (t.first + t.length) (places s)
known s (simple (device_item g)) = true
known s (simple (entry_item p)) = nat_lt p (length s.procedures)
known s (proc p y) = nat_lt p (length s.parties)

-- a table has at least one cell
abbrev pub filled : Item → Bool
filled (simple (party_item g)) = true
filled (simple (input_item i)) = true
filled (simple (cell_item c)) = true
filled (simple (table_item t)) = not (t.length == 0)
filled (simple (device_item g)) = true
filled (simple (entry_item p)) = true
filled (proc p y) = true

-- a body, and the cycle with this entry, take at most 1,000,000 steps
abbrev pub brief : Contents → Declaration → Bool
brief s (simple_declaration (party_item g)) = true
brief s (simple_declaration (input_item i)) = true
brief s (simple_declaration (cell_item c)) = true
brief s (simple_declaration (table_item t)) = true
brief s (simple_declaration (device_item g)) = true
brief s (simple_declaration (entry_item p)) = nat_le (with_entry s p) 1000000
brief s (procedure_declaration p b) = nat_le (most_block (body_steps s) b) 1000000

-- the body of a declaration at `at`
abbrev pub SoundBody : Contents → ℕ → Declaration → Type 0
SoundBody s at (simple_declaration x) = Unit {0}
SoundBody s at (procedure_declaration p b) = Sound (scope s) (length s.spans) (at + proc_head) b

-- a declaration at `at`, behind one that was led by `latest`
pub record Keep (s : Contents) (at latest : ℕ) (x : Declaration) : Type 0 where
  pub order : latest ≤ lead (item x)
  pub limit : room s (item x) ≡ true
  pub names : known s (item x) ≡ true
  pub length : filled (item x) ≡ true
  pub body : SoundBody s at x
  pub steps : brief s x ≡ true

abbrev pub KeepAll : Contents → ℕ → ℕ → List Declaration → Type 0
KeepAll s at latest [] = Unit {0}
KeepAll s at latest (x ∷ xs) = Keep s at latest x × KeepAll (declare s at x) (at + length (item_bytes (item x))) (lead (item x)) xs

-- FINISH ends the package
abbrev pub encode : List Declaration → List ℕ
encode [] = 0x88 ∷ []
encode (x ∷ xs) = item_bytes (item x) ++ encode xs

-- the declarations of an accepted package
pub record Keeps (ds : List Declaration) : Type 0 where
  pub small : length (encode ds) ≤ 8192
  pub each : KeepAll nothing 0 0 ds

-- what the declarations add up to
abbrev pub contents_from : Contents → ℕ → List Declaration → Contents
contents_from s at [] = s
contents_from s at (x ∷ xs) = contents_from (declare s at x) (at + length (item_bytes (item x))) xs

abbrev pub contents : List Declaration → Contents
contents ds = contents_from nothing 0 ds

-- each declaration, by the bytes from its leading byte on
abbrev pub frame_at : (ℕ → Simple) → List ℕ → Front Item
frame_at c bs = need 2 9 bs (got (simple (c (be64 bs 1))) (drop 9 bs))

abbrev pub input_at : List ℕ → Front Item
input_at bs = need 2 6 bs (got (simple (input_item (record { party = slice_index bs 1; value = be32 bs 2 }))) (drop 6 bs))

abbrev pub cell_at : List ℕ → Front Item
cell_at bs = need 2 13 bs (got (simple (cell_item (record { value = be32 bs 1; frame = be64 bs 5 }))) (drop 13 bs))

abbrev pub table_at : List ℕ → Front Item
table_at bs = need 2 3 bs (got (simple (table_item (record { first = slice_index bs 1; length = slice_index bs 2 }))) (drop 3 bs))

abbrev pub proc_at : List ℕ → Front Item
proc_at bs = need 2 4 bs (cut 2 (be16 bs 2) (drop 4 bs) (λ y after. got (proc (slice_index bs 1) y) after))

abbrev pub entry_at : List ℕ → Front Item
entry_at bs = need 2 2 bs (got (simple (entry_item (slice_index bs 1))) (drop 2 bs))

abbrev pub by_lead : ℕ → List ℕ → Front Item
by_lead op bs =
    cond (op == 0x81) (frame_at party_item bs)
    (cond (op == 0x82) (input_at bs)
    (cond (op == 0x83) (cell_at bs)
    (cond (op == 0x84) (table_at bs)
    (cond (op == 0x85) (frame_at device_item bs)
    (cond (op == 0x86) (proc_at bs)
    (cond (op == 0x87) (entry_at bs)
    (bad 3)))))))

-- a declaration with its body read
abbrev pub bodied : Contents → Item → ℕ → Got Declaration
bodied s (simple x) at = ok (simple_declaration x)
bodied s (proc p y) at = and_then (read_body (scope s) y (at + proc_head) (length s.spans)) (λ b. ok (procedure_declaration p b))

-- the checks of a declaration at `at`, in their order
abbrev pub declaration : Contents → Item → ℕ → Got Declaration
declaration s i at =
    demand (room s i) 5 at
    (demand (known s i) 6 at
    (demand (filled i) 8 at
    (and_then (bodied s i at) (λ d. demand (brief s d) 10 at (ok d)))))

-- the bytes behind FINISH, at `at`
abbrev pub finish : List ℕ → ℕ → Got (List Declaration)
finish [] at = ok []
finish (b ∷ bs) at = fault 11 at

-- what is left of a package, by what stands at its front; the bytes end at `last`
abbrev pub next_item : (Contents → ℕ → ℕ → List ℕ → Got (List Declaration)) → Contents → ℕ → ℕ → Front Item → Got (List Declaration)
next_item more s at last (bad m) = fault m (cond (m == 2) last at)
next_item more s at last (got i rest) =
    and_then (declaration s i at) (λ d. and_then (more (declare s at d) (at + length (item_bytes i)) (lead i) rest) (λ ds. ok (d ∷ ds)))

-- a byte that may lead a declaration
abbrev pub leads : ℕ → Bool
leads op = nat_le 0x81 op && nat_le op 0x88

-- the declarations of the bytes at `at`, behind one that was led by `latest`; the first argument bounds the recursion
unfoldable pub read_all : ℕ → Contents → ℕ → ℕ → List ℕ → Got (List Declaration)
read_all zero s at latest bs = fault 0 at
read_all (suc f) s at latest [] = fault 2 at
read_all (suc f) s at latest (op ∷ bs) =
    demand (leads op) 3 at
    (demand (nat_le latest op) 4 at
    (cond (op == 0x88) (finish bs (at + 1)) (next_item (read_all f) s at (at + length (op ∷ bs)) (by_lead op (op ∷ bs)))))

-- a package of at most 8,192 bytes
abbrev pub read_package : List ℕ → Got (List Declaration)
read_package bs = demand (nat_le (length bs) 8192) 1 0 (read_all (length bs + 1) nothing 0 0 bs)

-- whether bytes are accepted, and the declarations of those that are
abbrev pub was_read : {A : Type 0} → Got A → Bool
was_read (ok a) = true
was_read (fault n o) = false

abbrev pub declared : Got (List Declaration) → List Declaration
declared (ok ds) = ds
declared (fault n o) = []

unfoldable pub accepts : List ℕ → Bool
accepts bs = was_read (read_package bs)

unfoldable pub declarations : List ℕ → List Declaration
declarations bs = declared (read_package bs)

-- what the declarations of bytes add up to
unfoldable pub held : List ℕ → Contents
held bs = contents (declarations bs)
