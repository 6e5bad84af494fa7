-- Numbers in bytes, the highest byte first.
use Rattle.std.specs.Prelude.{ℕ, ◌+◌, ◌*◌, ◌/◌, ◌%◌, ◌<◌, Bool, true, ◌&&◌, List, [], ◌∷◌, nat_lt, slice_index}

-- each element is a byte
abbrev pub Bytes : List ℕ → Type 0
Bytes [] = Unit {0}
Bytes (x ∷ xs) = (x < 256) × Bytes xs

-- the same, as a test
abbrev pub are_bytes : List ℕ → Bool
are_bytes [] = true
are_bytes (x ∷ xs) = nat_lt x 256 && are_bytes xs

-- the number in the two, four or eight bytes from i on
abbrev pub be16 : List ℕ → ℕ → ℕ
be16 bs i = slice_index bs i * 256 + slice_index bs (i + 1)

abbrev pub be32 : List ℕ → ℕ → ℕ
be32 bs i = be16 bs i * 65536 + be16 bs (i + 2)

abbrev pub be64 : List ℕ → ℕ → ℕ
be64 bs i = be32 bs i * 4294967296 + be32 bs (i + 4)

-- a number as two, four or eight bytes, in front of what follows
abbrev pub two : ℕ → List ℕ → List ℕ
two n bs = n / 256 ∷ n % 256 ∷ bs

abbrev pub four : ℕ → List ℕ → List ℕ
four n bs = n / 16777216 ∷ n / 65536 % 256 ∷ n / 256 % 256 ∷ n % 256 ∷ bs

abbrev pub eight : ℕ → List ℕ → List ℕ
eight n bs = four (n / 4294967296) (four (n % 4294967296) bs)
