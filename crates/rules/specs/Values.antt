-- How two values are combined. Values have 32 bits.
use Rattle.std.specs.Prelude.{ℕ, ◌+◌, ◌-◌, ◌%◌, min, cond, ◌==◌, bit_and, nat_lt}
use Rattle.layout.specs.Tree.{Operation, add, sub, less, same, bits}

-- sums and differences are taken modulo 2^32
abbrev pub sum : ℕ → ℕ → ℕ
sum a b = (a + b) % 4294967296

abbrev pub difference : ℕ → ℕ → ℕ
difference a b = (a + (4294967296 - b)) % 4294967296

abbrev pub combine : Operation → ℕ → ℕ → ℕ
combine add a b = sum a b
combine sub a b = difference a b
combine less a b = cond (nat_lt a b) 1 0
combine same a b = cond (a == b) 1 0
combine bits a b = bit_and a b

-- a device's count stays at its largest number
abbrev pub counted : ℕ → ℕ
counted n = min (n + 1) 4294967295
