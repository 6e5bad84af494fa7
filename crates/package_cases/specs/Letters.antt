-- The letters of hexadecimal in which a case does not write its package.
use Rattle.std.specs.Prelude.{ℕ, Bool, not, ◌&&◌, nat_le}

-- a byte that is none of a to z, which are 97 to 122
abbrev pub no_small_letter : ℕ → Bool
no_small_letter c = not (nat_le 97 c && nat_le c 122)
