-- The rights kind: bit q of a code tells whether it is trusted for right q.
use Rattle.std.specs.Prelude.{◌-◌, ◌^◌, ◌&&◌, ◌==◌, nat_lt}
use Rattle.std.specs.Int.{bit_at}
use Rattle.std.specs.Int.Bits.{bit_and}
use Rattle.frames.specs.Kinds.{Kind}

abbrev pub rights : Kind
rights = record { full = 2 ^ 64 - 1; mix = bit_and; holds = λ a q. nat_lt q 64 && bit_at a q == 1 }
