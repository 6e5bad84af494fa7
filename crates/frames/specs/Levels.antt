-- The levels kind: a code is trusted for every right below it.
use Rattle.std.specs.Prelude.{min, ◌&&◌, nat_lt}
use Rattle.frames.specs.Kinds.{Kind}

abbrev pub levels : Kind
levels = record { full = 64; mix = min; holds = λ a q. nat_lt q 64 && nat_lt q a }
