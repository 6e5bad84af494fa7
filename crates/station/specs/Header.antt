-- The header of an input: a byte for the frame kind, a byte for the write oracle, two for the package's length, and the
-- package.
use Rattle.std.specs.Prelude.{ℕ, cond, List, [], ◌∷◌, length, take, drop, Ok, Err, Result, ◌==◌, nat_le}
use Rattle.layout.specs.Bytes.{be16}
use Rattle.station.specs.declared.header.Kind.{Kind}
use Rattle.station.specs.declared.header.Kind.TheVariants.{Rights, Levels}
use Rattle.station.specs.declared.header.Oracle.{Oracle}
use Rattle.station.specs.declared.header.Oracle.TheVariants.{Walking, Broad}
use Rattle.station.specs.declared.header.Header as code
use Rattle.station.specs.declared.lines.Stop.{Stop}
use Rattle.station.specs.declared.lines.Stop.TheVariants.{EndsEarly, WrongByte}

-- what the header says: the frame kind, the write oracle and the package's bytes; and the bytes of the calls behind it
pub record Header : Type 0 where
  pub kind : Kind
  pub oracle : Oracle
  pub bytes : List ℕ
  pub calls : List ℕ

-- the first stop counts
abbrev pub and_then : {X Y : Type 0} → Result X Stop → (X → Result Y Stop) → Result Y Stop
and_then (Ok x) k = k x
and_then (Err s) k = Err s

-- a byte: 0x00 for the first of two, 0x01 for the second; and the bytes behind it
abbrev pub choice : {X : Type 0} → X → X → List ℕ → Result (X × List ℕ) Stop
choice x y [] = Err EndsEarly
choice x y (b ∷ bs) = cond (b == 0x00) (Ok (x, bs)) (cond (b == 0x01) (Ok (y, bs)) (Err WrongByte))

-- n bytes, and the bytes behind them
abbrev pub split : ℕ → List ℕ → Result (List ℕ × List ℕ) Stop
split n bs = cond (nat_le n (length bs)) (Ok (take n bs, drop n bs)) (Err EndsEarly)

-- a length in two bytes, the high one first, and so many bytes; and the bytes behind them
abbrev pub sized : List ℕ → Result (List ℕ × List ℕ) Stop
sized bs = and_then (split 2 bs) (λ p. split (be16 p.0 0) p.1)

abbrev pub header : List ℕ → Result Header Stop
header bs =
    and_then (choice Rights Levels bs) (λ k. and_then (choice Walking Broad k.1) (λ o. and_then (sized o.1) (λ p.
    Ok (record { kind = k.0; oracle = o.0; bytes = p.0; calls = p.1 }))))

-- the header that the code reads
abbrev pub header_of : code.Header → Header
header_of h = record { kind = h.kind; oracle = h.oracle; bytes = h.bytes.now; calls = h.calls.now }
