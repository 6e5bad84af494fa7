-- What the parts of a controller stand for in the rules.
use Rattle.std.specs.Prelude.{ℕ, Bool, false, ◌&&◌, ◌||◌, [], nat_le, nat_lt}
use Rattle.frames.specs.Kinds.{Kind}
use Rattle.oracle_laws.specs.Sets.{Sets}
use Rattle.rules.specs.Assembly.{Assembly}
use Rattle.layout.specs.Program.{Program}
use Rattle.package.specs.declared.contents.Contents.{Contents}
use Rattle.package.specs.Declares.{contents_of}
use Rattle.running.specs.declared.lowering.Blocks.{Blocks}
use Rattle.running.specs.declared.lowering.Blocks.TheVariants.{One, Either}

-- a frame kind, its widening, and what an oracle answers
abbrev pub assembled : Kind → (ℕ → ℕ → ℕ) → Sets → Assembly
assembled K widen names = record { kind = K; widen = widen; names = names }

-- a frame kind and its widening, where no oracle is asked; and where no grant is made either
abbrev pub granting : Kind → (ℕ → ℕ → ℕ) → Assembly
granting K widen = assembled K widen (λ n x. false)

abbrev pub mixing : Kind → Assembly
mixing K = granting K K.mix

-- the places that are named for a block, or for either of two
abbrev pub named_for : Sets → Blocks → ℕ → Bool
named_for names (One n) x = names n x
named_for names (Either n m) x = names n x || names m x

-- what has been declared, without bodies
abbrev pub declared_by : Contents → Program
declared_by c = record { contents = contents_of c; bodies = [] }

-- the places from `first` on and below `end`
abbrev pub between : ℕ → ℕ → ℕ → Bool
between first end x = nat_le first x && nat_lt x end
