-- The blocks of a package, in the order in which they are entered: a block's number is its place there.
use Rattle.std.specs.Prelude.{ℕ, List, [], ◌∷◌, ◌++◌, slice_index_or}
use Rattle.std.specs.List.{flat_map}
use Rattle.layout.specs.Tree.{Command, plain_command, choose_block, loop_block, grant_block, call_procedure, Commands, no_commands, then_command, Block, numbered_block}
use Rattle.layout.specs.Program.{Program, no_block}

abbrev pub number : Block → ℕ
number (numbered_block n cs) = n

abbrev pub commands : Block → Commands
commands (numbered_block n cs) = cs

-- the blocks in a command, in a sequence, and a block with those inside it
abbrev mutual
  pub inside : Command → List Block
  inside (plain_command o c) = []
  inside (choose_block c b e) = entered b ++ entered e
  inside (loop_block a k b) = entered b
  inside (grant_block g b) = entered b
  inside (call_procedure p) = []

  pub inside_commands : Commands → List Block
  inside_commands no_commands = []
  inside_commands (then_command c cs) = inside c ++ inside_commands cs

  pub entered : Block → List Block
  entered (numbered_block n cs) = numbered_block n cs ∷ inside_commands cs

-- the blocks of bodies, one body after the other
abbrev pub entered_all : List Block → List Block
entered_all bs = flat_map entered bs

abbrev pub blocks : Program → List Block
blocks P = entered_all P.bodies

-- block n
abbrev pub block : Program → ℕ → Block
block P n = slice_index_or (blocks P) n no_block

-- what holds of each command that stands in a sequence, those in its blocks apart
abbrev pub EachIn : (Command → Type 0) → Commands → Type 0
EachIn Q no_commands = Unit {0}
EachIn Q (then_command c cs) = Q c × EachIn Q cs
