-- What an accepted package says: its declarations added up, and the bodies of its procedures.
use Rattle.std.specs.Prelude.{ℕ, List, slice_index_or}
use Rattle.layout.specs.declared.Table.{Table}
use Rattle.layout.specs.Tree.{no_commands, Block, numbered_block}
use Rattle.layout.specs.Declarations.{Declaration, Contents}
use Rattle.layout.specs.Packages.{contents}
use Rattle.layout.specs.Accepted.{bodies}

pub record Program : Type 0 where
  pub contents : Contents
  pub bodies : List Block

abbrev pub program : List Declaration → Program
program ds = record { contents = contents ds; bodies = bodies ds }

-- a block without commands stands for one that is not there
abbrev pub no_block : Block
no_block = numbered_block 0 no_commands

-- a table without cells stands for one that is not declared
abbrev pub no_table : Table
no_table = record { first = 0; length = 0 }

-- the body of procedure p
abbrev pub body : Program → ℕ → Block
body P p = slice_index_or P.bodies p no_block

-- table t
abbrev pub table : Program → ℕ → Table
table P t = slice_index_or P.contents.tables t no_table
