-- What a write oracle means, a set of places for each block, and the laws of such sets.
use Rattle.std.specs.Prelude.{◌≡◌, ℕ, ◌+◌, ◌<◌, Bool, true, false, ◌&&◌, List, [], ◌∷◌, length, ◌==◌, nat_le, nat_lt}
use Rattle.std.specs.List.{All}
use Rattle.layout.specs.declared.Table.{Table}
use Rattle.layout.specs.Tree.{Plain, set_place, copy_place, combine_places, pick_cell, put_cell, drive_device, Command, plain_command, choose_block, loop_block, grant_block, call_procedure}
use Rattle.layout.specs.Declarations.{Declaration, places}
use Rattle.layout.specs.Packages.{Keeps}
use Rattle.layout.specs.Program.{Program, program, body, table}
use Rattle.oracle_laws.specs.Blocks.{number, commands, blocks, block, EachIn}

-- for each block, by its number, which places are named
abbrev pub Sets : Type 0
Sets = ℕ → ℕ → Bool

-- place x is a cell of the table
abbrev pub cell_of : Table → ℕ → Bool
cell_of t x = nat_le t.first x && nat_lt x (t.first + t.length)

-- place x is a target of a plain command: a PUT may write any cell of its table, a DRIVE writes none
abbrev pub target : Program → Plain → ℕ → Bool
target P (set_place y n) x = x == y
target P (copy_place y a) x = x == y
target P (combine_places o y a b) x = x == y
target P (pick_cell y t a) x = x == y
target P (put_cell t a b) x = cell_of (table P t) x
target P (drive_device d a) x = false

-- place x is a target of a command, its blocks apart
abbrev pub assigns : Program → Command → ℕ → Bool
assigns P (plain_command o c) x = target P c x
assigns P (choose_block c b e) x = false
assigns P (loop_block a k b) x = false
assigns P (grant_block g b) x = false
assigns P (call_procedure p) x = false

-- the blocks that a command runs: its own, and the body that it calls
abbrev pub runs : Program → Command → List ℕ
runs P (plain_command o c) = []
runs P (choose_block c b e) = number b ∷ number e ∷ []
runs P (loop_block a k b) = number b ∷ []
runs P (grant_block g b) = number b ∷ []
runs P (call_procedure p) = number (body P p) ∷ []

-- all that is named for block m is named for block n
abbrev pub Within : Sets → ℕ → ℕ → Type 0
Within names m n = (x : ℕ) → names m x ≡ true → names n x ≡ true

-- a block's set holds the targets of its commands, and the sets of the blocks inside it and of every called body
pub record Lawful (P : Program) (names : Sets) : Type 0 where
  pub targets : (n : ℕ) → EachIn (λ c. (x : ℕ) → assigns P c x ≡ true → names n x ≡ true) (commands (block P n))
  pub nests : (n : ℕ) → EachIn (λ c. All (λ m. Within names m n) (runs P c)) (commands (block P n))

-- nothing is named for a block that the package lacks, and no place that it lacks
abbrev pub Declared : Program → Sets → Type 0
Declared P names = (n x : ℕ) → names n x ≡ true → (n < length (blocks P)) × (x < places P.contents)

-- the laws of a write oracle, whose sets are fixed by the package
pub record OracleLaws (sets : Program → Sets) : Type 0 where
  pub lawful : (ds : List Declaration) → Keeps ds → Lawful (program ds) (sets (program ds))
  pub declared : (ds : List Declaration) → Keeps ds → Declared (program ds) (sets (program ds))

-- every place for every block
abbrev pub broad : Program → Sets
broad P n x = nat_lt n (length (blocks P)) && nat_lt x (places P.contents)

abbrev pub BroadLawful : Type 0
BroadLawful = OracleLaws broad
