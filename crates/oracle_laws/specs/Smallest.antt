-- The smallest sets that keep the laws: what a block, the blocks inside it and the bodies that it calls may write.
use Rattle.std.specs.Prelude.{◌≡◌, ℕ, zero, suc, Bool, true, false, cond, ◌||◌, List, length, ◌==◌}
use Rattle.layout.specs.Tree.{Command, plain_command, choose_block, loop_block, grant_block, call_procedure, Commands, no_commands, then_command, Block, numbered_block}
use Rattle.layout.specs.Declarations.{Declaration}
use Rattle.layout.specs.Packages.{Keeps}
use Rattle.layout.specs.Program.{Program, program, body}
use Rattle.oracle_laws.specs.Blocks.{block}
use Rattle.oracle_laws.specs.Sets.{Sets, target, Lawful, OracleLaws}

-- what may be written, where `called p x` tells whether a call of procedure p may write place x
abbrev mutual
  pub writes : Program → Sets → Command → ℕ → Bool
  writes P called (plain_command o c) x = target P c x
  writes P called (choose_block c b e) x = writes_block P called b x || writes_block P called e x
  writes P called (loop_block a k b) x = writes_block P called b x
  writes P called (grant_block g b) x = writes_block P called b x
  writes P called (call_procedure p) x = called p x

  pub writes_commands : Program → Sets → Commands → ℕ → Bool
  writes_commands P called no_commands x = false
  writes_commands P called (then_command c cs) x = writes P called c x || writes_commands P called cs x

  pub writes_block : Program → Sets → Block → ℕ → Bool
  writes_block P called (numbered_block n cs) x = writes_commands P called cs x

-- what calls of the procedures below k may write
abbrev pub called_below : Program → ℕ → Sets
called_below P zero p x = false
called_below P (suc k) p x = cond (p == k) (writes_block P (called_below P k) (body P k) x) (called_below P k p x)

abbrev pub smallest : Program → Sets
smallest P n x = writes_block P (called_below P (length P.bodies)) (block P n) x

-- they keep the laws
abbrev pub SmallestLawful : Type 0
SmallestLawful = OracleLaws smallest

-- and whatever keeps the two laws names all that they name
abbrev pub SmallestLeast : Type 0
SmallestLeast = (ds : List Declaration) → Keeps ds → (names : Sets) → Lawful (program ds) names → (n x : ℕ) → smallest (program ds) n x ≡ true → names n x ≡ true
