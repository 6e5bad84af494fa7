-- The commands of a body, as a tree.
use Rattle.std.specs.Prelude.{ℕ}

-- the five commands that combine two values
pub data Operation : Type 0 where
  add : Operation
  sub : Operation
  less : Operation
  same : Operation
  bits : Operation

-- a plain command runs no block and calls no procedure
-- x, a and b are places, t a table, d a device, n a value
pub data Plain : Type 0 where
  set_place : (x n : ℕ) → Plain
  copy_place : (x a : ℕ) → Plain
  combine_places : Operation → (x a b : ℕ) → Plain
  pick_cell : (x t a : ℕ) → Plain
  put_cell : (t a b : ℕ) → Plain
  drive_device : (d a : ℕ) → Plain

-- what chooses between two blocks: the value of a place, or the test of a frame g at a place
pub data Choice : Type 0 where
  when_place : (a : ℕ) → Choice
  try_frame : (g a : ℕ) → Choice

-- the place that a choice reads
abbrev pub asked : Choice → ℕ
asked (when_place a) = a
asked (try_frame g a) = a

-- a plain command carries its offset in the package, a block its number
mutual
  pub data Command : Type 0 where
    plain_command : (offset : ℕ) → Plain → Command
    choose_block : Choice → Block → Block → Command
    loop_block : (a k : ℕ) → Block → Command
    grant_block : (g : ℕ) → Block → Command
    call_procedure : (p : ℕ) → Command

  pub data Commands : Type 0 where
    no_commands : Commands
    then_command : Command → Commands → Commands

  pub data Block : Type 0 where
    numbered_block : (number : ℕ) → Commands → Block
