-- What is added up over a tree: blocks, most steps, the highest call.
use Rattle.std.specs.Prelude.{ℕ, ◌+◌, ◌*◌, max, List, [], ◌∷◌, ◌++◌, length, slice_index}
use Rattle.layout.specs.declared.Span.{Span}
use Rattle.layout.specs.Tree.{Command, plain_command, choose_block, loop_block, grant_block, call_procedure, Commands, no_commands, then_command, Block, numbered_block}
use Rattle.layout.specs.Layout.{command_bytes, flat, encode_block, choice_head, loop_head, grant_head}

-- how many blocks: in a command, in a sequence, and in a block with itself
abbrev mutual
  pub size : Command → ℕ
  size (plain_command o c) = 0
  size (choose_block c b e) = size_block b + size_block e
  size (loop_block a k b) = size_block b
  size (grant_block g b) = size_block b
  size (call_procedure p) = 0

  pub size_commands : Commands → ℕ
  size_commands no_commands = 0
  size_commands (then_command c cs) = size c + size_commands cs

  pub size_block : Block → ℕ
  size_block (numbered_block i cs) = 1 + size_commands cs

-- the most steps, where the bodies that may be called take at most `below`
abbrev mutual
  pub most : List ℕ → Command → ℕ
  most below (plain_command o c) = 1
  most below (choose_block c b e) = 1 + max (most_block below b) (most_block below e)
  most below (loop_block a k b) = 1 + k * (1 + most_block below b)
  most below (grant_block g b) = 1 + most_block below b
  most below (call_procedure p) = 1 + slice_index below p

  pub most_commands : List ℕ → Commands → ℕ
  most_commands below no_commands = 0
  most_commands below (then_command c cs) = most below c + most_commands below cs

  pub most_block : List ℕ → Block → ℕ
  most_block below (numbered_block i cs) = most_commands below cs

-- the height of the highest procedure that is called, by the heights of the procedures; 0 where none is
abbrev mutual
  pub highest : List ℕ → Command → ℕ
  highest heights (plain_command o c) = 0
  highest heights (choose_block c b e) = max (highest_block heights b) (highest_block heights e)
  highest heights (loop_block a k b) = highest_block heights b
  highest heights (grant_block g b) = highest_block heights b
  highest heights (call_procedure p) = slice_index heights p

  pub highest_commands : List ℕ → Commands → ℕ
  highest_commands heights no_commands = 0
  highest_commands heights (then_command c cs) = max (highest heights c) (highest_commands heights cs)

  pub highest_block : List ℕ → Block → ℕ
  highest_block heights (numbered_block i cs) = highest_commands heights cs

-- where each block lies and how many lie inside it, in the order in which blocks are entered
abbrev mutual
  pub spans : ℕ → Command → List Span
  spans at (plain_command o c) = []
  spans at (choose_block c b e) = spans_block (at + choice_head c) b ++ spans_block (at + choice_head c + length (encode_block b)) e
  spans at (loop_block a k b) = spans_block (at + loop_head) b
  spans at (grant_block g b) = spans_block (at + grant_head) b
  spans at (call_procedure p) = []

  pub spans_commands : ℕ → Commands → List Span
  spans_commands at no_commands = []
  spans_commands at (then_command c cs) = spans at c ++ spans_commands (at + length (command_bytes (flat c))) cs

  pub spans_block : ℕ → Block → List Span
  spans_block at (numbered_block i cs) = record { start = at; length = length (encode_block (numbered_block i cs)); inside = size_commands cs } ∷ spans_commands at cs
