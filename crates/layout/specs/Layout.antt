-- How commands are laid out in bytes: the command byte, the operands, then the blocks.
use Rattle.std.specs.Prelude.{ℕ, List, [], ◌∷◌, ◌++◌, length}
use Rattle.layout.specs.Tree.{Operation, add, sub, less, same, bits, Plain, set_place, copy_place, combine_places, pick_cell, put_cell, drive_device, Choice, when_place, try_frame, Command, plain_command, choose_block, loop_block, grant_block, call_procedure, Commands, no_commands, then_command, Block, numbered_block}
use Rattle.layout.specs.Bytes.{two, four, eight}

-- a command whose blocks are still bytes
pub data Flat : Type 0 where
  plain : Plain → Flat
  choose : Choice → List ℕ → List ℕ → Flat
  loop : (a k : ℕ) → List ℕ → Flat
  grant : (g : ℕ) → List ℕ → Flat
  call : (p : ℕ) → Flat

abbrev pub operation_byte : Operation → ℕ
operation_byte add = 0x03
operation_byte sub = 0x04
operation_byte less = 0x05
operation_byte same = 0x06
operation_byte bits = 0x07

abbrev pub plain_bytes : Plain → List ℕ
plain_bytes (set_place x n) = 0x01 ∷ x ∷ four n []
plain_bytes (copy_place x a) = 0x02 ∷ x ∷ a ∷ []
plain_bytes (combine_places o x a b) = operation_byte o ∷ x ∷ a ∷ b ∷ []
plain_bytes (pick_cell x t a) = 0x08 ∷ x ∷ t ∷ a ∷ []
plain_bytes (put_cell t a b) = 0x09 ∷ t ∷ a ∷ b ∷ []
plain_bytes (drive_device d a) = 0x0A ∷ d ∷ a ∷ []

-- the byte and the operands of a choice, in front of what follows
abbrev pub choice_bytes : Choice → List ℕ → List ℕ
choice_bytes (when_place a) bs = 0x0B ∷ a ∷ bs
choice_bytes (try_frame g a) bs = 0x0F ∷ eight g (a ∷ bs)

abbrev pub command_bytes : Flat → List ℕ
command_bytes (plain c) = plain_bytes c
command_bytes (choose c y z) = choice_bytes c (two (length y) (two (length z) (y ++ z)))
command_bytes (loop a k y) = 0x0C ∷ a ∷ k ∷ two (length y) y
command_bytes (grant g y) = 0x0D ∷ eight g (two (length y) y)
command_bytes (call p) = 0x0E ∷ p ∷ []

-- how many bytes stand in front of a command's blocks
abbrev pub choice_head : Choice → ℕ
choice_head (when_place a) = 6
choice_head (try_frame g a) = 14

abbrev pub loop_head : ℕ
loop_head = 5

abbrev pub grant_head : ℕ
grant_head = 11

abbrev mutual
  pub flat : Command → Flat
  flat (plain_command o c) = plain c
  flat (choose_block c b e) = choose c (encode_block b) (encode_block e)
  flat (loop_block a k b) = loop a k (encode_block b)
  flat (grant_block g b) = grant g (encode_block b)
  flat (call_procedure p) = call p

  pub encode_commands : Commands → List ℕ
  encode_commands no_commands = []
  encode_commands (then_command c cs) = command_bytes (flat c) ++ encode_commands cs

  pub encode_block : Block → List ℕ
  encode_block (numbered_block i cs) = encode_commands cs
