-- The lines of a body, by its tree.
use Rattle.std.specs.Prelude.{◌≡◌, ℕ, ◌+◌, ◌≤◌, List, [], ◌∷◌, ◌++◌, length}
use Rattle.std.specs.Vec.{vec_items}
use Rattle.layout.specs.Tree as tree
use Rattle.layout.specs.Tree.{Choice, when_place, try_frame, Command, plain_command, choose_block, loop_block, grant_block, call_procedure, Commands, no_commands, then_command, Block, numbered_block}
use Rattle.layout.specs.Layout.{Flat, plain, choose, loop, grant, call, command_bytes, flat, encode_commands, encode_block, choice_head, loop_head, grant_head}
use Rattle.layout.specs.Folds.{size, size_commands, size_block}
use Rattle.layout.specs.Scope.{Scope}
use Rattle.layout.specs.Limits.{Keeps, KeepsCommands, KeepsBlock}
use Rattle.commands.specs.declared.Operation.{Operation}
use Rattle.commands.specs.declared.Operation.TheVariants.{Add, Sub, Less, Same, Bits}
use Rattle.commands.specs.declared.Plain.{Plain}
use Rattle.commands.specs.declared.Plain.TheVariants.{Set, Copy, Combine, Pick, Put, Drive}
use Rattle.listing.specs.declared.bodies.BodyLines.{BodyLines}
use Rattle.listing.specs.declared.lines.Action.{Action}
use Rattle.listing.specs.declared.lines.Action.TheVariants as action
use Rattle.listing.specs.declared.lines.Role.{Role}
use Rattle.listing.specs.declared.lines.Role.TheVariants.{First, Second, Turn, Granted}
use Rattle.listing.specs.declared.lines.Line.{Line}
use Rattle.listing.specs.declared.lines.Line.TheVariants as line

abbrev pub tell_operation : tree.Operation → Operation
tell_operation tree.add = Add
tell_operation tree.sub = Sub
tell_operation tree.less = Less
tell_operation tree.same = Same
tell_operation tree.bits = Bits

abbrev pub tell_plain : tree.Plain → Plain
tell_plain (tree.set_place x n) = Set x n
tell_plain (tree.copy_place x a) = Copy x a
tell_plain (tree.combine_places o x a b) = Combine (tell_operation o) x a b
tell_plain (tree.pick_cell x t a) = Pick x t a
tell_plain (tree.put_cell t a b) = Put t a b
tell_plain (tree.drive_device d a) = Drive d a

abbrev pub tell_choice : Choice → Action
tell_choice (when_place a) = action.When a
tell_choice (try_frame g a) = action.Try g a

-- what a command does, its blocks apart
abbrev pub tell : Flat → Action
tell (plain c) = action.Plain (tell_plain c)
tell (choose c y z) = tell_choice c
tell (loop a k y) = action.Loop a k
tell (grant g y) = action.Grant g
tell (call p) = action.Call p

-- where i places are inputs, at depth d and offset `at`: a line for each command, and for each block a line with its
-- number and when it is run, then its commands
abbrev mutual
  pub part_lines : ℕ → ℕ → ℕ → Command → List Line
  part_lines i d at (plain_command o c) = []
  part_lines i d at (choose_block c b e) = block_lines i (d + 1) First (at + choice_head c) b ++ block_lines i (d + 1) Second (at + choice_head c + length (encode_block b)) e
  part_lines i d at (loop_block a k b) = block_lines i (d + 1) Turn (at + loop_head) b
  part_lines i d at (grant_block g b) = block_lines i (d + 1) Granted (at + grant_head) b
  part_lines i d at (call_procedure p) = []

  pub sequence_lines : ℕ → ℕ → ℕ → Commands → List Line
  sequence_lines i d at no_commands = []
  sequence_lines i d at (then_command c cs) = (line.Command at d i (tell (flat c)) ∷ part_lines i d at c) ++ sequence_lines i d (at + length (command_bytes (flat c))) cs

  pub block_lines : ℕ → ℕ → Role → ℕ → Block → List Line
  block_lines i d r at (numbered_block n cs) = line.Block n d r ∷ sequence_lines i d at cs

abbrev pub command_lines : ℕ → ℕ → ℕ → Command → List Line
command_lines i d at c = line.Command at d i (tell (flat c)) ∷ part_lines i d at c

-- these lines were added, with so many blocks
pub record Adds (count : ℕ) (more : List Line) (old new : BodyLines) : Type 0 where
  pub lines : vec_items new.lines ≡ vec_items old.lines ++ more
  pub blocks : new.blocks ≡ old.blocks + count
  pub inputs : new.inputs ≡ old.inputs

-- of bytes that are the layout of a tree which keeps the limits: its lines were added, with its blocks
pub record TellsBlock (d : ℕ) (r : Role) (bs : List ℕ) (at : ℕ) (old new : BodyLines) : Type 0 where
  pub told : (w : Scope) (b : Block) → KeepsBlock w d old.blocks at b → old.blocks + size_block b ≤ 256 → at + length bs ≤ 8192 → encode_block b ≡ bs → Adds (size_block b) (block_lines old.inputs d r at b) old new

pub record TellsAll (d : ℕ) (bs : List ℕ) (at : ℕ) (old new : BodyLines) : Type 0 where
  pub told : (w : Scope) (cs : Commands) → KeepsCommands w d old.blocks at cs → old.blocks + size_commands cs ≤ 256 → at + length bs ≤ 8192 → encode_commands cs ≡ bs → Adds (size_commands cs) (sequence_lines old.inputs d at cs) old new

pub record TellsOne (d : ℕ) (f : Flat) (at : ℕ) (old new : BodyLines) : Type 0 where
  pub told : (w : Scope) (c : Command) → Keeps w d old.blocks at c → old.blocks + size c ≤ 256 → at + length (command_bytes f) ≤ 8192 → flat c ≡ f → Adds (size c) (command_lines old.inputs d at c) old new

-- the two blocks of a choice
pub record TellsTwo (d : ℕ) (ys zs : List ℕ) (start : ℕ) (old new : BodyLines) : Type 0 where
  pub told : (w : Scope) (b e : Block) → KeepsBlock w d old.blocks start b → KeepsBlock w d (old.blocks + size_block b) (start + length ys) e → old.blocks + (size_block b + size_block e) ≤ 256 → start + length ys + length zs ≤ 8192 → encode_block b ≡ ys → encode_block e ≡ zs → Adds (size_block b + size_block e) (block_lines old.inputs d First start b ++ block_lines old.inputs d Second (start + length ys) e) old new
