-- What the tree of a body has to keep.
use Rattle.std.specs.Prelude.{◌≡◌, ℕ, ◌+◌, ◌≤◌, true, length}
use Rattle.layout.specs.Tree.{Command, plain_command, choose_block, loop_block, grant_block, call_procedure, Commands, no_commands, then_command, Block, numbered_block}
use Rattle.layout.specs.Layout.{Flat, command_bytes, flat, encode_block, choice_head, loop_head, grant_head}
use Rattle.layout.specs.Folds.{size, size_block}
use Rattle.layout.specs.Scope.{Scope, turns, named, targets, low}

-- a command at depth d, its blocks apart
pub record Kept (w : Scope) (d : ℕ) (c : Flat) : Type 0 where
  pub repeats : turns c ≡ true
  pub declared : named w c ≡ true
  pub assigns : targets w c ≡ true
  pub reaches : low w d c ≡ true

-- at depth d and offset `at`, where the next block is number n: blocks are numbered as they are entered
abbrev mutual
  pub Keeps : Scope → ℕ → ℕ → ℕ → Command → Type 0
  Keeps w d n at (plain_command o c) = Kept w d (flat (plain_command o c)) × (o ≡ at)
  Keeps w d n at (choose_block c b e) =
      Kept w d (flat (choose_block c b e))
      × KeepsBlock w (d + 1) n (at + choice_head c) b
      × KeepsBlock w (d + 1) (n + size_block b) (at + choice_head c + length (encode_block b)) e
  Keeps w d n at (loop_block a k b) = Kept w d (flat (loop_block a k b)) × KeepsBlock w (d + 1) n (at + loop_head) b
  Keeps w d n at (grant_block g b) = Kept w d (flat (grant_block g b)) × KeepsBlock w (d + 1) n (at + grant_head) b
  Keeps w d n at (call_procedure p) = Kept w d (flat (call_procedure p))

  pub KeepsCommands : Scope → ℕ → ℕ → ℕ → Commands → Type 0
  KeepsCommands w d n at no_commands = Unit {0}
  KeepsCommands w d n at (then_command c cs) = Keeps w d n at c × KeepsCommands w d (n + size c) (at + length (command_bytes (flat c))) cs

  pub KeepsBlock : Scope → ℕ → ℕ → ℕ → Block → Type 0
  KeepsBlock w d n at (numbered_block i cs) = (i ≡ n) × KeepsCommands w d (n + 1) at cs

-- a body at offset `at`, of number n: at most 256 blocks in a package
pub record Sound (w : Scope) (n at : ℕ) (b : Block) : Type 0 where
  pub fits : KeepsBlock w 0 n at b
  pub few : n + size_block b ≤ 256
