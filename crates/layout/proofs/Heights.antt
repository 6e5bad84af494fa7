-- A body that keeps the limits calls no procedure of height 8.
use Rattle.std.proofs.Common.{ℕ, ◌+◌, ◌<◌, length, get_or, arith}
use Rattle.std.proofs.lemmas.Bool.{ltb-true}
use Rattle.layout.specs.Tree.{Command, plain_command, choose_block, loop_block, grant_block, call_procedure, Commands, no_commands, then_command, Block, numbered_block}
use Rattle.layout.specs.Layout.{command_bytes, flat, encode_block, choice_head, loop_head, grant_head}
use Rattle.layout.specs.Folds.{size, size_block, highest, highest_commands, highest_block}
use Rattle.layout.specs.Scope.{Scope}
use Rattle.layout.specs.Limits.{Keeps, KeepsCommands, KeepsBlock}

mutual
  low_command : (w : Scope) (c : Command) (d n at : ℕ) → Keeps w d n at c → highest w.heights c < 8
  low_command w (plain_command o c) d n at k = omega arith
  low_command w (choose_block c b e) d n at k =
      let x = low_block w b (d + 1) n (at + choice_head c) k.1 in
      let y = low_block w e (d + 1) (n + size_block b) (at + choice_head c + length (encode_block b)) k.2 in
      omega arith
  low_command w (loop_block a t b) d n at k = low_block w b (d + 1) n (at + loop_head) k.1
  low_command w (grant_block g b) d n at k = low_block w b (d + 1) n (at + grant_head) k.1
  low_command w (call_procedure p) d n at k = ltb-true (get_or w.heights p 0) 8 k.reaches

  low_commands : (w : Scope) (cs : Commands) (d n at : ℕ) → KeepsCommands w d n at cs → highest_commands w.heights cs < 8
  low_commands w no_commands d n at k = omega arith
  low_commands w (then_command c cs) d n at k =
      let x = low_command w c d n at k.0 in
      let y = low_commands w cs d (n + size c) (at + length (command_bytes (flat c))) k.1 in
      omega arith

  pub low_block : (w : Scope) (b : Block) (d n at : ℕ) → KeepsBlock w d n at b → highest_block w.heights b < 8
  low_block w (numbered_block i cs) d n at k = low_commands w cs d (n + 1) at k.1
