-- As many spans as blocks.
use Rattle.std.proofs.Common.{◌≡◌, ℕ, ◌+◌, length, refl, arith, length-append}
use Rattle.layout.specs.Tree.{Command, plain_command, choose_block, loop_block, grant_block, call_procedure, Commands, no_commands, then_command, Block, numbered_block}
use Rattle.layout.specs.Layout.{command_bytes, flat, encode_block, choice_head, loop_head, grant_head}
use Rattle.layout.specs.Folds.{size, size_commands, size_block, spans, spans_commands, spans_block}

mutual
  pub spans_size : (c : Command) (at : ℕ) → length (spans at c) ≡ size c
  spans_size (plain_command o c) at = refl
  spans_size (choose_block c b e) at =
      let l = length-append (spans_block (at + choice_head c) b) (spans_block (at + choice_head c + length (encode_block b)) e) in
      let x = spans_size_block b (at + choice_head c) in
      let y = spans_size_block e (at + choice_head c + length (encode_block b)) in
      omega arith
  spans_size (loop_block a k b) at = spans_size_block b (at + loop_head)
  spans_size (grant_block g b) at = spans_size_block b (at + grant_head)
  spans_size (call_procedure p) at = refl

  pub spans_size_commands : (cs : Commands) (at : ℕ) → length (spans_commands at cs) ≡ size_commands cs
  spans_size_commands no_commands at = refl
  spans_size_commands (then_command c cs) at =
      let l = length-append (spans at c) (spans_commands (at + length (command_bytes (flat c))) cs) in
      let x = spans_size c at in
      let y = spans_size_commands cs (at + length (command_bytes (flat c))) in
      omega arith

  pub spans_size_block : (b : Block) (at : ℕ) → length (spans_block at b) ≡ size_block b
  spans_size_block (numbered_block i cs) at = let x = spans_size_commands cs at in omega arith
