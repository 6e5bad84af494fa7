-- The blocks on a stack, as a list.
use Rattle.std.proofs.Common.{◌≡◌, length, vec_items, vec_len, sym, ◌∙◌}
use Rattle.std.proofs.lemmas.List.{length-reverse}
use Rattle.running.specs.declared.levels.Stack.{Stack}
use Rattle.running.specs.Levels.{above}

pub above_length : (s : Stack) → length (above s) ≡ vec_len s.levels
unfolding above
above_length s = length-reverse (vec_items s.levels) ∙ sym s.levels.ok.0
