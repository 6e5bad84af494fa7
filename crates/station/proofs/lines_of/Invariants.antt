use Rattle.std.proofs.Common.{◌≡◌, ◌∷◌, map, take, vec_items}
use Rattle.station.specs.declared.lines.Line.TheVariants.{Accepted, Answered}
use Rattle.station.proofs.lines_of.Given as goal

abbrev pub invariant-loop-answer : goal.invariant-loop-answer
invariant-loop-answer l = vec_items l.lines ≡ Accepted l.length ∷ map Answered (take l.answer-index l.answers)
