use Rattle.std.proofs.Common.{◌≡◌, min, ltb, rules, arith}
use Rattle.std.specs.Option.{IfSome, is_some}
use Rattle.std.proofs.lemmas.Bool.Decides.{nat_tests}
use Rattle.frames.proofs.Gaps.{told}
use Rattle.frames.proofs.LevelGaps.{next_level, no_level}
use Rattle.frames.proofs.levels.LevelsGrantKind.gap.Goals as goal

pub returns : goal.returns
returns c =
    let t : is_some c.then.result ≡ ltb c.args.a (min c.args.b 64) = search rules in
    let h : IfSome c.then.result (λ y. y ≡ c.args.a) = search rules in
    told _ t h (λ e. next_level c.args.a c.args.b (grind (arith, nat_tests))) (λ e. no_level c.args.a c.args.b (grind (arith, nat_tests)))
