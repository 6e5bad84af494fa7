use Rattle.std.proofs.Common.{◌≡◌, not, eqb, w64, rules, arith}
use Rattle.std.specs.Option.{IfSome, is_some}
use Rattle.std.specs.Int.{trailing_zeros}
use Rattle.std.proofs.lemmas.Bool.Decides.{nat_tests}
use Rattle.frames.proofs.Gaps.{told}
use Rattle.frames.proofs.RightGaps.{missing, no_gap, first_gap}
use Rattle.frames.proofs.rights.RightsGrantKind.gap.Goals as goal

pub returns : goal.returns
returns c =
    let t : is_some c.then.result ≡ not (eqb (missing c.args.a c.args.b) 0) = search rules in
    let h : IfSome c.then.result (λ y. y ≡ trailing_zeros w64 (missing c.args.a c.args.b)) = search rules in
    told _ t h (λ e. first_gap c.args.a c.args.b (omega arith) (omega arith) (grind (arith, nat_tests))) (λ e. no_gap c.args.a c.args.b (omega arith) (grind (arith, nat_tests)))
