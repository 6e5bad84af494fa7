use Rattle.std.proofs.Common.{◌≡◌, None, sym, ◌∙◌, arith}
use Rattle.frames.proofs.Gaps.{gap_none, gap_covers}
use Rattle.frames.proofs.covers.Goals as goal

pub returns : goal.returns
returns g c = (
  λ e. gap_covers g.K.FrameKind.meaning g.met.K.FrameKind.lawful _ _ (let n : c.gap.result ≡ None = grind (arith, c.is_none.ensures) in sym c.gap.ensures ∙ n),
  λ h. let n = gap_none g.K.FrameKind.meaning c.args.a c.args.b h in grind (arith, c.is_none.ensures, c.gap.ensures),
)
