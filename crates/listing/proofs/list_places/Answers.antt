use Rattle.std.proofs.Common.{◌∙◌, arith, rules}
use Rattle.std.proofs.lemmas.Result.{IfOk-weaker}
use Rattle.package.specs.Declares.{contents_of}
use Rattle.listing.specs.declared.lines.Line.TheVariants as line
use Rattle.listing.proofs.Joins.{places_joined}
use Rattle.listing.proofs.list_places.Goals as goal

pub returns : goal.returns
returns c =
    IfOk-weaker c.add_rows-2.result _ _ (λ u h.
    places_joined (contents_of c.args.contents.now) _ _ _ _ _ _ _ _ c.in_ok-push.ensures.items (omega (arith, c.places.ensures, c.args.contents.now.inputs.ok.0, c.args.contents.now.cells.ok.0)) c.deref.ensures.value (c.in_ok-add_rows.ensures (λ n x. line.Input n x) (λ n x y p. search rules) (omega (arith, c.deref.ensures.len))) c.deref-2.ensures.value (c.len.ensures ∙ c.args.contents.now.inputs.ok.0) h)
    (c.add_rows-2.ensures (λ n x. line.Cell n x) (λ n x y p. search rules) (omega (arith, c.deref-2.ensures.len, c.len.ensures)))
