use Rattle.std.proofs.Common.{◌∙◌}
use Rattle.std.proofs.lemmas.Result.{IfOk-weaker}
use Rattle.listing.proofs.Joins.{bodies_joined}
use Rattle.listing.proofs.list_bodies.Goals as goal

pub returns : goal.returns
returns c =
    IfOk-weaker c.list_procedures.result _ _ (λ u h.
    bodies_joined c.args.held.now _ _ _ _ _ _ _ _ c.in_ok-push.ensures.items c.contents-contents.ensures (c.len.ensures ∙ c.contents-contents.result.now.procedures.ok.0) (c.len-2.ensures ∙ c.contents-contents.result.now.inputs.ok.0) c.bytes.ensures c.deref.ensures.value h)
    c.list_procedures.ensures
