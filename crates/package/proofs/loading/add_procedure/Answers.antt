use Rattle.std.proofs.Common.{◌∙◌, arith}
use Rattle.package.specs.Declares.{contents_of}
use Rattle.package.proofs.Adds.{low_body, in_scope}
use Rattle.package.proofs.loading.add_procedure.Goals as goal

pub overflow_add-procedure-2 : goal.overflow_add-procedure-2
overflow_add-procedure-2 c =
    let w = in_scope (contents_of c.args.contents.now) _ _ _ _ _ _ _ _ _ (c.len-inputs.ensures ∙ c.args.contents.now.inputs.ok.0) (omega (arith, c.places-places.ensures, c.args.contents.now.inputs.ok.0, c.args.contents.now.cells.ok.0)) (c.len-tables.ensures ∙ c.args.contents.now.tables.ok.0) (c.len-devices.ensures ∙ c.args.contents.now.needs.ok.0) c.deref.ensures.value c.in_ok-cost.ensures.walks in
    let l = low_body (contents_of c.args.contents.now) _ _ _ c.requires.passes _ _ w c.type_inv.body in
    record { fits = omega (arith, w.high) }
