use Rattle.std.proofs.Common.{◌-◌, length, subst, arith, rules}
use Rattle.std.proofs.lemmas.Result.{err_from_is_err_and}
use Rattle.package.specs.Items.{TakesNext}
use Rattle.package.proofs.Goes.{taken, off, going_start, going_refused, going_end, going_stops, going_on}
use Rattle.package.proofs.read.Goals as goal

pub loop-contents-init : goal.loop-contents-init
loop-contents-init c = (search rules, going_start _ _ _ (omega arith) c.new-contents.ensures c.type_inv.bytes)

pub returns-in_err-declaration : goal.returns-in_err-declaration
returns-in_err-declaration c =
    let p = err_from_is_err_and c.from_residual.result c.from_residual.ensures.1 in
    rw (p.1, p.2) (going_refused c.loop-contents.invariant.1 _ c.in_err-declaration.ensures)

pub returns-in_default : goal.returns-in_default
returns-in_default c =
    let t = subst (TakesNext c.loop-contents.rest.now (length c.args.bytes.now - length c.loop-contents.rest.now) c.loop-contents.latest) c.in_default.is c.in_ok-declaration.ensures in
    let e = going_end c.loop-contents.invariant.1 t in
    record { all = c.loop-contents.invariant.1.pre; reads = e.0; holds = e.1 }

pub returns-in_err-declare : goal.returns-in_err-declare
returns-in_err-declare c =
    let t = taken _ _ _ _ _ _ c.in-Some.is c.in_ok-declaration.ensures in
    let p = err_from_is_err_and c.from_residual-in_err-declare.result c.from_residual-in_err-declare.ensures.1 in
    rw (p.1, p.2) (going_stops c.loop-contents.invariant.1 t _ c.in_err-declare.ensures)

pub loop-contents-smaller : goal.loop-contents-smaller
loop-contents-smaller c =
    let t = taken _ _ _ _ _ _ c.in-Some.is c.in_ok-declaration.ensures in
    let l = off c.loop-contents.invariant.1 t in
    omega arith

pub loop-contents-preserved : goal.loop-contents-preserved
loop-contents-preserved c =
    let t = taken _ _ _ _ _ _ c.in-Some.is c.in_ok-declaration.ensures in
    let l = off c.loop-contents.invariant.1 t in (
      omega (arith, c.loop-contents.invariant.0),
      going_on c.loop-contents.invariant.1 t _ _ _ (omega (arith, c.loop-contents.invariant.0)) t.led c.in_ok-declare.ensures,
    )
