use Rattle.std.proofs.Common.{◌≡◌, ◌-◌, true, [], length, is_ok, Ok, Err, vec_items, refl, ap, ◌∙◌, arith, length-append, rules, true-eqb}
use Rattle.std.proofs.lemmas.Result.{err_from_is_err_and}
use Rattle.std.proofs.lemmas.Bool.{cond-true, ltb-true}
use Rattle.layout.specs.Tree.{when_place, try_frame}
use Rattle.layout.specs.Layout.{Flat, command_bytes}
use Rattle.commands.specs.declared.Unread.{Unread}
use Rattle.commands.specs.declared.Unread.TheVariants.{NoSuchByte, PastEnd}
use Rattle.commands.specs.Reads.{flat_of, unread}
use Rattle.package.specs.declared.refusal.Fault.{Fault}
use Rattle.package.specs.declared.refusal.Refusal.TheVariants as refusal
use Rattle.package.specs.Faults.{fault_number, fault_of}
use Rattle.package.proofs.Steps.{decided, block_walked, carry_walks, walked_plain, walked_call, walked_loop, stops_loop, walked_grant, stops_grant, stops_second, walked_choose}
use Rattle.package.proofs.Turns.{bytes_all, took_off, going_start, going_end, going_bad, going_stops, going_on}
use Rattle.package.proofs.bodies.+walk.Goals as goal

pub block-returns : goal.block-returns
block-returns t c =
    let okay : is_ok c.push.result ≡ true = search rules in
    record {
      back = search rules;
      few = c.check.ensures.few;
      walks = block_walked _ _ _ _ _ _ (vec_items c.args.blocks.now) _ _ (omega arith) (c.push.ensures.items ∙ cond-true _ _ _ okay) _ _ _ _ (omega (arith, c.args.blocks.now.ok.0)) refl refl (omega (arith, c.args.blocks.now.ok.0, c.check.new.blocks.ok.0)) c.in_ok-cost.ensures.walks;
    }

pub check-loop-rest-init : goal.check-loop-rest-init
check-loop-rest-init t c = (search rules, search rules, search rules, going_start _ _ _ _ _ _ (bytes_all _ c.type_inv.bytes))

-- the fault of bytes that are no command has the number that reading them gives
told : (u : Unread) (f : Fault) → f ≡ fault_of u → fault_number f ≡ unread u
told NoSuchByte f e = ap fault_number e
told PastEnd f e = ap fault_number e

pub check-returns-in-Err : goal.check-returns-in-Err
check-returns-in-Err t c =
    record {
      back = c.loop-rest.invariant.0;
      few = c.loop-rest.invariant.1;
      walks = going_bad c.loop-rest.invariant.3 _ (refusal.Fault c.from.result (c.loop-rest.end - length c.loop-rest.rest.now)) (search rules) c.in-Err.ensures (told c.in-Err.unread c.from.result c.from.ensures) refl;
    }

pub check-step-requires : goal.check-step-requires
check-step-requires t c =
    let l = took_off _ c.loop-rest.invariant.3.bytes _ _ c.in-Ok.ensures in
    (omega (arith, c.loop-rest.invariant.2, c.decreases), (omega (arith, c.loop-rest.invariant.0), (c.loop-rest.invariant.1, c.requires.deep)))

pub check-returns-in_err-cost : goal.check-returns-in_err-cost
check-returns-in_err-cost t c =
    let p = err_from_is_err_and c.from_residual.result c.from_residual.ensures.1 in
    record {
      back = c.step.ensures.back ∙ c.loop-rest.invariant.0;
      few = c.step.ensures.few;
      walks = rw (p.1, p.2) (going_stops c.loop-rest.invariant.3 c.in-Ok.ensures _ c.in_err-cost.ensures.walks);
    }

pub check-loop-rest-smaller : goal.check-loop-rest-smaller
check-loop-rest-smaller t c =
    let l = took_off _ c.loop-rest.invariant.3.bytes _ _ c.in-Ok.ensures in
    omega arith

pub check-loop-rest-preserved : goal.check-loop-rest-preserved
check-loop-rest-preserved t c =
    let l = took_off _ c.loop-rest.invariant.3.bytes _ _ c.in-Ok.ensures in (
      c.step.ensures.back ∙ c.loop-rest.invariant.0,
      c.step.ensures.few,
      omega (arith, c.loop-rest.invariant.2),
      going_on c.loop-rest.invariant.3 c.in-Ok.ensures _ _ _ _ _ (omega (arith, c.step.ensures.back, c.loop-rest.invariant.0, c.loop-rest.invariant.2)) c.in_ok-cost.ensures.walks c.saturating_add-steps.ensures c.max-highest.ensures,
    )

pub check-returns : goal.check-returns
check-returns t c =
    record {
      back = c.loop-rest.invariant.0;
      few = c.loop-rest.invariant.1;
      walks = going_end c.loop-rest.invariant.3 _ refl refl (true-eqb _ 0 c.loop-rest-test.ensures);
    }

pub choose-returns-in_err-other : goal.choose-returns-in_err-other
choose-returns-in_err-other t c =
    let p = err_from_is_err_and c.from_residual-in_err-other.result c.from_residual-in_err-other.ensures.1 in
    record {
      back = c.block-2.ensures.back ∙ c.block.ensures.back;
      few = c.block-2.ensures.few;
      walks = λ x at head kept. rw (p.1, p.2) (stops_second _ at _ _ _ x _ _ _ head kept (omega (arith, c.args.blocks.now.ok.0)) _ _ c.in_ok-one.ensures.walks _ c.in_err-other.ensures.walks);
    }

pub choose-returns : goal.choose-returns
choose-returns t c =
    record {
      back = c.block-2.ensures.back ∙ c.block.ensures.back;
      few = c.block-2.ensures.few;
      walks = λ x at head kept. walked_choose _ at _ _ _ x _ _ _ head kept (omega (arith, c.args.blocks.now.ok.0)) _ _ c.in_ok-one.ensures.walks _ _ _ c.in_ok-other.ensures.walks (let a = c.saturating_add.ensures in let b = c.max.ensures in cc) c.max-2.ensures;
    }

pub step-choose-requires : goal.step-choose-requires
step-choose-requires t c =
    let e = ap flat_of c.in-When.is in
    let k = decided _ _ _ _ _ _ e (c.in_ok-first_fault.ensures c.len.result c.args.nest.waiting refl) in
    let l : length (command_bytes (flat_of c.args.command)) ≡ _ = ap (λ (x : Flat). length (command_bytes x)) e in
    let n = length-append c.in-When.first.now c.in-When.second.now in
    (omega (arith, c.decreases), (omega arith, (omega arith, ltb-true _ 8 k.0.reaches)))

pub step-block-requires : goal.step-block-requires
step-block-requires t c =
    let e = ap flat_of c.in-Loop.is in
    let k = decided _ _ _ _ _ _ e (c.in_ok-first_fault.ensures c.len.result c.args.nest.waiting refl) in
    let l : length (command_bytes (flat_of c.args.command)) ≡ _ = ap (λ (x : Flat). length (command_bytes x)) e in
    let d = ltb-true _ 8 k.0.reaches in
    (omega (arith, c.decreases), (omega arith, (omega arith, omega arith)))

pub step-returns-in_err-turn-in-Loop : goal.step-returns-in_err-turn-in-Loop
step-returns-in_err-turn-in-Loop t c =
    let e = ap flat_of c.in-Loop.is in
    let k = decided _ _ _ _ _ _ e (c.in_ok-first_fault.ensures c.len.result c.args.nest.waiting refl) in
    let p = err_from_is_err_and c.from_residual-in_err-turn-in-Loop.result c.from_residual-in_err-turn-in-Loop.ensures.1 in
    record {
      back = c.block.ensures.back;
      few = c.block.ensures.few;
      walks = rw (p.1, p.2) (carry_walks _ _ _ _ _ _ _ [] (Err _) e (stops_loop _ _ _ _ _ _ _ _ k.0 (omega (arith, c.args.blocks.now.ok.0)) _ c.in_err-turn-in-Loop.ensures.walks));
    }

pub step-block-requires-in-Grant : goal.step-block-requires-in-Grant
step-block-requires-in-Grant t c =
    let e = ap flat_of c.in-Grant.is in
    let k = decided _ _ _ _ _ _ e (c.in_ok-first_fault.ensures c.len.result c.args.nest.waiting refl) in
    let l : length (command_bytes (flat_of c.args.command)) ≡ _ = ap (λ (x : Flat). length (command_bytes x)) e in
    let d = ltb-true _ 8 k.0.reaches in
    (omega (arith, c.decreases), (omega arith, (omega arith, omega arith)))

pub step-returns-in_err-under-in-Grant : goal.step-returns-in_err-under-in-Grant
step-returns-in_err-under-in-Grant t c =
    let e = ap flat_of c.in-Grant.is in
    let k = decided _ _ _ _ _ _ e (c.in_ok-first_fault.ensures c.len.result c.args.nest.waiting refl) in
    let p = err_from_is_err_and c.from_residual-in_err-under-in-Grant.result c.from_residual-in_err-under-in-Grant.ensures.1 in
    record {
      back = c.block-in-Grant.ensures.back;
      few = c.block-in-Grant.ensures.few;
      walks = rw (p.1, p.2) (carry_walks _ _ _ _ _ _ _ [] (Err _) e (stops_grant _ _ _ _ _ _ _ k.0 (omega (arith, c.args.blocks.now.ok.0)) _ c.in_err-under-in-Grant.ensures.walks));
    }

pub step-choose-requires-in-Try : goal.step-choose-requires-in-Try
step-choose-requires-in-Try t c =
    let e = ap flat_of c.in-Try.is in
    let k = decided _ _ _ _ _ _ e (c.in_ok-first_fault.ensures c.len.result c.args.nest.waiting refl) in
    let l : length (command_bytes (flat_of c.args.command)) ≡ _ = ap (λ (x : Flat). length (command_bytes x)) e in
    let n = length-append c.in-Try.first.now c.in-Try.second.now in
    (omega (arith, c.decreases), (omega arith, (omega arith, ltb-true _ 8 k.0.reaches)))

pub step-returns-in-Plain : goal.step-returns-in-Plain
step-returns-in-Plain t c =
    let e = ap flat_of c.in-Plain.is in
    let k = decided _ _ _ _ _ _ e (c.in_ok-first_fault.ensures c.len.result c.args.nest.waiting refl) in
    record {
      back = search rules;
      few = search rules;
      walks = carry_walks _ _ _ _ _ _ _ _ (Ok _) e (walked_plain _ _ _ _ _ _ _ refl refl k.0 (omega (arith, c.args.blocks.now.ok.0)));
    }

pub step-returns-in-When : goal.step-returns-in-When
step-returns-in-When t c =
    let e = ap flat_of c.in-When.is in
    let k = decided _ _ _ _ _ _ e (c.in_ok-first_fault.ensures c.len.result c.args.nest.waiting refl) in
    record {
      back = c.choose.ensures.back;
      few = c.choose.ensures.few;
      walks = carry_walks _ _ _ _ _ _ _ _ c.choose.result e (c.choose.ensures.walks (when_place _) c.args.at refl k.0);
    }

pub step-returns-in_ok-turn-in-Loop : goal.step-returns-in_ok-turn-in-Loop
step-returns-in_ok-turn-in-Loop t c =
    let e = ap flat_of c.in-Loop.is in
    let k = decided _ _ _ _ _ _ e (c.in_ok-first_fault.ensures c.len.result c.args.nest.waiting refl) in
    record {
      back = c.block.ensures.back;
      few = c.block.ensures.few;
      walks = carry_walks _ _ _ _ _ _ _ _ (Ok _) e (walked_loop _ _ _ _ _ _ _ _ k.0 (omega (arith, c.args.blocks.now.ok.0)) _ _ _ c.in_ok-turn-in-Loop.ensures.walks c.repeated.ensures.0 c.repeated.ensures.1);
    }

pub step-returns-in_ok-under-in-Grant : goal.step-returns-in_ok-under-in-Grant
step-returns-in_ok-under-in-Grant t c =
    let e = ap flat_of c.in-Grant.is in
    let k = decided _ _ _ _ _ _ e (c.in_ok-first_fault.ensures c.len.result c.args.nest.waiting refl) in
    record {
      back = c.block-in-Grant.ensures.back;
      few = c.block-in-Grant.ensures.few;
      walks = carry_walks _ _ _ _ _ _ _ _ (Ok _) e (walked_grant _ _ _ _ _ _ _ k.0 (omega (arith, c.args.blocks.now.ok.0)) _ _ _ c.in_ok-under-in-Grant.ensures.walks c.granted.ensures.0 c.granted.ensures.1);
    }

pub step-returns-in-Call : goal.step-returns-in-Call
step-returns-in-Call t c =
    let e = ap flat_of c.in-Call.is in
    let k = decided _ _ _ _ _ _ e (c.in_ok-first_fault.ensures c.len.result c.args.nest.waiting refl) in
    record {
      back = search rules;
      few = search rules;
      walks = carry_walks _ _ _ _ _ _ _ _ (Ok _) e (walked_call _ _ _ _ _ _ _ c.call.ensures.0 c.call.ensures.1 k.0 (omega (arith, c.args.blocks.now.ok.0)));
    }

pub step-returns-in-Try : goal.step-returns-in-Try
step-returns-in-Try t c =
    let e = ap flat_of c.in-Try.is in
    let k = decided _ _ _ _ _ _ e (c.in_ok-first_fault.ensures c.len.result c.args.nest.waiting refl) in
    record {
      back = c.choose-in-Try.ensures.back;
      few = c.choose-in-Try.ensures.few;
      walks = carry_walks _ _ _ _ _ _ _ _ c.choose-in-Try.result e (c.choose-in-Try.ensures.walks (try_frame _ _) c.args.at refl k.0);
    }
