use Rattle.std.proofs.Common.{refl, ap, arith}
use Rattle.std.proofs.lemmas.Result.{IfOk-weaker}
use Rattle.layout.specs.Tree.{when_place, try_frame}
use Rattle.commands.specs.Reads.{flat_of}
use Rattle.listing.proofs.Tells.{telling_start, telling_end, telling_on, off_bytes, block_tells, two_tell, plain_tells, call_tells, loop_tells, grant_tells, choice_tells}
use Rattle.listing.proofs.bodies.BodyLines.+lines.Goals as goal

pub list_block-returns : goal.list_block-returns
list_block-returns t c = IfOk-weaker c.list_commands.result _ _ (λ u h. block_tells c.args.self.now c.in_ok-push.ensures.items c.saturating_add-self.ensures refl h) c.list_commands.ensures

pub list_choice-returns : goal.list_choice-returns
list_choice-returns t c = IfOk-weaker c.list_block-2.result _ _ (λ u h. two_tell c.saturating_add-between.ensures c.in_ok-list_block.ensures h) c.list_block-2.ensures

pub list_command-returns-in-Plain : goal.list_command-returns-in-Plain
list_command-returns-in-Plain t c = plain_tells c.args.self.now c.in_ok-push.ensures.items c.from.ensures refl refl _ (ap flat_of c.in-Plain.is)

pub list_command-returns-in-When : goal.list_command-returns-in-When
list_command-returns-in-When t c = IfOk-weaker c.list_choice.result _ _ (λ u h. choice_tells c.args.self.now c.in_ok-push.ensures.items c.from.ensures refl refl c.saturating_add-inner.ensures (when_place _) _ _ (ap flat_of c.in-When.is) c.saturating_add.ensures h) c.list_choice.ensures

pub list_command-returns-in-Loop : goal.list_command-returns-in-Loop
list_command-returns-in-Loop t c = IfOk-weaker c.list_block.result _ _ (λ u h. loop_tells c.args.self.now c.in_ok-push.ensures.items c.from.ensures refl refl c.saturating_add-inner.ensures _ _ _ (ap flat_of c.in-Loop.is) c.saturating_add-in-Loop.ensures h) c.list_block.ensures

pub list_command-returns-in-Grant : goal.list_command-returns-in-Grant
list_command-returns-in-Grant t c = IfOk-weaker c.list_block-in-Grant.result _ _ (λ u h. grant_tells c.args.self.now c.in_ok-push.ensures.items c.from.ensures refl refl c.saturating_add-inner.ensures _ _ (ap flat_of c.in-Grant.is) c.saturating_add-in-Grant.ensures h) c.list_block-in-Grant.ensures

pub list_command-returns-in-Call : goal.list_command-returns-in-Call
list_command-returns-in-Call t c = call_tells c.args.self.now c.in_ok-push.ensures.items c.from.ensures refl refl _ (ap flat_of c.in-Call.is)

pub list_command-returns-in-Try : goal.list_command-returns-in-Try
list_command-returns-in-Try t c = IfOk-weaker c.list_choice-in-Try.result _ _ (λ u h. choice_tells c.args.self.now c.in_ok-push.ensures.items c.from.ensures refl refl c.saturating_add-inner.ensures (try_frame _ _) _ _ (ap flat_of c.in-Try.is) c.saturating_add-in-Try.ensures h) c.list_choice-in-Try.ensures

pub list_commands-loop-command-init : goal.list_commands-loop-command-init
list_commands-loop-command-init t c = telling_start _ _ _ _ c.type_inv.bytes

pub list_commands-list_command-requires : goal.list_commands-list_command-requires
list_commands-list_command-requires t c =
    let l = off_bytes c.loop-command.invariant c.in-Ok.ensures in
    (omega (arith, c.decreases, c.loop-command.invariant.shorter), tt)

pub list_commands-loop-command-smaller : goal.list_commands-loop-command-smaller
list_commands-loop-command-smaller t c =
    let l = off_bytes c.loop-command.invariant c.in-Ok.ensures in
    omega arith

pub list_commands-loop-command-preserved : goal.list_commands-loop-command-preserved
list_commands-loop-command-preserved t c = telling_on c.loop-command.invariant c.in-Ok.ensures _ _ (omega (arith, c.saturating_add-offset.ensures, c.saturating_sub.ensures)) c.in_ok-list_command.ensures

pub list_commands-returns : goal.list_commands-returns
list_commands-returns t c = telling_end c.loop-command.invariant _ c.in_default.ensures
