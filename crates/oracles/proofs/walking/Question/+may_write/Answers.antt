use Rattle.std.proofs.Common.{◌≡◌, ℕ, ◌*◌, ◌≤◌, List, length, vec_items, ap, arith, length-append}
use Rattle.layout.specs.Tree.{when_place, try_frame}
use Rattle.layout.specs.Layout.{Flat, command_bytes}
use Rattle.commands.specs.Reads.{flat_of}
use Rattle.oracles.proofs.Walks.{going_start, going_end, off_bytes, going_hit, going_on, plain_told, choice_told, first_told, second_told, loop_told, grant_told, call_told, no_call_told, lighter}
use Rattle.oracles.proofs.Held.{body_short}
use Rattle.oracles.proofs.walking.Question.+may_write.Goals as goal

pub any_writes-loop-command-init : goal.any_writes-loop-command-init
any_writes-loop-command-init t c = going_start _ _ c.type_inv.bytes

pub any_writes-writes-requires : goal.any_writes-writes-requires
any_writes-writes-requires t c =
    let l = off_bytes c.loop-command.invariant c.in-Ok.ensures in
    (omega (arith, c.decreases, c.loop-command.invariant.short), tt)

pub any_writes-returns-then-writes : goal.any_writes-returns-then-writes
any_writes-returns-then-writes t c = going_hit c.loop-command.invariant c.in-Ok.ensures c.writes.result c.writes.ensures c.if-writes.true

pub any_writes-loop-command-smaller : goal.any_writes-loop-command-smaller
any_writes-loop-command-smaller t c =
    let l = off_bytes c.loop-command.invariant c.in-Ok.ensures in
    omega arith

pub any_writes-loop-command-preserved : goal.any_writes-loop-command-preserved
any_writes-loop-command-preserved t c = going_on c.loop-command.invariant c.in-Ok.ensures c.writes.result c.writes.ensures c.if-writes.false

pub any_writes-returns : goal.any_writes-returns
any_writes-returns t c = going_end c.loop-command.invariant _ c.in_default.ensures

pub writes-any_writes-requires-then-limit-self : goal.writes-any_writes-requires-then-limit-self
writes-any_writes-requires-then-limit-self t c =
    let all : List ℕ = vec_items c.args.self.now.held.now.bytes in
    let s : length c.body.result.now ≤ length all = omega (arith, ap length c.body.ensures, body_short c.args.self.now.held.now c.from-limit.result) in
    (omega (arith, c.decreases, lighter c.from-limit.result c.args.self.now.limit (length all) (length c.body.result.now) (2 * length (command_bytes (flat_of c.args.command))) c.if-limit-self.true s), tt)

pub writes-returns-in-Plain : goal.writes-returns-in-Plain
writes-returns-in-Plain t c = plain_told c.args.self.now _ _ _ (ap flat_of c.in-Plain.is) c.is_target_of.ensures

pub writes-returns-in-Loop : goal.writes-returns-in-Loop
writes-returns-in-Loop t c = loop_told c.args.self.now _ _ _ _ _ (ap flat_of c.in-Loop.is) c.any_writes.ensures

pub writes-returns-in-Grant : goal.writes-returns-in-Grant
writes-returns-in-Grant t c = grant_told c.args.self.now _ _ _ _ (ap flat_of c.in-Grant.is) c.any_writes-in-Grant.ensures

pub writes-returns-then-limit-self : goal.writes-returns-then-limit-self
writes-returns-then-limit-self t c =
    call_told c.args.self.now _ _ c.from-limit.result _ _ (ap flat_of c.in-Call.is) c.from-limit.ensures c.if-limit-self.true c.body.ensures c.any_writes-then-limit-self.ensures

pub writes-returns-else-limit-self : goal.writes-returns-else-limit-self
writes-returns-else-limit-self t c = no_call_told c.args.self.now _ _ c.from-limit.result (ap flat_of c.in-Call.is) c.from-limit.ensures c.if-limit-self.false

pub either_writes-returns-then-any_writes : goal.either_writes-returns-then-any_writes
either_writes-returns-then-any_writes t c = first_told c.args.self.now _ _ _ c.any_writes.ensures c.if-any_writes.true

pub either_writes-returns-else-any_writes : goal.either_writes-returns-else-any_writes
either_writes-returns-else-any_writes t c = second_told c.args.self.now _ _ _ c.any_writes.ensures _ c.if-any_writes.false c.any_writes-else-any_writes.ensures

pub writes-either_writes-requires : goal.writes-either_writes-requires
writes-either_writes-requires t c =
    let l : length (command_bytes (flat_of c.args.command)) ≡ _ = ap (λ (x : Flat). length (command_bytes x)) (ap flat_of c.in-When.is) in
    let n = length-append c.in-When.first.now c.in-When.second.now in
    (omega (arith, c.decreases), tt)

pub writes-either_writes-requires-in-Try : goal.writes-either_writes-requires-in-Try
writes-either_writes-requires-in-Try t c =
    let l : length (command_bytes (flat_of c.args.command)) ≡ _ = ap (λ (x : Flat). length (command_bytes x)) (ap flat_of c.in-Try.is) in
    let n = length-append c.in-Try.first.now c.in-Try.second.now in
    (omega (arith, c.decreases), tt)

pub writes-returns-in-When : goal.writes-returns-in-When
writes-returns-in-When t c = choice_told c.args.self.now _ (when_place _) _ _ _ (ap flat_of c.in-When.is) c.either_writes.ensures

pub writes-returns-in-Try : goal.writes-returns-in-Try
writes-returns-in-Try t c = choice_told c.args.self.now _ (try_frame _ _) _ _ _ (ap flat_of c.in-Try.is) c.either_writes-in-Try.ensures
