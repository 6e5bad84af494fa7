use Rattle.std.proofs.Common.{refl, ◌∙◌, rules}
use Rattle.commands.proofs.Rest.{rest_all, front_at, short_block, call_got, loop_got, grant_got, when_got, try_got, reads_as}
use Rattle.commands.proofs.decode.Goals as goal

pub returns-in-11 : goal.returns-in-11
returns-in-11 c = reads_as _ _ c.when.result (front_at c.args.bytes.now 11 (search rules) (search rules) ∙ when_got c.args.bytes.now _ _ _ (search rules) refl refl (rest_all 6 c.args.bytes.now)) c.when.ensures

pub returns-in-12 : goal.returns-in-12
returns-in-12 c = reads_as _ _ c.repeat.result (front_at c.args.bytes.now 12 (search rules) (search rules) ∙ loop_got c.args.bytes.now _ _ (search rules) refl (rest_all 5 c.args.bytes.now)) c.repeat.ensures

pub returns-in-13 : goal.returns-in-13
returns-in-13 c = reads_as _ _ c.granting.result (front_at c.args.bytes.now 13 (search rules) (search rules) ∙ grant_got c.args.bytes.now _ _ _ (search rules) refl refl (rest_all 11 c.args.bytes.now)) c.granting.ensures

pub returns-in-14 : goal.returns-in-14
returns-in-14 c = front_at c.args.bytes.now 14 (search rules) (search rules) ∙ call_got c.args.bytes.now _ (search rules) (rest_all 2 c.args.bytes.now)

pub returns-in-15 : goal.returns-in-15
returns-in-15 c = reads_as _ _ c.attempt.result (front_at c.args.bytes.now 15 (search rules) (search rules) ∙ try_got c.args.bytes.now _ _ _ _ (search rules) refl refl refl (rest_all 14 c.args.bytes.now)) c.attempt.ensures

pub returns-in-11-to-15 : goal.returns-in-11-to-15
returns-in-11-to-15 c =
    short_block c.args.bytes.now (search rules) (search rules) (search rules) (λ e. search rules) (λ e. search rules) (λ e. search rules) (λ e. search rules) (λ e. search rules)
