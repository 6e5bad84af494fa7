use Rattle.std.proofs.Common.{◌∙◌, arith, rules}
use Rattle.layout.specs.Tree.{add, sub, less, same, bits, copy_place, combine_places, pick_cell, put_cell, drive_device}
use Rattle.commands.proofs.Rest.{rest_all, front_none, front_at, front_unknown, short_plain, set_got, pair_got, triple_got, told_as}
use Rattle.commands.proofs.decode_plain.Goals as goal

pub returns-in-empty : goal.returns-in-empty
returns-in-empty c away = front_none _ (search rules)

pub returns-in-1 : goal.returns-in-1
returns-in-1 c away = front_at c.args.bytes.now 1 (search rules) (search rules) ∙ set_got c.args.bytes.now _ _ (search rules) (omega arith) (rest_all 6 c.args.bytes.now)

pub returns-in-2 : goal.returns-in-2
returns-in-2 c away = front_at c.args.bytes.now 2 (search rules) (search rules) ∙ pair_got c.args.bytes.now _ copy_place (search rules) (rest_all 3 c.args.bytes.now)

pub returns-in-3 : goal.returns-in-3
returns-in-3 c away = told_as _ _ _ _ c.combine-in-3.ensures (front_at c.args.bytes.now 3 (search rules) (search rules) ∙ triple_got c.args.bytes.now _ (combine_places add) (search rules) (rest_all 4 c.args.bytes.now))

pub returns-in-4 : goal.returns-in-4
returns-in-4 c away = told_as _ _ _ _ c.combine-in-4.ensures (front_at c.args.bytes.now 4 (search rules) (search rules) ∙ triple_got c.args.bytes.now _ (combine_places sub) (search rules) (rest_all 4 c.args.bytes.now))

pub returns-in-5 : goal.returns-in-5
returns-in-5 c away = told_as _ _ _ _ c.combine-in-5.ensures (front_at c.args.bytes.now 5 (search rules) (search rules) ∙ triple_got c.args.bytes.now _ (combine_places less) (search rules) (rest_all 4 c.args.bytes.now))

pub returns-in-6 : goal.returns-in-6
returns-in-6 c away = told_as _ _ _ _ c.combine-in-6.ensures (front_at c.args.bytes.now 6 (search rules) (search rules) ∙ triple_got c.args.bytes.now _ (combine_places same) (search rules) (rest_all 4 c.args.bytes.now))

pub returns-in-7 : goal.returns-in-7
returns-in-7 c away = told_as _ _ _ _ c.combine.ensures (front_at c.args.bytes.now 7 (search rules) (search rules) ∙ triple_got c.args.bytes.now _ (combine_places bits) (search rules) (rest_all 4 c.args.bytes.now))

pub returns-in-8 : goal.returns-in-8
returns-in-8 c away = front_at c.args.bytes.now 8 (search rules) (search rules) ∙ triple_got c.args.bytes.now _ pick_cell (search rules) (rest_all 4 c.args.bytes.now)

pub returns-in-9 : goal.returns-in-9
returns-in-9 c away = front_at c.args.bytes.now 9 (search rules) (search rules) ∙ triple_got c.args.bytes.now _ put_cell (search rules) (rest_all 4 c.args.bytes.now)

pub returns-in-10 : goal.returns-in-10
returns-in-10 c away = front_at c.args.bytes.now 10 (search rules) (search rules) ∙ pair_got c.args.bytes.now _ drive_device (search rules) (rest_all 3 c.args.bytes.now)

pub returns-in-1-to-10 : goal.returns-in-1-to-10
returns-in-1-to-10 c away =
    short_plain c.args.bytes.now (search rules) (search rules) (search rules) (λ e. search rules) (λ e. search rules) (λ a b. search rules) (λ e. search rules)

pub returns-in-len1-up : goal.returns-in-len1-up
returns-in-len1-up c away = front_unknown c.args.bytes.now (search rules) (λ a b. away (search rules) b)
