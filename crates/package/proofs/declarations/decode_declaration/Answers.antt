use Rattle.std.proofs.Common.{refl, ◌∙◌, arith, rules}
use Rattle.std.proofs.lemmas.Bool.Decides.{nat_tests}
use Rattle.commands.proofs.Rest.{rest_all, some_byte}
use Rattle.package.proofs.Leads.{at_lead, short_item, item_as}
use Rattle.package.proofs.declarations.decode_declaration.Goals as goal

pub returns-in-129 : goal.returns-in-129
returns-in-129 c least top = at_lead c.args.bytes.now 129 (search rules) ∙ grind (arith, nat_tests, rest_all 9 c.args.bytes.now)

pub returns-in-130 : goal.returns-in-130
returns-in-130 c least top = at_lead c.args.bytes.now 130 (search rules) ∙ grind (arith, nat_tests, rest_all 6 c.args.bytes.now)

pub returns-in-132 : goal.returns-in-132
returns-in-132 c least top = at_lead c.args.bytes.now 132 (search rules) ∙ grind (arith, nat_tests, rest_all 3 c.args.bytes.now)

pub returns-in-133 : goal.returns-in-133
returns-in-133 c least top = at_lead c.args.bytes.now 133 (search rules) ∙ grind (arith, nat_tests, rest_all 9 c.args.bytes.now)

pub returns-in-134 : goal.returns-in-134
returns-in-134 c least top = item_as c.args.bytes.now _ _ (at_lead c.args.bytes.now 134 (search rules)) (search rules) refl (rest_all 4 c.args.bytes.now) c.procedure.result c.procedure.ensures

pub returns-in-135 : goal.returns-in-135
returns-in-135 c least top = at_lead c.args.bytes.now 135 (search rules) ∙ grind (arith, nat_tests, rest_all 2 c.args.bytes.now)

pub returns-in_default : goal.returns-in_default
returns-in_default c least top =
    let h = some_byte c.args.bytes.now (omega arith) in
    short_item c.args.bytes.now least top (λ e. search rules) (λ e. search rules) (λ e. search rules) (λ e. search rules) (λ e. search rules) (λ e. search rules) (λ e. search rules)
