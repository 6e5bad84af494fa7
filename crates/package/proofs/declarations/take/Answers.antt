use Rattle.std.proofs.Common.{◌≡◌, ◌<◌, true, get_or, ap, ◌∙◌, arith, rules}
use Rattle.layout.specs.Packages.{leads, next_item, read_all}
use Rattle.package.proofs.Leads.{no_bytes, no_lead, falls, finished, after_finish, on_item, leads_least, leads_most, fronted}
use Rattle.package.proofs.declarations.take.Goals as goal

pub returns-in-empty : goal.returns-in-empty
returns-in-empty c f s = no_bytes f s _ _ c.args.bytes.now (search rules)

pub returns-in-len1-up : goal.returns-in-len1-up
returns-in-len1-up c f s = no_lead f s _ _ c.args.bytes.now (search rules) (search rules)

pub returns-in-len1-up-2 : goal.returns-in-len1-up-2
returns-in-len1-up-2 c f s = falls f s _ _ c.args.bytes.now (search rules) (search rules) (search rules)

pub returns-in-136 : goal.returns-in-136
returns-in-136 c f s = finished f s _ _ c.args.bytes.now (search rules) (search rules) (search rules)

pub returns-in-136-2 : goal.returns-in-136-2
returns-in-136-2 c f s = after_finish f s _ _ c.args.bytes.now (search rules) (search rules) (search rules)

pub returns-in-Some : goal.returns-in-Some
returns-in-Some c =
    let l : leads (get_or c.args.bytes.now 0 0) ≡ true = search rules in
    let least = leads_least (get_or c.args.bytes.now 0 0) l in
    let most = leads_most (get_or c.args.bytes.now 0 0) l in
    let other : get_or c.args.bytes.now 0 0 < 0x88 = search rules in
    fronted c.args.bytes.now _ _ _ _ (search rules) l c.if-lead-latest.false other c.type_inv.bytes (c.in-Some.ensures least (omega arith))

pub returns-in-None : goal.returns-in-None
returns-in-None c f s =
    let l : leads (get_or c.args.bytes.now 0 0) ≡ true = search rules in
    let least = leads_least (get_or c.args.bytes.now 0 0) l in
    let most = leads_most (get_or c.args.bytes.now 0 0) l in
    let other : get_or c.args.bytes.now 0 0 < 0x88 = search rules in
    on_item f s _ _ c.args.bytes.now (search rules) l c.if-lead-latest.false other ∙ ap (next_item (read_all f) s c.args.at _) (c.in-None.ensures least (omega arith))
