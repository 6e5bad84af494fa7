use Rattle.std.proofs.Common.{◌≡◌, get_or, vec_items, rules, ap, ◌∙◌, arith}
use Rattle.oracle_laws.specs.Sets.{cell_of}
use Rattle.oracles.proofs.Held.{by_item, table_found, table_none}
use Rattle.oracles.proofs.walking.Question.is_cell_of.Goals as goal

pub returns : goal.returns
returns c =
    let h = c.args.self.now.held.now in
    let place = c.args.self.now.place in
    let is : c.deref.result.now ≡ vec_items h.contents.tables = search rules in
    by_item _ _ _ c.get.ensures.lookup c.is_some_and.ensures
    (λ l e. e ∙ table_none h c.args.table _ is place (omega (arith, c.from.ensures)))
    (λ x l f e.
    let g : c.is_some_and.result ≡ cell_of x.now place = search rules in
    g ∙ table_found h c.args.table _ is x.now place (omega (arith, c.from.ensures)) (f ∙ ap (λ n. get_or c.deref.result.now n x.now) c.from.ensures))
