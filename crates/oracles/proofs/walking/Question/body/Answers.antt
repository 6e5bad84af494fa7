use Rattle.std.proofs.Common.{◌≡◌, List, take, drop, vec_items, rules, ap, ◌∙◌}
use denote.Bor.{Bor}
use Rattle.oracles.proofs.Held.{by_item, body_found, body_none}
use Rattle.oracles.proofs.walking.Question.body.Goals as goal

pub returns : goal.returns
returns c =
    let h = c.args.self.now.held.now in
    let is : c.deref.result.now ≡ vec_items h.contents.procedures = search rules in
    by_item _ _ _ c.get.ensures.lookup c.map_or.ensures
    (λ l e. ap (λ (b : Bor (List _)). b.now) e ∙ body_none h c.args.procedure _ is l)
    (λ x l f e.
    let g : c.map_or.result.now ≡ take x.now.length (drop x.now.start (vec_items h.bytes)) = search rules in
    g ∙ body_found h c.args.procedure _ is x.now l f)
