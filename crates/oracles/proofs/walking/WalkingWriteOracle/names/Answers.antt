use Rattle.std.proofs.Common.{◌≡◌, take, drop, length, vec_items, rules, ◌∙◌}
use Rattle.oracles.specs.declared.walking.Question.{Question}
use Rattle.oracles.specs.Answers.{TellsAll}
use Rattle.oracles.proofs.Held.{by_item, block_found, block_named, block_none}
use Rattle.oracles.proofs.walking.WalkingWriteOracle.names.Goals as goal

pub returns : goal.returns
returns c =
    let h = c.args.self.now.held in
    let is : c.deref.result.now ≡ vec_items h.contents.blocks = search rules in
    let q : Question = record { held = record { ref_ptr = c.args.self.ref_ptr; now = h }; limit = c.len-limit.result; place = c.args.place } in
    by_item _ _ _ c.get.ensures.lookup c.is_some_and.ensures
    (λ l e. e ∙ block_none h c.args.block _ is c.args.place l)
    (λ x l f e.
    let g : TellsAll q (take x.now.length (drop x.now.start (vec_items h.bytes))) c.is_some_and.result = search rules in
    let n : q.limit ≡ length (vec_items h.contents.procedures) = search rules in
    block_named q c.args.block _ c.is_some_and.result n (block_found h c.args.block _ is x.now l f) g)
