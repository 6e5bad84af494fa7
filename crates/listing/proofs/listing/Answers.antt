use Rattle.std.proofs.Common.{rules}
use Rattle.listing.specs.declared.lines.Line.TheVariants as line
use Rattle.listing.proofs.Joins.{listed_joined}
use Rattle.listing.proofs.listing.Goals as goal

pub returns : goal.returns
returns c =
    listed_joined c.args.held.now c.contents-contents.result.now _ _ _ _ _ _ _ _ _ _ _ _ c.contents-contents.ensures c.new-lines.ensures.items c.deref.ensures.value
    (c.in_ok-list_sort.ensures (λ n x. line.Party n x) (λ n x y p. search rules)) c.in_ok-list_places.ensures
    c.deref-2.ensures.value (c.in_ok-list_sort-2.ensures (λ n x. line.Table n x) (λ n x y p. search rules))
    c.deref-3.ensures.value (c.in_ok-list_sort-3.ensures (λ n x. line.Device n x) (λ n x y p. search rules)) c.in_ok-lines.ensures
    c.deref-4.ensures.value (c.in_ok-list_sort-4.ensures (λ n x. line.Entry n x) (λ n x y p. search rules)) c.in_ok-push.ensures.items
