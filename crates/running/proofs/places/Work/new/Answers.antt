use Rattle.std.proofs.Common.{◌≡◌, length, vec_items, ap, ◌∙◌, arith}
use Rattle.package.specs.declared.contents.Contents.{Contents}
use Rattle.rules.specs.Calls.{new}
use Rattle.running.specs.Parts.{declared_by}
use Rattle.running.specs.Entries.{program_of}
use Rattle.running.proofs.Sets.{new_length}
use Rattle.running.proofs.Going.{laws_of}
use Rattle.running.proofs.places.Work.new.Goals as goal

pub invariant_of-result : goal.invariant_of-result
invariant_of-result c =
    let h = c.args.held.now in
    let is : vec_items c.in_ok-items.items ≡ (new (program_of h)).places = c.in_ok-items.ensures ∙ ap (λ (x : Contents). (new (declared_by x)).places) c.contents.ensures in
    record { few = omega (arith, ap length is, new_length (program_of h), (laws_of h).few_places, c.in_ok-items.items.ok.0) }
