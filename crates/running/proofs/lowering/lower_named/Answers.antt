use Rattle.std.proofs.Common.{List, ap, ◌∙◌, arith}
use Rattle.rules.specs.declared.Place.{Place}
use Rattle.rules.specs.Running.{with_places}
use Rattle.running.specs.States.{state_of}
use Rattle.running.proofs.Lowers.{lowering_end}
use Rattle.running.proofs.lowering.lower_named.Goals as goal

pub returns : goal.returns
returns g c =
    c.loop-i.invariant.1
    ∙ ap (λ (ps : List Place). with_places (state_of c.args.work.now) ps) (lowering_end _ _ _ _ _ _ (λ k h l. absurd (omega (arith, c.args.work.now.places.items.ok.0))) c.loop-i.invariant.0)
