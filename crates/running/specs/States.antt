-- What a cycle works on, as the rules have it.
use Rattle.std.specs.Prelude.{vec_items}
use Rattle.rules.specs.Running.{State}
use Rattle.rules.specs.Calls.{Held}
use Rattle.running.specs.declared.places.Work.{Work}

abbrev pub state_of : Work → State
state_of w = record { places = vec_items w.places.items; devices = vec_items w.devices; steps = w.steps; refused = w.refused; trail = w.trail }

abbrev pub held_of : Work → Held
held_of w = record { places = vec_items w.places.items; devices = vec_items w.devices; trail = w.trail }
