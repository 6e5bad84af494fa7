-- The lines of every input, in their order.
use Rattle.std.proofs.Common.{◌≡◌, ℕ, zero, suc, ◌<◌, ◌≤◌, false, List, [], ◌∷◌, length, take, get_or, map, Some, None, Option, Ok, refl, ap, ◌∙◌, arith}
use Rattle.std.proofs.lemmas.Bool.{cond-true, le-leb}
use Rattle.layout.specs.Reading.{Got, ok, fault}
use Rattle.layout.specs.Declarations.{Declaration}
use Rattle.layout.specs.Packages.{was_read, accepts, read_package}
use Rattle.layout.specs.Program.{Program}
use Rattle.layout.proofs.Accepts.{read_accepted}
use Rattle.rules.specs.declared.Call.{Call}
use Rattle.rules.specs.declared.Answer.{Answer}
use Rattle.rules.specs.Assembly.{Assembly}
use Rattle.rules.specs.Calls.{Held, new, answer_to, after, answers, after_all}
use Rattle.station.specs.declared.lines.Line.TheVariants.{Stopped}
use Rattle.station.specs.declared.lines.Stop.{Stop}
use Rattle.station.specs.Header.{Header, header}
use Rattle.station.specs.Script.{script}
use Rattle.station.specs.Station.{fault_numbered, ending, loaded, chosen, started, begun, station}
use Rattle.station.specs.Laws.{AcceptedInOrder, RefusedAlone, built, says, calls_of}

-- at most one
abbrev stops_of : Option Stop → List Stop
stops_of None = []
stops_of (Some s) = s ∷ []

few_stops : (s : Option Stop) → length (stops_of s) ≤ 1
few_stops None = omega arith
few_stops (Some s) = omega arith

ending_stops : (s : Option Stop) → ending s ≡ map Stopped (stops_of s)
ending_stops None = refl
ending_stops (Some s) = refl

module _ (A : Assembly) (P : Program) where
  one_each : (cs : List Call) (h : Held) → length (answers A P cs h) ≡ length cs
  one_each [] h = refl
  one_each (c ∷ cs) h = ap suc (one_each cs (after A P c h))

  in_turn : (cs : List Call) (h : Held) (k : ℕ) (c : Call) (a : Answer) → k < length cs → get_or (answers A P cs h) k a ≡ answer_to A P (get_or cs k c) (after_all A P (take k cs) h)
  in_turn [] h k c a l = absurd (omega arith)
  in_turn (d ∷ cs) h zero c a l = refl
  in_turn (d ∷ cs) h (suc k) c a l = in_turn cs (after A P d h) k c a (omega arith)

-- an input of a header that is read whole
has_header : (bs : List ℕ) (h : Header) → length bs ≤ 32768 → header bs ≡ Ok h → station bs ≡ started h
has_header bs h small e = cond-true _ _ _ (le-leb (length bs) 32768 small) ∙ ap begun e

pub accepted_in_order_lem : AcceptedInOrder
accepted_in_order_lem bs h small e accepted = record {
  stops = stops_of (script h.calls).stop;
  few = few_stops (script h.calls).stop;
  lines = rw (← ending_stops (script h.calls).stop) (has_header bs h small e ∙ ap (loaded (chosen h.kind h.oracle) h.bytes h.calls) (read_accepted h.bytes accepted));
  each = one_each (built h) (says h) (calls_of h) (new (says h));
  turn = in_turn (built h) (says h) (calls_of h) (new (says h));
}

-- what is not read has a fault
has_fault : (g : Got (List Declaration)) → was_read g ≡ false → (n : ℕ) × (at : ℕ) × (g ≡ fault n at)
has_fault (ok ds) e = absurd (cc)
has_fault (fault n at) e = (n, at, refl)

not_accepted : (bs : List ℕ) → accepts bs ≡ false → was_read (read_package bs) ≡ false
unfolding accepts
not_accepted bs e = e

pub refused_alone_lem : RefusedAlone
refused_alone_lem bs h small e refused =
    let found = has_fault (read_package h.bytes) (not_accepted h.bytes refused) in
    record {
      fault = fault_numbered found.0;
      offset = found.1;
      lines = has_header bs h small e ∙ ap (loaded (chosen h.kind h.oracle) h.bytes h.calls) found.2;
    }
