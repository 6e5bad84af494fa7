-- What holds of the lines of every input.
use Rattle.std.specs.Prelude.{◌≡◌, ℕ, ◌<◌, ◌≤◌, true, false, List, [], ◌∷◌, ◌++◌, length, take, map, slice_index_or, Ok}
use Rattle.layout.specs.Packages.{accepts, declarations}
use Rattle.layout.specs.Program.{Program, program}
use Rattle.package.specs.declared.refusal.Fault.{Fault}
use Rattle.rules.specs.declared.Call.{Call}
use Rattle.rules.specs.declared.Answer.{Answer}
use Rattle.rules.specs.Assembly.{Assembly}
use Rattle.rules.specs.Calls.{new, answer_to, answers, after_all}
use Rattle.station.specs.declared.lines.Line.TheVariants.{Accepted, Refused, Answered, Stopped}
use Rattle.station.specs.declared.lines.Stop.{Stop}
use Rattle.station.specs.Header.{Header, header}
use Rattle.station.specs.Script.{script}
use Rattle.station.specs.Station.{chosen, station}

-- what a header's package says, and what its controller is put together from
abbrev pub says : Header → Program
says h = program (declarations h.bytes)

abbrev pub built : Header → Assembly
built h = chosen h.kind h.oracle (says h)

-- the calls of a header, and their answers
abbrev pub calls_of : Header → List Call
calls_of h = (script h.calls).calls

abbrev pub answers_of : Header → List Answer
answers_of h = answers (built h) (says h) (calls_of h) (new (says h))

-- the lines are the package's length, the answers of the calls in order, and at most one stop: there are as many answers
-- as calls, and each is that of a controller on which the calls before it have been run
pub record InOrder (bs : List ℕ) (h : Header) : Type 0 where
  pub stops : List Stop
  pub few : length stops ≤ 1
  pub lines : station bs ≡ Accepted (length h.bytes) ∷ (map Answered (answers_of h) ++ map Stopped stops)
  pub each : length (answers_of h) ≡ length (calls_of h)
  pub turn : (k : ℕ) (c : Call) (a : Answer) → k < length (calls_of h) → slice_index_or (answers_of h) k a ≡ answer_to (built h) (says h) (slice_index_or (calls_of h) k c) (after_all (built h) (says h) (take k (calls_of h)) (new (says h)))

abbrev pub AcceptedInOrder : Type 0
AcceptedInOrder = (bs : List ℕ) (h : Header) → length bs ≤ 32768 → header bs ≡ Ok h → accepts h.bytes ≡ true → InOrder bs h

-- the one line is the package's refusal, whatever is behind the package
pub record Alone (bs : List ℕ) : Type 0 where
  pub fault : Fault
  pub offset : ℕ
  pub lines : station bs ≡ Refused fault offset ∷ []

abbrev pub RefusedAlone : Type 0
RefusedAlone = (bs : List ℕ) (h : Header) → length bs ≤ 32768 → header bs ≡ Ok h → accepts h.bytes ≡ false → Alone bs
