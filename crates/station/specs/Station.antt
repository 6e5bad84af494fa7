-- The lines of every input.
use Rattle.std.specs.Prelude.{ℕ, cond, List, [], ◌∷◌, ◌++◌, length, map, Some, None, Option, Ok, Err, Result, ◌==◌, nat_le}
use Rattle.layout.specs.Reading.{Got, ok, fault}
use Rattle.layout.specs.Declarations.{Declaration}
use Rattle.layout.specs.Packages.{read_package}
use Rattle.layout.specs.Program.{Program, program}
use Rattle.package.specs.declared.refusal.Fault.{Fault}
use Rattle.package.specs.declared.refusal.Fault.TheVariants as faults
use Rattle.rules.specs.declared.Answer.{Answer}
use Rattle.rules.specs.Assembly.{Assembly}
use Rattle.rules.specs.AtHand.{by_rights, by_rights_broad, by_levels, by_levels_broad}
use Rattle.rules.specs.Calls.{answers, new}
use Rattle.station.specs.declared.header.Kind.{Kind}
use Rattle.station.specs.declared.header.Kind.TheVariants.{Rights, Levels}
use Rattle.station.specs.declared.header.Oracle.{Oracle}
use Rattle.station.specs.declared.header.Oracle.TheVariants.{Walking, Broad}
use Rattle.station.specs.declared.lines.Line.{Line}
use Rattle.station.specs.declared.lines.Line.TheVariants.{Accepted, Refused, Answered, Stopped}
use Rattle.station.specs.declared.lines.Stop.{Stop}
use Rattle.station.specs.declared.lines.Stop.TheVariants.{TooLong}
use Rattle.station.specs.Header.{Header, header}
use Rattle.station.specs.Script.{script}

-- the fault of each number
abbrev pub fault_numbered : ℕ → Fault
fault_numbered n =
    cond (n == 1) faults.TooLong
    (cond (n == 2) faults.EndsEarly
    (cond (n == 3) faults.NoSuchByte
    (cond (n == 4) faults.ByteFalls
    (cond (n == 5) faults.OverLimit
    (cond (n == 6) faults.NotDeclared
    (cond (n == 7) faults.InputAsTarget
    (cond (n == 8) faults.PastEnd
    (cond (n == 9) faults.TooDeep
    (cond (n == 10) faults.TooManySteps
    faults.AfterFinish)))))))))

-- at most one stop
abbrev pub ending : Option Stop → List Line
ending None = []
ending (Some s) = Stopped s ∷ []

-- the answers in their order, and then the stop
abbrev pub told : List Answer → Option Stop → List Line
told answered s = map Answered answered ++ ending s

-- what loading answers; and where the package is accepted, what a new controller answers to the calls
abbrev pub loaded : (Program → Assembly) → List ℕ → List ℕ → Got (List Declaration) → List Line
loaded A bytes calls (ok ds) = Accepted (length bytes) ∷ told (answers (A (program ds)) (program ds) (script calls).calls (new (program ds))) (script calls).stop
loaded A bytes calls (fault n at) = Refused (fault_numbered n) at ∷ []

abbrev pub run : (Program → Assembly) → List ℕ → List ℕ → List Line
run A bytes calls = loaded A bytes calls (read_package bytes)

-- what a controller is put together from
abbrev pub chosen : Kind → Oracle → Program → Assembly
chosen Rights Walking = by_rights
chosen Rights Broad = by_rights_broad
chosen Levels Walking = by_levels
chosen Levels Broad = by_levels_broad

abbrev pub started : Header → List Line
started h = run (chosen h.kind h.oracle) h.bytes h.calls

abbrev pub begun : Result Header Stop → List Line
begun (Ok h) = started h
begun (Err s) = Stopped s ∷ []

-- an input of at most 32,768 bytes is a header and calls
abbrev pub station : List ℕ → List Line
station bs = cond (nat_le (length bs) 32768) (begun (header bs)) (Stopped TooLong ∷ [])
