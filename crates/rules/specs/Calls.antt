-- What a new controller holds, and what each call answers and leaves.
use Rattle.std.specs.Prelude.{ℕ, Bool, cond, ◌&&◌, List, [], ◌∷◌, ◌++◌, map, length, get_or, is_ok, Some, None, Ok, Err, Option, Result, ◌==◌, nat_lt, slice_index, slice_index_or, slice_set}
use Rattle.layout.specs.declared.Input.{Input}
use Rattle.layout.specs.declared.Cell.{Cell}
use Rattle.layout.specs.Declarations.{places}
use Rattle.layout.specs.Program.{Program}
use Rattle.rules.specs.declared.Place.{Place}
use Rattle.rules.specs.declared.Device.{Device}
use Rattle.rules.specs.declared.Cause.{Cause}
use Rattle.rules.specs.declared.Cause.TheVariants as cause
use Rattle.rules.specs.declared.Trail.{Trail}
use Rattle.rules.specs.declared.Refusal.{Refusal}
use Rattle.rules.specs.declared.Refusal.TheVariants.{NoSuchParty, NoSuchPlace, NotItsInput, NoSuchRight, NotTrusted, NoSuchDevice}
use Rattle.rules.specs.declared.Call.{Call}
use Rattle.rules.specs.declared.Call.TheVariants as call
use Rattle.rules.specs.declared.Answer.{Answer}
use Rattle.rules.specs.declared.Answer.TheVariants as answer
use Rattle.rules.specs.Assembly.{Assembly}
use Rattle.rules.specs.Running.{State, place, device, run_entries}

-- what a controller holds besides its package
pub record Held : Type 0 where
  pub places : List Place
  pub devices : List Device
  pub trail : Option Trail

abbrev pub place_in : Held → ℕ → Place
place_in h x = slice_index_or h.places x (place 0 0)

abbrev pub device_in : Held → ℕ → Device
device_in h d = slice_index_or h.devices d (device 0 0)

-- ---- a new controller

-- the frame of party o
abbrev pub party_frame : Program → ℕ → ℕ
party_frame P o = slice_index P.contents.parties o

-- an input starts with its party's frame, a cell with its own
abbrev pub new_input : Program → Input → Place
new_input P i = place i.value (party_frame P i.party)

abbrev pub new_cell : Cell → Place
new_cell c = place c.value c.frame

abbrev pub new_device : ℕ → Device
new_device need = device 0 0

abbrev pub new : Program → Held
new P = record { places = map (new_input P) P.contents.inputs ++ map new_cell P.contents.cells; devices = map new_device P.contents.needs; trail = None }

-- ---- what is declared

abbrev pub is_party : Program → ℕ → Bool
is_party P o = nat_lt o (length P.contents.parties)

abbrev pub is_place : Program → ℕ → Bool
is_place P x = nat_lt x (places P.contents)

abbrev pub is_device : Program → ℕ → Bool
is_device P d = nat_lt d (length P.contents.needs)

abbrev pub is_right : ℕ → Bool
is_right q = nat_lt q 64

abbrev pub no_input : Input
no_input = record { party = 0; value = 0 }

-- place x is an input of party o
abbrev pub owns : Program → ℕ → ℕ → Bool
owns P o x = nat_lt x (length P.contents.inputs) && (get_or P.contents.inputs x no_input).party == o

-- ---- answers: the first refusal in order counts

abbrev pub demand : {X : Type 0} → Bool → Refusal → Result X Refusal → Result X Refusal
demand test e r = cond test r (Err e)

abbrev pub post_answer : Program → ℕ → ℕ → Result (Unit {0}) Refusal
post_answer P o x =
    demand (is_party P o) NoSuchParty
    (demand (is_place P x) NoSuchPlace
    (demand (owns P o x) NotItsInput (Ok tt)))

abbrev pub read_answer : Assembly → Program → Held → ℕ → ℕ → Result (ℕ × ℕ) Refusal
read_answer A P h x q =
    demand (is_place P x) NoSuchPlace
    (demand (is_right q) NoSuchRight
    (demand (A.kind.holds (place_in h x).frame q) NotTrusted (Ok ((place_in h x).value, (place_in h x).frame))))

abbrev pub show_answer : Program → Held → ℕ → Result (ℕ × ℕ) Refusal
show_answer P h d = demand (is_device P d) NoSuchDevice (Ok ((device_in h d).command, (device_in h d).count))

-- ---- what a call leaves

-- an accepted post gives the input the value and its party's frame; a refused one leaves all as it was
abbrev pub posting : Program → ℕ → ℕ → ℕ → Held → Held
posting P o x v h = record { places = slice_set h.places x (place v (party_frame P o)); devices = h.devices; trail = h.trail }

abbrev pub posted : Program → ℕ → ℕ → ℕ → Held → Held
posted P o x v h = cond (is_ok (post_answer P o x)) (posting P o x v h) h

-- a cycle starts without steps, refused drives and trail; places and devices go on
abbrev pub started : Held → State
started h = record { places = h.places; devices = h.devices; steps = 0; refused = 0; trail = None }

abbrev pub kept : State → Held
kept s = record { places = s.places; devices = s.devices; trail = s.trail }

-- a cycle runs the entries in their order
abbrev pub cycle : Assembly → Program → Held → State
cycle A P h = run_entries A P P.contents.entries (started h)

abbrev pub cycle_answer : State → ℕ × ℕ
cycle_answer s = (s.steps, s.refused)

-- the first refused drive of the latest cycle, or none
abbrev pub trail_answer : Held → Option Trail
trail_answer h = h.trail

-- ---- calls

module _ (A : Assembly) (P : Program) where
  abbrev pub answer_to : Call → Held → Answer
  answer_to (call.Post o x v) h = answer.Post (post_answer P o x)
  answer_to call.Cycle h = answer.Cycle (cycle_answer (cycle A P h))
  answer_to (call.Read x q) h = answer.Read (read_answer A P h x q)
  answer_to (call.Show d) h = answer.Show (show_answer P h d)

  abbrev pub after : Call → Held → Held
  after (call.Post o x v) h = posted P o x v h
  after call.Cycle h = kept (cycle A P h)
  after (call.Read x q) h = h
  after (call.Show d) h = h

  -- a list of calls
  abbrev pub answers : List Call → Held → List Answer
  answers [] h = []
  answers (c ∷ cs) h = answer_to c h ∷ answers cs (after c h)

  abbrev pub after_all : List Call → Held → Held
  after_all [] h = h
  after_all (c ∷ cs) h = after_all cs (after c h)

-- ---- numbers

-- the number of each refusal of a call
abbrev pub refusal_number : Refusal → ℕ
refusal_number NoSuchParty = 20
refusal_number NoSuchPlace = 21
refusal_number NotItsInput = 22
refusal_number NoSuchRight = 31
refusal_number NotTrusted = 32
refusal_number NoSuchDevice = 33

-- the number of each cause of a refused drive
abbrev pub cause_number : Cause → ℕ
cause_number cause.Rights = 40
cause_number cause.Information = 41

-- 0 and the values of what is answered, or the number of the refusal
abbrev pub told : {X : Type 0} → (X → List ℕ) → Result X Refusal → List ℕ
told values (Ok x) = 0 ∷ values x
told values (Err e) = refusal_number e ∷ []

abbrev pub pair : ℕ × ℕ → List ℕ
pair p = p.0 ∷ p.1 ∷ []

-- the numbers that an answer stands for; a cycle's are its steps and its refused drives
abbrev pub numbers : Answer → List ℕ
numbers (answer.Post r) = told (λ u. []) r
numbers (answer.Cycle p) = pair p
numbers (answer.Read r) = told pair r
numbers (answer.Show r) = told pair r

-- the numbers of a trail; none where there is none
abbrev pub trail_numbers : Option Trail → List ℕ
trail_numbers None = []
trail_numbers (Some t) = t.procedure ∷ t.offset ∷ t.device ∷ cause_number t.cause ∷ t.right ∷ []
