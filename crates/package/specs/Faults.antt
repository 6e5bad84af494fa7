-- The numbers and offsets of refusals.
use Rattle.std.specs.Prelude.{◌≡◌, ◌≢◌, ℕ, Result, MatchResult}
use Rattle.commands.specs.declared.Unread.{Unread}
use Rattle.commands.specs.declared.Unread.TheVariants as unread
use Rattle.package.specs.declared.refusal.Fault.{Fault}
use Rattle.package.specs.declared.refusal.Fault.TheVariants.{TooLong, EndsEarly, NoSuchByte, ByteFalls, OverLimit, NotDeclared, InputAsTarget, PastEnd, TooDeep, TooManySteps, AfterFinish}
use Rattle.package.specs.declared.refusal.NoSuchFault.{NoSuchFault}
use Rattle.package.specs.declared.refusal.Refusal.{Refusal}
use Rattle.package.specs.declared.refusal.Refusal.TheVariants as refusal

abbrev pub fault_number : Fault → ℕ
fault_number TooLong = 1
fault_number EndsEarly = 2
fault_number NoSuchByte = 3
fault_number ByteFalls = 4
fault_number OverLimit = 5
fault_number NotDeclared = 6
fault_number InputAsTarget = 7
fault_number PastEnd = 8
fault_number TooDeep = 9
fault_number TooManySteps = 10
fault_number AfterFinish = 11

-- r is the fault of this number; where it is none, no fault has the number
abbrev pub HasNumber : ℕ → Result Fault NoSuchFault → Type 0
HasNumber n r = MatchResult r (λ f. fault_number f ≡ n) (λ _. (f : Fault) → fault_number f ≢ n)

-- the number of a refusal, 0 for want of memory
abbrev pub number : Refusal → ℕ
number (refusal.Fault f o) = fault_number f
number refusal.Memory = 0

abbrev pub offset : Refusal → ℕ
offset (refusal.Fault f o) = o
offset refusal.Memory = 0

-- the fault of bytes that are no command
abbrev pub fault_of : Unread → Fault
fault_of unread.NoSuchByte = NoSuchByte
fault_of unread.PastEnd = PastEnd
