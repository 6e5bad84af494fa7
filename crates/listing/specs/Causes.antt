-- The cause of each refusal, in one sentence.
use Rattle.std.specs.Prelude.{ℕ, List, codes}
use Rattle.package.specs.declared.refusal.Fault.{Fault}
use Rattle.package.specs.declared.refusal.Fault.TheVariants.{TooLong, EndsEarly, NoSuchByte, ByteFalls, OverLimit, NotDeclared, InputAsTarget, PastEnd, TooDeep, TooManySteps, AfterFinish}
use Rattle.package.specs.declared.refusal.Refusal.{Refusal}
use Rattle.package.specs.declared.refusal.Refusal.TheVariants as refusal

abbrev pub fault_text : Fault → List ℕ
fault_text TooLong = codes "the package has more than 8192 bytes"
fault_text EndsEarly = codes "the bytes end inside a declaration or before FINISH"
fault_text NoSuchByte = codes "no declaration, or no command, starts with this byte"
fault_text ByteFalls = codes "this declaration's sort comes before that of the one ahead of it"
fault_text OverLimit = codes "this is one more than a limit allows"
fault_text NotDeclared = codes "a number is not declared, a table's place is no cell, or a called procedure is not lower"
fault_text InputAsTarget = codes "a command gives an input a value"
fault_text PastEnd = codes "an operand or a block runs past its block's end, a loop has no turns, or a table no cells"
fault_text TooDeep = codes "blocks are nested too deep, or the procedure is too high"
fault_text TooManySteps = codes "a body, or the cycle, takes more than 1000000 steps"
fault_text AfterFinish = codes "bytes follow FINISH"

abbrev pub cause_text : Refusal → List ℕ
cause_text (refusal.Fault f o) = fault_text f
cause_text refusal.Memory = codes "there is not enough memory"
