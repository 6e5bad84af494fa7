-- The text of each line: a word, and numbers in decimal.
use Rattle.std.specs.Prelude.{ℕ, List, ◌++◌, codes, Ok, Err}
use Rattle.std.specs.Fmt.{decimal}
use Rattle.package.specs.Faults.{fault_number}
use Rattle.rules.specs.declared.Answer.{Answer}
use Rattle.rules.specs.declared.Answer.TheVariants as answer
use Rattle.rules.specs.Calls.{refusal_number}
use Rattle.station.specs.declared.lines.Line.{Line}
use Rattle.station.specs.declared.lines.Line.TheVariants.{Accepted, Refused, Answered, Stopped}
use Rattle.station.specs.declared.lines.Stop.{Stop}
use Rattle.station.specs.declared.lines.Stop.TheVariants.{TooLong, EndsEarly, WrongByte}

-- the number of each stop
abbrev pub stop_number : Stop → ℕ
stop_number TooLong = 1
stop_number EndsEarly = 2
stop_number WrongByte = 3

-- words and one number, or two
abbrev pub one : List ℕ → ℕ → List ℕ
one word n = word ++ decimal n

abbrev pub two : List ℕ → ℕ → ℕ → List ℕ
two word n m = word ++ decimal n ++ codes " " ++ decimal m

abbrev pub answer_text : Answer → List ℕ
answer_text (answer.Post (Ok u)) = codes "post 0"
answer_text (answer.Post (Err e)) = one (codes "post ") (refusal_number e)
answer_text (answer.Cycle s) = two (codes "cycle ") s.0 s.1
answer_text (answer.Read (Ok p)) = two (codes "read 0 ") p.0 p.1
answer_text (answer.Read (Err e)) = one (codes "read ") (refusal_number e)
answer_text (answer.Show (Ok d)) = two (codes "show 0 ") d.0 d.1
answer_text (answer.Show (Err e)) = one (codes "show ") (refusal_number e)

abbrev pub line_text : Line → List ℕ
line_text (Accepted n) = one (codes "load 0 ") n
line_text (Refused f o) = two (codes "load ") (fault_number f) o
line_text (Answered a) = answer_text a
line_text (Stopped s) = one (codes "stop ") (stop_number s)
