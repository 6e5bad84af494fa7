-- What calls and refused drives leave as it was.
use Rattle.std.specs.Prelude.{◌≡◌, ℕ, ◌+◌, ◌<◌, Bool, true, false, cond, not, ◌&&◌, List, [], ◌∷◌, length, is_some, is_ok, Some, ◌==◌, nat_lt, slice_index_or}
use Rattle.layout.specs.Declarations.{Declaration, Contents, places}
use Rattle.layout.specs.Packages.{Keeps, contents}
use Rattle.layout.specs.Program.{Program, program}
use Rattle.rules.specs.declared.Place.{Place}
use Rattle.rules.specs.declared.Trail.{Trail}
use Rattle.rules.specs.declared.Call.{Call}
use Rattle.rules.specs.declared.Call.TheVariants.{Post, Cycle, Read, Show}
use Rattle.rules.specs.Assembly.{Assembly}
use Rattle.rules.specs.declared.Context.{Context}
use Rattle.rules.specs.Running.{State, obstacle, drive, run_entries}
use Rattle.rules.specs.Calls.{Held, place_in, new, no_input, post_answer, after, after_all, cycle}

-- ---- single calls

-- a refused post, a read and a show, refused or not
abbrev pub leaves_all : Program → Call → Bool
leaves_all P (Post o x v) = not (is_ok (post_answer P o x))
leaves_all P Cycle = false
leaves_all P (Read x q) = true
leaves_all P (Show d) = true

abbrev pub AllAsItWas : Type 0
AllAsItWas = (A : Assembly) (P : Program) (c : Call) (h : Held) → leaves_all P c ≡ true → after A P c h ≡ h

-- ---- lists of calls to a new controller

-- there are as many places and devices as were declared
pub record Whole (c : Contents) (h : Held) : Type 0 where
  pub places : length h.places ≡ places c
  pub devices : length h.devices ≡ length c.needs

abbrev pub AlwaysWhole : Type 0
AlwaysWhole = (A : Assembly) (ds : List Declaration) → Keeps ds → (cs : List Call) → Whole (contents ds) (after_all A (program ds) cs (new (program ds)))

-- the value of the latest accepted post to place x, or v where there was none
abbrev pub latest : Program → ℕ → List Call → ℕ → ℕ
latest P x [] v = v
latest P x (Post o y w ∷ cs) v = latest P x cs (cond (is_ok (post_answer P o y) && x == y) w v)
latest P x (Cycle ∷ cs) v = latest P x cs v
latest P x (Read y q ∷ cs) v = latest P x cs v
latest P x (Show d ∷ cs) v = latest P x cs v

-- an input has the value that its party posted last, or else the declared one; nothing else gives it a value
abbrev pub InputsArePosted : Type 0
InputsArePosted =
    (A : Assembly) (ds : List Declaration) → Keeps ds → (cs : List Call) (x : ℕ) → x < length (contents ds).inputs →
    (place_in (after_all A (program ds) cs (new (program ds))) x).value ≡ latest (program ds) x cs (slice_index_or (contents ds).inputs x no_input).value

-- ---- drives

-- a refused drive is counted, and changes no place and no device
pub record Unmoved (s t : State) : Type 0 where
  pub places : t.places ≡ s.places
  pub devices : t.devices ≡ s.devices
  pub steps : t.steps ≡ s.steps
  pub refused : t.refused ≡ s.refused + 1

abbrev pub RefusedUnmoved : Type 0
RefusedUnmoved =
    (A : Assembly) (r : Context) (offset d need : ℕ) (p : Place) (s : State) → is_some (obstacle A r need p) ≡ true → Unmoved s (drive A r offset d need p s)

-- what is in the trail stays there, whatever entries run next: it is the first refused drive
abbrev pub TrailStays : Type 0
TrailStays =
    (A : Assembly) (ds : List Declaration) → Keeps ds → (es : List ℕ) (s : State) (t : Trail) → s.trail ≡ Some t → (run_entries A (program ds) es s).trail ≡ Some t

-- there is a trail exactly where the cycle refused a drive
abbrev pub TrailTells : Type 0
TrailTells =
    (A : Assembly) (ds : List Declaration) → Keeps ds → (h : Held) → is_some (cycle A (program ds) h).trail ≡ nat_lt 0 (cycle A (program ds) h).refused
