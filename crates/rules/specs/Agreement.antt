-- Agreement of two controllers: what shows where right q is needed, and what is read in the name of q, tells nothing of
-- the posts of parties without q.
use Rattle.std.specs.Prelude.{◌≡◌, ℕ, ◌<◌, Bool, false, cond, not, ◌&&◌, List, [], ◌∷◌, filter, Some, None, Option, Result, ◌==◌}
use Rattle.layout.specs.Declarations.{Declaration}
use Rattle.layout.specs.Packages.{Keeps}
use Rattle.layout.specs.Program.{Program, program}
use Rattle.rules.specs.declared.Device.{Device}
use Rattle.rules.specs.declared.Refusal.{Refusal}
use Rattle.rules.specs.declared.Call.{Call}
use Rattle.rules.specs.declared.Call.TheVariants.{Post, Cycle, Read, Show}
use Rattle.rules.specs.Assembly.{Assembly, LawfulAssembly}
use Rattle.rules.specs.Calls.{Held, new, is_party, party_frame, read_answer, after}

-- what right q sees of a controller: the devices that need q, and what was read in its name
pub record Seen : Type 0 where
  pub devices : List Device
  pub read : Option (Result (ℕ × ℕ) Refusal)

module _ (A : Assembly) (P : Program) (q : ℕ) where
  -- party o holds right q
  abbrev pub holds_right : ℕ → Bool
  holds_right o = is_party P o && A.kind.holds (party_frame P o) q

  -- a call is struck out where it is a post of a party without q
  abbrev pub struck : Call → Bool
  struck (Post o x v) = not (holds_right o)
  struck Cycle = false
  struck (Read x p) = false
  struck (Show d) = false

  abbrev pub remaining : List Call → List Call
  remaining cs = filter (λ c. not (struck c)) cs

  -- of devices with these needs, those that need q
  abbrev pub needing : List ℕ → List Device → List Device
  needing [] ds = []
  needing (n ∷ ns) [] = []
  needing (n ∷ ns) (d ∷ ds) = cond (A.kind.holds n q) (d ∷ needing ns ds) (needing ns ds)

  abbrev pub devices_seen : Held → List Device
  devices_seen h = needing P.contents.needs h.devices

  -- the answer of a call that reads in the name of q
  abbrev pub read_seen : Call → Held → Option (Result (ℕ × ℕ) Refusal)
  read_seen (Post o x v) h = None
  read_seen Cycle h = None
  read_seen (Read x p) h = cond (p == q) (Some (read_answer A P h x q)) None
  read_seen (Show d) h = None

  -- after each call that remains
  abbrev pub seen_from : List Call → Held → List Seen
  seen_from [] h = []
  seen_from (c ∷ cs) h =
      cond (struck c)
      (seen_from cs (after A P c h))
      (record { devices = devices_seen (after A P c h); read = read_seen c h } ∷ seen_from cs (after A P c h))

  -- when new, and after each call that remains
  abbrev pub seen : List Call → List Seen
  seen cs = record { devices = devices_seen (new P); read = None } ∷ seen_from cs (new P)

-- two new controllers of one package, given lists of calls that are equal once the posts of parties without q are
-- struck out, are seen alike
abbrev pub Agreement : Type 0
Agreement =
    (ds : List Declaration) → Keeps ds → (A : Assembly) → LawfulAssembly A (program ds) → (q : ℕ) → q < 64 →
    (cs es : List Call) → remaining A (program ds) q cs ≡ remaining A (program ds) q es →
    seen A (program ds) q cs ≡ seen A (program ds) q es
