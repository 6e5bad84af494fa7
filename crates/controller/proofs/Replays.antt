-- A list of calls, as far as it has been run.
use Rattle.std.proofs.Common.{◌≡◌, ℕ, ◌<◌, List, [], ◌∷◌, ◌++◌, sym, ap, ◌∙◌, append_assoc, append-nil}
use Rattle.frames.specs.Kinds.{Kind, Lawful, Widens}
use Rattle.layout.specs.Program.{Program}
use Rattle.package.specs.declared.held.Package.{Package}
use Rattle.package.specs.Loads.{tree_of}
use Rattle.package.proofs.Sets as accepted
use Rattle.oracle_laws.specs.Sets.{Sets, OracleLaws}
use Rattle.rules.specs.declared.Call.{Call}
use Rattle.rules.specs.declared.Answer.{Answer}
use Rattle.rules.specs.Assembly.{Assembly}
use Rattle.rules.specs.Agreement.{remaining, seen}
use Rattle.rules.proofs.Agrees.{agreement_lem}
use Rattle.controller.specs.Holding.{says, built}
use Rattle.rules.specs.Calls.{Held, new, answer_to, after, answers, after_all}

-- what was answered, and what is held, with the calls that are left
pub record Replayed (A : Assembly) (P : Program) (cs left : List Call) (out : List Answer) (h : Held) : Type 0 where
  pub answers : out ++ answers A P left h ≡ answers A P cs (new P)
  pub holds : after_all A P left h ≡ after_all A P cs (new P)

module _ {A : Assembly} {P : Program} {cs : List Call} where
  pub replayed_none : (out : List Answer) (h : Held) → out ≡ [] → h ≡ new P → Replayed A P cs cs out h
  replayed_none out h none e = record { answers = rw none (ap (answers A P cs) e); holds = ap (after_all A P cs) e }

  pub replayed_one : (c : Call) (left : List Call) (out : List Answer) (h h' : Held) (a : Answer) → a ≡ answer_to A P c h → h' ≡ after A P c h → Replayed A P cs (c ∷ left) out h → Replayed A P cs left (out ++ (a ∷ [])) h'
  replayed_one c left out h h' a e f r = record {
    answers = rw (e, f) (append_assoc out (answer_to A P c h ∷ []) (answers A P left (after A P c h)) ∙ r.answers);
    holds = rw f r.holds;
  }

  pub replayed_all : (out : List Answer) (h : Held) → Replayed A P cs [] out h → (out ≡ answers A P cs (new P)) × (h ≡ after_all A P cs (new P))
  replayed_all out h r = (sym (append-nil out) ∙ r.answers, r.holds)

-- agreement, for the package that a controller holds
pub agrees : (K : Kind) (widen : ℕ → ℕ → ℕ) (sets : Program → Sets) → Lawful K → Widens K widen → OracleLaws sets → (h : Package) (q : ℕ) → q < 64 → (cs es : List Call) → remaining (built K widen sets h) (says h) q cs ≡ remaining (built K widen sets h) (says h) q es → seen (built K widen sets h) (says h) q cs ≡ seen (built K widen sets h) (says h) q es
agrees K widen sets frames widens oracle h =
    let keeps = (accepted.kept h).0 in
    agreement_lem (tree_of h) keeps (built K widen sets h) (record { frames = frames; widens = widens; oracle = oracle.lawful (tree_of h) keeps })
