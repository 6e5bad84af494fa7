-- What the result of a walk says of the reading.
use Rattle.std.specs.Prelude.{◌≡◌, ℕ, ◌+◌, ◌≤◌, min, List, ◌++◌, length, Result, MatchResult}
use Rattle.layout.specs.declared.Span.{Span}
use Rattle.layout.specs.Tree.{Block}
use Rattle.layout.specs.Layout.{Flat, command_bytes, flat, encode_commands, encode_block}
use Rattle.layout.specs.Folds.{most, most_commands, most_block, highest, highest_commands, highest_block, spans, spans_commands, spans_block}
use Rattle.layout.specs.Scope.{Scope}
use Rattle.layout.specs.Reading.{Got, ok, one, read, inner, read_body}
use Rattle.package.specs.declared.bodies.Cost.{Cost}
use Rattle.package.specs.declared.refusal.Refusal.{Refusal}
use Rattle.package.specs.Holds.{Refused}

-- steps are added up to the largest number of 64 bits
abbrev pub capped : ℕ → ℕ
capped n = min n 18446744073709551615

-- with whatever bound suffices, g is the tree; its layout is the bytes, its blocks stand behind those before,
-- and it comes to this cost
pub record Walked {A : Type 0} (laid : A → List ℕ) (spans_of : A → List Span) (most_of highest_of : A → ℕ) (bytes : List ℕ) (least : ℕ) (g : ℕ → Got A) (before after : List Span) (c : Cost) : Type 0 where
  pub tree : A
  pub reads : (f : ℕ) → least ≤ f → g f ≡ ok tree
  pub is : laid tree ≡ bytes
  pub blocks : after ≡ before ++ spans_of tree
  pub steps : c.steps ≡ capped (most_of tree)
  pub high : c.highest ≡ highest_of tree

-- with whatever bound suffices, g is refused so
abbrev pub Stops : {A : Type 0} → ℕ → (ℕ → Got A) → Refusal → Type 0
Stops least g e = (f : ℕ) → least ≤ f → Refused (g f) e

-- a command, the commands of a block, and a block, where the blocks before have the numbers below
abbrev pub WalkedOne : Scope → Flat → ℕ → ℕ → ℕ → List Span → List Span → Cost → Type 0
WalkedOne w c at d q before after r =
    Walked (λ t. command_bytes (flat t)) (spans at) (most w.steps) (highest w.heights) (command_bytes c) (length (command_bytes c)) (λ f. one (inner f w (d + 1)) w c at d (length before) q) before after r

abbrev pub WalksOne : Scope → Flat → ℕ → ℕ → ℕ → List Span → List Span → Result Cost Refusal → Type 0
WalksOne w c at d q before after r =
    MatchResult r (λ x. WalkedOne w c at d q before after x) (λ e. Stops (length (command_bytes c)) (λ f. one (inner f w (d + 1)) w c at d (length before) q) e)

abbrev pub WalkedAll : Scope → List ℕ → ℕ → ℕ → ℕ → List Span → List Span → Cost → Type 0
WalkedAll w bs at d q before after r =
    Walked encode_commands (spans_commands at) (most_commands w.steps) (highest_commands w.heights) bs (length bs + 1) (λ f. read f w bs at d (length before) q) before after r

abbrev pub WalksAll : Scope → List ℕ → ℕ → ℕ → ℕ → List Span → List Span → Result Cost Refusal → Type 0
WalksAll w bs at d q before after r =
    MatchResult r (λ x. WalkedAll w bs at d q before after x) (λ e. Stops (length bs + 1) (λ f. read f w bs at d (length before) q) e)

abbrev pub WalkedBlock : Scope → List ℕ → ℕ → ℕ → ℕ → List Span → List Span → Cost → Type 0
WalkedBlock w bs at d q before after r =
    Walked encode_block (spans_block at) (most_block w.steps) (highest_block w.heights) bs (length bs + 1) (λ f. inner f w d bs at (length before) q) before after r

abbrev pub WalksBlock : Scope → List ℕ → ℕ → ℕ → ℕ → List Span → List Span → Result Cost Refusal → Type 0
WalksBlock w bs at d q before after r =
    MatchResult r (λ x. WalkedBlock w bs at d q before after x) (λ e. Stops (length bs + 1) (λ f. inner f w d bs at (length before) q) e)

-- a body: the tree that is read, or the first fault
pub record WalkedBody (w : Scope) (bs : List ℕ) (at : ℕ) (before after : List Span) (c : Cost) : Type 0 where
  pub tree : Block
  pub reads : read_body w bs at (length before) ≡ ok tree
  pub is : encode_block tree ≡ bs
  pub blocks : after ≡ before ++ spans_block at tree
  pub steps : c.steps ≡ capped (most_block w.steps tree)
  pub high : c.highest ≡ highest_block w.heights tree

abbrev pub WalksBody : Scope → List ℕ → ℕ → List Span → List Span → Result Cost Refusal → Type 0
WalksBody w bs at before after r = MatchResult r (λ c. WalkedBody w bs at before after c) (λ e. Refused (read_body w bs at (length before)) e)
