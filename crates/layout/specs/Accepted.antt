-- What holds of every accepted package.
use Rattle.std.specs.Prelude.{◌≡◌, ℕ, ◌+◌, ◌<◌, ◌≤◌, List, [], ◌∷◌, ◌++◌, length, take, drop, slice_index}
use Rattle.std.specs.List.{All}
use Rattle.layout.specs.declared.Input.{Input}
use Rattle.layout.specs.declared.Table.{Table}
use Rattle.layout.specs.declared.Procedure.{Procedure}
use Rattle.layout.specs.declared.Span.{Span}
use Rattle.layout.specs.Tree.{Block}
use Rattle.layout.specs.Layout.{encode_block}
use Rattle.layout.specs.Folds.{size_block, most_block, highest_block, spans_block}
use Rattle.layout.specs.Scope.{Scope}
use Rattle.layout.specs.Limits.{KeepsBlock}
use Rattle.layout.specs.Declarations.{Declaration, simple_declaration, procedure_declaration, Contents, places, heights, body_steps}
use Rattle.layout.specs.Packages.{Keeps, encode, contents}

-- the bodies of the procedures, in their order
abbrev pub bodies : List Declaration → List Block
bodies [] = []
bodies (simple_declaration x ∷ ds) = bodies ds
bodies (procedure_declaration p b ∷ ds) = b ∷ bodies ds

-- what the body of procedure k may name: every place, table and device, and the procedures below k
abbrev pub below : Contents → ℕ → Scope
below c k = record { inputs = length c.inputs; places = places c; tables = length c.tables; devices = length c.needs; heights = take k (heights c); steps = take k (body_steps c) }

-- procedure k, whose body is block n
-- its commands name what is declared and give no input a value, it calls lower procedures only, blocks are nested
-- at most 8 deep, blocks are numbered as they are entered, and it is at most 8 high and 1,000,000 steps long
pub record LawfulProcedure (c : Contents) (k n : ℕ) (p : Procedure) (b : Block) : Type 0 where
  pub party : p.party < length c.parties
  pub body : KeepsBlock (below c k) 0 n p.start b
  pub long : p.length ≡ length (encode_block b)
  pub number : p.block ≡ n
  pub height : p.height ≡ 1 + highest_block (below c k).heights b
  pub low : p.height ≤ 8
  pub steps : p.steps ≡ most_block (below c k).steps b
  pub brief : p.steps ≤ 1000000

-- the procedures from number k on, whose bodies are numbered from n on
abbrev pub LawfulProcedures : Contents → ℕ → ℕ → List Procedure → List Block → Type 0
LawfulProcedures c k n [] [] = Unit {0}
LawfulProcedures c k n [] (b ∷ bs) = ⊥
LawfulProcedures c k n (p ∷ ps) [] = ⊥
LawfulProcedures c k n (p ∷ ps) (b ∷ bs) = LawfulProcedure c k n p b × LawfulProcedures c (k + 1) (n + size_block b) ps bs

-- each body lies in the bytes where its procedure says
abbrev pub Lie : List ℕ → List Procedure → List Block → Type 0
Lie bytes [] [] = Unit {0}
Lie bytes [] (b ∷ bs) = ⊥
Lie bytes (p ∷ ps) [] = ⊥
Lie bytes (p ∷ ps) (b ∷ bs) = ((p.start + p.length ≤ length bytes) × (take p.length (drop p.start bytes) ≡ encode_block b)) × Lie bytes ps bs

-- where every block lies
abbrev pub all_spans : List Procedure → List Block → List Span
all_spans [] bs = []
all_spans (p ∷ ps) [] = []
all_spans (p ∷ ps) (b ∷ bs) = spans_block p.start b ++ all_spans ps bs

-- the most steps of a cycle that runs these entries: each is a step, and then its body
abbrev pub cycle_most : List ℕ → List ℕ → ℕ
cycle_most below [] = 0
cycle_most below (e ∷ es) = 1 + slice_index below e + cycle_most below es

-- a table holds at least one cell, and cells only
abbrev pub HoldsCells : Contents → Table → Type 0
HoldsCells c t = (0 < t.length) × (length c.inputs ≤ t.first) × (t.first + t.length ≤ places c)

pub record Lawful (bytes : List ℕ) (c : Contents) (bs : List Block) : Type 0 where
  pub few_parties : length c.parties ≤ 16
  pub few_places : places c ≤ 128
  pub few_tables : length c.tables ≤ 16
  pub few_devices : length c.needs ≤ 32
  pub few_procedures : length c.procedures ≤ 32
  pub few_entries : length c.entries ≤ 32
  pub few_blocks : length c.spans ≤ 256
  pub owned : All (λ (i : Input). i.party < length c.parties) c.inputs
  pub cells : All (HoldsCells c) c.tables
  pub procedures : LawfulProcedures c 0 0 c.procedures bs
  pub lie : Lie bytes c.procedures bs
  pub spans : c.spans ≡ all_spans c.procedures bs
  pub entries : All (λ (e : ℕ). e < length c.procedures) c.entries
  pub steps : c.steps ≡ cycle_most (body_steps c) c.entries
  pub brief : c.steps ≤ 1000000

abbrev pub AcceptedLawful : Type 0
AcceptedLawful = (ds : List Declaration) → Keeps ds → Lawful (encode ds) (contents ds) (bodies ds)
