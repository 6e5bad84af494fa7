-- The lines that a package is listed by.
use Rattle.std.specs.Prelude.{◌≡◌, ℕ, ◌+◌, ◌≤◌, List, [], ◌∷◌, ◌++◌, length}
use Rattle.layout.specs.declared.Procedure.{Procedure}
use Rattle.layout.specs.Tree.{Block}
use Rattle.layout.specs.Declarations.{Contents, places}
use Rattle.layout.specs.Accepted.{LawfulProcedures, Lie, all_spans}
use Rattle.listing.specs.declared.lines.Line.{Line}
use Rattle.listing.specs.declared.lines.Line.TheVariants as line
use Rattle.listing.specs.declared.lines.Sort.{Sort}
use Rattle.listing.specs.declared.lines.Sort.TheVariants.{Parties, Places, Tables, Devices, Procedures, Entries}
use Rattle.listing.specs.declared.lines.Role.TheVariants.{Body}
use Rattle.listing.specs.Numbered.{numbered}
use Rattle.listing.specs.Bodies.{block_lines}

-- the procedures from number k on, each with its body, where i places are inputs
abbrev pub procedure_lines : ℕ → ℕ → List Procedure → List Block → List Line
procedure_lines i k [] bs = []
procedure_lines i k (p ∷ ps) [] = []
procedure_lines i k (p ∷ ps) (b ∷ bs) = (line.Procedure k p ∷ block_lines i 0 Body p.start b) ++ procedure_lines i (k + 1) ps bs

-- a heading, then a line for each
abbrev pub section : {X : Type 0} → Sort → (ℕ → X → Line) → List X → List Line
section sort row xs = line.Heading sort (length xs) ∷ numbered row 0 xs

-- cells are numbered behind the inputs
abbrev pub place_lines : Contents → List Line
place_lines c = line.Heading Places (places c) ∷ (numbered (λ n x. line.Input n x) 0 c.inputs ++ numbered (λ n x. line.Cell n x) (length c.inputs) c.cells)

abbrev pub body_lines : Contents → List Block → List Line
body_lines c bs = line.Heading Procedures (length c.procedures) ∷ procedure_lines (length c.inputs) 0 c.procedures bs

-- every declaration by its sort, in order, and every command of the bodies
abbrev pub listed : Contents → List Block → List Line
listed c bs =
    section Parties (λ n x. line.Party n x) c.parties
    ++ (place_lines c
    ++ (section Tables (λ n x. line.Table n x) c.tables
    ++ (section Devices (λ n x. line.Device n x) c.needs
    ++ (body_lines c bs
    ++ (section Entries (λ n x. line.Entry n x) c.entries
    ++ (line.Cycle c.steps ∷ []))))))

-- of procedures that keep the laws, whose bodies lie in these bytes: their lines were added
abbrev pub TellsProcedures : ℕ → List ℕ → List Procedure → List Line → List Line → Type 0
TellsProcedures i bytes ps before after =
    (c : Contents) (bs : List Block) → length bytes ≤ 8192 → LawfulProcedures c 0 0 ps bs → Lie bytes ps bs → length (all_spans ps bs) ≤ 256 → after ≡ before ++ procedure_lines i 0 ps bs
