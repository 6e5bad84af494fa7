-- What the two oracles answer.
use Rattle.std.specs.Prelude.{◌≡◌, ℕ, Bool, true, ◌&&◌, ◌||◌, List, nat_lt}
use Rattle.layout.specs.Tree.{Command, Commands, Block}
use Rattle.layout.specs.Layout.{Flat, flat, encode_commands, encode_block}
use Rattle.layout.specs.Declarations.{Declaration}
use Rattle.layout.specs.Packages.{Keeps}
use Rattle.layout.specs.Program.{Program, program}
use Rattle.package.specs.Loads.{tree_of}
use Rattle.oracle_laws.specs.Sets.{Sets}
use Rattle.oracle_laws.specs.Smallest.{writes, writes_commands, writes_block, called_below, smallest}
use Rattle.oracles.specs.declared.broad.Broad.{Broad}
use Rattle.oracles.specs.declared.walking.Walking.{Walking}
use Rattle.oracles.specs.declared.walking.Question.{Question}

abbrev pub walking_answers : Walking → Sets
walking_answers o = smallest (program (tree_of o.held))

abbrev pub broad_answers : Broad → Sets
broad_answers o n x = nat_lt n o.blocks && nat_lt x o.places

-- the package that a question is about, and what calls of the procedures below its limit may write
abbrev pub asked : Question → Program
asked q = program (tree_of q.held.now)

abbrev pub callable : Question → Sets
callable q = called_below (asked q) q.limit

-- r tells whether a command, the commands in these bytes, or two blocks may write the place of question q
abbrev pub TellsOne : Question → Flat → Bool → Type 0
TellsOne q f r = (c : Command) → flat c ≡ f → r ≡ writes (asked q) (callable q) c q.place

abbrev pub TellsAll : Question → List ℕ → Bool → Type 0
TellsAll q bs r = (cs : Commands) → encode_commands cs ≡ bs → r ≡ writes_commands (asked q) (callable q) cs q.place

abbrev pub TellsTwo : Question → List ℕ → List ℕ → Bool → Type 0
TellsTwo q ys zs r =
    (b e : Block) → encode_block b ≡ ys → encode_block e ≡ zs → r ≡ (writes_block (asked q) (callable q) b q.place || writes_block (asked q) (callable q) e q.place)

-- what the smallest sets name, these sets name
abbrev pub NamesSmallest : (Program → Sets) → Type 0
NamesSmallest sets = (ds : List Declaration) → Keeps ds → (n x : ℕ) → smallest (program ds) n x ≡ true → sets (program ds) n x ≡ true
