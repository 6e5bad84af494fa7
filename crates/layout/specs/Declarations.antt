-- Declarations, their layout, and what they add up to.
use Rattle.std.specs.Prelude.{ℕ, ◌+◌, List, [], ◌∷◌, ◌++◌, map, length, slice_index}
use Rattle.layout.specs.declared.Input.{Input}
use Rattle.layout.specs.declared.Cell.{Cell}
use Rattle.layout.specs.declared.Table.{Table}
use Rattle.layout.specs.declared.Procedure.{Procedure}
use Rattle.layout.specs.declared.Span.{Span}
use Rattle.layout.specs.Tree.{Block}
use Rattle.layout.specs.Bytes.{two, four, eight}
use Rattle.layout.specs.Layout.{encode_block}
use Rattle.layout.specs.Folds.{most_block, highest_block, spans_block}
use Rattle.layout.specs.Scope.{Scope}

-- a declaration without a body
-- a party has its frame; a device its need, the frame that a drive has to cover; an entry a procedure that each cycle runs
pub data Simple : Type 0 where
  party_item : (frame : ℕ) → Simple
  input_item : Input → Simple
  cell_item : Cell → Simple
  table_item : Table → Simple
  device_item : (need : ℕ) → Simple
  entry_item : (procedure : ℕ) → Simple

pub data Declaration : Type 0 where
  simple_declaration : Simple → Declaration
  procedure_declaration : (party : ℕ) → Block → Declaration

-- a declaration whose body is still bytes
pub data Item : Type 0 where
  simple : Simple → Item
  proc : (party : ℕ) → List ℕ → Item

abbrev pub simple_bytes : Simple → List ℕ
simple_bytes (party_item g) = 0x81 ∷ eight g []
simple_bytes (input_item i) = 0x82 ∷ i.party ∷ four i.value []
simple_bytes (cell_item c) = 0x83 ∷ four c.value (eight c.frame [])
simple_bytes (table_item t) = 0x84 ∷ t.first ∷ t.length ∷ []
simple_bytes (device_item g) = 0x85 ∷ eight g []
simple_bytes (entry_item p) = 0x87 ∷ p ∷ []

abbrev pub item_bytes : Item → List ℕ
item_bytes (simple x) = simple_bytes x
item_bytes (proc p y) = 0x86 ∷ p ∷ two (length y) y

abbrev pub item : Declaration → Item
item (simple_declaration x) = simple x
item (procedure_declaration p b) = proc p (encode_block b)

-- the byte that leads a declaration
abbrev pub simple_lead : Simple → ℕ
simple_lead (party_item g) = 0x81
simple_lead (input_item i) = 0x82
simple_lead (cell_item c) = 0x83
simple_lead (table_item t) = 0x84
simple_lead (device_item g) = 0x85
simple_lead (entry_item p) = 0x87

abbrev pub lead : Item → ℕ
lead (simple x) = simple_lead x
lead (proc p y) = 0x86

-- how many bytes stand in front of a body
abbrev pub proc_head : ℕ
proc_head = 4

-- what has been declared: the frames of the parties, inputs, cells, tables, the needs of the devices, procedures,
-- entries, every block in the order of its number, and the most steps of a cycle
pub record Contents : Type 0 where
  pub parties : List ℕ
  pub inputs : List Input
  pub cells : List Cell
  pub tables : List Table
  pub needs : List ℕ
  pub procedures : List Procedure
  pub entries : List ℕ
  pub spans : List Span
  pub steps : ℕ

abbrev pub nothing : Contents
nothing = record { parties = []; inputs = []; cells = []; tables = []; needs = []; procedures = []; entries = []; spans = []; steps = 0 }

-- inputs come first in the one row of places, then cells
abbrev pub places : Contents → ℕ
places s = length s.inputs + length s.cells

abbrev pub heights_of : List Procedure → List ℕ
heights_of ps = map (λ (p : Procedure). p.height) ps

abbrev pub steps_of : List Procedure → List ℕ
steps_of ps = map (λ (p : Procedure). p.steps) ps

abbrev pub heights : Contents → List ℕ
heights s = heights_of s.procedures

abbrev pub body_steps : Contents → List ℕ
body_steps s = steps_of s.procedures

-- what the next procedure may name
abbrev pub scope : Contents → Scope
scope s = record { inputs = length s.inputs; places = places s; tables = length s.tables; devices = length s.needs; heights = heights s; steps = body_steps s }

-- the most steps of a cycle with one entry more: the entry is a step, and then its body
abbrev pub with_entry : Contents → ℕ → ℕ
with_entry s p = s.steps + 1 + slice_index (body_steps s) p

-- a procedure at offset `at`
abbrev pub procedure : Contents → ℕ → ℕ → Block → Procedure
procedure s at p b = record {
  party = p;
  start = at + proc_head;
  length = length (encode_block b);
  block = length s.spans;
  height = 1 + highest_block (heights s) b;
  steps = most_block (body_steps s) b;
}

abbrev pub declare_simple : Contents → Simple → Contents
declare_simple s (party_item g) = record { parties = s.parties ++ (g ∷ []); inputs = s.inputs; cells = s.cells; tables = s.tables; needs = s.needs; procedures = s.procedures; entries = s.entries; spans = s.spans; steps = s.steps }
declare_simple s (input_item i) = record { parties = s.parties; inputs = s.inputs ++ (i ∷ []); cells = s.cells; tables = s.tables; needs = s.needs; procedures = s.procedures; entries = s.entries; spans = s.spans; steps = s.steps }
declare_simple s (cell_item c) = record { parties = s.parties; inputs = s.inputs; cells = s.cells ++ (c ∷ []); tables = s.tables; needs = s.needs; procedures = s.procedures; entries = s.entries; spans = s.spans; steps = s.steps }
declare_simple s (table_item t) = record { parties = s.parties; inputs = s.inputs; cells = s.cells; tables = s.tables ++ (t ∷ []); needs = s.needs; procedures = s.procedures; entries = s.entries; spans = s.spans; steps = s.steps }
declare_simple s (device_item g) = record { parties = s.parties; inputs = s.inputs; cells = s.cells; tables = s.tables; needs = s.needs ++ (g ∷ []); procedures = s.procedures; entries = s.entries; spans = s.spans; steps = s.steps }
declare_simple s (entry_item p) = record { parties = s.parties; inputs = s.inputs; cells = s.cells; tables = s.tables; needs = s.needs; procedures = s.procedures; entries = s.entries ++ (p ∷ []); spans = s.spans; steps = with_entry s p }

-- one declaration more, at offset `at`
abbrev pub declare : Contents → ℕ → Declaration → Contents
declare s at (simple_declaration x) = declare_simple s x
declare s at (procedure_declaration p b) = record { parties = s.parties; inputs = s.inputs; cells = s.cells; tables = s.tables; needs = s.needs; procedures = s.procedures ++ (procedure s at p b ∷ []); entries = s.entries; spans = s.spans ++ spans_block (at + proc_head) b; steps = s.steps }
