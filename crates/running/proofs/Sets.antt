-- A new controller.
use Rattle.std.proofs.Common.{◌≡◌, map, length, ◌∙◌, length-append}
use lib.ListN.{length-map}
use Rattle.layout.specs.Declarations.{places}
use Rattle.layout.specs.Program.{Program}
use Rattle.rules.specs.Calls.{new_input, new_cell, new}

-- a new controller has as many places as are declared
pub new_length : (P : Program) → length (new P).places ≡ places P.contents
new_length P =
    length-append (map (new_input P) P.contents.inputs) (map new_cell P.contents.cells)
    ∙ rw (length-map P.contents.inputs (new_input P), length-map P.contents.cells new_cell)
