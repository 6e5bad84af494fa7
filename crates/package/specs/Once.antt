-- That contents are the same is a fact with one proof at most: contents are stored as the tuple of their parts.
use Rattle.std.specs.Prelude.{◌≡◌, ℕ, List, refl}
use Rattle.std.specs.Coded.{Coded, code_by, Coded-set, coded_ℕ, coded_list, coded×}
use Rattle.layout.specs.declared.Input.{Input}
use Rattle.layout.specs.declared.Cell.{Cell}
use Rattle.layout.specs.declared.Table.{Table}
use Rattle.layout.specs.declared.Procedure.{Procedure}
use Rattle.layout.specs.declared.Span.{Span}
use Rattle.layout.specs.contracts.Input as input
use Rattle.layout.specs.contracts.Cell as cell
use Rattle.layout.specs.contracts.Table as table
use Rattle.layout.specs.contracts.Procedure as procedure
use Rattle.layout.specs.contracts.Span as span
use Rattle.layout.specs.Declarations.{Contents}

abbrev Parts : Type 0
Parts = List ℕ × (List Input × (List Cell × (List Table × (List ℕ × (List Procedure × (List ℕ × (List Span × ℕ)))))))

coded_parts : Coded Parts
coded_parts =
    coded× (coded_list coded_ℕ)
    (coded× (coded_list (input.the_row).coded)
    (coded× (coded_list (cell.the_row).coded)
    (coded× (coded_list (table.the_row).coded)
    (coded× (coded_list coded_ℕ)
    (coded× (coded_list (procedure.the_row).coded)
    (coded× (coded_list coded_ℕ)
    (coded× (coded_list (span.the_row).coded) coded_ℕ)))))))

abbrev parts : Contents → Parts
parts c = (c.parties, (c.inputs, (c.cells, (c.tables, (c.needs, (c.procedures, (c.entries, (c.spans, c.steps))))))))

abbrev whole : Parts → Contents
whole p = record {
  parties = p.0;
  inputs = p.1.0;
  cells = p.1.1.0;
  tables = p.1.1.1.0;
  needs = p.1.1.1.1.0;
  procedures = p.1.1.1.1.1.0;
  entries = p.1.1.1.1.1.1.0;
  spans = p.1.1.1.1.1.1.1.0;
  steps = p.1.1.1.1.1.1.1.1;
}

pub same_contents : (x y : Contents) → IsProp (x ≡ y)
same_contents x y = Coded-set (code_by Parts coded_parts parts whole (λ _. refl)) x y
