use Rattle.std.proofs.Common.{◌≡◌, refl, ap, ◌∙◌, arith}
use Rattle.layout.specs.Program.{Program}
use Rattle.package.specs.Loads.{tree_of}
use Rattle.package.proofs.Sets as accepted
use Rattle.rules.specs.Running.{State}
use Rattle.rules.specs.Calls.{cycle, cycle_answer, kept}
use Rattle.rules.proofs.Steps.{cycle_bounded_lem}
use Rattle.running.specs.States.{state_of, held_of}
use Rattle.running.specs.Parts.{assembled}
use Rattle.running.proofs.Going.{same_program}
use Rattle.oracle_laws.specs.Sets.{Sets}
use Rattle.running.specs.Entries.{program_of}
use Rattle.controller.specs.Holding.{says, built}
use Rattle.controller.proofs.Says.{same_sets}
use Rattle.controller.proofs.controller.Controller.cycle.Goals as goal

pub returns : goal.returns
returns g c =
    let h = c.args.self.now.held in
    let A = built g.A.Kind.FrameKind.meaning g.A.Kind.GrantKind.widening g.A.Oracle.WriteOracle.sets h in
    let names = same_sets (g.A.Oracle.WriteOracle.answers c.args.self.now.oracle) (g.A.Oracle.WriteOracle.sets (says h)) c.args.self.now.serves in
    let ran : state_of c.run_cycle.new.work ≡ cycle A (says h) (held_of c.args.self.now.work) =
    c.run_cycle.ensures
    ∙ ap (λ (s : Sets). cycle (assembled g.A.Kind.FrameKind.meaning g.A.Kind.GrantKind.widening s) (program_of h) (held_of c.args.self.now.work)) names
    ∙ ap (λ (P : Program). cycle A P (held_of c.args.self.now.work)) (same_program h) in
    let b = cycle_bounded_lem A (tree_of h) (accepted.kept h).0 (held_of c.args.self.now.work) in
    record {
      answer = ap cycle_answer ran;
      holds = ap kept ran;
      brief = (omega (arith, ap (λ (s : State). s.steps) ran, b.brief), omega (arith, ap (λ (s : State). s.steps) ran, ap (λ (s : State). s.refused) ran, b.refused));
      keeps = (refl, refl);
    }
