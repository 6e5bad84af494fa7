-- Where the bodies of procedures lie.
use Rattle.std.proofs.Common.{◌≡◌, ℕ, zero, suc, ◌+◌, ◌-◌, ◌<◌, ◌≤◌, List, [], ◌∷◌, ◌++◌, length, get_or, take, drop, sym, refl, ap, ◌∙◌, subst, arith, length-append, length-drop}
use lib.Seq.{drop-append_seam}
use Rattle.std.proofs.lemmas.List.{get_or-take}
use Rattle.layout.specs.declared.Procedure.{Procedure}
use Rattle.layout.specs.declared.Span.{Span}
use Rattle.layout.specs.Tree.{Block, numbered_block}
use Rattle.layout.specs.Layout.{encode_commands, encode_block}
use Rattle.layout.specs.Folds.{size_block, highest_commands, highest_block, spans_block}
use Rattle.layout.specs.Limits.{KeepsBlock}
use Rattle.layout.specs.Declarations.{Contents, heights_of, heights}
use Rattle.layout.specs.Accepted.{below, LawfulProcedure, LawfulProcedures, Lie, all_spans, Lawful}
use Rattle.layout.specs.Program.{Program, body, no_block}
use Rattle.layout.proofs.Sizes.{spans_size_block}
use Rattle.oracle_laws.specs.Blocks.{commands}
use Rattle.oracle_laws.proofs.Lying.{Laid, further, laid_taken}
use Rattle.rules.specs.declared.Context.{Context}
use Rattle.rules.specs.Assembly.{Assembly}
use Rattle.rules.specs.Running.{State, no_procedure, run_commands, run_block}
use Rattle.running.specs.Levels.{capped}
use Rattle.running.proofs.Laying.{Lay, lay_as, lay_block}

pub runs_commands : (A : Assembly) (P : Program) (call : ℕ → Context → State → State) (b : Block) (r : Context) (s : State) → run_block A P call b r s ≡ run_commands A P call (commands b) r s
runs_commands A P call (numbered_block n cs) r s = refl

-- what stands somewhere stands further on behind others
laid_later : {X : Type 0} (us all : List X) (m : ℕ) (ys : List X) → Laid all m ys → Laid (us ++ all) (length us + m) ys
laid_later us all m ys h = (h.0, further (us ++ all) (length us) m ∙ ap (drop m) (drop-append_seam us all) ∙ h.1)

-- procedure q among these, with the number of its body, where its spans stand
procedure_at_lem : (c : Contents) (k n : ℕ) (ps : List Procedure) (bs : List Block) → LawfulProcedures c k n ps bs → (q : ℕ) → q < length ps → (m : ℕ) × LawfulProcedure c (k + q) (n + m) (get_or ps q no_procedure) (get_or bs q no_block) × Laid (all_spans ps bs) m (spans_block (get_or ps q no_procedure).start (get_or bs q no_block))
procedure_at_lem c k n [] bs h q l = absurd (omega arith)
procedure_at_lem c k n (p ∷ ps) [] h q l = absurd h
procedure_at_lem c k n (p ∷ ps) (b ∷ bs) h zero l =
    let e : k ≡ k + 0 = omega arith in
    let f : n ≡ n + 0 = omega arith in
    (0, subst (λ (x : ℕ). LawfulProcedure c x (n + 0) p b) e (subst (λ (x : ℕ). LawfulProcedure c k x p b) f h.0), (all_spans ps bs, refl))
procedure_at_lem c k n (p ∷ ps) (b ∷ bs) h (suc q) l =
    let i = procedure_at_lem c (k + 1) (n + size_block b) ps bs h.1 q (omega arith) in
    let e : k + 1 + q ≡ k + suc q = omega arith in
    let f : n + size_block b + i.0 ≡ n + (size_block b + i.0) = omega arith in (
      size_block b + i.0,
      subst (λ (x : ℕ). LawfulProcedure c x (n + (size_block b + i.0)) (get_or ps q no_procedure) (get_or bs q no_block)) e (subst (λ (x : ℕ). LawfulProcedure c (k + 1 + q) x (get_or ps q no_procedure) (get_or bs q no_block)) f i.1),
      subst (λ (x : ℕ). Laid (spans_block p.start b ++ all_spans ps bs) (x + i.0) (spans_block (get_or ps q no_procedure).start (get_or bs q no_block))) (spans_size_block b p.start) (laid_later (spans_block p.start b) (all_spans ps bs) i.0 _ i.2),
    )

body_lies : (bytes : List ℕ) (ps : List Procedure) (bs : List Block) → Lie bytes ps bs → (q : ℕ) → q < length ps → ((get_or ps q no_procedure).start + (get_or ps q no_procedure).length ≤ length bytes) × (take (get_or ps q no_procedure).length (drop (get_or ps q no_procedure).start bytes) ≡ encode_block (get_or bs q no_block))
body_lies bytes [] bs h q l = absurd (omega arith)
body_lies bytes (p ∷ ps) [] h q l = absurd h
body_lies bytes (p ∷ ps) (b ∷ bs) h zero l = h.0
body_lies bytes (p ∷ ps) (b ∷ bs) h (suc q) l = body_lies bytes ps bs h.1 q (omega arith)

module _ (bytes : List ℕ) (P : Program) (laws : Lawful bytes P.contents P.bodies) (short : length bytes ≤ 8192) where
  abbrev C : Contents
  C = P.contents

  abbrev proc : ℕ → Procedure
  proc q = get_or C.procedures q no_procedure

  -- the height of procedure q, by the heights of those below k
  pub height_below : (k q : ℕ) → q < k → get_or (below C k).heights q 0 ≡ get_or (heights C) q 0
  height_below k q l = get_or-take k (heights C) q 0 l

  height_at : (ps : List Procedure) (q : ℕ) → get_or (heights_of ps) q 0 ≡ (get_or ps q no_procedure).height
  height_at [] q = refl
  height_at (p ∷ ps) zero = refl
  height_at (p ∷ ps) (suc q) = height_at ps q

  pub height_is : (q : ℕ) → get_or (heights C) q 0 ≡ (proc q).height
  height_is q = height_at C.procedures q

  module _ (q : ℕ) (l : q < length C.procedures) where
    pub lawful : (m : ℕ) × LawfulProcedure C (0 + q) (0 + m) (proc q) (body P q) × Laid (all_spans C.procedures P.bodies) m (spans_block (proc q).start (body P q))
    lawful = procedure_at_lem C 0 0 C.procedures P.bodies laws.procedures q l

    pub lies : ((proc q).start + (proc q).length ≤ length bytes) × (take (proc q).length (drop (proc q).start bytes) ≡ encode_block (body P q))
    lies = body_lies bytes C.procedures P.bodies laws.lie q l

    pub low : (1 ≤ (proc q).height) × ((proc q).height ≤ 8)
    low = (omega (arith, lawful.1.height), lawful.1.low)

  -- the body of a procedure lies where its procedure says
  lay_tree : (q : ℕ) → q < length C.procedures → (b : Block) → body P q ≡ b → Lay bytes C q 0 (proc q).height (capped ((proc q).block + 1)) (proc q).start (capped ((proc q).start + (proc q).length)) (commands b)
  lay_tree q l (numbered_block i cs) is =
      let w = lawful q l in
      let m : ℕ = w.0 in
      let zq : 0 + q ≡ q = omega arith in
      let zm : 0 + m ≡ m = omega arith in
      let keeps : KeepsBlock (below C q) 0 m (proc q).start (numbered_block i cs) = subst (λ (b : Block). KeepsBlock (below C q) 0 m (proc q).start b) is (subst (λ (x : ℕ). KeepsBlock (below C x) 0 m (proc q).start (body P q)) zq (subst (λ (x : ℕ). KeepsBlock (below C (0 + q)) 0 x (proc q).start (body P q)) zm w.1.body)) in
      let long : (proc q).length ≡ length (encode_commands cs) = w.1.long ∙ ap (λ (b : Block). length (encode_block b)) is in
      let there : Laid C.spans m (spans_block (proc q).start (numbered_block i cs)) = subst (λ (ss : List Span). Laid ss m (spans_block (proc q).start (numbered_block i cs))) (sym laws.spans) (subst (λ (b : Block). Laid (all_spans C.procedures P.bodies) m (spans_block (proc q).start b)) is w.2) in
      let high : (proc q).height ≡ 1 + highest_commands (below C q).heights cs = w.1.height ∙ ap (λ (x : ℕ). 1 + highest_block (below C x).heights (body P q)) zq ∙ ap (λ (b : Block). 1 + highest_block (below C q).heights b) is in
      let shown : length C.spans - m ≡ length (spans_block (proc q).start (numbered_block i cs)) + length there.0 = sym (length-drop m C.spans) ∙ ap length there.1 ∙ length-append (spans_block (proc q).start (numbered_block i cs)) there.0 in
      let inside : (proc q).start + length (encode_commands cs) ≤ length bytes = omega (arith, (lies q l).0, long) in
      let few : m + size_block (numbered_block i cs) ≤ 256 = omega (arith, shown, spans_size_block (numbered_block i cs) (proc q).start, laws.few_blocks) in
      lay_as bytes C (omega (arith, w.1.number)) refl (omega (arith, long, inside, short))
      (lay_block bytes C q 0 (proc q).height m (proc q).start i cs keeps (laid_taken bytes (proc q).start (proc q).length (encode_commands cs) ((lies q l).1 ∙ ap encode_block is)) inside there few (omega (arith, high)))

  pub lay_body : (q : ℕ) → q < length C.procedures → Lay bytes C q 0 (proc q).height (capped ((proc q).block + 1)) (proc q).start (capped ((proc q).start + (proc q).length)) (commands (body P q))
  lay_body q l = lay_tree q l (body P q) refl
