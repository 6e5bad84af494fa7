-- What holds of every accepted package, declaration by declaration.
use Rattle.std.proofs.Common.{◌≡◌, ℕ, ◌+◌, ◌<◌, ◌≤◌, false, eqb, ltb, List, [], ◌∷◌, ◌++◌, map, length, get_or, take, drop, sym, refl, ap, ◌∙◌, subst, append_assoc, append-nil, arith, length-append, length-drop, drop-drop}
use Rattle.std.proofs.lemmas.List.{length_push, map-append}
use Rattle.std.proofs.Math.ListN.{length-map}
use Rattle.std.proofs.Math.Seq.{take-append_seam, take-append-le, drop-append_seam}
use Rattle.std.specs.List.{All}
use Rattle.std.proofs.lemmas.List.Elements.{All-nil, All-push, All-weaker}
use Rattle.std.proofs.lemmas.Bool.{ltb-true, leb-true, and_parts, eqb-false, not-true}
use Rattle.layout.specs.declared.Input.{Input}
use Rattle.layout.specs.declared.Table.{Table}
use Rattle.layout.specs.declared.Procedure.{Procedure}
use Rattle.layout.specs.declared.Span.{Span}
use Rattle.layout.specs.Tree.{Block}
use Rattle.layout.specs.Bytes.{two}
use Rattle.layout.specs.Layout.{encode_block}
use Rattle.layout.specs.Folds.{size_block, most_block, highest_block, spans_block}
use Rattle.layout.specs.Scope.{Scope}
use Rattle.layout.specs.Limits.{KeepsBlock}
use Rattle.layout.specs.Declarations.{Simple, party_item, input_item, cell_item, table_item, device_item, entry_item, Declaration, simple_declaration, procedure_declaration, proc, item_bytes, item, lead, proc_head, Contents, nothing, body_steps, scope, procedure, declare_simple, declare}
use Rattle.layout.specs.Packages.{Keep, KeepAll, encode, contents_from}
use Rattle.layout.specs.Accepted.{bodies, below, LawfulProcedure, LawfulProcedures, Lie, all_spans, cycle_most, HoldsCells, Lawful, AcceptedLawful}
use Rattle.layout.proofs.Sizes.{spans_size_block}
use Rattle.layout.proofs.Heights.{low_block}

-- what the order of the sorts leaves undeclared
pub record Early (latest : ℕ) (c : Contents) (bs : List Block) : Type 0 where
  pub tables : latest < 0x84 → c.tables ≡ []
  pub procedures : latest < 0x86 → c.procedures ≡ []
  pub bodies : latest < 0x86 → bs ≡ []
  pub entries : latest < 0x87 → c.entries ≡ []

-- procedures

carry_procedure : (c c' : Contents) (k n : ℕ) (p : Procedure) (b : Block) → length c.parties ≤ length c'.parties → below c' k ≡ below c k → LawfulProcedure c k n p b → LawfulProcedure c' k n p b
carry_procedure c c' k n p b more same h = record {
  party = omega (arith, h.party);
  body = subst (λ (w : Scope). KeepsBlock w 0 n p.start b) (sym same) h.body;
  long = h.long;
  number = h.number;
  height = h.height ∙ ap (λ (w : Scope). 1 + highest_block w.heights b) (sym same);
  low = h.low;
  steps = h.steps ∙ ap (λ (w : Scope). most_block w.steps b) (sym same);
  brief = h.brief;
}

carry_procedures : (c c' : Contents) (last : ℕ) → length c.parties ≤ length c'.parties → ((j : ℕ) → j < last → below c' j ≡ below c j) → (k n : ℕ) (ps : List Procedure) (bs : List Block) → k + length ps ≤ last → LawfulProcedures c k n ps bs → LawfulProcedures c' k n ps bs
carry_procedures c c' last more same k n [] [] l h = tt
carry_procedures c c' last more same k n [] (b ∷ bs) l h = h
carry_procedures c c' last more same k n (p ∷ ps) [] l h = h
carry_procedures c c' last more same k n (p ∷ ps) (b ∷ bs) l h =
    (carry_procedure c c' k n p b more (same k (omega arith)) h.0, carry_procedures c c' last more same (k + 1) (n + size_block b) ps bs (omega arith) h.1)

-- one procedure more, behind as many blocks as lie in those before
push_procedure : (c : Contents) (k n : ℕ) (ps : List Procedure) (bs : List Block) (p : Procedure) (b : Block) → LawfulProcedures c k n ps bs → LawfulProcedure c (k + length ps) (n + length (all_spans ps bs)) p b → LawfulProcedures c k n (ps ++ (p ∷ [])) (bs ++ (b ∷ []))
push_procedure c k n [] [] p b h i =
    let e : k + 0 ≡ k = omega arith in
    let f : n + 0 ≡ n = omega arith in
    (rw (e, f) at i, tt)
push_procedure c k n [] (x ∷ bs) p b h i = absurd h
push_procedure c k n (q ∷ ps) [] p b h i = absurd h
push_procedure c k n (q ∷ ps) (x ∷ bs) p b h i =
    let s = spans_size_block x q.start in
    let l = length-append (spans_block q.start x) (all_spans ps bs) in
    let e : k + length (q ∷ ps) ≡ k + 1 + length ps = omega arith in
    let f : n + length (all_spans (q ∷ ps) (x ∷ bs)) ≡ n + size_block x + length (all_spans ps bs) = omega arith in
    (h.0, push_procedure c (k + 1) (n + size_block x) ps bs p b h.1 (rw (e, f) at i))

push_spans : (c : Contents) (k n : ℕ) (ps : List Procedure) (bs : List Block) (p : Procedure) (b : Block) → LawfulProcedures c k n ps bs → all_spans (ps ++ (p ∷ [])) (bs ++ (b ∷ [])) ≡ all_spans ps bs ++ spans_block p.start b
push_spans c k n [] [] p b h = append-nil (spans_block p.start b)
push_spans c k n [] (x ∷ bs) p b h = absurd h
push_spans c k n (q ∷ ps) [] p b h = absurd h
push_spans c k n (q ∷ ps) (x ∷ bs) p b h =
    ap (λ (t : List Span). spans_block q.start x ++ t) (push_spans c (k + 1) (n + size_block x) ps bs p b h.1)
    ∙ sym (append_assoc (spans_block q.start x) (all_spans ps bs) (spans_block p.start b))

push_cycle : (xs es : List ℕ) (e : ℕ) → cycle_most xs (es ++ (e ∷ [])) ≡ cycle_most xs es + 1 + get_or xs e 0
push_cycle xs [] e = omega arith
push_cycle xs (x ∷ es) e = let r = push_cycle xs es e in omega arith

take_front : {X : Type 0} (f : X → ℕ) (xs ys : List X) (j : ℕ) → j ≤ length xs → take j (map f (xs ++ ys)) ≡ take j (map f xs)
take_front f xs ys j h = let l = length-map xs f in ap (take j) (map-append f xs ys) ∙ take-append-le j (map f xs) (map f ys) (omega arith)

take_whole : {X : Type 0} (f : X → ℕ) (xs ys : List X) → take (length xs) (map f (xs ++ ys)) ≡ map f xs
take_whole f xs ys = ap (take (length xs)) (map-append f xs ys) ∙ ap (λ (n : ℕ). take n (map f xs ++ map f ys)) (sym (length-map xs f)) ∙ take-append_seam (map f xs) (map f ys)

scopes : (i p t d : ℕ) (hs ks ss us : List ℕ) → hs ≡ ks → ss ≡ us → ◌≡◌ {A = Scope} (record { inputs = i; places = p; tables = t; devices = d; heights = hs; steps = ss }) (record { inputs = i; places = p; tables = t; devices = d; heights = ks; steps = us })
scopes i p t d hs ks ss us e f = rw (e, f)

push_lie : (bytes : List ℕ) (ps : List Procedure) (bs : List Block) (p : Procedure) (b : Block) → Lie bytes ps bs → (p.start + p.length ≤ length bytes) × (take p.length (drop p.start bytes) ≡ encode_block b) → Lie bytes (ps ++ (p ∷ [])) (bs ++ (b ∷ []))
push_lie bytes [] [] p b h i = (i, tt)
push_lie bytes [] (x ∷ bs) p b h i = absurd h
push_lie bytes (q ∷ ps) [] p b h i = absurd h
push_lie bytes (q ∷ ps) (x ∷ bs) p b h i = (h.0, push_lie bytes ps bs p b h.1 i)

-- the laws, one declaration after another

no_procedures : (c c' : Contents) (ps : List Procedure) (bs : List Block) → ps ≡ [] → bs ≡ [] → LawfulProcedures c' 0 0 ps bs
no_procedures c c' ps bs e f = rw (e, f) tt

lawful_simple : (bytes : List ℕ) (x : Simple) (c : Contents) (bs : List Block) (at latest : ℕ) → Lawful bytes c bs → Early latest c bs → Keep c at latest (simple_declaration x) → Lawful bytes (declare_simple c x) bs × Early (lead (item (simple_declaration x))) (declare_simple c x) bs
lawful_simple bytes (party_item g) c bs at latest h e k =
    let o = k.order in
    let l = length_push c.parties g in (
      record {
        few_parties = omega (arith, ltb-true _ _ k.limit);
        few_places = h.few_places;
        few_tables = h.few_tables;
        few_devices = h.few_devices;
        few_procedures = h.few_procedures;
        few_entries = h.few_entries;
        few_blocks = h.few_blocks;
        owned = All-weaker (λ (i : Input). i.party < length c.parties) (λ (i : Input). i.party < length (c.parties ++ (g ∷ []))) (λ i q. omega arith) c.inputs h.owned;
        cells = h.cells;
        procedures = no_procedures c _ _ _ (e.procedures (omega arith)) (e.bodies (omega arith));
        lie = h.lie;
        spans = h.spans;
        entries = h.entries;
        steps = h.steps;
        brief = h.brief;
      },
      record { tables = λ q. e.tables (omega arith); procedures = λ q. e.procedures (omega arith); bodies = λ q. e.bodies (omega arith); entries = λ q. e.entries (omega arith) },
    )
lawful_simple bytes (input_item i) c bs at latest h e k =
    let o = k.order in
    let l = length_push c.inputs i in (
      record {
        few_parties = h.few_parties;
        few_places = omega (arith, ltb-true _ _ k.limit);
        few_tables = h.few_tables;
        few_devices = h.few_devices;
        few_procedures = h.few_procedures;
        few_entries = h.few_entries;
        few_blocks = h.few_blocks;
        owned = All-push (λ (i : Input). i.party < length c.parties) c.inputs i h.owned (ltb-true _ _ k.names);
        cells = subst (λ (ts : List Table). All (HoldsCells (declare_simple c (input_item i))) ts) (sym (e.tables (omega arith))) (All-nil _);
        procedures = no_procedures c _ _ _ (e.procedures (omega arith)) (e.bodies (omega arith));
        lie = h.lie;
        spans = h.spans;
        entries = h.entries;
        steps = h.steps;
        brief = h.brief;
      },
      record { tables = λ q. e.tables (omega arith); procedures = λ q. e.procedures (omega arith); bodies = λ q. e.bodies (omega arith); entries = λ q. e.entries (omega arith) },
    )
lawful_simple bytes (cell_item x) c bs at latest h e k =
    let o = k.order in
    let l = length_push c.cells x in (
      record {
        few_parties = h.few_parties;
        few_places = omega (arith, ltb-true _ _ k.limit);
        few_tables = h.few_tables;
        few_devices = h.few_devices;
        few_procedures = h.few_procedures;
        few_entries = h.few_entries;
        few_blocks = h.few_blocks;
        owned = h.owned;
        cells = subst (λ (ts : List Table). All (HoldsCells (declare_simple c (cell_item x))) ts) (sym (e.tables (omega arith))) (All-nil _);
        procedures = no_procedures c _ _ _ (e.procedures (omega arith)) (e.bodies (omega arith));
        lie = h.lie;
        spans = h.spans;
        entries = h.entries;
        steps = h.steps;
        brief = h.brief;
      },
      record { tables = λ q. e.tables (omega arith); procedures = λ q. e.procedures (omega arith); bodies = λ q. e.bodies (omega arith); entries = λ q. e.entries (omega arith) },
    )
lawful_simple bytes (table_item x) c bs at latest h e k =
    let o = k.order in
    let l = length_push c.tables x in
    let n = and_parts _ _ k.names in (
      record {
        few_parties = h.few_parties;
        few_places = h.few_places;
        few_tables = omega (arith, ltb-true _ _ k.limit);
        few_devices = h.few_devices;
        few_procedures = h.few_procedures;
        few_entries = h.few_entries;
        few_blocks = h.few_blocks;
        owned = h.owned;
        cells = All-push (HoldsCells c) c.tables x h.cells (some x.length (not-true _ k.length), leb-true _ _ (and_parts _ _ n.0).0, leb-true _ _ n.1);
        procedures = no_procedures c _ _ _ (e.procedures (omega arith)) (e.bodies (omega arith));
        lie = h.lie;
        spans = h.spans;
        entries = h.entries;
        steps = h.steps;
        brief = h.brief;
      },
      record { tables = λ q. absurd (omega arith); procedures = λ q. e.procedures (omega arith); bodies = λ q. e.bodies (omega arith); entries = λ q. e.entries (omega arith) },
    )
  where
    some : (m : ℕ) → eqb m 0 ≡ false → 0 < m
    some m z = let f = eqb-false m 0 z in omega arith
lawful_simple bytes (device_item g) c bs at latest h e k =
    let o = k.order in
    let l = length_push c.needs g in (
      record {
        few_parties = h.few_parties;
        few_places = h.few_places;
        few_tables = h.few_tables;
        few_devices = omega (arith, ltb-true _ _ k.limit);
        few_procedures = h.few_procedures;
        few_entries = h.few_entries;
        few_blocks = h.few_blocks;
        owned = h.owned;
        cells = h.cells;
        procedures = no_procedures c _ _ _ (e.procedures (omega arith)) (e.bodies (omega arith));
        lie = h.lie;
        spans = h.spans;
        entries = h.entries;
        steps = h.steps;
        brief = h.brief;
      },
      record { tables = λ q. absurd (omega arith); procedures = λ q. e.procedures (omega arith); bodies = λ q. e.bodies (omega arith); entries = λ q. e.entries (omega arith) },
    )
lawful_simple bytes (entry_item p) c bs at latest h e k =
    let o = k.order in
    let l = length_push c.entries p in
    let s = push_cycle (body_steps c) c.entries p in (
      record {
        few_parties = h.few_parties;
        few_places = h.few_places;
        few_tables = h.few_tables;
        few_devices = h.few_devices;
        few_procedures = h.few_procedures;
        few_entries = omega (arith, ltb-true _ _ k.limit);
        few_blocks = h.few_blocks;
        owned = h.owned;
        cells = h.cells;
        procedures = carry_procedures c (declare_simple c (entry_item p)) (length c.procedures) (omega arith) (λ j q. refl) 0 0 c.procedures bs (omega arith) h.procedures;
        lie = h.lie;
        spans = h.spans;
        entries = All-push (λ (x : ℕ). x < length c.procedures) c.entries p h.entries (ltb-true _ _ k.names);
        steps = omega (arith, h.steps);
        brief = leb-true _ _ k.steps;
      },
      record { tables = λ q. absurd (omega arith); procedures = λ q. absurd (omega arith); bodies = λ q. absurd (omega arith); entries = λ q. absurd (omega arith) },
    )

lawful_procedure : (bytes : List ℕ) (p : ℕ) (b : Block) (c : Contents) (bs : List Block) (at latest : ℕ) → (at + proc_head + length (encode_block b) ≤ length bytes) × (take (length (encode_block b)) (drop (at + proc_head) bytes) ≡ encode_block b) → Lawful bytes c bs → Early latest c bs → Keep c at latest (procedure_declaration p b) → Lawful bytes (declare c at (procedure_declaration p b)) (bs ++ (b ∷ [])) × Early 0x86 (declare c at (procedure_declaration p b)) (bs ++ (b ∷ []))
lawful_procedure bytes p b c bs at latest there h e k =
    let o = k.order in
    let r = and_parts (ltb (length c.procedures) 32) (ltb (length c.spans) 256) k.limit in
    let x : Procedure = procedure c at p b in
    let d : Contents = declare c at (procedure_declaration p b) in
    let l = length_push c.procedures x in
    let m = length-append c.spans (spans_block (at + proc_head) b) in
    let z = spans_size_block b (at + proc_head) in
    let none : c.entries ≡ [] = e.entries (omega arith) in
    let count : length c.spans ≡ length (all_spans c.procedures bs) = ap length h.spans in
    let here : below d (length c.procedures) ≡ scope c =
    scopes _ _ _ _ _ _ _ _ (take_whole (λ (p : Procedure). p.height) c.procedures (x ∷ [])) (take_whole (λ (p : Procedure). p.steps) c.procedures (x ∷ [])) in
    let earlier : (j : ℕ) → j < length c.procedures → below d j ≡ below c j =
    λ j q. scopes _ _ _ _ _ _ _ _ (take_front (λ (p : Procedure). p.height) c.procedures (x ∷ []) j (omega arith)) (take_front (λ (p : Procedure). p.steps) c.procedures (x ∷ []) j (omega arith)) in
    let low = low_block (scope c) b 0 (length c.spans) (at + proc_head) k.body.fits in
    let new : LawfulProcedure d (0 + length c.procedures) (0 + length (all_spans c.procedures bs)) x b =
    let zero : 0 + length c.procedures ≡ length c.procedures = omega arith in
    let first : 0 + length (all_spans c.procedures bs) ≡ length c.spans = omega arith in
    rw (zero, first)
    (record {
      party = ltb-true _ _ k.names;
      body = subst (λ (w : Scope). KeepsBlock w 0 (length c.spans) (at + proc_head) b) (sym here) k.body.fits;
      long = refl;
      number = refl;
      height = ap (λ (w : Scope). 1 + highest_block w.heights b) (sym here);
      low = omega arith;
      steps = ap (λ (w : Scope). most_block w.steps b) (sym here);
      brief = leb-true _ _ k.steps;
    }) in (
      record {
        few_parties = h.few_parties;
        few_places = h.few_places;
        few_tables = h.few_tables;
        few_devices = h.few_devices;
        few_procedures = omega (arith, ltb-true _ _ r.0);
        few_entries = h.few_entries;
        few_blocks = omega (arith, k.body.few);
        owned = h.owned;
        cells = h.cells;
        procedures = push_procedure d 0 0 c.procedures bs x b (carry_procedures c d (length c.procedures) (omega arith) earlier 0 0 c.procedures bs (omega arith) h.procedures) new;
        lie = push_lie bytes c.procedures bs x b h.lie there;
        spans = ap (λ (t : List Span). t ++ spans_block (at + proc_head) b) h.spans ∙ sym (push_spans c 0 0 c.procedures bs x b h.procedures);
        entries = subst (λ (es : List ℕ). All (λ (n : ℕ). n < length (c.procedures ++ (x ∷ []))) es) (sym none) (All-nil _);
        steps = h.steps ∙ ap (cycle_most (body_steps c)) none ∙ sym (ap (cycle_most (body_steps d)) none);
        brief = h.brief;
      },
      record { tables = λ q. absurd (omega arith); procedures = λ q. absurd (omega arith); bodies = λ q. absurd (omega arith); entries = λ q. none },
    )

-- what is left of the bytes behind one declaration
behind : (bytes xs ys : List ℕ) (at : ℕ) → drop at bytes ≡ xs ++ ys → drop (at + length xs) bytes ≡ ys
behind bytes xs ys at e = sym (drop-drop (length xs) at bytes) ∙ ap (drop (length xs)) e ∙ drop-append_seam xs ys

body_there : (bytes : List ℕ) (p at : ℕ) (y more : List ℕ) → drop at bytes ≡ item_bytes (proc p y) ++ more → (at + proc_head + length y ≤ length bytes) × (take (length y) (drop (at + proc_head) bytes) ≡ y)
body_there bytes p at y more e =
    let l : length (drop at bytes) ≡ length (item_bytes (proc p y) ++ more) = ap length e in
    let m = length-drop at bytes in
    let n = length-append (item_bytes (proc p y)) more in
    (omega arith, ap (take (length y)) (behind bytes (0x86 ∷ p ∷ two (length y) []) (y ++ more) at e) ∙ take-append_seam y more)

all_lawful : (bytes : List ℕ) (ds : List Declaration) (c : Contents) (bs : List Block) (at latest : ℕ) → drop at bytes ≡ encode ds → Lawful bytes c bs → Early latest c bs → KeepAll c at latest ds → Lawful bytes (contents_from c at ds) (bs ++ bodies ds)
all_lawful bytes [] c bs at latest t h e k = subst (Lawful bytes c) (sym (append-nil bs)) h
all_lawful bytes (simple_declaration x ∷ ds) c bs at latest t h e k =
    let n = lawful_simple bytes x c bs at latest h e k.0 in
    all_lawful bytes ds (declare_simple c x) bs _ _ (behind bytes (item_bytes (item (simple_declaration x))) (encode ds) at t) n.0 n.1 k.1
all_lawful bytes (procedure_declaration p b ∷ ds) c bs at latest t h e k =
    let n = lawful_procedure bytes p b c bs at latest (body_there bytes p at (encode_block b) (encode ds) t) h e k.0 in
    subst (Lawful bytes (contents_from c at (procedure_declaration p b ∷ ds))) (append_assoc bs (b ∷ []) (bodies ds))
    (all_lawful bytes ds (declare c at (procedure_declaration p b)) (bs ++ (b ∷ [])) _ _ (behind bytes (item_bytes (item (procedure_declaration p b))) (encode ds) at t) n.0 n.1 k.1)

pub accepted_lawful_lem : AcceptedLawful
accepted_lawful_lem ds k = all_lawful (encode ds) ds nothing [] 0 0 refl start early k.each
  where
    start : Lawful (encode ds) nothing []
    start = record {
      few_parties = omega arith;
      few_places = omega arith;
      few_tables = omega arith;
      few_devices = omega arith;
      few_procedures = omega arith;
      few_entries = omega arith;
      few_blocks = omega arith;
      owned = All-nil _;
      cells = All-nil _;
      procedures = tt;
      lie = tt;
      spans = refl;
      entries = All-nil _;
      steps = refl;
      brief = omega arith;
    }

    early : Early 0 nothing []
    early = record { tables = λ q. refl; procedures = λ q. refl; bodies = λ q. refl; entries = λ q. refl }
