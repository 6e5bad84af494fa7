-- Each block lies in the bytes where its span says, and each body where its procedure says.
use Rattle.std.proofs.Common.{◌≡◌, ℕ, zero, suc, ◌+◌, ◌<◌, List, [], ◌∷◌, ◌++◌, length, get_or, take, drop, sym, refl, ap, ◌∙◌, subst, append_assoc, arith, take-append-drop, drop-drop}
use Rattle.std.specs.List.{AllZip}
use Rattle.std.proofs.Math.Seq.{take-append_seam, drop-append_seam}
use Rattle.std.proofs.lemmas.Slice.Zip.{AllZip-long}
use Rattle.layout.specs.declared.Procedure.{Procedure}
use Rattle.layout.specs.declared.Span.{Span}
use Rattle.layout.specs.Tree.{Choice, when_place, try_frame, Command, plain_command, choose_block, loop_block, grant_block, call_procedure, Commands, no_commands, then_command, Block, numbered_block}
use Rattle.layout.specs.Layout.{choose, command_bytes, flat, encode_commands, encode_block, choice_head, loop_head, grant_head}
use Rattle.layout.specs.Folds.{spans, spans_commands, spans_block}
use Rattle.layout.specs.Declarations.{Declaration}
use Rattle.layout.specs.Accepted.{Lie, all_spans, Lawful}
use Rattle.layout.specs.Program.{Program, program, body, no_block}
use Rattle.oracle_laws.specs.Blocks.{inside, inside_commands, entered, entered_all, blocks, block}

module _ {X : Type 0} (all : List X) where
  -- these stand at `at`
  abbrev pub Laid : ℕ → List X → Type 0
  Laid at ys = (suf : List X) × (drop at all ≡ ys ++ suf)

  pub further : (at n : ℕ) → drop (at + n) all ≡ drop n (drop at all)
  further at n = sym (drop-drop n at all)

  -- the front and the rest of what stands at `at`
  pub laid_front : (at : ℕ) (ys zs : List X) → Laid at (ys ++ zs) → Laid at ys
  laid_front at ys zs h = (zs ++ h.0, h.1 ∙ append_assoc ys zs h.0)

  pub laid_rest : (at : ℕ) (ys zs : List X) → Laid at (ys ++ zs) → Laid (at + length ys) zs
  laid_rest at ys zs h =
      (h.0, further at (length ys) ∙ ap (drop (length ys)) (h.1 ∙ append_assoc ys zs h.0) ∙ drop-append_seam ys (zs ++ h.0))

  -- what is taken stands there
  pub laid_taken : (at n : ℕ) (ys : List X) → take n (drop at all) ≡ ys → Laid at ys
  laid_taken at n ys e = (drop n (drop at all), sym (take-append-drop n (drop at all)) ∙ ap (λ (r : List X). r ++ drop n (drop at all)) e)

module _ (all : List ℕ) where
  -- the bytes of a span are the block
  abbrev Holds : Span → Block → Type 0
  Holds s b = take s.length (drop s.start all) ≡ encode_block b

  abbrev Pairs : List Span → List Block → Type 0
  Pairs = AllZip Holds

  pairs_append : (ss : List Span) (bs : List Block) (ts : List Span) (cs : List Block) → Pairs ss bs → Pairs ts cs → Pairs (ss ++ ts) (bs ++ cs)
  pairs_append [] [] ts cs h k = k
  pairs_append [] (b ∷ bs) ts cs h k = absurd h
  pairs_append (s ∷ ss) [] ts cs h k = absurd h
  pairs_append (s ∷ ss) (b ∷ bs) ts cs h k = (h.0, pairs_append ss bs ts cs h.1 k)

  pairs_at : (ss : List Span) (bs : List Block) (n : ℕ) (none : Span) → Pairs ss bs → n < length ss → Holds (get_or ss n none) (get_or bs n no_block)
  pairs_at [] bs n none h l = absurd (omega arith)
  pairs_at (s ∷ ss) [] n none h l = absurd h
  pairs_at (s ∷ ss) (b ∷ bs) zero none h l = h.0
  pairs_at (s ∷ ss) (b ∷ bs) (suc n) none h l = pairs_at ss bs n none h.1 (omega arith)

  -- behind the n bytes in front of a command's blocks
  pub laid_behind : (at n : ℕ) (bs ys : List ℕ) → ((suf : List ℕ) → drop n (bs ++ suf) ≡ ys ++ suf) → Laid all at bs → Laid all (at + n) ys
  laid_behind at n bs ys e h = (h.0, further all at n ∙ ap (drop n) h.1 ∙ e h.0)

  pub choice_behind : (c : Choice) (y z suf : List ℕ) → drop (choice_head c) (command_bytes (choose c y z) ++ suf) ≡ (y ++ z) ++ suf
  choice_behind (when_place a) y z suf = refl
  choice_behind (try_frame g a) y z suf = refl

  mutual
    pairs_in : (c : Command) (at : ℕ) → Laid all at (command_bytes (flat c)) → Pairs (spans at c) (inside c)
    pairs_in (plain_command o c) at h = tt
    pairs_in (choose_block c b e) at h =
        let i = laid_behind at (choice_head c) (command_bytes (choose c (encode_block b) (encode_block e))) (encode_block b ++ encode_block e) (choice_behind c (encode_block b) (encode_block e)) h in
        pairs_append (spans_block (at + choice_head c) b) (entered b) (spans_block (at + choice_head c + length (encode_block b)) e) (entered e) (pairs_block b (at + choice_head c) (laid_front all (at + choice_head c) (encode_block b) (encode_block e) i)) (pairs_block e (at + choice_head c + length (encode_block b)) (laid_rest all (at + choice_head c) (encode_block b) (encode_block e) i))
    pairs_in (loop_block a k b) at h = pairs_block b (at + loop_head) (laid_behind at loop_head (command_bytes (flat (loop_block a k b))) (encode_block b) (λ suf. refl) h)
    pairs_in (grant_block g b) at h = pairs_block b (at + grant_head) (laid_behind at grant_head (command_bytes (flat (grant_block g b))) (encode_block b) (λ suf. refl) h)
    pairs_in (call_procedure p) at h = tt

    pairs_all : (cs : Commands) (at : ℕ) → Laid all at (encode_commands cs) → Pairs (spans_commands at cs) (inside_commands cs)
    pairs_all no_commands at h = tt
    pairs_all (then_command c cs) at h =
        pairs_append (spans at c) (inside c) (spans_commands (at + length (command_bytes (flat c))) cs) (inside_commands cs) (pairs_in c at (laid_front all at (command_bytes (flat c)) (encode_commands cs) h)) (pairs_all cs (at + length (command_bytes (flat c))) (laid_rest all at (command_bytes (flat c)) (encode_commands cs) h))

    pairs_block : (b : Block) (at : ℕ) → Laid all at (encode_block b) → Pairs (spans_block at b) (entered b)
    pairs_block (numbered_block i cs) at h = (ap (take (length (encode_commands cs))) h.1 ∙ take-append_seam (encode_commands cs) h.0, pairs_all cs at h)

  pairs_bodies : (ps : List Procedure) (bs : List Block) → Lie all ps bs → Pairs (all_spans ps bs) (entered_all bs)
  pairs_bodies [] [] h = tt
  pairs_bodies [] (b ∷ bs) h = absurd h
  pairs_bodies (p ∷ ps) [] h = absurd h
  pairs_bodies (p ∷ ps) (b ∷ bs) h =
      pairs_append (spans_block p.start b) (entered b) (all_spans ps bs) (entered_all bs) (pairs_block b p.start (laid_taken all p.start p.length (encode_block b) h.0.1)) (pairs_bodies ps bs h.1)

  pub lie_length : (ps : List Procedure) (bs : List Block) → Lie all ps bs → length ps ≡ length bs
  lie_length [] [] h = refl
  lie_length [] (b ∷ bs) h = absurd h
  lie_length (p ∷ ps) [] h = absurd h
  lie_length (p ∷ ps) (b ∷ bs) h = ap suc (lie_length ps bs h.1)

  lie_at : (ps : List Procedure) (bs : List Block) (n : ℕ) (none : Procedure) → Lie all ps bs → n < length ps → take (get_or ps n none).length (drop (get_or ps n none).start all) ≡ encode_block (get_or bs n no_block)
  lie_at [] bs n none h l = absurd (omega arith)
  lie_at (p ∷ ps) [] n none h l = absurd h
  lie_at (p ∷ ps) (b ∷ bs) zero none h l = h.0.1
  lie_at (p ∷ ps) (b ∷ bs) (suc n) none h l = lie_at ps bs n none h.1 (omega arith)

-- of an accepted package
module _ (all : List ℕ) (ds : List Declaration) (laws : Lawful all (program ds).contents (program ds).bodies) where
  abbrev P : Program
  P = program ds

  pairs : Pairs all P.contents.spans (blocks P)
  pairs = subst (λ (ss : List Span). Pairs all ss (blocks P)) (sym laws.spans) (pairs_bodies all P.contents.procedures P.bodies laws.lie)

  pub as_many_blocks : length P.contents.spans ≡ length (blocks P)
  as_many_blocks = sym (AllZip-long (Holds all) P.contents.spans (blocks P) pairs)

  pub block_lies : (n : ℕ) (none : Span) → n < length P.contents.spans → take (get_or P.contents.spans n none).length (drop (get_or P.contents.spans n none).start all) ≡ encode_block (block P n)
  block_lies n none l = pairs_at all P.contents.spans (blocks P) n none pairs l

  pub as_many_bodies : length P.contents.procedures ≡ length P.bodies
  as_many_bodies = lie_length all P.contents.procedures P.bodies laws.lie

  pub body_lies : (p : ℕ) (none : Procedure) → p < length P.contents.procedures → take (get_or P.contents.procedures p none).length (drop (get_or P.contents.procedures p none).start all) ≡ encode_block (body P p)
  body_lies p none l = lie_at all P.contents.procedures P.bodies p none laws.lie l
