-- A turn keeps what is left to run leading to the goal.
use Rattle.std.proofs.Common.{◌≡◌, ℕ, zero, suc, ◌+◌, ◌-◌, ◌*◌, ◌<◌, ◌≤◌, Bool, true, false, cond, eqb, List, [], ◌∷◌, ◌++◌, length, get_or, take, sym, refl, ap, ◌∙◌, subst, arith, length-take}
use lib.ListN.{length-map}
use Rattle.std.proofs.lemmas.Bool.{ltb-true}
use Rattle.layout.specs.Tree.{Plain, Choice, asked, Command, plain_command, choose_block, loop_block, grant_block, call_procedure, Commands, no_commands, then_command, numbered_block}
use Rattle.layout.specs.Layout.{choose, command_bytes, flat, encode_commands, choice_head, loop_head, grant_head}
use Rattle.layout.specs.Folds.{size, size_block, highest, highest_commands, spans_block}
use Rattle.layout.specs.Limits.{KeepsBlock}
use Rattle.layout.specs.declared.Procedure.{Procedure}
use Rattle.layout.specs.Front.{got}
use Rattle.layout.specs.Declarations.{Contents, heights}
use Rattle.layout.specs.Accepted.{below, Lawful}
use Rattle.layout.specs.Program.{Program, body}
use Rattle.layout.proofs.Sizes.{spans_size_block}
use Rattle.layout.proofs.Completes.{command_long}
use Rattle.oracle_laws.specs.Blocks.{commands}
use Rattle.oracle_laws.proofs.Lying.{Laid, laid_front, laid_rest, laid_behind, choice_behind}
use Rattle.rules.specs.declared.Context.{Context}
use Rattle.rules.specs.Assembly.{Assembly}
use Rattle.rules.specs.Running.{State, at, tick, told, under, granted, lower, takes, decide, turns, either, no_procedure, run_plain, run_commands, entering, calls}
use Rattle.running.specs.declared.levels.Level.{Level}
use Rattle.running.specs.declared.levels.Turns.{Turns}
use Rattle.running.specs.declared.levels.Closing.{Closing}
use Rattle.running.specs.declared.levels.Closing.TheVariants as closing
use Rattle.running.specs.declared.lowering.Blocks.TheVariants.{One, Either}
use Rattle.running.specs.Parts.{named_for}
use Rattle.running.specs.Levels.{running, capped, behind, onward, entered, chosen, act, learned, turn_level, closed_loop, close, turn_of}
use Rattle.running.proofs.Turning.{plain_any, turn_close, turn_front}
use Rattle.running.proofs.Laying.{choice_length, Lay, lay_as, lay_command, lay_spans, lay_ends, lay_next, lay_front, lay_block, block_behind, lay_end}
use Rattle.running.proofs.Bodies.{runs_commands, height_below, height_is, low, lay_body}
use Rattle.running.proofs.Resuming.{Left, leaving, deciding, closes, calls_body, resumes, LoopLies, Fit, Fits, Leads}

module _ (A : Assembly) (bytes : List ℕ) (P : Program) (laws : Lawful bytes P.contents P.bodies) (short : length bytes ≤ 8192) (goal : State) where
  abbrev C : Contents
  C = P.contents

  -- the block on top, with what is left of it behind a command, and the blocks around it
  module _ (t : Level) (ts : List Level) (xs : List Left) (k d h : ℕ) (turn : Commands) (around : Fits bytes P ts xs) (loops : LoopLies bytes P k d h t.end turn t.closing) (room : length ts + (8 - d) + 9 * (h - 1) ≤ 71) (deep : d ≤ 8) (level : k < length P.bodies) (s : State) where
    -- what follows the block, once its commands are done
    abbrev then_on : State → State
    then_on u = resumes A P ts xs (closes A P k turn t.context t.closing u)

    module _ (c : Command) (cs : Commands) (lay : Lay bytes C k d h t.next t.at t.end (then_command c cs)) where
      abbrev rest : ℕ
      rest = length (encode_commands cs)

      -- the block goes on behind the command
      goes_on : (n : ℕ) → n ≡ t.next + size c → Fit bytes P (length ts) (onward t rest n) (leaving cs turn k h d)
      goes_on n e =
          let at-is : t.at + length (command_bytes (flat c)) ≡ t.end - rest = omega (arith, lay_ends bytes C lay) in
          record { lay = lay_as bytes C (sym e) at-is refl (lay_next bytes C lay); loops = loops; room = room; deep = deep; level = level }

    plain_keeps : (o : ℕ) (c : Plain) (cs : Commands) → Lay bytes C k d h t.next t.at t.end (then_command (plain_command o c) cs) → then_on (run_commands A P (calls A P k) (then_command (plain_command o c) cs) t.context s) ≡ goal → Leads A bytes P goal (act A C t (flat (plain_command o c)) (length (encode_commands cs)) ts s)
    plain_keeps o c cs lay same = record {
      lefts = leaving cs turn k h d ∷ xs;
      fits = (goes_on (plain_command o c) cs lay t.next (omega arith), around);
      same =
          ap (λ (u : State). then_on (run_commands A P (calls A P k) cs t.context u))
          (plain_any A.kind A.widen A.widen A.names A.names C [] P.bodies t.at c t.context (tick s)
          ∙ ap (λ (x : ℕ). run_plain A P x c t.context (tick s)) (sym lay.keeps.0.1))
          ∙ same;
    }

    -- ---- choices

    module _ (c : Choice) (i j : ℕ) (bs es cs : Commands) (lay : Lay bytes C k d h t.next t.at t.end (then_command (choose_block c (numbered_block i bs) (numbered_block j es)) cs)) (g : ℕ) where
      abbrev first : ℕ
      first = t.at + choice_head c

      abbrev second : ℕ
      second = first + length (encode_commands bs)

      abbrev other : ℕ
      other = t.next + size_block (numbered_block i bs)

      ends : second + length (encode_commands es) + length (encode_commands cs) ≡ t.end
      ends = omega (arith, lay_ends bytes C lay, choice_length c (encode_commands bs) (encode_commands es))

      both_lie : Laid bytes first (encode_commands bs ++ encode_commands es)
      both_lie = laid_behind bytes t.at (choice_head c) (command_bytes (choose c (encode_commands bs) (encode_commands es))) (encode_commands bs ++ encode_commands es) (choice_behind bytes c (encode_commands bs) (encode_commands es)) (lay_command bytes C lay)

      first_there : Laid C.spans t.next (spans_block first (numbered_block i bs))
      first_there = laid_front C.spans t.next (spans_block first (numbered_block i bs)) (spans_block second (numbered_block j es)) (lay_spans bytes C lay)

      second_there : Laid C.spans other (spans_block second (numbered_block j es))
      second_there =
          subst (λ (m : ℕ). Laid C.spans (t.next + m) (spans_block second (numbered_block j es))) (spans_size_block (numbered_block i bs) first)
          (laid_rest C.spans t.next (spans_block first (numbered_block i bs)) (spans_block second (numbered_block j es)) (lay_spans bytes C lay))

      lay_first : Lay bytes C k (d + 1) h (capped (t.next + 1)) first second bs
      lay_first =
          lay_block bytes C k (d + 1) h t.next first i bs lay.keeps.0.1 (laid_front bytes first (encode_commands bs) (encode_commands es) both_lie) (omega (arith, ends, lay.inside)) first_there (omega (arith, lay.few)) (omega (arith, lay.high))

      lay_second : Lay bytes C k (d + 1) h (capped (other + 1)) second (second + length (encode_commands es)) es
      lay_second =
          lay_block bytes C k (d + 1) h other second j es lay.keeps.0.2 (laid_rest bytes first (encode_commands bs) (encode_commands es) both_lie) (omega (arith, ends, lay.inside)) second_there (omega (arith, lay.few)) (omega (arith, lay.high))

      other_is : behind C.spans t.next ≡ other
      other_is =
          block_behind bytes C k (d + 1) h t.next first i bs lay.keeps.0.1 (laid_front bytes first (encode_commands bs) (encode_commands es) both_lie) (omega (arith, ends, lay.inside)) first_there (omega (arith, lay.few)) (omega (arith, lay.high))

      beyond_is : behind C.spans other ≡ other + size_block (numbered_block j es)
      beyond_is =
          block_behind bytes C k (d + 1) h other second j es lay.keeps.0.2 (laid_rest bytes first (encode_commands bs) (encode_commands es) both_lie) (omega (arith, ends, lay.inside)) second_there (omega (arith, lay.few)) (omega (arith, lay.high))

      not_deepest : d < 8
      not_deepest = ltb-true d 8 lay.keeps.0.0.reaches

      outer : Fit bytes P (length ts) (onward t (length (encode_commands cs)) (behind C.spans (behind C.spans t.next))) (leaving cs turn k h d)
      outer = goes_on (choose_block c (numbered_block i bs) (numbered_block j es)) cs lay _ (ap (behind C.spans) other_is ∙ beyond_is ∙ omega arith)

      -- the lowering names the blocks by their numbers
      lowers_as : (u : State) → then_on (run_commands A P (calls A P k) cs t.context (lower A (either A P (numbered_block i bs) (numbered_block j es)) g u)) ≡ goal → then_on (run_commands A P (calls A P k) cs t.context (lower A (named_for A.names (Either t.next (behind C.spans t.next))) g u)) ≡ goal
      lowers_as u same =
          ap (λ (n : ℕ). then_on (run_commands A P (calls A P k) cs t.context (lower A (named_for A.names (Either n (behind C.spans t.next))) g u))) (sym lay.keeps.0.1.0)
          ∙ ap (λ (m : ℕ). then_on (run_commands A P (calls A P k) cs t.context (lower A (named_for A.names (Either i m)) g u))) (other_is ∙ sym lay.keeps.0.2.0)
          ∙ same

      choose_keeps : (test : Bool) → then_on (run_commands A P (calls A P k) cs t.context (decide A (either A P (numbered_block i bs) (numbered_block j es)) (run_commands A P (calls A P k) bs) (run_commands A P (calls A P k) es) test (at s (asked c)) t.context (tick s))) ≡ goal → g ≡ told A t.context (at s (asked c)) → Leads A bytes P goal (running (chosen A C.spans t ts test g (length (encode_commands bs)) (length (encode_commands es)) (length (encode_commands cs))) (tick s))
      choose_keeps true same is = record {
        lefts = leaving bs no_commands k h (d + 1) ∷ leaving cs turn k h d ∷ xs;
        fits = (
          record {
            lay = lay_as bytes C refl (omega (arith, ends)) (omega (arith, ends)) lay_first;
            loops = tt;
            room = omega (arith, not_deepest, room);
            deep = omega (arith, not_deepest);
            level = level;
          },
          (outer, around),
        );
        same = lowers_as _ (rw is same);
      }
      choose_keeps false same is = record {
        lefts = leaving es no_commands k h (d + 1) ∷ leaving cs turn k h d ∷ xs;
        fits = (
          record {
            lay = lay_as bytes C (ap (λ (m : ℕ). capped (m + 1)) (sym other_is)) (omega (arith, ends)) (omega (arith, ends)) lay_second;
            loops = tt;
            room = omega (arith, not_deepest, room);
            deep = omega (arith, not_deepest);
            level = level;
          },
          (outer, around),
        );
        same = lowers_as _ (rw is same);
      }

    -- ---- commands with one block, behind `head` bytes

    module _ (c : Command) (head i : ℕ) (bs cs : Commands) (lay : Lay bytes C k d h t.next t.at t.end (then_command c cs)) (as_many : size c ≡ size_block (numbered_block i bs)) (as_long : length (command_bytes (flat c)) ≡ head + length (encode_commands bs)) (as_high : highest (below C k).heights c ≡ highest_commands (below C k).heights bs) (keeps : KeepsBlock (below C k) (d + 1) t.next (t.at + head) (numbered_block i bs)) (lies : Laid bytes (t.at + head) (encode_commands bs)) (there : Laid C.spans t.next (spans_block (t.at + head) (numbered_block i bs))) (not_deepest : d < 8) where
      abbrev start : ℕ
      start = t.at + head

      block_ends : start + length (encode_commands bs) + length (encode_commands cs) ≡ t.end
      block_ends = omega (arith, lay_ends bytes C lay, as_long)

      lay_inner : Lay bytes C k (d + 1) h (capped (t.next + 1)) start (start + length (encode_commands bs)) bs
      lay_inner = lay_block bytes C k (d + 1) h t.next start i bs keeps lies (omega (arith, block_ends, lay.inside)) there (omega (arith, lay.few, as_many)) (omega (arith, lay.high, as_high))

      behind_is : behind C.spans t.next ≡ t.next + size c
      behind_is =
          block_behind bytes C k (d + 1) h t.next start i bs keeps lies (omega (arith, block_ends, lay.inside)) there (omega (arith, lay.few, as_many)) (omega (arith, lay.high, as_high))
          ∙ ap (λ (m : ℕ). t.next + m) (sym as_many)

      around_it : Fit bytes P (length ts) (onward t (length (encode_commands cs)) (behind C.spans t.next)) (leaving cs turn k h d)
      around_it = goes_on c cs lay _ behind_is

      -- the block itself, under any context and with nothing to close
      fits_inner : (r : Context) → Fit bytes P (suc (length ts)) (entered t.next (t.end - length (encode_commands cs) - length (encode_commands bs)) (t.end - length (encode_commands cs)) r closing.Nothing) (leaving bs no_commands k h (d + 1))
      fits_inner r = record {
        lay = lay_as bytes C refl (omega (arith, block_ends)) (omega (arith, block_ends)) lay_inner;
        loops = tt;
        room = omega (arith, not_deepest, room);
        deep = omega (arith, not_deepest);
        level = level;
      }

      -- a loop stands at the end of its block
      fits_loop : (r : Context) (u : Turns) → u.block ≡ t.next → u.start ≡ t.end - length (encode_commands cs) - length (encode_commands bs) → Fit bytes P (suc (length ts)) (entered t.next (t.end - length (encode_commands cs)) (t.end - length (encode_commands cs)) r (closing.Loop u)) (leaving no_commands bs k h (d + 1))
      fits_loop r u e f = record {
        lay = lay_end bytes C k (d + 1) h _ _ (omega (arith, lay.inside)) (omega (arith, lay.few, as_many)) (omega (arith, lay.high));
        loops = lay_as bytes C (omega (arith, e, lay.few, as_many)) (omega (arith, block_ends, f)) (omega (arith, block_ends)) lay_inner;
        room = omega (arith, not_deepest, room);
        deep = omega (arith, not_deepest);
        level = level;
      }

    loop_keeps : (a m i : ℕ) (bs cs : Commands) → Lay bytes C k d h t.next t.at t.end (then_command (loop_block a m (numbered_block i bs)) cs) → then_on (run_commands A P (calls A P k) (then_command (loop_block a m (numbered_block i bs)) cs) t.context s) ≡ goal → Leads A bytes P goal (act A C t (flat (loop_block a m (numbered_block i bs))) (length (encode_commands cs)) ts s)
    loop_keeps a m i bs cs lay same =
        let c : Command = loop_block a m (numbered_block i bs) in
        let lies = laid_behind bytes t.at loop_head (command_bytes (flat c)) (encode_commands bs) (λ suf. refl) (lay_command bytes C lay) in
        let long : length (command_bytes (flat c)) ≡ loop_head + length (encode_commands bs) = omega arith in
        let small : d < 8 = ltb-true d 8 lay.keeps.0.0.reaches in
        record {
          lefts = leaving no_commands bs k h (d + 1) ∷ leaving cs turn k h d ∷ xs;
          fits = (fits_loop c loop_head i bs cs lay refl long refl lay.keeps.0.1 lies (lay_spans bytes C lay) small t.context _ refl refl, (around_it c loop_head i bs cs lay refl long refl lay.keeps.0.1 lies (lay_spans bytes C lay) small, around));
          same =
              ap (λ (n : ℕ). then_on (run_commands A P (calls A P k) cs t.context (turns A (named_for A.names (One n)) (run_commands A P (calls A P k) bs) a m A.kind.full t.context (tick s)))) (sym lay.keeps.0.1.0)
              ∙ same;
        }

    grant_keeps : (g i : ℕ) (bs cs : Commands) → Lay bytes C k d h t.next t.at t.end (then_command (grant_block g (numbered_block i bs)) cs) → then_on (run_commands A P (calls A P k) (then_command (grant_block g (numbered_block i bs)) cs) t.context s) ≡ goal → Leads A bytes P goal (act A C t (flat (grant_block g (numbered_block i bs))) (length (encode_commands cs)) ts s)
    grant_keeps g i bs cs lay same =
        let c : Command = grant_block g (numbered_block i bs) in
        let lies = laid_behind bytes t.at grant_head (command_bytes (flat c)) (encode_commands bs) (λ suf. refl) (lay_command bytes C lay) in
        let long : length (command_bytes (flat c)) ≡ grant_head + length (encode_commands bs) = omega arith in
        let small : d < 8 = ltb-true d 8 lay.keeps.0.0.reaches in
        record {
          lefts = leaving bs no_commands k h (d + 1) ∷ leaving cs turn k h d ∷ xs;
          fits = (fits_inner c grant_head i bs cs lay refl long refl lay.keeps.0.1 lies (lay_spans bytes C lay) small (granted A t.context g), (around_it c grant_head i bs cs lay refl long refl lay.keeps.0.1 lies (lay_spans bytes C lay) small, around));
          same = same;
        }

    -- ---- calls

    call_keeps : (q : ℕ) (cs : Commands) → Lay bytes C k d h t.next t.at t.end (then_command (call_procedure q) cs) → then_on (run_commands A P (calls A P k) (then_command (call_procedure q) cs) t.context s) ≡ goal → Leads A bytes P goal (act A C t (flat (call_procedure q)) (length (encode_commands cs)) ts s)
    call_keeps q cs lay same =
        let named : q < length (take k (heights C)) = ltb-true q (length (take k (heights C))) lay.keeps.0.declared in
        let lower : q < k = omega (arith, length-take k (heights C)) in
        let there : q < length C.procedures = omega (arith, length-take k (heights C), length-map C.procedures (λ (p : Procedure). p.height)) in
        let high : (get_or C.procedures q no_procedure).height < h = omega (arith, lay.high, height_below bytes P laws short k q lower, height_is bytes P laws short q) in
        record {
          lefts = leaving (commands (body P q)) no_commands q (get_or C.procedures q no_procedure).height 0 ∷ leaving cs turn k h d ∷ xs;
          fits = (
            record {
              lay = lay_body bytes P laws short q there;
              loops = tt;
              room = omega (arith, high, (low bytes P laws short q there).0, room);
              deep = omega arith;
              level = omega (arith, lower, level);
            },
            (goes_on (call_procedure q) cs lay t.next (omega arith), around),
          );
          same =
              ap (λ (u : State). then_on (run_commands A P (calls A P k) cs t.context u))
              (sym (calls_body A P k q t.context (tick s) lower ∙ runs_commands A P (calls A P q) (body P q) (entering A P q t.context) (tick s)))
              ∙ same;
        }

    act_keeps : (c : Command) (cs : Commands) → Lay bytes C k d h t.next t.at t.end (then_command c cs) → then_on (run_commands A P (calls A P k) (then_command c cs) t.context s) ≡ goal → Leads A bytes P goal (act A C t (flat c) (length (encode_commands cs)) ts s)
    act_keeps (plain_command o c) cs lay same = plain_keeps o c cs lay same
    act_keeps (choose_block c (numbered_block i bs) (numbered_block j es)) cs lay same = choose_keeps c i j bs es cs lay (told A t.context (at s (asked c))) (takes A c t.context (at s (asked c))) same refl
    act_keeps (loop_block a m (numbered_block i bs)) cs lay same = loop_keeps a m i bs cs lay same
    act_keeps (grant_block g (numbered_block i bs)) cs lay same = grant_keeps g i bs cs lay same
    act_keeps (call_procedure q) cs lay same = call_keeps q cs lay same

    -- ---- ends of blocks

    module _ (u : Turns) (whole : Lay bytes C k d h (u.block + 1) u.start t.end turn) where
      abbrev left_turns : ℕ → ℕ → State → State
      left_turns m w v = turns A (named_for A.names (One u.block)) (run_commands A P (calls A P k) turn) u.place m w (deciding t.context u.decisions) v

      reading_keeps : (m : ℕ) (stop : Bool) → resumes A P ts xs (cond stop (lower A (named_for A.names (One u.block)) (learned A t.context u (at s u.place)) (tick s)) (left_turns m (learned A t.context u (at s u.place)) (run_commands A P (calls A P k) turn (under A (deciding t.context u.decisions) (learned A t.context u (at s u.place))) (tick s)))) ≡ goal → Leads A bytes P goal (cond stop (running ts (lower A (named_for A.names (One u.block)) (learned A t.context u (at s u.place)) (tick s))) (running (turn_level A t u m (learned A t.context u (at s u.place)) ∷ ts) (tick s)))
      reading_keeps m true same = record { lefts = xs; fits = around; same = same }
      reading_keeps m false same = record {
        lefts = leaving turn turn k h d ∷ xs;
        fits = (record { lay = lay_as bytes C (omega (arith, whole.few)) refl refl whole; loops = whole; room = room; deep = deep; level = level }, around);
        same = same;
      }

      turns_keep : (m : ℕ) → resumes A P ts xs (left_turns m u.learned s) ≡ goal → Leads A bytes P goal (closed_loop A t u m ts s)
      turns_keep zero same = record { lefts = xs; fits = around; same = same }
      turns_keep (suc m) same = reading_keeps m (eqb (at s u.place).value 0) same

    close_keeps : (κ : Closing) → LoopLies bytes P k d h t.end turn κ → resumes A P ts xs (closes A P k turn t.context κ s) ≡ goal → Leads A bytes P goal (close A t κ ts s)
    close_keeps closing.Nothing whole same = record { lefts = xs; fits = around; same = same }
    close_keeps (closing.Choice n m g) whole same = record { lefts = xs; fits = around; same = same }
    close_keeps (closing.Loop u) whole same = turns_keep u whole u.left same

    -- ---- a turn

    turn_keeps : (rest : Commands) → Lay bytes C k d h t.next t.at t.end rest → then_on (run_commands A P (calls A P k) rest t.context s) ≡ goal → Leads A bytes P goal (turn_of A bytes C t ts s)
    turn_keeps no_commands lay same = subst (Leads A bytes P goal) (turn_close A bytes C t ts s (close A t t.closing ts s) (omega (arith, lay.long)) refl) (close_keeps t.closing loops same)
    turn_keeps (then_command c cs) lay same =
        subst (Leads A bytes P goal)
        (turn_front A bytes C t ts s (act A C t (flat c) (length (encode_commands cs)) ts s) (got (flat c) (encode_commands cs)) (omega (arith, lay_ends bytes C lay, command_long (flat c))) (lay_front bytes C lay) refl)
        (act_keeps c cs lay same)

  pub keeps : (t : Level) (ts : List Level) (s : State) → Leads A bytes P goal (running (t ∷ ts) s) → Leads A bytes P goal (turn_of A bytes C t ts s)
  keeps t ts s so = by so.lefts so.fits so.same where
    by : (xs : List Left) → Fits bytes P (t ∷ ts) xs → resumes A P (t ∷ ts) xs s ≡ goal → Leads A bytes P goal (turn_of A bytes C t ts s)
    by [] fits same = absurd fits
    by (x ∷ xs) fits same = turn_keeps t ts xs x.proc x.depth x.height x.turn fits.1 fits.0.loops fits.0.room fits.0.deep fits.0.level s x.rest fits.0.lay same
