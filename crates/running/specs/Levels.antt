-- The blocks that are being run, and what one turn of the loop makes of them.
use Rattle.std.specs.Prelude.{ℕ, zero, suc, ◌+◌, ◌-◌, min, Bool, cond, List, [], ◌∷◌, reverse, length, get_or, take, drop, vec_items, ◌==◌, nat_lt, slice_index_or}
use Rattle.layout.specs.declared.Procedure.{Procedure}
use Rattle.layout.specs.declared.Span.{Span}
use Rattle.layout.specs.Tree.{asked}
use Rattle.layout.specs.Layout as flat
use Rattle.layout.specs.Layout.{Flat}
use Rattle.layout.specs.Front.{Front, got, bad, front}
use Rattle.layout.specs.Declarations.{Contents}
use Rattle.rules.specs.declared.Context.{Context}
use Rattle.rules.specs.declared.Place.{Place}
use Rattle.rules.specs.Assembly.{Assembly}
use Rattle.rules.specs.Running.{State, at, tick, mix, told, under, granted, lower, takes, run_plain, entering, no_procedure}
use Rattle.running.specs.declared.levels.Level.{Level}
use Rattle.running.specs.declared.levels.Turns.{Turns}
use Rattle.running.specs.declared.levels.Closing.{Closing}
use Rattle.running.specs.declared.levels.Closing.TheVariants as closing
use Rattle.running.specs.declared.levels.Stack.{Stack}
use Rattle.running.specs.declared.lowering.Blocks.TheVariants.{One, Either}
use Rattle.running.specs.Parts.{named_for}

-- the blocks on a stack, the innermost first
unfoldable pub above : Stack → List Level
above s = reverse (vec_items s.levels)

-- every block that is being run, the innermost first, and what is worked on
pub record Run : Type 0 where
  pub levels : List Level
  pub state : State

abbrev pub running : List Level → State → Run
running ts s = record { levels = ts; state = s }

-- numbers of 64 bits stay at their largest
abbrev pub capped : ℕ → ℕ
capped n = min n 18446744073709551615

abbrev pub no_span : Span
no_span = record { start = 0; length = 0; inside = 0 }

-- the number of the block behind block n and those inside it
abbrev pub behind : List Span → ℕ → ℕ
behind spans n = capped (capped (n + 1) + (get_or spans n no_span).inside)

-- what is left of block t behind a command, where `rest` bytes follow and the next block is n
abbrev pub onward : Level → ℕ → ℕ → Level
onward t rest n = record { at = t.end - rest; end = t.end; next = n; context = t.context; closing = t.closing }

-- block n, from `start` to `end`
abbrev pub entered : ℕ → ℕ → ℕ → Context → Closing → Level
entered n start end r κ = record { at = start; end = end; next = capped (n + 1); context = r; closing = κ }

-- the body of a procedure
abbrev pub body_level : Procedure → Context → Level
body_level p r = entered p.block p.start (capped (p.start + p.length)) r closing.Nothing

-- one of the two blocks of a choice, y and z bytes long, under what was told
abbrev pub chosen : Assembly → List Span → Level → List Level → Bool → ℕ → ℕ → ℕ → ℕ → List Level
chosen A spans t ts test g y z rest =
    let n = t.next in
    let m = behind spans n in
    let end = t.end - rest in
    let middle = end - z in
    let r = under A t.context g in
    let κ = closing.Choice n m g in
    cond test (entered n (middle - y) middle r κ) (entered m middle end r κ) ∷ onward t rest (behind spans m) ∷ ts

-- a loop is entered at the end of its block, so that its first reading is like every other
abbrev pub looped : Assembly → List Span → Level → List Level → ℕ → ℕ → ℕ → ℕ → List Level
looped A spans t ts a k y rest =
    let n = t.next in
    let end = t.end - rest in
    entered n end end t.context (closing.Loop (record { place = a; block = n; start = end - y; left = k; learned = A.kind.full; decisions = t.context.decisions }))
    ∷ onward t rest (behind spans n) ∷ ts

abbrev pub granted_in : Assembly → List Span → Level → List Level → ℕ → ℕ → ℕ → List Level
granted_in A spans t ts g y rest =
    let n = t.next in
    let end = t.end - rest in
    entered n (end - y) end (granted A t.context g) closing.Nothing ∷ onward t rest (behind spans n) ∷ ts

abbrev pub called_in : Assembly → Contents → Level → List Level → ℕ → ℕ → List Level
called_in A C t ts p rest =
    body_level (slice_index_or C.procedures p no_procedure) (entering A (record { contents = C; bodies = [] }) p t.context) ∷ onward t rest t.next ∷ ts

-- a command with `rest` bytes behind it
abbrev pub act : Assembly → Contents → Level → Flat → ℕ → List Level → State → Run
act A C t (flat.plain c) rest ts s = running (onward t rest t.next ∷ ts) (run_plain A (record { contents = C; bodies = [] }) t.at c t.context (tick s))
act A C t (flat.choose c y z) rest ts s =
    running (chosen A C.spans t ts (takes A c t.context (at s (asked c))) (told A t.context (at s (asked c))) (length y) (length z) rest) (tick s)
act A C t (flat.loop a k y) rest ts s = running (looped A C.spans t ts a k (length y) rest) (tick s)
act A C t (flat.grant g y) rest ts s = running (granted_in A C.spans t ts g (length y) rest) (tick s)
act A C t (flat.call p) rest ts s = running (called_in A C t ts p rest) (tick s)

-- what a loop has learned once it has read place p
abbrev pub learned : Assembly → Context → Turns → Place → ℕ
learned A r u p = mix A u.learned (told A r p)

-- the next turn of a loop, of which k are left
abbrev pub turn_level : Assembly → Level → Turns → ℕ → ℕ → Level
turn_level A t u k w =
    entered u.block u.start t.end
    (record { procedure = t.context.procedure; own = t.context.own; rights = t.context.rights; decisions = mix A u.decisions w })
    (closing.Loop (record { place = u.place; block = u.block; start = u.start; left = k; learned = w; decisions = u.decisions }))

abbrev pub closed_loop : Assembly → Level → Turns → ℕ → List Level → State → Run
closed_loop A t u zero ts s = running ts (lower A (named_for A.names (One u.block)) u.learned s)
closed_loop A t u (suc k) ts s =
    cond ((at s u.place).value == 0)
    (running ts (lower A (named_for A.names (One u.block)) (learned A t.context u (at s u.place)) (tick s)))
    (running (turn_level A t u k (learned A t.context u (at s u.place)) ∷ ts) (tick s))

-- a block that has ended
abbrev pub close : Assembly → Level → Closing → List Level → State → Run
close A t closing.Nothing ts s = running ts s
close A t (closing.Choice n m g) ts s = running ts (lower A (named_for A.names (Either n m)) g s)
close A t (closing.Loop u) ts s = closed_loop A t u u.left ts s

-- the command at the front of what is left of a block; what is none, which no accepted package has, ends the block
abbrev pub act_front : Assembly → Contents → Level → Front Flat → List Level → State → Run
act_front A C t (got c rest) ts s = act A C t c (length rest) ts s
act_front A C t (bad n) ts s = running ts s

-- what is left of a block
abbrev pub part_of : List ℕ → Level → List ℕ
part_of bytes t = take (t.end - t.at) (drop t.at bytes)

-- one turn: a block's next command, or its end
unfoldable pub turn_of : Assembly → List ℕ → Contents → Level → List Level → State → Run
turn_of A bytes C t ts s = cond (nat_lt t.at t.end) (act_front A C t (front (part_of bytes t)) ts s) (close A t t.closing ts s)

-- the blocks that are being run, where there is still one
abbrev pub left : Bool → Level → Stack → List Level
left b t st = cond b (t ∷ above st) []
