-- What each command does.
use Rattle.std.specs.Prelude.{ℕ, zero, suc, ◌+◌, Bool, cond, not, ◌&&◌, ◌||◌, List, [], ◌∷◌, get_or, Some, None, Option, ◌==◌, nat_lt, slice_index, slice_index_or, slice_set}
use Rattle.std.specs.Option.{option_or}
use Rattle.frames.specs.Kinds.{gap}
use Rattle.layout.specs.declared.Table.{Table}
use Rattle.layout.specs.declared.Procedure.{Procedure}
use Rattle.layout.specs.Tree.{Operation, Plain, set_place, copy_place, combine_places, pick_cell, put_cell, drive_device, Choice, when_place, try_frame, asked, Command, plain_command, choose_block, loop_block, grant_block, call_procedure, Commands, no_commands, then_command, Block, numbered_block}
use Rattle.layout.specs.Program.{Program, body, table}
use Rattle.oracle_laws.specs.Blocks.{number}
use Rattle.oracle_laws.specs.Sets.{cell_of}
use Rattle.rules.specs.declared.Place.{Place}
use Rattle.rules.specs.declared.Device.{Device}
use Rattle.rules.specs.declared.Cause.{Cause}
use Rattle.rules.specs.declared.Cause.TheVariants.{Rights, Information}
use Rattle.rules.specs.declared.Trail.{Trail}
use Rattle.rules.specs.declared.Context.{Context}
use Rattle.rules.specs.Assembly.{Assembly, covers}
use Rattle.rules.specs.Values.{combine, counted}

-- what a cycle works on: places, devices, the steps done, the drives refused, and the first of these
pub record State : Type 0 where
  pub places : List Place
  pub devices : List Device
  pub steps : ℕ
  pub refused : ℕ
  pub trail : Option Trail

-- ---- places and devices

abbrev pub place : ℕ → ℕ → Place
place v f = record { value = v; frame = f }

abbrev pub device : ℕ → ℕ → Device
device c n = record { command = c; count = n }

-- what place x holds
abbrev pub at : State → ℕ → Place
at s x = slice_index_or s.places x (place 0 0)

abbrev pub with_places : State → List Place → State
with_places s ps = record { places = ps; devices = s.devices; steps = s.steps; refused = s.refused; trail = s.trail }

-- one step more
abbrev pub tick : State → State
tick s = record { places = s.places; devices = s.devices; steps = s.steps + 1; refused = s.refused; trail = s.trail }

-- place x gets p
abbrev pub write : State → ℕ → Place → State
write s x p = with_places s (slice_set s.places x p)

-- what a device shows once it was given v
abbrev pub given : Device → ℕ → Device
given d v = device v (counted d.count)

-- device d is given v
abbrev pub accept : State → ℕ → ℕ → State
accept s d v = record { places = s.places; devices = slice_set s.devices d (given (slice_index_or s.devices d (device 0 0)) v); steps = s.steps; refused = s.refused; trail = s.trail }

-- a drive is refused; the first refusal of a cycle stays
abbrev pub refuse : State → Trail → State
refuse s t = record { places = s.places; devices = s.devices; steps = s.steps; refused = s.refused + 1; trail = option_or s.trail (Some t) }

-- ---- frames

module _ (A : Assembly) where
  abbrev pub mix : ℕ → ℕ → ℕ
  mix a b = A.kind.mix a b

  -- G: the frame of what a command learns from place p
  abbrev pub told : Context → Place → ℕ
  told r p = mix r.own p.frame

  -- the decisions so far, with what place p told
  abbrev pub basis : Context → Place → ℕ
  basis r p = mix r.decisions (told r p)

  -- under one more decision
  abbrev pub under : Context → ℕ → Context
  under r g = record { procedure = r.procedure; own = r.own; rights = r.rights; decisions = mix r.decisions g }

  -- under a grant of g
  abbrev pub granted : Context → ℕ → Context
  granted r g = record { procedure = r.procedure; own = r.own; rights = A.widen r.rights (mix g r.own); decisions = r.decisions }

  -- a place, its frame mixed with g
  abbrev pub lowered : ℕ → Place → Place
  lowered g p = place p.value (mix p.frame g)

  -- each place that passes the test is lowered
  abbrev pub lower_all : (ℕ → Bool) → ℕ → List Place → List Place
  lower_all named g [] = []
  lower_all named g (p ∷ ps) = cond (named 0) (lowered g p) p ∷ lower_all (λ x. named (suc x)) g ps

  abbrev pub lower : (ℕ → Bool) → ℕ → State → State
  lower named g s = with_places s (lower_all named g s.places)

  -- ---- what a place gets

  abbrev pub set_to : Context → ℕ → Place
  set_to r n = place n (mix r.decisions r.own)

  abbrev pub copied : Context → Place → Place
  copied r p = place p.value (basis r p)

  abbrev pub combined : Operation → Context → Place → Place → Place
  combined o r p q = place (combine o p.value q.value) (mix r.decisions (mix r.own (mix p.frame q.frame)))

  -- index i lies in table t
  abbrev pub within : Table → Place → Bool
  within t i = nat_lt i.value t.length

  -- the cell of t at index i
  abbrev pub cell_at : Table → Place → ℕ
  cell_at t i = t.first + i.value

  -- what a PICK finds in the cell c at index i, and what it gives beyond the table's length
  abbrev pub picked : Context → Place → Place → Place
  picked r i c = place c.value (mix r.decisions (mix (told r i) c.frame))

  abbrev pub beyond : Context → Place → Place
  beyond r i = place 0 (basis r i)

  abbrev pub pick : Context → Table → Place → State → Place
  pick r t i s = cond (within t i) (picked r i (at s (cell_at t i))) (beyond r i)

  -- what a PUT at index i gives its cell, from p
  abbrev pub put_in : Context → Place → Place → Place
  put_in r i p = place p.value (mix r.decisions (mix (told r i) (mix r.own p.frame)))

  -- every cell of the table is lowered first, whether the index hits one or not
  abbrev pub put : Context → Table → Place → Place → State → State
  put r t i p s =
      cond (within t i)
      (write (lower (cell_of t) (told r i) s) (cell_at t i) (put_in r i p))
      (lower (cell_of t) (told r i) s)

  -- ---- drives

  -- a gap, with what it is the cause of
  abbrev pub because : Cause → Option ℕ → Option (Cause × ℕ)
  because c None = None
  because c (Some q) = Some (c, q)

  -- why a drive of a device with this need is refused, and the right that is missing; none where it is accepted
  abbrev pub obstacle : Context → ℕ → Place → Option (Cause × ℕ)
  obstacle r need p = option_or (because Rights (gap A.kind r.rights need)) (because Information (gap A.kind (basis r p) need))

  abbrev pub drive_by : Option (Cause × ℕ) → Context → ℕ → ℕ → Place → State → State
  drive_by None r offset d p s = accept s d p.value
  drive_by (Some why) r offset d p s = refuse s (record { procedure = r.procedure; offset = offset; device = d; cause = why.0; right = why.1 })

  -- a DRIVE at this offset, of device d with this need, by what place p holds
  abbrev pub drive : Context → ℕ → ℕ → ℕ → Place → State → State
  drive r offset d need p s = drive_by (obstacle r need p) r offset d p s

  -- ---- decisions

  -- whether a choice takes its first block, by what place p holds
  abbrev pub takes : Choice → Context → Place → Bool
  takes (when_place a) r p = not (p.value == 0)
  takes (try_frame g a) r p = covers A r.rights g && covers A (basis r p) g

  -- one of two blocks runs under the decision by what place p holds, and then every place that is named is lowered
  abbrev pub decide : (ℕ → Bool) → (Context → State → State) → (Context → State → State) → Bool → Place → Context → State → State
  decide named first second test p r s =
      lower named (told r p) (cond test (first (under r (told r p)) s) (second (under r (told r p)) s))

  -- at most k turns of a loop on place a, where w is the frame of its decisions so far: each reading is a step, and
  -- when the turns are over every place that is named is lowered
  abbrev pub turns : (ℕ → Bool) → (Context → State → State) → ℕ → ℕ → ℕ → Context → State → State
  turns named turn a zero w r s = lower named w s
  turns named turn a (suc k) w r s =
      cond ((at s a).value == 0)
      (lower named (mix w (told r (at s a))) (tick s))
      (turns named turn a k (mix w (told r (at s a))) r (turn (under r (mix w (told r (at s a)))) (tick s)))

-- ---- what is declared

abbrev pub no_procedure : Procedure
no_procedure = record { party = 0; start = 0; length = 0; block = 0; height = 0; steps = 0 }

-- the need of device d
abbrev pub need_of : Program → ℕ → ℕ
need_of P d = slice_index P.contents.needs d

-- the frame of the party of procedure p
abbrev pub owner_frame : Program → ℕ → ℕ
owner_frame P p = slice_index P.contents.parties (get_or P.contents.procedures p no_procedure).party

-- ---- commands

module _ (A : Assembly) (P : Program) where
  -- the oracle names place x for block b; for either of two blocks
  abbrev pub named : Block → ℕ → Bool
  named b x = A.names (number b) x

  abbrev pub either : Block → Block → ℕ → Bool
  either b e x = named b x || named e x

  abbrev pub run_plain : ℕ → Plain → Context → State → State
  run_plain o (set_place x n) r s = write s x (set_to A r n)
  run_plain o (copy_place x a) r s = write s x (copied A r (at s a))
  run_plain o (combine_places f x a b) r s = write s x (combined A f r (at s a) (at s b))
  run_plain o (pick_cell x t a) r s = write s x (pick A r (table P t) (at s a) s)
  run_plain o (put_cell t a b) r s = put A r (table P t) (at s a) (at s b) s
  run_plain o (drive_device d a) r s = drive A r o d (need_of P d) (at s a) s

  -- each command is a step; `call` says what a CALL runs
  abbrev mutual
    pub run : (ℕ → Context → State → State) → Command → Context → State → State
    run call (plain_command o c) r s = run_plain o c r (tick s)
    run call (choose_block c b e) r s = decide A (either b e) (run_block call b) (run_block call e) (takes A c r (at s (asked c))) (at s (asked c)) r (tick s)
    run call (loop_block a k b) r s = turns A (named b) (run_block call b) a k A.kind.full r (tick s)
    run call (grant_block g b) r s = run_block call b (granted A r g) (tick s)
    run call (call_procedure p) r s = call p r (tick s)

    pub run_commands : (ℕ → Context → State → State) → Commands → Context → State → State
    run_commands call no_commands r s = s
    run_commands call (then_command c cs) r s = run_commands call cs r (run call c r s)

    pub run_block : (ℕ → Context → State → State) → Block → Context → State → State
    run_block call (numbered_block n cs) r s = run_commands call cs r s

  -- a called procedure runs for its own party, with the rights in force that its party shares
  abbrev pub entering : ℕ → Context → Context
  entering p r = record { procedure = p; own = owner_frame P p; rights = mix A r.rights (owner_frame P p); decisions = r.decisions }

  -- calls of the procedures below k; a procedure calls lower ones only
  abbrev pub calls : ℕ → ℕ → Context → State → State
  calls zero p r s = s
  calls (suc k) p r s = cond (p == k) (run_block (calls k) (body P k) (entering k r) s) (calls k p r s)

  -- an entry runs for its procedure's party, with all the rights of that party, and no decision was made yet
  abbrev pub fresh : ℕ → Context
  fresh p = record { procedure = p; own = owner_frame P p; rights = owner_frame P p; decisions = A.kind.full }

  -- a list of entries, in order; each is a step
  abbrev pub run_entries : List ℕ → State → State
  run_entries [] s = s
  run_entries (p ∷ ps) s = run_entries ps (run_block (calls p) (body P p) (fresh p) (tick s))
