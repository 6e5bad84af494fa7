-- Eight small runs of the rules, worked out by hand.
use Rattle.std.specs.Prelude.{◌≡◌, ℕ, true, List, [], ◌∷◌, map, length, Some, None, Option, slice_set}
use Rattle.frames.specs.Kinds.{gap}
use Rattle.frames.specs.Rights.{rights}
use Rattle.frames.specs.Levels.{levels}
use Rattle.layout.specs.Bytes.{two, four, eight}
use Rattle.layout.specs.Packages.{accepts, declarations}
use Rattle.layout.specs.Program.{Program, program}
use Rattle.rules.specs.declared.Cause.TheVariants.{Rights}
use Rattle.rules.specs.declared.Trail.{Trail}
use Rattle.rules.specs.declared.Call.{Call}
use Rattle.rules.specs.declared.Call.TheVariants.{Post, Cycle, Read, Show}
use Rattle.rules.specs.Assembly.{Assembly}
use Rattle.rules.specs.AtHand.{by_rights, by_rights_broad, by_levels}
use Rattle.rules.specs.Running.{granted, entering, fresh}
use Rattle.rules.specs.Calls.{new, trail_answer, answers, after_all, numbers, trail_numbers}

-- ---- packages

-- parties 0 and 1 with frames 3 and 2; input 0 of party 0 with value 4, input 1 of party 1 with value 0; cell 2 with
-- value 0 and frame 3; device 0 with need 1; procedure 0 of party 0: when place 1 is not 0, set cell 2 to 7; then drive
-- device 0 with cell 2
abbrev pub hall : List ℕ
hall =
    0x81 ∷ eight 3
    (0x81 ∷ eight 2
    (0x82 ∷ 0 ∷ four 4
    (0x82 ∷ 1 ∷ four 0
    (0x83 ∷ four 0 (eight 3
    (0x85 ∷ eight 1
    (0x86 ∷ 0 ∷ two 15
    (0x0B ∷ 1 ∷ two 6 (two 0
    (0x01 ∷ 2 ∷ four 7
    (0x0A ∷ 0 ∷ 2
    ∷ 0x87 ∷ 0
    ∷ 0x88 ∷ [])))))))))))

-- the same, but by place 0, which is not 0
abbrev pub decided : List ℕ
decided = slice_set hall 57 0

-- a party with frame 3; a table of cells 0 and 1 with values 5 and 6 and frame 3; cell 2 with value 2 and frame 2; put
-- cell 0 into the table at the index in cell 2
abbrev pub misses : List ℕ
misses =
    0x81 ∷ eight 3
    (0x83 ∷ four 5 (eight 3
    (0x83 ∷ four 6 (eight 3
    (0x83 ∷ four 2 (eight 2
    (0x84 ∷ 0 ∷ 2
    ∷ 0x86 ∷ 0 ∷ two 4
    (0x09 ∷ 0 ∷ 2 ∷ 0
    ∷ 0x87 ∷ 0
    ∷ 0x88 ∷ []))))))))

-- a party with frame 3; cells 0 and 1 with values 5 and 1; at most k times while cell 0 is not 0, take cell 1 from it
abbrev pub counts : ℕ → List ℕ
counts k =
    0x81 ∷ eight 3
    (0x83 ∷ four 5 (eight 3
    (0x83 ∷ four 1 (eight 3
    (0x86 ∷ 0 ∷ two 9
    (0x0C ∷ 0 ∷ k ∷ two 4
    (0x04 ∷ 0 ∷ 0 ∷ 1
    ∷ 0x87 ∷ 0
    ∷ 0x88 ∷ [])))))))

-- parties 0 and 1 with frames 1 and 2; cell 0 with value 7 and frame 3; devices 0 and 1 with needs 2 and 1; procedure 0
-- of party 1 drives device 0, and under a grant of 3 both; procedure 1 of party 0 calls it, and is the entry
abbrev pub called : List ℕ
called =
    0x81 ∷ eight 1
    (0x81 ∷ eight 2
    (0x83 ∷ four 7 (eight 3
    (0x85 ∷ eight 2
    (0x85 ∷ eight 1
    (0x86 ∷ 1 ∷ two 20
    (0x0A ∷ 0 ∷ 0
    ∷ 0x0D ∷ eight 3 (two 6
    (0x0A ∷ 0 ∷ 0
    ∷ 0x0A ∷ 1 ∷ 0
    ∷ 0x86 ∷ 0 ∷ two 2
    (0x0E ∷ 0
    ∷ 0x87 ∷ 1
    ∷ 0x88 ∷ []))))))))))

-- ---- runs

-- the program of accepted bytes
abbrev pub load : List ℕ → Program
load bytes = program (declarations bytes)

-- what a new controller of these bytes answers, as numbers
abbrev pub told : (Program → Assembly) → List ℕ → List Call → List (List ℕ)
told A bytes cs = map numbers (answers (A (load bytes)) (load bytes) cs (new (load bytes)))

abbrev pub trail_after : (Program → Assembly) → List ℕ → List Call → Option Trail
trail_after A bytes cs = trail_answer (after_all (A (load bytes)) (load bytes) cs (new (load bytes)))

-- 1: the second cycle writes cell 2 under a decision of party 1, which lacks right 0; both drives are refused
abbrev pub Case1 : Type 0
Case1 =
    (accepts hall ≡ true) × (length hall ≡ 74)
    × (told by_rights hall (Cycle ∷ Show 0 ∷ Post 1 1 1 ∷ Cycle ∷ Show 0 ∷ Read 2 1 ∷ Read 2 0 ∷ [])
    ≡ (3 ∷ 1 ∷ []) ∷ (0 ∷ 0 ∷ 0 ∷ []) ∷ (0 ∷ []) ∷ (4 ∷ 1 ∷ []) ∷ (0 ∷ 0 ∷ 0 ∷ []) ∷ (0 ∷ 7 ∷ 2 ∷ []) ∷ (32 ∷ []) ∷ [])

-- 2: by levels 2 is trusted for right 0, and the drive is accepted
abbrev pub Case2 : Type 0
Case2 = told by_levels hall (Cycle ∷ Show 0 ∷ []) ≡ (3 ∷ 0 ∷ []) ∷ (0 ∷ 0 ∷ 1 ∷ []) ∷ []

-- 3: decided by input 0 of party 0, which holds right 0
abbrev pub Case3 : Type 0
Case3 = told by_rights decided (Cycle ∷ Show 0 ∷ []) ≡ (4 ∷ 0 ∷ []) ∷ (0 ∷ 7 ∷ 1 ∷ []) ∷ []

-- 4: the smallest sets do not name input 0, the broad ones do
abbrev pub Case4 : Type 0
Case4 =
    (told by_rights hall (Cycle ∷ Read 0 0 ∷ []) ≡ (3 ∷ 1 ∷ []) ∷ (0 ∷ 4 ∷ 3 ∷ []) ∷ [])
    × (told by_rights_broad hall (Cycle ∷ Read 0 0 ∷ []) ≡ (3 ∷ 1 ∷ []) ∷ (32 ∷ []) ∷ [])

-- 5: gaps
abbrev pub Case5 : Type 0
Case5 = (gap rights 2 3 ≡ Some 0) × (gap levels 2 3 ≡ Some 2) × (gap levels 64 200 ≡ None)

-- 6: an index beyond the table keeps both values, and lowers both frames
abbrev pub Case6 : Type 0
Case6 = told by_rights misses (Cycle ∷ Read 0 1 ∷ Read 1 1 ∷ []) ≡ (2 ∷ 0 ∷ []) ∷ (0 ∷ 5 ∷ 2 ∷ []) ∷ (0 ∷ 6 ∷ 2 ∷ []) ∷ []

-- 7: the entry is a step, and then the loop takes 7 or 12
abbrev pub Case7 : Type 0
Case7 =
    (told by_rights (counts 3) (Cycle ∷ Read 0 0 ∷ []) ≡ (8 ∷ 0 ∷ []) ∷ (0 ∷ 2 ∷ 3 ∷ []) ∷ [])
    × (told by_rights (counts 9) (Cycle ∷ Read 0 0 ∷ []) ≡ (13 ∷ 0 ∷ []) ∷ (0 ∷ 0 ∷ 3 ∷ []) ∷ [])

-- 8: the called procedure has no rights in force, and under the grant those of frame 2: device 0, which needs 2, is
-- driven once, and device 1, which needs 1, never
abbrev pub Case8 : Type 0
Case8 =
    ((entering (by_rights (load called)) (load called) 0 (fresh (by_rights (load called)) (load called) 1)).rights ≡ 0)
    × ((granted (by_rights (load called)) (entering (by_rights (load called)) (load called) 0 (fresh (by_rights (load called)) (load called) 1)) 3).rights ≡ 2)
    × (told by_rights called (Cycle ∷ Show 0 ∷ Show 1 ∷ []) ≡ (6 ∷ 2 ∷ []) ∷ (0 ∷ 7 ∷ 1 ∷ []) ∷ (0 ∷ 0 ∷ 0 ∷ []) ∷ [])
    × (trail_after by_rights called (Cycle ∷ []) ≡ Some (record { procedure = 0; offset = 53; device = 0; cause = Rights; right = 1 }))
    × (trail_numbers (trail_after by_rights called (Cycle ∷ [])) ≡ 0 ∷ 53 ∷ 0 ∷ 40 ∷ 1 ∷ [])

pub record Cases : Type 0 where
  pub case1 : Case1
  pub case2 : Case2
  pub case3 : Case3
  pub case4 : Case4
  pub case5 : Case5
  pub case6 : Case6
  pub case7 : Case7
  pub case8 : Case8
