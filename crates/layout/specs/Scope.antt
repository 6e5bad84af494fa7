-- What the commands of a body may name, and the test of each rule that a command keeps.
use Rattle.std.specs.Prelude.{ℕ, Bool, true, not, ◌&&◌, List, length, ◌==◌, nat_le, nat_lt, slice_index}
use Rattle.layout.specs.Tree.{Plain, set_place, copy_place, combine_places, pick_cell, put_cell, drive_device, asked}
use Rattle.layout.specs.Layout.{Flat, plain, choose, loop, grant, call}

-- how many places, tables and devices are declared; the places below `inputs` are inputs;
-- the height of each procedure declared before this one, and the most steps of its body
pub record Scope : Type 0 where
  pub inputs : ℕ
  pub places : ℕ
  pub tables : ℕ
  pub devices : ℕ
  pub heights : List ℕ
  pub steps : List ℕ

abbrev pub place : Scope → ℕ → Bool
place w x = nat_lt x w.places

abbrev pub table : Scope → ℕ → Bool
table w t = nat_lt t w.tables

abbrev pub device : Scope → ℕ → Bool
device w d = nat_lt d w.devices

-- a procedure that is declared before this one
abbrev pub lower : Scope → ℕ → Bool
lower w p = nat_lt p (length w.heights)

-- every number that a plain command uses is declared
abbrev pub plain_named : Scope → Plain → Bool
plain_named w (set_place x n) = place w x
plain_named w (copy_place x a) = place w x && place w a
plain_named w (combine_places o x a b) = place w x && place w a && place w b
plain_named w (pick_cell x t a) = place w x && table w t && place w a
plain_named w (put_cell t a b) = table w t && place w a && place w b
plain_named w (drive_device d a) = device w d && place w a

-- every number that a command uses is declared, and a called procedure is lower
abbrev pub named : Scope → Flat → Bool
named w (plain c) = plain_named w c
named w (choose c y z) = place w (asked c)
named w (loop a k y) = place w a
named w (grant g y) = true
named w (call p) = lower w p

-- a place that is no input
abbrev pub cell : Scope → ℕ → Bool
cell w x = nat_le w.inputs x

-- no command gives an input a value; a table holds cells only
abbrev pub plain_targets : Scope → Plain → Bool
plain_targets w (set_place x n) = cell w x
plain_targets w (copy_place x a) = cell w x
plain_targets w (combine_places o x a b) = cell w x
plain_targets w (pick_cell x t a) = cell w x
plain_targets w (put_cell t a b) = true
plain_targets w (drive_device d a) = true

abbrev pub targets : Scope → Flat → Bool
targets w (plain c) = plain_targets w c
targets w (choose c y z) = true
targets w (loop a k y) = true
targets w (grant g y) = true
targets w (call p) = true

-- a loop turns at least once
abbrev pub turns : Flat → Bool
turns (plain c) = true
turns (choose c y z) = true
turns (loop a k y) = not (k == 0)
turns (grant g y) = true
turns (call p) = true

-- at depth d, blocks are nested at most 8 deep; a procedure that calls another is at most 8 high
abbrev pub low : Scope → ℕ → Flat → Bool
low w d (plain c) = true
low w d (choose c y z) = nat_lt d 8
low w d (loop a k y) = nat_lt d 8
low w d (grant g y) = nat_lt d 8
low w d (call p) = nat_lt (slice_index w.heights p) 8

-- how many blocks a command has
abbrev pub blocks : Flat → ℕ
blocks (plain c) = 0
blocks (choose c y z) = 2
blocks (loop a k y) = 1
blocks (grant g y) = 1
blocks (call p) = 0
