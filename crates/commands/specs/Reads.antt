-- What the code's commands stand for.
use Rattle.std.specs.Prelude.{◌≡◌, ℕ, ◌<◌, ◌≤◌, List, length, take, drop, Result, MatchResult}
use Rattle.std.specs.Borrow.{Bor}
use Rattle.layout.specs.Tree as tree
use Rattle.layout.specs.Layout.{Flat, plain, choose, loop, grant, call}
use Rattle.layout.specs.Front.{Front, got, bad, cut}
use Rattle.commands.specs.declared.Operation.{Operation}
use Rattle.commands.specs.declared.Operation.TheVariants.{Add, Sub, Less, Same, Bits}
use Rattle.commands.specs.declared.Plain.{Plain}
use Rattle.commands.specs.declared.Plain.TheVariants.{Set, Copy, Combine, Pick, Put, Drive}
use Rattle.commands.specs.declared.Command.{Command}
use Rattle.commands.specs.declared.Command.TheVariants as command
use Rattle.commands.specs.declared.Unread.{Unread}
use Rattle.commands.specs.declared.Unread.TheVariants.{NoSuchByte, PastEnd}

abbrev pub operation : Operation → tree.Operation
operation Add = tree.add
operation Sub = tree.sub
operation Less = tree.less
operation Same = tree.same
operation Bits = tree.bits

abbrev pub plain_of : Plain → tree.Plain
plain_of (Set x n) = tree.set_place x n
plain_of (Copy x a) = tree.copy_place x a
plain_of (Combine o x a b) = tree.combine_places (operation o) x a b
plain_of (Pick x t a) = tree.pick_cell x t a
plain_of (Put t a b) = tree.put_cell t a b
plain_of (Drive d a) = tree.drive_device d a

abbrev pub flat_of : Command → Flat
flat_of (command.Plain c) = plain (plain_of c)
flat_of (command.When a y z) = choose (tree.when_place a) y.now z.now
flat_of (command.Loop a k y) = loop a k y.now
flat_of (command.Grant g y) = grant g y.now
flat_of (command.Call p) = call p
flat_of (command.Try g a y z) = choose (tree.try_frame g a) y.now z.now

-- the number of the refusal
abbrev pub unread : Unread → ℕ
unread NoSuchByte = 3
unread PastEnd = 8

-- r is what f says, of a plain command and of any
abbrev pub ReadsPlain : Front Flat → Result (Plain × Bor (List ℕ)) Unread → Type 0
ReadsPlain f r = MatchResult r (λ p. f ≡ got (plain (plain_of p.0)) p.1.now) (λ e. f ≡ bad (unread e))

abbrev pub Reads : Front Flat → Result (Command × Bor (List ℕ)) Unread → Type 0
Reads f r = MatchResult r (λ p. f ≡ got (flat_of p.0) p.1.now) (λ e. f ≡ bad (unread e))

-- a command with one block of l bytes, and a choice with two, at the front of what follows their operands
abbrev pub one_block : (List ℕ → Flat) → ℕ → List ℕ → Front Flat
one_block c l bs = cut 8 l bs (λ y after. got (c y) after)

abbrev pub two_blocks : tree.Choice → ℕ → ℕ → List ℕ → Front Flat
two_blocks c l m bs = cut 8 l bs (λ y rest. cut 8 m rest (λ z after. got (choose c y z) after))

-- the first n bytes and the rest, or there are not so many
abbrev pub CutOff : ℕ → List ℕ → Result (Bor (List ℕ) × Bor (List ℕ)) Unread → Type 0
CutOff n bs r = MatchResult r (λ p. (n ≤ length bs) × (p.0.now ≡ take n bs) × (p.1.now ≡ drop n bs)) (λ e. (e ≡ PastEnd) × (length bs < n))

-- two blocks of l and of m bytes and the rest, or there are not so many
abbrev pub CutTwo : ℕ → ℕ → List ℕ → Result (Bor (List ℕ) × Bor (List ℕ) × Bor (List ℕ)) Unread → Type 0
CutTwo l m bs r = MatchResult r (λ p. (c : tree.Choice) → two_blocks c l m bs ≡ got (choose c p.0.now p.1.now) p.2.now) (λ e. (c : tree.Choice) → two_blocks c l m bs ≡ bad (unread e))
