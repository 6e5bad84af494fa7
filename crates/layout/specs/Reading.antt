-- How a body is read: the tree, or the number and the offset of the first fault.
use Rattle.std.specs.Prelude.{ℕ, zero, suc, ◌+◌, Bool, cond, List, [], ◌∷◌, length, nat_le}
use Rattle.layout.specs.Tree.{Command, plain_command, choose_block, loop_block, grant_block, call_procedure, Commands, no_commands, then_command, Block, numbered_block}
use Rattle.layout.specs.Layout.{Flat, plain, choose, loop, grant, call, command_bytes, choice_head, loop_head, grant_head}
use Rattle.layout.specs.Folds.{size, size_block}
use Rattle.layout.specs.Scope.{Scope, turns, named, targets, low, blocks}
use Rattle.layout.specs.Front.{Front, got, bad, front}

pub data Got (A : Type 0) : Type 0 where
  ok : A → Got A
  fault : (number offset : ℕ) → Got A

abbrev pub and_then : {A B : Type 0} → Got A → (A → Got B) → Got B
and_then (ok a) k = k a
and_then (fault n o) k = fault n o

-- g where the test holds, or else fault n at `at`
abbrev pub demand : {A : Type 0} → Bool → ℕ → ℕ → Got A → Got A
demand t n at g = cond t g (fault n at)

-- the checks of a command at `at`, at depth d, where the next block is number n,
-- and q blocks are counted and not yet entered
abbrev pub checked : {A : Type 0} → Scope → Flat → ℕ → ℕ → ℕ → ℕ → Got A → Got A
checked w c at d n q g =
    demand (turns c) 8 at
    (demand (named w c) 6 at
    (demand (targets w c) 7 at
    (demand (low w d c) 9 at
    (demand (nat_le (n + q + blocks c) 256) 5 at g))))

-- a reader of blocks: bytes, offset, number, blocks that wait
abbrev pub Reader : Type 0
Reader = List ℕ → ℕ → ℕ → ℕ → Got Block

-- a command with its blocks read
abbrev pub parts : Reader → Flat → ℕ → ℕ → ℕ → Got Command
parts r (plain c) at n q = ok (plain_command at c)
parts r (choose c y z) at n q =
    and_then (r y (at + choice_head c) n (q + 1)) (λ b. and_then (r z (at + choice_head c + length y) (n + size_block b) q) (λ e. ok (choose_block c b e)))
parts r (loop a k y) at n q = and_then (r y (at + loop_head) n q) (λ b. ok (loop_block a k b))
parts r (grant g y) at n q = and_then (r y (at + grant_head) n q) (λ b. ok (grant_block g b))
parts r (call p) at n q = ok (call_procedure p)

abbrev pub one : Reader → Scope → Flat → ℕ → ℕ → ℕ → ℕ → Got Command
one r w c at d n q = checked w c at d n q (parts r c at n q)

-- what is left of a block, by what stands at its front
abbrev pub next : Reader → (List ℕ → ℕ → ℕ → Got Commands) → Scope → Front Flat → ℕ → ℕ → ℕ → ℕ → Got Commands
next r more w (bad m) at d n q = fault m at
next r more w (got c rest) at d n q =
    and_then (one r w c at d n q) (λ t. and_then (more rest (at + length (command_bytes c)) (n + size t)) (λ ts. ok (then_command t ts)))

-- the commands of a block at depth d, the next of which is at `at`; the first argument bounds the recursion
unfoldable pub read : ℕ → Scope → List ℕ → ℕ → ℕ → ℕ → ℕ → Got Commands
read zero w bs at d n q = fault 0 at
read (suc f) w [] at d n q = ok no_commands
read (suc f) w (b ∷ bs) at d n q =
    next (λ ys a m p. and_then (read f w ys a (d + 1) (m + 1) p) (λ ts. ok (numbered_block m ts))) (λ ys a m. read f w ys a d m q) w (front (b ∷ bs)) at d n q

-- a block at depth d
abbrev pub inner : ℕ → Scope → ℕ → Reader
inner f w d ys a m p = and_then (read f w ys a d (m + 1) p) (λ ts. ok (numbered_block m ts))

-- a body at `at`, of number n
abbrev pub read_body : Scope → List ℕ → ℕ → ℕ → Got Block
read_body w bs at n = inner (length bs + 1) w 0 bs at n 0
