-- Rows that are numbered.
use Rattle.std.specs.Prelude.{◌≡◌, ℕ, ◌+◌, List, [], ◌∷◌}

-- one row for each, numbered from n on
abbrev pub numbered : {X Y : Type 0} → (ℕ → X → Y) → ℕ → List X → List Y
numbered row n [] = []
numbered row n (x ∷ xs) = row n x ∷ numbered row (n + 1) xs

-- what a call at a number and an item gives is their row
abbrev pub GivesRows : {X Y : Type 0} → (ℕ → X → Y → Type 0) → (ℕ → X → Y) → Type 0
GivesRows {X} {Y} gives row = (n : ℕ) (x : X) (y : Y) → gives n x y → y ≡ row n x
