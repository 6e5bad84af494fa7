-- The names of the frame kinds.
use Rattle.std.specs.Prelude.{◌≡◌, ◌≢◌, ℕ, List, codes, Result, MatchResult}
use Rattle.reach.specs.declared.kinds.KindName.{KindName}
use Rattle.reach.specs.declared.kinds.KindName.TheVariants.{Rights, Levels}
use Rattle.reach.specs.declared.kinds.UnknownKind.{UnknownKind}

abbrev pub word_of : KindName → List ℕ
word_of Rights = codes "rights"
word_of Levels = codes "levels"

-- a word is read as the kind that it names, or it names none
abbrev pub ReadsKind : List ℕ → Result KindName UnknownKind → Type 0
ReadsKind word r = MatchResult r (λ k. word ≡ word_of k) (λ _. (k : KindName) → word ≢ word_of k)
