-- What a call took from a source, or wrote to a sink, in all its reads or writes together.
-- Each word holds of a source or a sink that tells no bytes.
use Rattle.std.specs.Prelude.{◌≡◌, ℕ, ◌≤◌, List, length, take, Option}
use Rattle.std.specs.Io.KnownBytes.{Appends, Consumes, IsAtEnd}

-- all that was left was taken, and is bs
abbrev pub TakesAll : Option (List ℕ) → Option (List ℕ) → List ℕ → Type 0
TakesAll old new bs = Consumes old new bs × IsAtEnd new

-- the first bytes were taken, n of them or fewer
abbrev pub TakesAtMost : Option (List ℕ) → Option (List ℕ) → ℕ → Type 0
TakesAtMost old new n = (bs : List ℕ) × Consumes old new bs × (length bs ≤ n)

-- the first n bytes were taken
abbrev pub TakesExactly : Option (List ℕ) → Option (List ℕ) → ℕ → Type 0
TakesExactly old new n = (bs : List ℕ) × Consumes old new bs × (length bs ≡ n)

-- a prefix of bs was written
abbrev pub WritesPrefix : Option (List ℕ) → Option (List ℕ) → List ℕ → Type 0
WritesPrefix old new bs = (n : ℕ) × Appends old new (take n bs)
