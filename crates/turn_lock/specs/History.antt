-- Histories of a book: lists of entries, the oldest first, each of which names the number of a lock
-- pass.
use Rattle.std.specs.Prelude.{◌≡◌, ℕ, List, [], ◌∷◌, ◌++◌, length, filter, ◌==◌, nat_lt}
use Rattle.std.specs.Prelude.{if◌then◌else◌, Bool, true, false}

module _ {E : Type 0} where
  -- ys begins with xs
  abbrev pub IsPrefix : List E → List E → Type 0
  IsPrefix xs ys = (rest : List E) × (ys ≡ xs ++ rest)

  -- the entries of es that name the number n, in order
  abbrev pub calls : (E → ℕ) → ℕ → List E → List E
  calls author n es = filter (λ e. author e == n) es

  -- `new` is `old`, and where `up` it has one entry more at its end, which names the number n
  abbrev pub GrowsBy : (E → ℕ) → ℕ → Bool → List E → List E → Type 0
  GrowsBy author n true old new = (e : E) × (new ≡ old ++ e ∷ []) × (author e ≡ n)
  GrowsBy author n false old new = new ≡ old

  -- the longer of the two lists, the first where they are equally long
  abbrev pub longer : List E → List E → List E
  longer xs ys = if nat_lt (length xs) (length ys) then ys else xs
