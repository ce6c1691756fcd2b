-- Lists of numbers, one behind the other in one list, with the numbers at which each ends.
use Rattle.std.specs.Prelude.{◌≡◌, ◌≤◌, ℕ, zero, suc, ◌-◌, List, [], ◌∷◌, take, drop, slice_index_or}

-- the lists that end at these places of ws, the first of which begins at `from` and stands first in ws
abbrev pub cut : ℕ → List ℕ → List ℕ → List (List ℕ)
cut from [] ws = []
cut from (e ∷ es) ws = take (e - from) ws ∷ cut e es (drop (e - from) ws)

-- the ends don't fall, from `from` to n
abbrev pub AreEnds : ℕ → List ℕ → ℕ → Type 0
AreEnds from [] n = from ≡ n
AreEnds from (e ∷ es) n = (from ≤ e) × AreEnds e es n

-- where the list at an index begins: at `from`, or where the one before it ends
abbrev pub start_at : ℕ → List ℕ → ℕ → ℕ
start_at from es zero = from
start_at from es (suc i) = slice_index_or es i 0
