-- What holds of the walk over a child, of the path below one, which may not be there, and of the leaf at a path's end.
use Rattle.std.specs.Prelude.{◌≡◌, ℕ, ◌/◌, ◌%◌, Option, Some, None, List}
use Rattle.radix_map.specs.declared.level.Leaf.{Leaf}
use Rattle.radix_map.specs.Slots.{item_at}
use Rattle.radix_map.specs.Entries.{part, value_at}
use Rattle.radix_map.specs.Levels.{leaf_entries}

-- P holds of the walk over a child, if there is one
abbrev pub inner_sound : {W : Type 0} → (W → Type 0) → Option W → Type 0
inner_sound P None = Unit {0}
inner_sound P (Some w) = P w

-- the path below a child, if there is one, is sound and leads into the child at slot i, where f tells its entries
abbrev pub IsFingerOf : {F T V : Type 0} → (F → Type 0) → (F → List (ℕ × V)) → (T → List (ℕ × V)) → List (Option T) → ℕ → Option F → Type 0
IsFingerOf P found f xs i None = Unit {0}
IsFingerOf P found f xs i (Some w) = P w × (found w ≡ part f (item_at xs i))

-- entries es, which count keys within width, have at the sixteen keys of block b what the leaf has, and nothing where there is no leaf
abbrev pub IsLeafOf : {V : Type 0} → ℕ → List (ℕ × V) → ℕ → Option (Leaf V) → Type 0
IsLeafOf width es b leaf = (k : ℕ) → k / 16 ≡ b → value_at (k % width) es ≡ value_at (k % 16) (part leaf_entries leaf)
