-- Which of some tiles was touched last, by the tiles' stamps.
use Rattle.std.specs.Prelude.{◌≡◌, ℕ, ◌≤◌, ◌<◌, List, [], ◌∷◌, ◌⊎◌, Option, Some, None}
use Rattle.std.specs.List.{AllByRecursion}
use Rattle.grid_core.specs.declared.tile.TileId.{TileId}

-- no tile has a stamp above n
abbrev pub AreUpTo : (TileId → ℕ) → ℕ → List TileId → Type 0
AreUpTo f n ts = AllByRecursion (λ t. f t ≤ n) ts

-- n is the greatest stamp of the tiles, and t the first tile with it
abbrev pub IsFirstOf : (TileId → ℕ) → ℕ → TileId → List TileId → Type 0
IsFirstOf f n t [] = ⊥
IsFirstOf f n t (u ∷ ts) = ((u ≡ t) × (f u ≡ n) × AreUpTo f n ts) ⊎ ((f u < n) × IsFirstOf f n t ts)

-- the greatest stamp above b and the first tile with it, none where no stamp is above b
abbrev pub IsLastTouched : (TileId → ℕ) → ℕ → List TileId → Option (ℕ × TileId) → Type 0
IsLastTouched f b ts None = AreUpTo f b ts
IsLastTouched f b ts (Some c) = (b < c.0) × IsFirstOf f c.0 c.1 ts
