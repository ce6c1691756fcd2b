-- The tiles of segments that were worked by hand, in tiles of 256 by 256 pixels.
use Rattle.std.proofs.Common.{◌≡◌, refl, ℕ}
use Rattle.std.specs.Prelude.{ℤ, pos, ◌-ℤ◌, [], ◌∷◌}
use Rattle.grid_core.specs.declared.point.Point.{Point}
use Rattle.grid_core.specs.declared.tile.TileId.{TileId}
use Rattle.grid_core.specs.Profile.{Sizes}
use Rattle.grid_core.specs.Segment.{Segment, segment_of}
use Rattle.grid_core.specs.Tiles.{tiles, along, tile_of}

abbrev sizes : Sizes
sizes = record { bound = 1048576; side = 256 }

abbrev neg : ℕ → ℤ
neg n = pos 0 -ℤ pos n

abbrev point : ℤ → ℤ → Point
point x y = record { x = x; y = y }

abbrev tile : ℤ → ℤ → TileId
tile i j = record { i = i; j = j }

abbrev segment : Point → Point → Segment
segment a b = segment_of (record { editor = 1; serial = 1 }) a b

-- the first column right of 0 begins at 256, the first left of it ends at -1
tile-left : tile_of sizes (point (neg 1) (pos 255)) ≡ tile (neg 1) (pos 0)
tile-left = refl

tile-far : tile_of sizes (point (neg 256) (neg 257)) ≡ tile (neg 1) (neg 2)
tile-far = refl

-- along a row, over a border
row : tiles sizes (segment (point (pos 250) (pos 0)) (point (pos 260) (pos 0)))
    ≡ tile (pos 0) (pos 0) ∷ tile (pos 1) (pos 0) ∷ []
row = refl

-- through three tiles
steep : tiles sizes (segment (point (pos 255) (neg 1)) (point (pos 256) (pos 1)))
    ≡ tile (pos 0) (neg 1) ∷ tile (pos 0) (pos 0) ∷ tile (pos 1) (pos 0) ∷ []
steep = refl

-- upwards through the corner of four tiles: it belongs to the upper right one
corner-up : tiles sizes (segment (point (pos 255) (pos 255)) (point (pos 256) (pos 256)))
    ≡ tile (pos 0) (pos 0) ∷ tile (pos 1) (pos 1) ∷ []
corner-up = refl

-- downwards through it: the upper right tile is met in that one point
corner-down : tiles sizes (segment (point (pos 255) (pos 256)) (point (pos 256) (pos 255)))
    ≡ tile (pos 0) (pos 1) ∷ tile (pos 1) (pos 0) ∷ tile (pos 1) (pos 1) ∷ []
corner-down = refl

corner-along : along sizes (segment (point (pos 255) (pos 256)) (point (pos 256) (pos 255)))
    ≡ tile (pos 0) (pos 1) ∷ tile (pos 1) (pos 1) ∷ tile (pos 1) (pos 0) ∷ []
corner-along = refl
