-- The pixels of a tile as numbers.
use Rattle.std.specs.Prelude.{◌≡◌, ℕ, ◌^◌, ◌+◌, ◌-◌, ◌*◌, ◌/◌, ◌%◌, ℤ, pos, ◌+ℤ◌, ◌-ℤ◌, unsigned_abs}
use Rattle.std.specs.Prelude.{if◌then◌else◌, Option, Some, None}
use Rattle.grid_core.specs.declared.point.Point.{Point}
use Rattle.grid_core.specs.declared.tile.TileId.{TileId}
use Rattle.grid_core.specs.Vector.{IsWithin}
use Rattle.grid_core.specs.Profile.{Sizes, IsProfile}
use Rattle.grid_core.specs.Segment.{Segment}
use Rattle.grid_core.specs.Tiles.{tile_box, in_tile, falls}

-- a tile by its sizes and its number
pub record TileFrame : Type 0 where
  pub profile : Sizes
  pub id : TileId

-- the lower left pixel of the tile
abbrev pub lowest : TileFrame → Point
lowest f = (tile_box f.profile f.id).lo

-- the sizes are those of a drawing; lo is the lower left pixel, at most 2 ^ 61 in size in each
-- coordinate; the tile is `side` pixels wide and high
pub record IsFrame (f : TileFrame) (lo : Point) (side : ℤ) : Type 0 where
  pub sizes : IsProfile f.profile
  pub first : lo ≡ lowest f
  pub small : IsWithin (2 ^ 61) lo
  pub wide : side ≡ pos f.profile.side

-- the pixel's number in the tile, its key: 65,536 times its column there, and its row there
unfoldable pub key_of : TileFrame → Point → ℕ
key_of f h = 65536 * unsigned_abs (h.x -ℤ (lowest f).x) + unsigned_abs (h.y -ℤ (lowest f).y)

-- the key of the pixel, if it lies in the tile
abbrev pub key_in : TileFrame → Point → Option ℕ
key_in f h = if in_tile f.profile f.id h then Some (key_of f h) else None

-- the pixel with this key
unfoldable pub pixel_at : TileFrame → ℕ → Point
pixel_at f k = record { x = (lowest f).x +ℤ pos (k / 65536); y = (lowest f).y +ℤ pos (k % 65536) }

-- the key where rows are counted from above
unfoldable pub turned : ℕ → ℕ
turned k = k / 65536 * 65536 + (65535 - k % 65536)

-- the number of a key along the segment: the key, turned where the segment falls
abbrev pub step_of : Segment → ℕ → ℕ
step_of s k = if falls s then turned k else k
