-- Where tiles lie: the tile of a pixel is the one whose box has the pixel, and a segment that meets
-- a pixel meets its tile. A point of the segment that lies in the pixel lies in the tile, since
-- the box of the pixel lies in that of the tile.

use Rattle.std.proofs.Common.{subst, arith, IsTrue}
use Rattle.std.specs.Prelude.{◌<◌, ℤ, pos, ◌+ℤ◌, ◌-ℤ◌, ◌*ℤ◌, ◌≤ℤ◌, ◌<ℤ◌}
use Rattle.std.specs.Int.{int_div_euclid}
use Rattle.grid_core.specs.declared.point.Point.{Point}
use Rattle.grid_core.specs.declared.pixel_box.PixelBox.{PixelBox}
use Rattle.grid_core.specs.declared.tile.TileId.{TileId}
use Rattle.grid_core.specs.Profile.{Sizes}
use Rattle.grid_core.specs.Segment.{Segment}
use Rattle.grid_core.specs.Meets.{meets_of, box_of, meets_pixel_of}
use Rattle.grid_core.specs.Tiles.{tile_of, tile_box, meets_tile, in_tile}
use Rattle.grid_core.specs.Laws.{IsFromTo, HasPointIn}
use Rattle.grid_core.proofs.Signed.{signed}
use Rattle.grid_core.proofs.Ring.{int_mul-le_right}
use Rattle.grid_core.proofs.Crossings.{floor_low, floor_high}
use Rattle.grid_core.proofs.Quotients.{times_more}
use Rattle.grid_core.proofs.MeetingPoint.{meets_where_a_point_lies}
use Rattle.grid_core.proofs.TileOrder.{tile_decides}

-- ---- a box within a box

abbrev pub IsWithinBox : PixelBox → PixelBox → Type 0
IsWithinBox a b = (b.lo.x ≤ℤ a.lo.x) × (a.hi.x ≤ℤ b.hi.x) × (b.lo.y ≤ℤ a.lo.y) × (a.hi.y ≤ℤ b.hi.y)

wider : (lo hi low high num den : ℤ) → pos 0 <ℤ den → low ≤ℤ lo → hi ≤ℤ high → IsFromTo lo hi num den
    → IsFromTo low high num den
wider lo hi low high num den h l r w =
    let less = int_mul-le_right (pos 2 *ℤ low -ℤ pos 1) (pos 2 *ℤ lo -ℤ pos 1) den
    (omega (arith, signed, h)) (omega (arith, signed, l)) in
    let more = int_mul-le_right (pos 2 *ℤ hi +ℤ pos 1) (pos 2 *ℤ high +ℤ pos 1) den
    (omega (arith, signed, h)) (omega (arith, signed, r)) in
    record { low = omega (arith, signed, w.low, less); high = omega (arith, signed, w.high, more) }

-- a segment that meets a box meets each box around it
pub meets_wider : (s : Segment) (a b : PixelBox) → IsWithinBox a b → IsTrue (meets_of s a) → IsTrue (meets_of s b)
meets_wider s a b w m = (meets_where_a_point_lies s b).1 (inside ((meets_where_a_point_lies s a).0 m))
  where
    inside : HasPointIn s a → HasPointIn s b
    inside p =
        record {
          a = p.a;
          b = p.b;
          part = p.part;
          whole = p.whole;
          inside = record {
            x = wider a.lo.x a.hi.x b.lo.x b.hi.x _ (pos p.b) (omega (arith, signed, p.whole)) w.0 w.1 p.inside.x;
            y = wider a.lo.y a.hi.y b.lo.y b.hi.y _ (pos p.b) (omega (arith, signed, p.whole)) w.2 w.3 p.inside.y;
          };
        }

-- ---- the tile of a pixel

-- one coordinate of a pixel lies between those of the sides of its tile
in_column : (x m : ℤ) → pos 0 <ℤ m
    → ((m *ℤ int_div_euclid x m) ≤ℤ x) × (x ≤ℤ (m *ℤ int_div_euclid x m +ℤ m -ℤ pos 1))
in_column x m h =
    let low = floor_low x m h in
    let high = floor_high x m h in
    let more = times_more m (int_div_euclid x m) in
    (low, omega (arith, signed, high, more))

-- the pixel lies in the box of its tile
pub in_box_of_tile : (pr : Sizes) → 0 < pr.side → (h : Point) → IsWithinBox (box_of h) (tile_box pr (tile_of pr h))
in_box_of_tile pr some h =
    let x = in_column h.x (pos pr.side) (omega (arith, signed, some)) in
    let y = in_column h.y (pos pr.side) (omega (arith, signed, some)) in
    (x.0, x.1, y.0, y.1)

-- a segment that meets a pixel meets the tile in which the pixel lies
pub meets_tile_of : (pr : Sizes) → 0 < pr.side → (s : Segment) (h : Point) → IsTrue (meets_pixel_of s h)
    → IsTrue (meets_tile pr (tile_of pr h) s)
meets_tile_of pr some s h m = meets_wider s (box_of h) (tile_box pr (tile_of pr h)) (in_box_of_tile pr some h) m

pub met_tile : (pr : Sizes) → 0 < pr.side → (s : Segment) (t : TileId) (h : Point) → IsTrue (in_tile pr t h)
    → IsTrue (meets_pixel_of s h) → IsTrue (meets_tile pr t s)
met_tile pr some s t h i m =
    subst (λ t. IsTrue (meets_tile pr t s)) ((tile_decides (tile_of pr h) t).0 i) (meets_tile_of pr some s h m)
