-- Where two segments cross, as fractions of whole numbers, and the pixel of such a point.
-- Shared ends and touches are crossings; parallel segments have none.
use Rattle.std.specs.Prelude.{ℤ, pos, ◌+ℤ◌, ◌-ℤ◌, ◌*ℤ◌, int_lt, int_le}
use Rattle.std.specs.Prelude.{Bool, ◌&&◌, if◌then◌else◌, Option, Some, None}
use Rattle.std.specs.Int.{int_div_euclid}
use Rattle.grid_core.specs.declared.point.Point.{Point}
use Rattle.grid_core.specs.Vector.{cross_of, minus}
use Rattle.grid_core.specs.Segment.{Segment, direction}

-- the point (num_x / den, num_y / den); den is above 0
pub record RationalPoint : Type 0 where
  pub num_x : ℤ
  pub num_y : ℤ
  pub den : ℤ

-- u / den is from 0 to 1
abbrev pub in_unit_interval : ℤ → ℤ → Bool
in_unit_interval u den = int_le (pos 0) u && int_le u den

-- s.p + (u / den) (s.q - s.p)
abbrev pub point_along : Segment → ℤ → ℤ → RationalPoint
point_along s u den =
    record {
      num_x = s.p.x *ℤ den +ℤ u *ℤ (direction s).x;
      num_y = s.p.y *ℤ den +ℤ u *ℤ (direction s).y;
      den = den;
    }

-- the point of s at the parameter u / den, where that and the parameter v / den of the other segment
-- are from 0 to 1
abbrev pub within_both : Segment → ℤ → ℤ → ℤ → Option RationalPoint
within_both s u v den = if in_unit_interval u den && in_unit_interval v den then Some (point_along s u den) else None

-- where the lines of two segments that aren't parallel meet, if that point lies on both;
-- the denominator is the size of the cross product of the directions
abbrev pub crossing_of : Segment → Segment → Option RationalPoint
crossing_of s t =
    let den = cross_of (direction s) (direction t) in
    let w = minus t.p s.p in
    let u = cross_of w (direction t) in
    let v = cross_of w (direction s) in
    if int_lt (pos 0) den then within_both s u v den
    else if int_lt den (pos 0) then within_both s (pos 0 -ℤ u) (pos 0 -ℤ v) (pos 0 -ℤ den)
    else None

-- n / d to the nearest whole number, a half upwards: the pixel of a coordinate
abbrev pub pixel_coordinate : ℤ → ℤ → ℤ
pixel_coordinate n d = int_div_euclid (pos 2 *ℤ n +ℤ d) (pos 2 *ℤ d)

-- the pixel that a point lies in
abbrev pub pixel_of : RationalPoint → Point
pixel_of c = record { x = pixel_coordinate c.num_x c.den; y = pixel_coordinate c.num_y c.den }
