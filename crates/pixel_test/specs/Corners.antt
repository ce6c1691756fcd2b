-- The test of a segment against a box by bounding boxes and corners.
-- Corners are given by twice their coordinates, which are whole: the box's left side is at
-- lo.x - 1/2, and is given as 2 lo.x - 1.
use Rattle.std.specs.Prelude.{ℤ, pos, ◌+ℤ◌, ◌-ℤ◌, ◌*ℤ◌, int_lt, int_le}
use Rattle.std.specs.Prelude.{Bool, true, not, ◌&&◌, if◌then◌else◌}
use Rattle.std.specs.Int.{int_min, int_max}
use Rattle.grid_core.specs.declared.point.Point.{Point}
use Rattle.grid_core.specs.declared.pixel_box.PixelBox.{PixelBox}
use Rattle.grid_core.specs.Vector.{cross_of, minus}
use Rattle.grid_core.specs.Segment.{Segment, direction}

-- the columns from left to right share one with the box
abbrev pub shares_columns_of : ℤ → ℤ → PixelBox → Bool
shares_columns_of left right area = int_le left area.hi.x && int_le area.lo.x right

-- the rows from a to b, given in either order, share one with the box
abbrev pub shares_rows_of : ℤ → ℤ → PixelBox → Bool
shares_rows_of a b area =
    int_le (int_min a b) area.hi.y && int_le area.lo.y (int_max a b)

-- the box of the pixels of both ends overlaps the box
abbrev pub overlaps_of : Segment → PixelBox → Bool
overlaps_of s area = shares_columns_of s.p.x s.q.x area && shares_rows_of s.p.y s.q.y area

-- twice a point
abbrev pub twice_of : Point → Point
twice_of a = record { x = pos 2 *ℤ a.x; y = pos 2 *ℤ a.y }

-- twice the upper left corner of the box
abbrev pub upper_left_of : PixelBox → Point
upper_left_of area = record { x = pos 2 *ℤ area.lo.x -ℤ pos 1; y = pos 2 *ℤ area.hi.y +ℤ pos 1 }

-- twice the upper right corner
abbrev pub upper_right_of : PixelBox → Point
upper_right_of area = record { x = pos 2 *ℤ area.hi.x +ℤ pos 1; y = pos 2 *ℤ area.hi.y +ℤ pos 1 }

-- twice the lower left corner, the only one in the box
abbrev pub lower_left_of : PixelBox → Point
lower_left_of area = record { x = pos 2 *ℤ area.lo.x -ℤ pos 1; y = pos 2 *ℤ area.lo.y -ℤ pos 1 }

-- twice the lower right corner
abbrev pub lower_right_of : PixelBox → Point
lower_right_of area = record { x = pos 2 *ℤ area.hi.x +ℤ pos 1; y = pos 2 *ℤ area.lo.y -ℤ pos 1 }

-- twice the cross product of the segment's direction and the way from p to a corner
abbrev pub corner_side_of : Segment → Point → ℤ
corner_side_of s corner = cross_of (direction s) (minus corner (twice_of s.p))

-- the corner lies on the left of the segment's line
abbrev pub is_left_of : Segment → Point → Bool
is_left_of s corner = int_lt (pos 0) (corner_side_of s corner)

-- the corner lies on the right of the segment's line
abbrev pub is_right_of : Segment → Point → Bool
is_right_of s corner = int_lt (corner_side_of s corner) (pos 0)

-- a rising line passes between the upper left and the lower right corner, which aren't in the box
abbrev pub straddles_rising_of : Segment → PixelBox → Bool
straddles_rising_of s area =
    is_left_of s (upper_left_of area) && is_right_of s (lower_right_of area)

-- a falling line passes between the upper right corner, which isn't in the box, and the lower left
-- one, which is
abbrev pub straddles_falling_of : Segment → PixelBox → Bool
straddles_falling_of s area =
    is_left_of s (upper_right_of area) && not (is_left_of s (lower_left_of area))

-- the segment goes to the right and up
abbrev pub rises_of : Segment → Bool
rises_of s = int_lt s.p.x s.q.x && int_lt s.p.y s.q.y

-- the segment's line has corners of the box on both sides, as every level or upright line has that
-- overlaps it
abbrev pub straddles_of : Segment → PixelBox → Bool
straddles_of s area =
    if int_lt s.q.y s.p.y then straddles_falling_of s area
    else if rises_of s then straddles_rising_of s area
    else true
