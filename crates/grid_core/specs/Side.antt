-- The side of a segment on which a point lies, by the sign of a cross product.
use Rattle.std.specs.Prelude.{pos, int_lt, if◌then◌else◌}
use Rattle.grid_core.specs.declared.point.Point.{Point}
use Rattle.grid_core.specs.declared.side.Side.{Side}
use Rattle.grid_core.specs.declared.side.Side.TheVariants.{Left, On, Right}
use Rattle.grid_core.specs.Vector.{cross_of, minus}
use Rattle.grid_core.specs.Segment.{Segment, direction}

-- left of the line from p to q, on it, or right of it
abbrev pub side_at : Segment → Point → Side
side_at s h =
    let orientation = cross_of (direction s) (minus h s.p) in
    if int_lt (pos 0) orientation then Left
    else if int_lt orientation (pos 0) then Right
    else On
