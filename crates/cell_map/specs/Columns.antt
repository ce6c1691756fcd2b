-- The grid point at a query point, and vertices beside the cell between two edges.
use Rattle.std.specs.Prelude.{pos, Bool, not, ◌&&◌, Option}
use Rattle.std.specs.Int.{int_div_euclid}
use Rattle.grid_core.specs.declared.point.Point.{Point}
use Rattle.grid_core.specs.Edge.{EdgeEnds}
use Rattle.grid_core.specs.Places.{is_at_most, is_at_least}
use Rattle.cell_map.specs.declared.columns.Side.{Side}
use Rattle.cell_map.specs.declared.columns.Side.TheVariants.{Below, Above}

-- the query point in pixels, both coordinates rounded down
abbrev pub floor_of : Point → Point
floor_of q = record { x = int_div_euclid q.x (pos 256); y = int_div_euclid q.y (pos 256) }

-- the vertex lies on or between the two edges
abbrev pub bounds_cell : Option EdgeEnds → Option EdgeEnds → Point → Bool
bounds_cell above below h = is_at_most above h && is_at_least below h

-- the vertex lies on this side of the cell between two edges, and so doesn't bound it
abbrev pub lies_outside : Option EdgeEnds → Option EdgeEnds → Side → Point → Bool
lies_outside above below Below h = not (is_at_least below h)
lies_outside above below Above h = not (is_at_most above h)
