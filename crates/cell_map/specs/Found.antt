-- Where a query point lies among vertices and edges, with its cell where it lies between edges.
use Rattle.std.specs.Prelude.{ℤ, pos, ◌*ℤ◌, int_le, int_lt, ◌&&◌, if◌then◌else◌, Option, List}
use Rattle.std.specs.Int.{int_min, int_max}
use Rattle.grid_core.specs.declared.point.Point.{Point}
use Rattle.grid_core.specs.declared.place.Place.{Place}
use Rattle.grid_core.specs.declared.place.Place.TheVariants as place
use Rattle.grid_core.specs.declared.place.Cell.{Cell}
use Rattle.grid_core.specs.Edge.{EdgeEnds}
use Rattle.grid_core.specs.Places.{place_among, cell_among, is_at_most, is_at_least}
use Rattle.cell_map.specs.declared.found.Found.{Found}
use Rattle.cell_map.specs.declared.found.Found.TheVariants.{Vertex, OnEdge, Inside}

-- a place, or in place of a pair of edges the cell between them
abbrev pub found_at : Place → Cell → Found
found_at (place.Vertex h) c = Vertex h
found_at (place.OnEdge e) c = OnEdge e
found_at (place.Between above below) c = Inside c

-- where q lies among vertices and edges, with its cell in a strip of 256 columns
abbrev pub found_among : List Point → List EdgeEnds → Point → Found
found_among vs es q = found_at (place_among vs es q) (cell_among 256 vs es q)

-- how far a cell reaches to the left with one vertex more: to its column, where it bounds the cell, is
-- not right of q and is nearer than what bounded the cell before
abbrev pub left_with : Option EdgeEnds → Option EdgeEnds → Point → ℤ → Point → ℤ
left_with above below q left h =
    if (is_at_most above h && is_at_least below h) && int_le (pos 256 *ℤ h.x) q.x then int_max left h.x else left

-- how far a cell reaches to the right with one vertex more
abbrev pub right_with : Option EdgeEnds → Option EdgeEnds → Point → ℤ → Point → ℤ
right_with above below q right h =
    if (is_at_most above h && is_at_least below h) && int_lt q.x (pos 256 *ℤ h.x) then int_min right h.x else right

-- the cell with one vertex more
abbrev pub narrowed : Point → Cell → Point → Cell
narrowed q c h =
    record {
      above = c.above;
      below = c.below;
      left = left_with c.above c.below q c.left h;
      right = right_with c.above c.below q c.right h;
    }
