-- Edges between grid points. An edge has no direction.
use Rattle.std.specs.Prelude.{◌≡◌, Bool, if◌then◌else◌}
use Rattle.std.specs.declared.cmp.Ordering.{Ordering}
use Rattle.std.specs.declared.cmp.Ordering.TheVariants.{Less}
use Rattle.std.specs.Ordering.{ordering_then, is_lt, is_eq}
use Rattle.grid_core.specs.declared.point.Point.{Point}
use Rattle.grid_core.specs.Vector.{point_cmp}

-- an edge as contracts see it: its lesser end and its greater end
pub record EdgeEnds : Type 0 where
  pub a : Point
  pub b : Point

-- the lesser end comes before the greater
abbrev pub IsEdge : EdgeEnds → Type 0
IsEdge e = point_cmp e.a e.b ≡ Less

-- the edge between two different points, given in either order
abbrev pub edge_between : Point → Point → EdgeEnds
edge_between u v =
    if is_lt (point_cmp u v)
    then record { a = u; b = v }
    else record { a = v; b = u }

-- by lesser end, and at one lesser end by greater end
abbrev pub edge_cmp : EdgeEnds → EdgeEnds → Ordering
edge_cmp e f = ordering_then (point_cmp e.a f.a) (point_cmp e.b f.b)

-- the two are one edge
abbrev pub edge_eq : EdgeEnds → EdgeEnds → Bool
edge_eq e f = is_eq (edge_cmp e f)
