-- Half-edges as they are compared, counted and looked up.
use Rattle.std.specs.Prelude.{ℕ, zero, suc, ◌^◌}
use Rattle.std.specs.declared.cmp.Ordering.{Ordering}
use Rattle.std.specs.Ordering.{ordering_then}
use Rattle.grid_core.specs.Vector.{point_cmp, IsWithin}
use Rattle.grid_core.specs.Contours.{HalfEdge, around_cmp}

-- no coordinate of the two ends is greater than 2 ^ 30 in size
pub record IsWithinReach (h : HalfEdge) : Type 0 where
  pub origin : IsWithin (2 ^ 30) h.origin
  pub target : IsWithin (2 ^ 30) h.target

-- by start, and at one start clockwise from straight up
abbrev pub spoke_cmp : HalfEdge → HalfEdge → Ordering
spoke_cmp g h =
    ordering_then (point_cmp g.origin h.origin) (around_cmp g.origin g.target h.target)

-- the number of a half-edge's twin: the two half-edges of an edge have the numbers 2 i and 2 i + 1
unfoldable pub twin_number : ℕ → ℕ
twin_number zero = 1
twin_number (suc zero) = 0
twin_number (suc (suc n)) = suc (suc (twin_number n))
