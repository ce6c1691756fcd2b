-- Points and directions of the integer grid: their order, their difference, and their two products.
use Rattle.std.specs.Prelude.{ℕ, ℤ, ◌-ℤ◌, ◌*ℤ◌, ◌+ℤ◌, ◌≤◌, ◌<◌, ◌⊎◌, unsigned_abs, Bool}
use Rattle.std.specs.declared.cmp.Ordering.{Ordering}
use Rattle.std.specs.Ordering.{int_cmp, ordering_then, is_eq}
use Rattle.grid_core.specs.declared.point.Point.{Point}

-- the direction from b to a
abbrev pub minus : Point → Point → Point
minus a b = record { x = a.x -ℤ b.x; y = a.y -ℤ b.y }

-- the cross product: positive where e points to the left of d
abbrev pub cross_of : Point → Point → ℤ
cross_of d e = d.x *ℤ e.y -ℤ d.y *ℤ e.x

-- the dot product: it rises as e moves along d
abbrev pub dot_of : Point → Point → ℤ
dot_of d e = d.x *ℤ e.x +ℤ d.y *ℤ e.y

-- by x, and at one x by y
abbrev pub point_cmp : Point → Point → Ordering
point_cmp a b = ordering_then (int_cmp a.x b.x) (int_cmp a.y b.y)

-- the two are one point
abbrev pub point_eq : Point → Point → Bool
point_eq a b = is_eq (point_cmp a b)

-- each coordinate is at most n in size
pub record IsWithin (n : ℕ) (a : Point) : Type 0 where
  pub x : unsigned_abs a.x ≤ n
  pub y : unsigned_abs a.y ≤ n

-- some coordinate is greater than n in size
abbrev pub IsOutside : ℕ → Point → Type 0
IsOutside n a = (n < unsigned_abs a.x) ⊎ (n < unsigned_abs a.y)
