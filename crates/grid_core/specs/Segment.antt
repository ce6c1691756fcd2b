-- Segments of a drawing: a name and two different ends. The lesser end, by x and then by y, is p.
use Rattle.std.specs.Prelude.{◌≡◌, ℕ, if◌then◌else◌}
use Rattle.std.specs.declared.cmp.Ordering.TheVariants.{Less}
use Rattle.std.specs.Ordering.{is_lt}
use Rattle.grid_core.specs.declared.point.Point.{Point}
use Rattle.grid_core.specs.Vector.{point_cmp, minus, IsWithin}
use Rattle.grid_core.specs.Name.{Label, IsLabel}

-- a segment as contracts see it
pub record Segment : Type 0 where
  pub name : Label
  pub p : Point
  pub q : Point

-- the segment's direction, from p to q
abbrev pub direction : Segment → Point
direction s = minus s.q s.p

-- the ends stand in order, and no coordinate is greater than n in size
pub record IsSegment (n : ℕ) (s : Segment) : Type 0 where
  pub named : IsLabel s.name
  pub ordered : point_cmp s.p s.q ≡ Less
  pub p_within : IsWithin n s.p
  pub q_within : IsWithin n s.q

-- the segment of this name between a and b, given in either order
abbrev pub segment_of : Label → Point → Point → Segment
segment_of name a b =
    if is_lt (point_cmp a b)
    then record { name = name; p = a; q = b }
    else record { name = name; p = b; q = a }
