-- The leaf of a query point's column.
use Rattle.std.specs.Prelude.{◌≡◌, ℤ, pos, ◌≤ℤ◌, ◌<ℤ◌}
use Rattle.std.specs.Int.{int_div_euclid}
use Rattle.grid_core.specs.declared.point.Point.{Point}
use Rattle.edge_search.specs.Pieces.{column}

-- a leaf of strip k is the column in which q lies
pub record IsLeafOf (k : ℤ) (q : Point) (leaf : ℤ) : Type 0 where
  pub from : pos 256 ≤ℤ leaf
  pub to : leaf <ℤ pos 512
  pub is : column k leaf ≡ int_div_euclid q.x (pos 256)
