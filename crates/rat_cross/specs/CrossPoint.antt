-- Points at which two segments cross, as fractions of whole numbers.
use Rattle.std.specs.Prelude.{ℕ, pos, ◌*◌, ◌≤◌, ◌<ℤ◌, unsigned_abs}
use Rattle.grid_core.specs.Crossing.{RationalPoint}

-- both coordinates are at most n in size, and the denominator is from 1 to 8 n^2
pub record IsCrossPoint (n : ℕ) (c : RationalPoint) : Type 0 where
  pub positive : pos 0 <ℤ c.den
  pub small : unsigned_abs c.den ≤ 8 * (n * n)
  pub x : unsigned_abs c.num_x ≤ n * unsigned_abs c.den
  pub y : unsigned_abs c.num_y ≤ n * unsigned_abs c.den
