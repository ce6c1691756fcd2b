-- How far out edges lie, so that every product stays exact.
use Rattle.std.specs.Prelude.{ℕ}
use Rattle.grid_core.specs.Vector.{IsWithin}
use Rattle.grid_core.specs.Edge.{EdgeEnds}

-- neither end of the edge has a coordinate greater than n in size
pub record IsEdgeWithin (n : ℕ) (e : EdgeEnds) : Type 0 where
  pub a : IsWithin n e.a
  pub b : IsWithin n e.b
