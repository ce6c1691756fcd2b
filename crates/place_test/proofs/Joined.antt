-- Edges whose ends are vertices lie no further out than the vertices.
use Rattle.std.proofs.Common.{ℕ, List, Contains}
use Rattle.std.specs.List.{All}
use Rattle.std.proofs.lemmas.List.Elements.{All-weaker, All-contains}
use Rattle.grid_core.specs.declared.point.Point.{Point}
use Rattle.grid_core.specs.Vector.{IsWithin}
use Rattle.grid_core.specs.Edge.{EdgeEnds}
use Rattle.place_test.specs.Reach.{IsEdgeWithin}

pub joined_within : (n : ℕ) (vs : List Point) (es : List EdgeEnds) → All (IsWithin n) vs
    → All (λ e. Contains vs e.a × Contains vs e.b) es → All (IsEdgeWithin n) es
joined_within n vs es h j =
    All-weaker (λ (e : EdgeEnds). Contains vs e.a × Contains vs e.b) (IsEdgeWithin n)
    (λ e c. record { a = All-contains (IsWithin n) vs e.a h c.0; b = All-contains (IsWithin n) vs e.b h c.1 }) es j
