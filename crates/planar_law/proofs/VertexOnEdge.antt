-- A hot pixel whose centre is a point of an edge is an end of it: the point of the edge's piece with the
-- same weights lies in that pixel, and the piece misses all hot pixels but the two of its ends.

use Rattle.std.proofs.Common.{◌≡◌, refl, subst, ◌⊎◌, inl, inr, [], ◌∷◌, List, Contains}
use Rattle.std.specs.Prelude.{ℤ, ◌+ℤ◌, ◌*ℤ◌}
use Rattle.grid_core.specs.declared.point.Point.{Point}
use Rattle.grid_core.specs.Segment.{Segment, direction}
use Rattle.grid_core.specs.Edge.{EdgeEnds}
use Rattle.grid_core.specs.Meets.{box_of}
use Rattle.grid_core.specs.Crossing.{point_along}
use Rattle.grid_core.specs.Rounding.{hot}
use Rattle.grid_core.specs.Laws.{IsFromTo, IsInBox}
use Rattle.grid_core.specs.Planar.{whole_point, IsOnEdge, IsEnd}
use Rattle.grid_core.proofs.Polynomial.{V, ◌⊕◌, ◌⊗◌, same_polynomial}
use Rattle.planar_law.proofs.Mix.{AreWeights, mix, in_pixel}
use Rattle.planar_law.proofs.EdgePieces.{HasPiece, IsEdgeOf, same_point}
use Rattle.planar_law.proofs.OnEdge.{weights_on, whole_mean}

-- the mean of two points of a segment is the point at the mean of their shares
pub mean_along : (m k p d n i j : ℤ)
    → mix m k (p *ℤ n +ℤ i *ℤ d) (p *ℤ n +ℤ j *ℤ d) ≡ p *ℤ ((m +ℤ k) *ℤ n) +ℤ mix m k i j *ℤ d
mean_along m k p d n i j =
    same_polynomial (m ∷ k ∷ p ∷ d ∷ n ∷ i ∷ j ∷ [])
    (V 0 ⊗ (V 2 ⊗ V 4 ⊕ V 5 ⊗ V 3) ⊕ V 1 ⊗ (V 2 ⊗ V 4 ⊕ V 6 ⊗ V 3))
    (V 2 ⊗ ((V 0 ⊕ V 1) ⊗ V 4) ⊕ (V 0 ⊗ V 5 ⊕ V 1 ⊗ V 6) ⊗ V 3) refl

-- a hot pixel whose centre is a mean of two neighbours' centres is one of the two
pub vertex_is_end : (ss : List Segment) (s : Segment) (u v h : Point) → HasPiece ss s u v
    → Contains (hot ss) h
    → (m k : ℤ) → AreWeights m k → mix m k u.x v.x ≡ (m +ℤ k) *ℤ h.x
    → mix m k u.y v.y ≡ (m +ℤ k) *ℤ h.y
    → (h ≡ u) ⊎ (h ≡ v)
vertex_is_end ss s u v h p is_hot m k w ex ey = by (same_point h u) (same_point h v)
  where
    inside : IsInBox (box_of h) (point_along s (mix m k p.i p.j) ((m +ℤ k) *ℤ p.n))
    inside =
        record {
          x = subst (λ c. IsFromTo h.x h.x c ((m +ℤ k) *ℤ p.n))
              (mean_along m k s.p.x (direction s).x p.n p.i p.j)
              (in_pixel m k p.n u.x v.x h.x _ _ w p.in_u.x p.in_v.x ex);
          y = subst (λ c. IsFromTo h.y h.y c ((m +ℤ k) *ℤ p.n))
              (mean_along m k s.p.y (direction s).y p.n p.i p.j)
              (in_pixel m k p.n u.y v.y h.y _ _ w p.in_u.y p.in_v.y ey);
        }

    by : (h ≡ u) ⊎ (h ≡ u → ⊥) → (h ≡ v) ⊎ (h ≡ v → ⊥) → (h ≡ u) ⊎ (h ≡ v)
    by (inl e) _ = inl e
    by (inr not_u) (inl e) = inr e
    by (inr not_u) (inr not_v) = absurd (p.misses h is_hot not_u not_v m k w inside)

-- no vertex lies inside an edge
pub ended : (ss : List Segment) (e : EdgeEnds) (h : Point) → IsEdgeOf ss e → Contains (hot ss) h
    → IsOnEdge e (whole_point h) → IsEnd e h
ended ss e h edge is_hot on =
    let w = weights_on e (whole_point h) on in
    vertex_is_end ss edge.s e.a e.b h edge.piece is_hot _ _ w.weights
    (whole_mean _ _ e.a.x e.b.x h.x w.x) (whole_mean _ _ e.a.y e.b.y h.y w.y)
