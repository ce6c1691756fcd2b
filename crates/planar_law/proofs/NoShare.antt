-- Two edges whose four ends differ have no point in common. If they had one, their pieces would cross
-- (Pieces), in a point of a hot pixel (HotCrossing). Each piece misses all hot pixels but the two of its
-- own ends; so that pixel would be an end of both edges.

use Rattle.std.proofs.Common.{◌≡◌, refl, sym, ap, subst, ◌∙◌, [], ◌∷◌, ◌⊎◌, inl, inr, List, Contains}
use Rattle.std.specs.Prelude.{ℤ, pos, ◌+ℤ◌, ◌-ℤ◌, ◌*ℤ◌}
use Rattle.grid_core.specs.declared.point.Point.{Point}
use Rattle.grid_core.specs.Vector.{cross_of}
use Rattle.grid_core.specs.Segment.{Segment, direction}
use Rattle.grid_core.specs.Edge.{EdgeEnds}
use Rattle.grid_core.specs.Meets.{box_of}
use Rattle.grid_core.specs.Crossing.{point_along}
use Rattle.grid_core.specs.Rounding.{hot}
use Rattle.grid_core.specs.Laws.{IsInBox}
use Rattle.grid_core.proofs.Ring.{int_mul_comm, int_mul_pos}
use Rattle.grid_core.proofs.Polynomial.{V, K, ◌⊕◌, ◌⊖◌, ◌⊗◌, same_polynomial}
use Rattle.planar_law.proofs.Mix.{AreWeights, mix}
use Rattle.planar_law.proofs.Pieces.{Misses, MeetAlong, PiecesCross, pieces_cross}
use Rattle.planar_law.proofs.EdgePieces.{IsShare, IsPiece, IsEdgeOf, same_point, mixed_share, piece_scaled}
use Rattle.planar_law.proofs.VertexOnEdge.{mean_along}
use Rattle.planar_law.proofs.Crossing.{SamePoint}
use Rattle.planar_law.proofs.HotCrossing.{HasHotPixel, common_is_hot, same_by}

-- the four ends of two edges differ
pub record EndsDiffer (u v w z : Point) : Type 0 where
  pub uw : u ≡ w → ⊥
  pub uz : u ≡ z → ⊥
  pub vw : v ≡ w → ⊥
  pub vz : v ≡ z → ⊥

-- the numerators over n of the point of s at i / n
abbrev numerators : Segment → ℤ → ℤ → Point
numerators s i n =
    record {
      x = s.p.x *ℤ n +ℤ i *ℤ (direction s).x;
      y = s.p.y *ℤ n +ℤ i *ℤ (direction s).y;
    }

-- a piece misses a hot pixel that isn't one of its ends'
misses : (ss : List Segment) (s : Segment) (u v w : Point) (n i j : ℤ) → IsPiece ss s u v n i j
    → Contains (hot ss) w
    → (w ≡ u → ⊥) → (w ≡ v → ⊥) → Misses n (numerators s i n) (numerators s j n) w
misses ss s u v w n i j p is_hot not_u not_v m k weights inside =
    p.misses w is_hot not_u not_v m k weights
    (subst (λ c. IsInBox (box_of w) c)
    (λ l. record {
      num_x = mean_along m k s.p.x (direction s).x n i j l;
      num_y = mean_along m k s.p.y (direction s).y n i j l;
      den = (m +ℤ k) *ℤ n;
    })
    inside)

-- two pieces over one denominator, of edges whose four ends differ
module _ (ss : List Segment) (s t : Segment) (cs : Contains ss s) (ct : Contains ss t) (u v w z : Point)
    (hot_u : Contains (hot ss) u) (hot_v : Contains (hot ss) v) (hot_w : Contains (hot ss) w)
    (hot_z : Contains (hot ss) z) (differ : EndsDiffer u v w z) (n i j i' j' : ℤ) (p : IsPiece ss s u v n i j)
    (q : IsPiece ss t w z n i' j') (h : MeetAlong u v w z) where
  crossing : PiecesCross (numerators s i n) (numerators s j n) (numerators t i' n) (numerators t j' n)
  crossing =
      pieces_cross n u v w z (numerators s i n) (numerators s j n) (numerators t i' n) (numerators t j' n)
      (record {
        some = p.some;
        in_u = p.in_u;
        in_v = p.in_v;
        in_w = q.in_u;
        in_z = q.in_v;
        misses_u = misses ss t w z u n i' j' q hot_u differ.uw differ.uz;
        misses_v = misses ss t w z v n i' j' q hot_v differ.vw differ.vz;
        misses_w = misses ss s u v w n i j p hot_w (λ e. differ.uw (sym e)) (λ e. differ.vw (sym e));
        misses_z = misses ss s u v z n i j p hot_z (λ e. differ.uz (sym e)) (λ e. differ.vz (sym e));
      })
      h

  -- the segments aren't parallel, as the pieces aren't
  apart : cross_of (direction s) (direction t) ≡ pos 0 → ⊥
  apart e =
      crossing.apart
      (by s.p.x s.p.y (direction s).x (direction s).y t.p.x t.p.y (direction t).x (direction t).y
      ∙ ap (λ c. ((j -ℤ i) *ℤ (j' -ℤ i')) *ℤ c) e
      ∙ same_polynomial (i ∷ j ∷ i' ∷ j' ∷ []) (((V 1 ⊖ V 0) ⊗ (V 3 ⊖ V 2)) ⊗ K (pos 0)) (K (pos 0)) refl)
    where
      by : (px py dx dy qx qy ex ey : ℤ)
          → ((px *ℤ n +ℤ j *ℤ dx) -ℤ (px *ℤ n +ℤ i *ℤ dx)) *ℤ ((qy *ℤ n +ℤ j' *ℤ ey) -ℤ (qy *ℤ n +ℤ i' *ℤ ey))
          -ℤ ((py *ℤ n +ℤ j *ℤ dy) -ℤ (py *ℤ n +ℤ i *ℤ dy)) *ℤ ((qx *ℤ n +ℤ j' *ℤ ex) -ℤ (qx *ℤ n +ℤ i' *ℤ ex))
          ≡ ((j -ℤ i) *ℤ (j' -ℤ i')) *ℤ (dx *ℤ ey -ℤ dy *ℤ ex)
      by px py dx dy qx qy ex ey =
          same_polynomial (px ∷ py ∷ dx ∷ dy ∷ qx ∷ qy ∷ ex ∷ ey ∷ n ∷ i ∷ j ∷ i' ∷ j' ∷ [])
          (((V 0 ⊗ V 8 ⊕ V 10 ⊗ V 2) ⊖ (V 0 ⊗ V 8 ⊕ V 9 ⊗ V 2))
          ⊗ ((V 5 ⊗ V 8 ⊕ V 12 ⊗ V 7) ⊖ (V 5 ⊗ V 8 ⊕ V 11 ⊗ V 7))
          ⊖ ((V 1 ⊗ V 8 ⊕ V 10 ⊗ V 3) ⊖ (V 1 ⊗ V 8 ⊕ V 9 ⊗ V 3))
          ⊗ ((V 4 ⊗ V 8 ⊕ V 12 ⊗ V 6) ⊖ (V 4 ⊗ V 8 ⊕ V 11 ⊗ V 6)))
          (((V 10 ⊖ V 9) ⊗ (V 12 ⊖ V 11)) ⊗ (V 2 ⊗ V 7 ⊖ V 3 ⊗ V 6)) refl

  -- where the pieces cross
  pub no_crossing : ⊥
  no_crossing = by crossing.common.m crossing.common.k crossing.common.i crossing.common.j
      crossing.common.first crossing.common.second crossing.common.whole crossing.common.x crossing.common.y
    where
      by : (m k m' k' : ℤ) → AreWeights m k → AreWeights m' k' → m +ℤ k ≡ m' +ℤ k'
          → mix m k (s.p.x *ℤ n +ℤ i *ℤ (direction s).x) (s.p.x *ℤ n +ℤ j *ℤ (direction s).x)
          ≡ mix m' k' (t.p.x *ℤ n +ℤ i' *ℤ (direction t).x) (t.p.x *ℤ n +ℤ j' *ℤ (direction t).x)
          → mix m k (s.p.y *ℤ n +ℤ i *ℤ (direction s).y) (s.p.y *ℤ n +ℤ j *ℤ (direction s).y)
          ≡ mix m' k' (t.p.y *ℤ n +ℤ i' *ℤ (direction t).y) (t.p.y *ℤ n +ℤ j' *ℤ (direction t).y)
          → ⊥
      by m k m' k' first second whole ex ey = none pixel
        where
          same : SamePoint s t (mix m k i j) (mix m' k' i' j') ((m +ℤ k) *ℤ n)
          same =
              record {
                x = sym (mean_along m k s.p.x (direction s).x n i j) ∙ ex
                    ∙ mean_along m' k' t.p.x (direction t).x n i' j'
                    ∙ ap (λ l. t.p.x *ℤ (l *ℤ n) +ℤ mix m' k' i' j' *ℤ (direction t).x) (sym whole);
                y = sym (mean_along m k s.p.y (direction s).y n i j) ∙ ey
                    ∙ mean_along m' k' t.p.y (direction t).y n i' j'
                    ∙ ap (λ l. t.p.y *ℤ (l *ℤ n) +ℤ mix m' k' i' j' *ℤ (direction t).y) (sym whole);
              }

          pixel : HasHotPixel ss s (mix m k i j) ((m +ℤ k) *ℤ n)
          pixel =
              common_is_hot ss s t (mix m k i j) (mix m' k' i' j') ((m +ℤ k) *ℤ n) cs ct
              (int_mul_pos (m +ℤ k) n first.some p.some)
              (mixed_share m k i j n first p.i_share p.j_share)
              (subst (λ l. IsShare (mix m' k' i' j') (l *ℤ n)) (sym whole)
              (mixed_share m' k' i' j' n second q.i_share q.j_share))
              same apart

          none : HasHotPixel ss s (mix m k i j) ((m +ℤ k) *ℤ n) → ⊥
          none g =
              of_first (same_point g.at u) (same_point g.at v)
            where
              inside : IsInBox (box_of g.at) (point_along t (mix m' k' i' j') ((m' +ℤ k') *ℤ n))
              inside =
                  subst (λ l. IsInBox (box_of g.at) (point_along t (mix m' k' i' j') (l *ℤ n))) whole
                  (subst (λ c. IsInBox (box_of g.at) c)
                  (same_by s t (mix m k i j) (mix m' k' i' j') ((m +ℤ k) *ℤ n) same) g.inside)

              of_second : (g.at ≡ w → ⊥) → (g.at ≡ z → ⊥) → ⊥
              of_second not_w not_z = q.misses g.at g.is_hot not_w not_z m' k' second inside

              of_first : (g.at ≡ u) ⊎ (g.at ≡ u → ⊥) → (g.at ≡ v) ⊎ (g.at ≡ v → ⊥) → ⊥
              of_first (inl e) _ = of_second (λ f. differ.uw (sym e ∙ f)) (λ f. differ.uz (sym e ∙ f))
              of_first (inr not_u) (inl e) = of_second (λ f. differ.vw (sym e ∙ f)) (λ f. differ.vz (sym e ∙ f))
              of_first (inr not_u) (inr not_v) = p.misses g.at g.is_hot not_u not_v m k first g.inside

-- two edges of a rounding whose four ends differ have no point in common
pub no_share : (ss : List Segment) (e f : EdgeEnds) → IsEdgeOf ss e → IsEdgeOf ss f
    → EndsDiffer e.a e.b f.a f.b
    → MeetAlong e.a e.b f.a f.b → ⊥
no_share ss e f g h differ meet =
    no_crossing ss g.s h.s g.listed h.listed e.a e.b f.a f.b g.hot_a g.hot_b h.hot_a h.hot_b differ
    (h.piece.n *ℤ g.piece.n) _ _ _ _
    (piece_scaled h.piece.n ss g.s e.a e.b g.piece.n g.piece.i g.piece.j h.piece.some g.piece.is)
    (subst (λ n. IsPiece ss h.s f.a f.b n (g.piece.n *ℤ h.piece.i) (g.piece.n *ℤ h.piece.j))
    (int_mul_comm g.piece.n h.piece.n)
    (piece_scaled g.piece.n ss h.s f.a f.b h.piece.n h.piece.i h.piece.j g.piece.some h.piece.is))
    meet
