-- The piece of an edge: the part of its segment between a point in the pixel of one end and a point in
-- that of the other. It misses every other hot pixel: such a pixel would be on the route, and strictly
-- between the two ends by its product with the direction (`product_rises`, against each end), though
-- the ends are neighbours.

use Rattle.std.proofs.Common.{◌≡◌, refl, sym, ap, subst, ℕ, ◌<◌, ◌≤◌, arith, ◌⊎◌, inl, inr, ⊎_elim, List, [], ◌∷◌}
use Rattle.std.proofs.Common.{Contains, Any, IsTrue, cond, Ordering, Less, Equal, Greater}
use Rattle.std.specs.Prelude.{ℤ, pos, ◌+ℤ◌, ◌-ℤ◌, ◌*ℤ◌, ◌≤ℤ◌, ◌<ℤ◌}
use Rattle.std.specs.Ordering.{is_lt}
use Rattle.std.specs.Cmp.{int_cmp_is}
use Rattle.std.proofs.lemmas.Cmp.{int_ranked}
use Rattle.grid_core.specs.declared.point.Point.{Point}
use Rattle.grid_core.specs.declared.pixel_box.PixelBox.{PixelBox}
use Rattle.grid_core.specs.Vector.{point_cmp, dot_of}
use Rattle.grid_core.specs.Segment.{Segment, direction}
use Rattle.grid_core.specs.Edge.{EdgeEnds, IsEdge}
use Rattle.grid_core.specs.Meets.{box_of, meets_pixel_of}
use Rattle.grid_core.specs.Crossing.{point_along}
use Rattle.grid_core.specs.Rounding.{along_cmp, hot, route, route_edges, edges}
use Rattle.grid_core.specs.Laws.{IsFromTo, IsInBox, HasPointIn}
use Rattle.grid_core.proofs.Signed.{signed}
use Rattle.grid_core.proofs.Ring.{int_add_comm, int_mul_comm, int_mul_nonneg, int_mul_pos}
use Rattle.grid_core.proofs.Ring.{int_mul_nonpos_nonneg, int_mul-le_left, int_lt_or_le}
use Rattle.grid_core.proofs.Polynomial.{V, K, ◌⊕◌, ◌⊖◌, ◌⊗◌, same_polynomial}
use Rattle.grid_core.proofs.Order.{point_exact, point_greater, point_same}
use Rattle.grid_core.proofs.AlongSegments.{product_rises}
use Rattle.grid_core.proofs.MeetingPoint.{meets_where_a_point_lies, as_naturals}
use Rattle.grid_core.proofs.RoundingMembers.{route_is_met, edges_are_of_routes}
use Rattle.grid_core.proofs.RouteOrder.{along_total}
use Rattle.planar_law.proofs.Inequalities.{weak, le_as, rise, equal}
use Rattle.planar_law.proofs.Mix.{AreWeights, mix, mix-le, mix-turned, weights_turned, weights_times, scaled}
use Rattle.planar_law.proofs.Neighbours.{JoinsNeighbours, joins_neighbours}

-- i / n is from 0 to 1
pub record IsShare (i n : ℤ) : Type 0 where
  pub low : pos 0 ≤ℤ i
  pub high : i ≤ℤ n

-- s has a point in the pixel of u, at i / n, and one in the pixel of v, at j / n; between the two it
-- meets no other hot pixel
pub record IsPiece (ss : List Segment) (s : Segment) (u v : Point) (n i j : ℤ) : Type 0 where
  pub some : pos 0 <ℤ n
  pub i_share : IsShare i n
  pub j_share : IsShare j n
  pub in_u : IsInBox (box_of u) (point_along s i n)
  pub in_v : IsInBox (box_of v) (point_along s j n)
  pub misses : (h : Point)
      → Contains (hot ss) h
      → (h ≡ u → ⊥)
      → (h ≡ v → ⊥)
      → (m k : ℤ)
      → AreWeights m k
      → IsInBox (box_of h) (point_along s (mix m k i j) ((m +ℤ k) *ℤ n))
      → ⊥

-- s has a piece between the pixels of u and v
pub record HasPiece (ss : List Segment) (s : Segment) (u v : Point) : Type 0 where
  pub n : ℤ
  pub i : ℤ
  pub j : ℤ
  pub is : IsPiece ss s u v n i j
  pub open is use *

-- an edge of a rounding: its ends are hot, the lesser first, and some segment has a piece for it
pub record IsEdgeOf (ss : List Segment) (e : EdgeEnds) : Type 0 where
  pub s : Segment
  pub listed : Contains ss s
  pub ordered : IsEdge e
  pub hot_a : Contains (hot ss) e.a
  pub hot_b : Contains (hot ss) e.b
  pub piece : HasPiece ss s e.a e.b

-- ---- points and their order along a segment

-- two points are one, or they aren't
pub same_point : (g h : Point) → (g ≡ h) ⊎ (g ≡ h → ⊥)
same_point g h = by (point_cmp g h) refl
  where
    by : (o : Ordering) → point_cmp g h ≡ o → (g ≡ h) ⊎ (g ≡ h → ⊥)
    by Equal e = inl (point_exact g h e)
    by Less e = inr (λ same. cc (e, point_same g h same))
    by Greater e = inr (λ same. cc (e, point_same g h same))

-- two points that aren't one differ in some coordinate
differ : (g h : Point) → (h ≡ g → ⊥) → h.x -ℤ g.x ≡ pos 0 → h.y -ℤ g.y ≡ pos 0 → ⊥
differ g h apart ex ey = apart (λ l. record { x = equal h.x g.x ex l; y = equal h.y g.y ey l })

less_product : (s : Segment) (g h : Point) → along_cmp s g h ≡ Less
    → dot_of g (direction s) <ℤ dot_of h (direction s)
less_product s g h e = int_ranked (dot_of g (direction s)) (dot_of h (direction s)) Less (sym e)

less_along : (s : Segment) (g h : Point) → dot_of g (direction s) <ℤ dot_of h (direction s)
    → along_cmp s g h ≡ Less
less_along s g h l = sym (int_cmp_is (dot_of g (direction s)) (dot_of h (direction s)) Less l)

-- points of one pixel have one product
products_differ : (s : Segment) (g h : Point) → dot_of g (direction s) <ℤ dot_of h (direction s)
    → h ≡ g → ⊥
products_differ s g h l e = none (dot_of g (direction s)) (dot_of h (direction s)) l (ap (λ t. dot_of t (direction s)) e)
  where
    none : (x y : ℤ) → x <ℤ y → y ≡ x → ⊥
    none x y l e = omega (arith, signed, l, e)

-- ---- signs of products

-- a number whose product with a positive one is negative is negative
negative_of : (x y : ℤ) → pos 0 <ℤ y → (x *ℤ y) <ℤ pos 0 → x <ℤ pos 0
negative_of x y some h =
    ⊎_elim (λ (l : x <ℤ pos 0). l)
    (λ (l : pos 0 ≤ℤ x). absurd (none (x *ℤ y) (int_mul_nonneg x y l (weak (pos 0) y some)) h))
    (int_lt_or_le x (pos 0))
  where
    none : (z : ℤ) → pos 0 ≤ℤ z → z <ℤ pos 0 → ⊥
    none z h g = omega (arith, signed, h, g)

-- a number whose product with one that isn't positive is negative is positive
positive_of : (c x z : ℤ) → pos 0 ≤ℤ c → z ≡ pos 0 -ℤ x *ℤ c → z <ℤ pos 0 → pos 0 <ℤ x
positive_of c x z from e h =
    ⊎_elim (λ (l : pos 0 <ℤ x). l)
    (λ (l : x ≤ℤ pos 0). absurd (none (x *ℤ c) z (int_mul_nonpos_nonneg x c l from) e h))
    (int_lt_or_le (pos 0) x)
  where
    none : (y z : ℤ) → y ≤ℤ pos 0 → z ≡ pos 0 -ℤ y → z <ℤ pos 0 → ⊥
    none y z h e g = omega (arith, signed, h, e, g)

-- ---- shares

-- a point of s is the same over a denominator l times as great
pub point_scaled : (l : ℤ) (s : Segment) (area : PixelBox) (i n : ℤ) → pos 0 <ℤ l
    → IsInBox area (point_along s i n)
    → IsInBox area (point_along s (l *ℤ i) (l *ℤ n))
point_scaled l s area i n some h =
    record {
      x = subst (λ c. IsFromTo area.lo.x area.hi.x c (l *ℤ n)) (by s.p.x (direction s).x)
          (scaled l n area.lo.x area.hi.x _ some h.x);
      y = subst (λ c. IsFromTo area.lo.y area.hi.y c (l *ℤ n)) (by s.p.y (direction s).y)
          (scaled l n area.lo.y area.hi.y _ some h.y);
    }
  where
    by : (p d : ℤ) → l *ℤ (p *ℤ n +ℤ i *ℤ d) ≡ p *ℤ (l *ℤ n) +ℤ (l *ℤ i) *ℤ d
    by p d =
        same_polynomial (l ∷ n ∷ i ∷ p ∷ d ∷ []) (V 0 ⊗ (V 3 ⊗ V 1 ⊕ V 2 ⊗ V 4))
        (V 3 ⊗ (V 0 ⊗ V 1) ⊕ (V 0 ⊗ V 2) ⊗ V 4) refl

-- a mean of two shares over n, as a share over (m + k) n
pub mixed_share : (m k i j n : ℤ) → AreWeights m k → IsShare i n → IsShare j n
    → IsShare (mix m k i j) ((m +ℤ k) *ℤ n)
mixed_share m k i j n w h g =
    record {
      low = le_as _ _ _ _
          (same_polynomial (m ∷ k ∷ []) (V 0 ⊗ K (pos 0) ⊕ V 1 ⊗ K (pos 0)) (K (pos 0)) refl) refl
          (mix-le m k (pos 0) (pos 0) i j w h.low g.low);
      high = le_as _ _ _ _ refl
          (same_polynomial (m ∷ k ∷ n ∷ []) (V 0 ⊗ V 2 ⊕ V 1 ⊗ V 2) ((V 0 ⊕ V 1) ⊗ V 2) refl)
          (mix-le m k i j n n w h.high g.high);
    }

-- ---- two neighbours of a route

-- the points of s in the pixels of u and v, over one denominator; that in v is further along
module _ (ss : List Segment) (s : Segment) (u v : Point) (rises : along_cmp s u v ≡ Less)
    (none_between : (h : Point) → Contains (route ss s) h → along_cmp s u h ≡ Less → along_cmp s h v ≡ Less → ⊥)
    (n i j : ℤ) (some : pos 0 <ℤ n) (i_share : IsShare i n) (j_share : IsShare j n)
    (in_u : IsInBox (box_of u) (point_along s i n)) (in_v : IsInBox (box_of v) (point_along s j n)) where
  along : dot_of u (direction s) <ℤ dot_of v (direction s)
  along = less_product s u v rises

  order : (x y : ℤ) → pos 0 <ℤ (y -ℤ x) → x <ℤ y
  order x y h = omega (arith, signed, h)

  -- (i - j) n times the difference of the products is negative
  further : pos 0 ≤ℤ (j -ℤ i)
  further =
      turned i j
      (negative_of (i -ℤ j) n some
      (negative_of ((i -ℤ j) *ℤ n) (dot_of v (direction s) -ℤ dot_of u (direction s)) (rise _ _ along)
      (subst (λ c. (c *ℤ (dot_of v (direction s) -ℤ dot_of u (direction s))) <ℤ pos 0)
      (same_polynomial (n ∷ i ∷ j ∷ []) (V 0 ⊗ V 1 ⊖ V 0 ⊗ V 2) ((V 1 ⊖ V 2) ⊗ V 0) refl)
      (product_rises s u v i n j n some some in_u in_v (differ u v (products_differ s u v along))))))
    where
      turned : (x y : ℤ) → (x -ℤ y) <ℤ pos 0 → pos 0 ≤ℤ (y -ℤ x)
      turned x y h = omega (arith, signed, h)

  -- a hot pixel with a point of the piece is one of the two
  misses_others : (h : Point) → Contains (hot ss) h → (h ≡ u → ⊥) → (h ≡ v → ⊥) → (m k : ℤ)
      → AreWeights m k
      → IsInBox (box_of h) (point_along s (mix m k i j) ((m +ℤ k) *ℤ n)) → ⊥
  misses_others h is_hot not_u not_v m k w inside =
      none_between h (((route_is_met ss s).met h).1 (is_hot, met))
      (less_along s u h
      (order _ _
      (positive_of ((n *ℤ k) *ℤ (j -ℤ i)) (dot_of h (direction s) -ℤ dot_of u (direction s)) _
      (factor k w.second) (after (dot_of h (direction s) -ℤ dot_of u (direction s)))
      (product_rises s u h i n (mix m k i j) ((m +ℤ k) *ℤ n) some whole in_u inside (differ u h not_u)))))
      (less_along s h v
      (order _ _
      (positive_of ((n *ℤ m) *ℤ (j -ℤ i)) (dot_of v (direction s) -ℤ dot_of h (direction s)) _
      (factor m w.first) (before (dot_of v (direction s) -ℤ dot_of h (direction s)))
      (product_rises s h v (mix m k i j) ((m +ℤ k) *ℤ n) j n whole some inside in_v
      (differ h v (λ e. not_v (sym e)))))))
    where
      share : IsShare (mix m k i j) ((m +ℤ k) *ℤ n)
      share = mixed_share m k i j n w i_share j_share

      whole : pos 0 <ℤ ((m +ℤ k) *ℤ n)
      whole = int_mul_pos (m +ℤ k) n w.some some

      met : IsTrue (meets_pixel_of s h)
      met = (meets_where_a_point_lies s (box_of h)).1
          (as_naturals s (box_of h) (mix m k i j) ((m +ℤ k) *ℤ n) share.low share.high whole inside)

      factor : (x : ℤ) → pos 0 ≤ℤ x → pos 0 ≤ℤ ((n *ℤ x) *ℤ (j -ℤ i))
      factor x from = int_mul_nonneg (n *ℤ x) (j -ℤ i) (int_mul_nonneg n x (weak (pos 0) n some) from) further

      after : (x : ℤ)
          → (((m +ℤ k) *ℤ n) *ℤ i -ℤ n *ℤ mix m k i j) *ℤ x ≡ pos 0 -ℤ x *ℤ ((n *ℤ k) *ℤ (j -ℤ i))
      after x =
          same_polynomial (m ∷ k ∷ n ∷ i ∷ j ∷ x ∷ [])
          ((((V 0 ⊕ V 1) ⊗ V 2) ⊗ V 3 ⊖ V 2 ⊗ (V 0 ⊗ V 3 ⊕ V 1 ⊗ V 4)) ⊗ V 5)
          (K (pos 0) ⊖ V 5 ⊗ ((V 2 ⊗ V 1) ⊗ (V 4 ⊖ V 3))) refl

      before : (x : ℤ)
          → (n *ℤ mix m k i j -ℤ ((m +ℤ k) *ℤ n) *ℤ j) *ℤ x ≡ pos 0 -ℤ x *ℤ ((n *ℤ m) *ℤ (j -ℤ i))
      before x =
          same_polynomial (m ∷ k ∷ n ∷ i ∷ j ∷ x ∷ [])
          ((V 2 ⊗ (V 0 ⊗ V 3 ⊕ V 1 ⊗ V 4) ⊖ ((V 0 ⊕ V 1) ⊗ V 2) ⊗ V 4) ⊗ V 5)
          (K (pos 0) ⊖ V 5 ⊗ ((V 2 ⊗ V 0) ⊗ (V 4 ⊖ V 3))) refl

  piece_along : HasPiece ss s u v
  piece_along =
      record {
        n = n;
        i = i;
        j = j;
        is = record {
          some = some;
          i_share = i_share;
          j_share = j_share;
          in_u = in_u;
          in_v = in_v;
          misses = misses_others;
        };
      }

-- the piece from the other end
pub piece_turned : (ss : List Segment) (s : Segment) (u v : Point) → HasPiece ss s u v
    → HasPiece ss s v u
piece_turned ss s u v p =
    record {
      n = p.n;
      i = p.j;
      j = p.i;
      is = record {
        some = p.some;
        i_share = p.j_share;
        j_share = p.i_share;
        in_u = p.in_v;
        in_v = p.in_u;
        misses = λ h is_hot not_v not_u m k w inside.
            p.misses h is_hot not_u not_v k m (weights_turned m k w)
            (subst (λ c. IsInBox (box_of h) c)
            (λ l. point_along s (mix-turned m k p.j p.i l) (int_add_comm m k l *ℤ p.n)) inside);
      };
    }

-- the same piece over a denominator l times as great
pub piece_scaled : (l : ℤ) (ss : List Segment) (s : Segment) (u v : Point) (n i j : ℤ) → pos 0 <ℤ l
    → IsPiece ss s u v n i j → IsPiece ss s u v (l *ℤ n) (l *ℤ i) (l *ℤ j)
piece_scaled l ss s u v n i j some p =
    record {
      some = int_mul_pos l n some p.some;
      i_share = share i p.i_share;
      j_share = share j p.j_share;
      in_u = point_scaled l s (box_of u) i n some p.in_u;
      in_v = point_scaled l s (box_of v) j n some p.in_v;
      misses = λ h is_hot not_u not_v m k w inside.
          p.misses h is_hot not_u not_v (m *ℤ l) (k *ℤ l) (weights_times m k l w some)
          (subst (λ c. IsInBox (box_of h) c) (λ r. point_along s (means m k r) (wholes m k r)) inside);
    }
  where
    share : (x : ℤ) → IsShare x n → IsShare (l *ℤ x) (l *ℤ n)
    share x h =
        record {
          low = int_mul_nonneg l x (weak (pos 0) l some) h.low;
          high = int_mul-le_left l x n (weak (pos 0) l some) h.high;
        }

    means : (m k : ℤ) → mix m k (l *ℤ i) (l *ℤ j) ≡ mix (m *ℤ l) (k *ℤ l) i j
    means m k =
        same_polynomial (m ∷ k ∷ l ∷ i ∷ j ∷ []) (V 0 ⊗ (V 2 ⊗ V 3) ⊕ V 1 ⊗ (V 2 ⊗ V 4))
        ((V 0 ⊗ V 2) ⊗ V 3 ⊕ (V 1 ⊗ V 2) ⊗ V 4) refl

    wholes : (m k : ℤ) → (m +ℤ k) *ℤ (l *ℤ n) ≡ (m *ℤ l +ℤ k *ℤ l) *ℤ n
    wholes m k =
        same_polynomial (m ∷ k ∷ l ∷ n ∷ []) ((V 0 ⊕ V 1) ⊗ (V 2 ⊗ V 3)) ((V 0 ⊗ V 2 ⊕ V 1 ⊗ V 2) ⊗ V 3) refl

-- both points of s over one denominator
module _ (ss : List Segment) (s : Segment) (e : EdgeEnds) (w : JoinsNeighbours (along_cmp s) (route ss s) e) where
  met_point : (h : Point) → Contains (route ss s) h → HasPointIn s (box_of h)
  met_point h c = (meets_where_a_point_lies s (box_of h)).0 (((route_is_met ss s).met h).0 c).1

  share_of : (p : HasPointIn s (box_of w.u)) (q : HasPointIn s (box_of w.v)) → HasPiece ss s w.u w.v
  share_of p q =
      piece_along ss s w.u w.v w.rises w.none_between (pos q.b *ℤ pos p.b) (pos q.b *ℤ pos p.a) (pos p.b *ℤ pos q.a)
      (int_mul_pos (pos q.b) (pos p.b) (positive q.b q.whole) (positive p.b p.whole))
      (share p.a p.b q.b p.part)
      (subst (λ n. IsShare (pos p.b *ℤ pos q.a) n) (int_mul_comm (pos p.b) (pos q.b)) (share q.a q.b p.b q.part))
      (point_scaled (pos q.b) s (box_of w.u) (pos p.a) (pos p.b) (positive q.b q.whole) p.inside)
      (subst (λ n. IsInBox (box_of w.v) (point_along s (pos p.b *ℤ pos q.a) n)) (int_mul_comm (pos p.b) (pos q.b))
      (point_scaled (pos p.b) s (box_of w.v) (pos q.a) (pos q.b) (positive p.b p.whole) q.inside))
    where
      positive : (b : ℕ) → 0 < b → pos 0 <ℤ pos b
      positive b h = omega (arith, signed, h)

      share : (a b c : ℕ) → a ≤ b → IsShare (pos c *ℤ pos a) (pos c *ℤ pos b)
      share a b c h =
          record {
            low = int_mul_nonneg (pos c) (pos a) (omega (arith, signed)) (omega (arith, signed));
            high = int_mul-le_left (pos c) (pos a) (pos b) (omega (arith, signed)) (omega (arith, signed, h));
          }

  -- the piece of the edge, between its ends in order
  pub piece_of : IsEdge e × HasPiece ss s e.a e.b × Contains (hot ss) e.a × Contains (hot ss) e.b
  piece_of =
      subst Piece (sym w.is) (by (point_cmp w.u w.v) refl (share_of (met_point w.u w.has_u) (met_point w.v w.has_v)))
    where
      Piece : EdgeEnds → Type 0
      Piece f = IsEdge f × HasPiece ss s f.a f.b × Contains (hot ss) f.a × Contains (hot ss) f.b

      hot_u : Contains (hot ss) w.u
      hot_u = (((route_is_met ss s).met w.u).0 w.has_u).0

      hot_v : Contains (hot ss) w.v
      hot_v = (((route_is_met ss s).met w.v).0 w.has_v).0

      by : (o : Ordering) → point_cmp w.u w.v ≡ o → HasPiece ss s w.u w.v
          → Piece (cond (is_lt o) (record { a = w.u; b = w.v }) (record { a = w.v; b = w.u }))
      by Less h p = (h, p, hot_u, hot_v)
      by Equal h p =
          absurd (products_differ s w.u w.v (less_product s w.u w.v w.rises) (sym (point_exact w.u w.v h)))
      by Greater h p = (point_greater w.u w.v h, piece_turned ss s w.u w.v p, hot_v, hot_u)

-- an edge of a route
pub route_edge : (ss : List Segment) (s : Segment) (e : EdgeEnds) → Contains ss s
    → Contains (route_edges ss s) e
    → IsEdgeOf ss e
route_edge ss s e listed c =
    let p = piece_of ss s e (joins_neighbours (along_total s) (route ss s) e (route_is_met ss s).in_order c) in
    record { s = s; listed = listed; ordered = p.0; hot_a = p.2; hot_b = p.3; piece = p.1 }

-- an edge of a rounding
pub edge_of : (ss : List Segment) (e : EdgeEnds) → Contains (edges ss) e → IsEdgeOf ss e
edge_of ss e c = by (((edges_are_of_routes ss).of_routes e).0 c)
  where
    by : Any (λ s. Contains (route_edges ss s) e) ss → IsEdgeOf ss e
    by h = route_edge ss h.1 e (h.0, h.2, h.3) h.4
