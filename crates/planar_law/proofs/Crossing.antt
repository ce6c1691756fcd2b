-- Where two segments that aren't parallel have a common point, that point is their crossing. Let it be at
-- i / n of s and at j / n of t, let d and e be the directions, w the way from s.p to t.p, and den the
-- cross product of d and e. Then n w is i d - j e, so that n (w x e) is i den, and n (w x d) is j den.

use Rattle.std.proofs.Common.{◌≡◌, refl, sym, ap, ◌∙◌, arith, [], ◌∷◌, ◌⊎◌, inl, inr, Some}
use Rattle.std.specs.Prelude.{ℤ, pos, ◌+ℤ◌, ◌-ℤ◌, ◌*ℤ◌, ◌≤ℤ◌, ◌<ℤ◌, None, if◌then◌else◌, ◌&&◌}
use Rattle.grid_core.specs.Vector.{cross_of, minus}
use Rattle.grid_core.specs.Segment.{Segment, direction}
use Rattle.grid_core.specs.Crossing.{RationalPoint, point_along, within_both, crossing_of}
use Rattle.grid_core.specs.Planar.{IsOnePoint}
use Rattle.grid_core.proofs.Signed.{signed, le_true}
use Rattle.grid_core.proofs.Ring.{int_mul-le_right, int_le_of_mul, int_lt_or_le}
use Rattle.grid_core.proofs.Polynomial.{V, K, ◌⊕◌, ◌⊖◌, ◌⊗◌, same_polynomial}
use Rattle.rat_cross.proofs.Signs.{crossing_left, crossing_right}
use Rattle.planar_law.proofs.Inequalities.{weak, zero, le_as, no_difference}
use Rattle.planar_law.proofs.Vanish.{same_with}
use Rattle.planar_law.proofs.EdgePieces.{IsShare}

-- the crossing of s and t is the point of s at i / n
pub record CrossAt (s t : Segment) (i n : ℤ) : Type 0 where
  pub point : RationalPoint
  pub is : crossing_of s t ≡ Some point
  pub some : pos 0 <ℤ point.den
  pub same : IsOnePoint point (point_along s i n)

-- ---- the crossing by its two parameters

-- a parameter u / den that is i / n is from 0 to 1
share_of : (u den i n : ℤ) → pos 0 <ℤ den → pos 0 <ℤ n → IsShare i n → n *ℤ u ≡ i *ℤ den
    → IsShare u den
share_of u den i n some some' h e =
    record {
      low = int_le_of_mul n (pos 0) u some'
          (le_as _ _ _ _ zeros (sym e) (int_mul-le_right (pos 0) i den (weak (pos 0) den some) h.low));
      high = int_le_of_mul n u den some'
          (le_as _ _ _ _ (sym e) refl (int_mul-le_right i n den (weak (pos 0) den some) h.high));
    }
  where
    zeros : pos 0 *ℤ den ≡ n *ℤ pos 0
    zeros = same_polynomial (n ∷ den ∷ []) (K (pos 0) ⊗ V 1) (V 0 ⊗ K (pos 0)) refl

-- where both parameters are from 0 to 1 there is a crossing
within : (s : Segment) (u v den : ℤ) → IsShare u den → IsShare v den
    → within_both s u v den ≡ Some (point_along s u den)
within s u v den h g =
    λ l. if (le_true (pos 0) u h.low l && le_true u den h.high l)
    && (le_true (pos 0) v g.low l && le_true v den g.high l)
    then Some (point_along s u den)
    else None

-- the point at a parameter u / den that is i / n
one_point : (s : Segment) (u den i n : ℤ) → n *ℤ u ≡ i *ℤ den
    → IsOnePoint (point_along s u den) (point_along s i n)
one_point s u den i n e = record { x = by s.p.x (direction s).x; y = by s.p.y (direction s).y }
  where
    by : (p d : ℤ) → (p *ℤ den +ℤ u *ℤ d) *ℤ n ≡ (p *ℤ n +ℤ i *ℤ d) *ℤ den
    by p d =
        same_polynomial (p ∷ d ∷ den ∷ u ∷ n ∷ []) ((V 0 ⊗ V 2 ⊕ V 3 ⊗ V 1) ⊗ V 4)
        (V 0 ⊗ V 2 ⊗ V 4 ⊕ (V 4 ⊗ V 3) ⊗ V 1) refl
        ∙ ap (λ x. p *ℤ den *ℤ n +ℤ x *ℤ d) e
        ∙ same_polynomial (p ∷ d ∷ den ∷ i ∷ n ∷ []) (V 0 ⊗ V 2 ⊗ V 4 ⊕ (V 3 ⊗ V 2) ⊗ V 1)
        ((V 0 ⊗ V 4 ⊕ V 3 ⊗ V 1) ⊗ V 2) refl

-- ---- the parameters from a common point

module _ (n i j px py qx qy dx dy ex ey : ℤ) (same_x : px *ℤ n +ℤ i *ℤ dx ≡ qx *ℤ n +ℤ j *ℤ ex)
    (same_y : py *ℤ n +ℤ i *ℤ dy ≡ qy *ℤ n +ℤ j *ℤ ey) where
  no_x : (qx *ℤ n +ℤ j *ℤ ex) -ℤ (px *ℤ n +ℤ i *ℤ dx) ≡ pos 0
  no_x = no_difference _ _ (sym same_x)

  no_y : (qy *ℤ n +ℤ j *ℤ ey) -ℤ (py *ℤ n +ℤ i *ℤ dy) ≡ pos 0
  no_y = no_difference _ _ (sym same_y)

  -- from p to q, where e points to the left of d
  left_first : n *ℤ ((qx -ℤ px) *ℤ ey -ℤ (qy -ℤ py) *ℤ ex) ≡ i *ℤ (dx *ℤ ey -ℤ dy *ℤ ex)
  left_first =
      same_polynomial (n ∷ i ∷ j ∷ px ∷ py ∷ qx ∷ qy ∷ dx ∷ dy ∷ ex ∷ ey ∷ [])
      (V 0 ⊗ ((V 5 ⊖ V 3) ⊗ V 10 ⊖ (V 6 ⊖ V 4) ⊗ V 9))
      (V 1 ⊗ (V 7 ⊗ V 10 ⊖ V 8 ⊗ V 9)
      ⊕ (((V 5 ⊗ V 0 ⊕ V 2 ⊗ V 9) ⊖ (V 3 ⊗ V 0 ⊕ V 1 ⊗ V 7)) ⊗ V 10
      ⊖ ((V 6 ⊗ V 0 ⊕ V 2 ⊗ V 10) ⊖ (V 4 ⊗ V 0 ⊕ V 1 ⊗ V 8)) ⊗ V 9)) refl
      ∙ same_with (i *ℤ (dx *ℤ ey -ℤ dy *ℤ ex)) _ _ ey ex no_x no_y

  left_second : n *ℤ ((qx -ℤ px) *ℤ dy -ℤ (qy -ℤ py) *ℤ dx) ≡ j *ℤ (dx *ℤ ey -ℤ dy *ℤ ex)
  left_second =
      same_polynomial (n ∷ i ∷ j ∷ px ∷ py ∷ qx ∷ qy ∷ dx ∷ dy ∷ ex ∷ ey ∷ [])
      (V 0 ⊗ ((V 5 ⊖ V 3) ⊗ V 8 ⊖ (V 6 ⊖ V 4) ⊗ V 7))
      (V 2 ⊗ (V 7 ⊗ V 10 ⊖ V 8 ⊗ V 9)
      ⊕ (((V 5 ⊗ V 0 ⊕ V 2 ⊗ V 9) ⊖ (V 3 ⊗ V 0 ⊕ V 1 ⊗ V 7)) ⊗ V 8
      ⊖ ((V 6 ⊗ V 0 ⊕ V 2 ⊗ V 10) ⊖ (V 4 ⊗ V 0 ⊕ V 1 ⊗ V 8)) ⊗ V 7)) refl
      ∙ same_with (j *ℤ (dx *ℤ ey -ℤ dy *ℤ ex)) _ _ dy dx no_x no_y

  -- from q to p, where e points to the right of d
  right_first : n *ℤ ((px -ℤ qx) *ℤ ey -ℤ (py -ℤ qy) *ℤ ex) ≡ i *ℤ (ex *ℤ dy -ℤ ey *ℤ dx)
  right_first =
      same_polynomial (n ∷ px ∷ py ∷ qx ∷ qy ∷ ex ∷ ey ∷ [])
      (V 0 ⊗ ((V 1 ⊖ V 3) ⊗ V 6 ⊖ (V 2 ⊖ V 4) ⊗ V 5))
      (K (pos 0) ⊖ V 0 ⊗ ((V 3 ⊖ V 1) ⊗ V 6 ⊖ (V 4 ⊖ V 2) ⊗ V 5)) refl
      ∙ ap (λ z. pos 0 -ℤ z) left_first
      ∙ same_polynomial (i ∷ dx ∷ dy ∷ ex ∷ ey ∷ []) (K (pos 0) ⊖ V 0 ⊗ (V 1 ⊗ V 4 ⊖ V 2 ⊗ V 3))
      (V 0 ⊗ (V 3 ⊗ V 2 ⊖ V 4 ⊗ V 1)) refl

  right_second : n *ℤ ((px -ℤ qx) *ℤ dy -ℤ (py -ℤ qy) *ℤ dx) ≡ j *ℤ (ex *ℤ dy -ℤ ey *ℤ dx)
  right_second =
      same_polynomial (n ∷ px ∷ py ∷ qx ∷ qy ∷ dx ∷ dy ∷ [])
      (V 0 ⊗ ((V 1 ⊖ V 3) ⊗ V 6 ⊖ (V 2 ⊖ V 4) ⊗ V 5))
      (K (pos 0) ⊖ V 0 ⊗ ((V 3 ⊖ V 1) ⊗ V 6 ⊖ (V 4 ⊖ V 2) ⊗ V 5)) refl
      ∙ ap (λ z. pos 0 -ℤ z) left_second
      ∙ same_polynomial (j ∷ dx ∷ dy ∷ ex ∷ ey ∷ []) (K (pos 0) ⊖ V 0 ⊗ (V 1 ⊗ V 4 ⊖ V 2 ⊗ V 3))
      (V 0 ⊗ (V 3 ⊗ V 2 ⊖ V 4 ⊗ V 1)) refl

-- the numerators of the point of s at i / n are those of the point of t at j / n
pub record SamePoint (s t : Segment) (i j n : ℤ) : Type 0 where
  pub x : s.p.x *ℤ n +ℤ i *ℤ (direction s).x ≡ t.p.x *ℤ n +ℤ j *ℤ (direction t).x
  pub y : s.p.y *ℤ n +ℤ i *ℤ (direction s).y ≡ t.p.y *ℤ n +ℤ j *ℤ (direction t).y

-- the crossing with parameters u and v over den, which are i / n and j / n
cross_at : (s t : Segment) (u v den i j n : ℤ) → pos 0 <ℤ den → pos 0 <ℤ n → IsShare i n
    → IsShare j n
    → n *ℤ u ≡ i *ℤ den → n *ℤ v ≡ j *ℤ den → within_both s u v den ≡ crossing_of s t
    → CrossAt s t i n
cross_at s t u v den i j n positive some i_share j_share eu ev is =
    record {
      point = point_along s u den;
      is = sym is
          ∙ within s u v den (share_of u den i n positive some i_share eu) (share_of v den j n positive some j_share ev);
      some = positive;
      same = one_point s u den i n eu;
    }

-- a common point of two segments that aren't parallel is their crossing
pub crossing_there : (s t : Segment) (i j n : ℤ) → pos 0 <ℤ n → IsShare i n → IsShare j n
    → SamePoint s t i j n
    → (cross_of (direction s) (direction t) ≡ pos 0 → ⊥) → CrossAt s t i n
crossing_there s t i j n some i_share j_share same apart =
    by (int_lt_or_le (pos 0) (cross_of (direction s) (direction t)))
    (int_lt_or_le (cross_of (direction s) (direction t)) (pos 0))
  where
    turned : (x : ℤ) → x <ℤ pos 0 → (y : ℤ) → y ≡ pos 0 -ℤ x → pos 0 <ℤ y
    turned x h y e = omega (arith, signed, h, e)

    back : cross_of (direction t) (direction s) ≡ pos 0 -ℤ cross_of (direction s) (direction t)
    back =
        same_polynomial ((direction s).x ∷ (direction s).y ∷ (direction t).x ∷ (direction t).y ∷ [])
        (V 2 ⊗ V 1 ⊖ V 3 ⊗ V 0) (K (pos 0) ⊖ (V 0 ⊗ V 3 ⊖ V 1 ⊗ V 2)) refl

    left : pos 0 <ℤ cross_of (direction s) (direction t) → CrossAt s t i n
    left h =
        cross_at s t (cross_of (minus t.p s.p) (direction t)) (cross_of (minus t.p s.p) (direction s))
        (cross_of (direction s) (direction t)) i j n h some i_share j_share
        (left_first n i j s.p.x s.p.y t.p.x t.p.y (direction s).x (direction s).y (direction t).x (direction t).y
        same.x same.y)
        (left_second n i j s.p.x s.p.y t.p.x t.p.y (direction s).x (direction s).y (direction t).x (direction t).y
        same.x same.y)
        (crossing_left s t (direction s) (direction t) (minus t.p s.p) (cross_of (direction s) (direction t)) refl refl
        refl refl h)

    right : pos 0 <ℤ cross_of (direction t) (direction s) → CrossAt s t i n
    right h =
        cross_at s t (cross_of (minus s.p t.p) (direction t)) (cross_of (minus s.p t.p) (direction s))
        (cross_of (direction t) (direction s)) i j n h some i_share j_share
        (right_first n i j s.p.x s.p.y t.p.x t.p.y (direction s).x (direction s).y (direction t).x (direction t).y
        same.x same.y)
        (right_second n i j s.p.x s.p.y t.p.x t.p.y (direction s).x (direction s).y (direction t).x (direction t).y
        same.x same.y)
        (crossing_right s t (direction s) (direction t) (minus s.p t.p) (cross_of (direction t) (direction s)) refl refl
        refl refl h)

    by : (pos 0 <ℤ cross_of (direction s) (direction t)) ⊎ (cross_of (direction s) (direction t) ≤ℤ pos 0)
        → (cross_of (direction s) (direction t) <ℤ pos 0) ⊎ (pos 0 ≤ℤ cross_of (direction s) (direction t))
        → CrossAt s t i n
    by (inl h) _ = left h
    by (inr h) (inl g) = right (turned (cross_of (direction s) (direction t)) g _ back)
    by (inr h) (inr g) = absurd (apart (zero (cross_of (direction s) (direction t)) g h))
