-- Two edges that come to a common point, where each has one end at a level of the other: c is level
-- with a point of the first edge, b with one of the second. The two come to the same side, or onto
-- the edge; so they begin on the same side, strictly, and the edges cross. With p and q for the two
-- sides where they begin, the weights of the crossing are sums of products of their sizes.

use Rattle.std.proofs.Common.{◌≡◌, refl, sym, ap, ◌∙◌, arith, [], ◌∷◌, ◌⊎◌, inl, inr, ⊎_elim}
use Rattle.std.specs.Prelude.{ℤ, pos, ◌+ℤ◌, ◌-ℤ◌, ◌*ℤ◌, ◌≤ℤ◌, ◌<ℤ◌}
use Rattle.grid_core.proofs.Signed.{signed}
use Rattle.grid_core.proofs.Ring.{int_mul_nonneg, int_mul_pos, int_lt_or_le, int_same_of_mul}
use Rattle.grid_core.proofs.Polynomial.{V, K, ◌⊕◌, ◌⊖◌, ◌⊗◌, same_polynomial}
use Rattle.planar_law.proofs.Inequalities.{weak, less_le, le_less, rise, no_fall, size, sum_above, above_as, equal, no_difference}
use Rattle.planar_law.proofs.Mix.{AreWeights, mix, in_pixel}
use Rattle.planar_law.proofs.Tracks.{Track, IsSlide, MeetAtGoals, CrossAtStarts, turn}
use Rattle.planar_law.proofs.Sides.{side, side_at_goals, side_at_starts, IsBetween, between}
use Rattle.planar_law.proofs.Sides.{begins_right, begins_left, opposite}
use Rattle.planar_law.proofs.Vanish.{zero_of}

-- the sides of c to the first edge and of b to the second, where they come to
module _ (a b c d : Track) (h : MeetAtGoals a b c d) where
  sides_agree : mix h.m h.j (side_at_goals a b c) (pos 0 -ℤ side_at_goals c d b) ≡ pos 0
  sides_agree =
      zero_of (mix h.m h.j (side_at_goals a b c) (pos 0 -ℤ side_at_goals c d b))
      (c.level -ℤ b.level) (mix h.m h.k a.goal b.goal -ℤ mix h.i h.j c.goal d.goal)
      (b.goal -ℤ c.goal) (mix h.m h.k a.level b.level -ℤ mix h.i h.j c.level d.level)
      (c.goal *ℤ b.level -ℤ b.goal *ℤ c.level) ((h.m +ℤ h.k) -ℤ (h.i +ℤ h.j))
      (by h.m h.k h.i h.j a.goal b.goal c.goal d.goal a.level b.level c.level d.level)
      (no_difference _ _ h.x) (no_difference _ _ h.y) (no_difference _ _ h.whole)
    where
      by : (m k i j u v w z ya yb yc yd : ℤ)
          → mix m j (side u v w ya yb yc) (pos 0 -ℤ side w z v yc yd yb)
          ≡ (yc -ℤ yb) *ℤ (mix m k u v -ℤ mix i j w z) +ℤ (v -ℤ w) *ℤ (mix m k ya yb -ℤ mix i j yc yd)
          +ℤ (w *ℤ yb -ℤ v *ℤ yc) *ℤ ((m +ℤ k) -ℤ (i +ℤ j))
      by m k i j u v w z ya yb yc yd =
          same_polynomial (m ∷ k ∷ i ∷ j ∷ u ∷ v ∷ w ∷ z ∷ ya ∷ yb ∷ yc ∷ yd ∷ [])
          (V 0 ⊗ (((V 9 ⊖ V 10) ⊕ (V 10 ⊖ V 8)) ⊗ V 6 ⊖ ((V 9 ⊖ V 10) ⊗ V 4 ⊕ (V 10 ⊖ V 8) ⊗ V 5))
          ⊕ V 3 ⊗ (K (pos 0) ⊖ (((V 11 ⊖ V 9) ⊕ (V 9 ⊖ V 10)) ⊗ V 5 ⊖ ((V 11 ⊖ V 9) ⊗ V 6 ⊕ (V 9 ⊖ V 10) ⊗ V 7))))
          ((V 10 ⊖ V 9) ⊗ ((V 0 ⊗ V 4 ⊕ V 1 ⊗ V 5) ⊖ (V 2 ⊗ V 6 ⊕ V 3 ⊗ V 7))
          ⊕ (V 5 ⊖ V 6) ⊗ ((V 0 ⊗ V 8 ⊕ V 1 ⊗ V 9) ⊖ (V 2 ⊗ V 10 ⊕ V 3 ⊗ V 11))
          ⊕ (V 6 ⊗ V 9 ⊖ V 5 ⊗ V 10) ⊗ ((V 0 ⊕ V 1) ⊖ (V 2 ⊕ V 3))) refl

-- the crossing of two edges, from the sides p and q of c and b, whose sizes are P and Q
module _ (a b c d : Track) (p q Q P : ℤ) (p_is : p ≡ side_at_starts a b c) (q_is : q ≡ side_at_starts c d b)
    (Q_some : pos 0 <ℤ Q) (P_some : pos 0 <ℤ P) (cancel : P *ℤ q -ℤ Q *ℤ p ≡ pos 0)
    (unequal : (d.level -ℤ c.level) *ℤ p +ℤ (b.level -ℤ a.level) *ℤ q ≡ pos 0 → ⊥)
    (ac : a.level <ℤ c.level) (cb : c.level ≤ℤ b.level) (bd : b.level <ℤ d.level) where
  ab : a.level <ℤ b.level
  ab = less_le _ _ _ ac cb

  cd : c.level <ℤ d.level
  cd = le_less _ _ _ cb bd

  total : pos 0 <ℤ ((b.level -ℤ a.level) *ℤ Q +ℤ (d.level -ℤ c.level) *ℤ P)
  total = sum_above _ _ (int_mul_pos (b.level -ℤ a.level) Q (rise _ _ ab) Q_some)
      (int_mul_pos (d.level -ℤ c.level) P (rise _ _ cd) P_some)

  first : (ya yb yc yd : ℤ)
      → ((yb -ℤ yc) *ℤ Q) +ℤ ((yc -ℤ ya) *ℤ Q +ℤ (yd -ℤ yc) *ℤ P) ≡ (yb -ℤ ya) *ℤ Q +ℤ (yd -ℤ yc) *ℤ P
  first ya yb yc yd =
      same_polynomial (Q ∷ P ∷ ya ∷ yb ∷ yc ∷ yd ∷ [])
      ((V 3 ⊖ V 4) ⊗ V 0 ⊕ ((V 4 ⊖ V 2) ⊗ V 0 ⊕ (V 5 ⊖ V 4) ⊗ V 1)) ((V 3 ⊖ V 2) ⊗ V 0 ⊕ (V 5 ⊖ V 4) ⊗ V 1) refl

  second : (ya yb yc yd : ℤ)
      → ((yb -ℤ ya) *ℤ Q +ℤ (yd -ℤ yb) *ℤ P) +ℤ (yb -ℤ yc) *ℤ P ≡ (yb -ℤ ya) *ℤ Q +ℤ (yd -ℤ yc) *ℤ P
  second ya yb yc yd =
      same_polynomial (Q ∷ P ∷ ya ∷ yb ∷ yc ∷ yd ∷ [])
      (((V 3 ⊖ V 2) ⊗ V 0 ⊕ (V 5 ⊖ V 3) ⊗ V 1) ⊕ (V 3 ⊖ V 4) ⊗ V 1) ((V 3 ⊖ V 2) ⊗ V 0 ⊕ (V 5 ⊖ V 4) ⊗ V 1) refl

  levels : (ya yb yc yd : ℤ)
      → mix ((yb -ℤ yc) *ℤ Q) ((yc -ℤ ya) *ℤ Q +ℤ (yd -ℤ yc) *ℤ P) ya yb
      ≡ mix ((yb -ℤ ya) *ℤ Q +ℤ (yd -ℤ yb) *ℤ P) ((yb -ℤ yc) *ℤ P) yc yd
  levels ya yb yc yd =
      same_polynomial (Q ∷ P ∷ ya ∷ yb ∷ yc ∷ yd ∷ [])
      (((V 3 ⊖ V 4) ⊗ V 0) ⊗ V 2 ⊕ ((V 4 ⊖ V 2) ⊗ V 0 ⊕ (V 5 ⊖ V 4) ⊗ V 1) ⊗ V 3)
      (((V 3 ⊖ V 2) ⊗ V 0 ⊕ (V 5 ⊖ V 3) ⊗ V 1) ⊗ V 4 ⊕ ((V 3 ⊖ V 4) ⊗ V 1) ⊗ V 5) refl

  starts : (xa xb xc xd ya yb yc yd : ℤ)
      → mix ((yb -ℤ yc) *ℤ Q) ((yc -ℤ ya) *ℤ Q +ℤ (yd -ℤ yc) *ℤ P) xa xb
      -ℤ mix ((yb -ℤ ya) *ℤ Q +ℤ (yd -ℤ yb) *ℤ P) ((yb -ℤ yc) *ℤ P) xc xd
      ≡ P *ℤ side xc xd xb yc yd yb -ℤ Q *ℤ side xa xb xc ya yb yc
  starts xa xb xc xd ya yb yc yd =
      same_polynomial (Q ∷ P ∷ xa ∷ xb ∷ xc ∷ xd ∷ ya ∷ yb ∷ yc ∷ yd ∷ [])
      ((((V 7 ⊖ V 8) ⊗ V 0) ⊗ V 2 ⊕ ((V 8 ⊖ V 6) ⊗ V 0 ⊕ (V 9 ⊖ V 8) ⊗ V 1) ⊗ V 3)
      ⊖ (((V 7 ⊖ V 6) ⊗ V 0 ⊕ (V 9 ⊖ V 7) ⊗ V 1) ⊗ V 4 ⊕ ((V 7 ⊖ V 8) ⊗ V 1) ⊗ V 5))
      (V 1 ⊗ (((V 9 ⊖ V 7) ⊕ (V 7 ⊖ V 8)) ⊗ V 3 ⊖ ((V 9 ⊖ V 7) ⊗ V 4 ⊕ (V 7 ⊖ V 8) ⊗ V 5))
      ⊖ V 0 ⊗ (((V 7 ⊖ V 8) ⊕ (V 8 ⊖ V 6)) ⊗ V 4 ⊖ ((V 7 ⊖ V 8) ⊗ V 2 ⊕ (V 8 ⊖ V 6) ⊗ V 3))) refl

  turn_is : (d.level -ℤ c.level) *ℤ side_at_starts a b c +ℤ (b.level -ℤ a.level) *ℤ side_at_starts c d b
      ≡ (b.level -ℤ c.level) *ℤ turn a b c d
  turn_is =
      same_polynomial (a.start ∷ b.start ∷ c.start ∷ d.start ∷ a.level ∷ b.level ∷ c.level ∷ d.level ∷ [])
      ((V 7 ⊖ V 6) ⊗ (((V 5 ⊖ V 6) ⊕ (V 6 ⊖ V 4)) ⊗ V 2 ⊖ ((V 5 ⊖ V 6) ⊗ V 0 ⊕ (V 6 ⊖ V 4) ⊗ V 1))
      ⊕ (V 5 ⊖ V 4) ⊗ (((V 7 ⊖ V 5) ⊕ (V 5 ⊖ V 6)) ⊗ V 1 ⊖ ((V 7 ⊖ V 5) ⊗ V 2 ⊕ (V 5 ⊖ V 6) ⊗ V 3)))
      ((V 5 ⊖ V 6) ⊗ ((V 1 ⊖ V 0) ⊗ (V 7 ⊖ V 6) ⊖ (V 5 ⊖ V 4) ⊗ (V 3 ⊖ V 2))) refl

  times_zero : (x y : ℤ) → y ≡ pos 0 → x *ℤ y ≡ pos 0
  times_zero x y e = ap (λ z. x *ℤ z) e ∙ same_polynomial (x ∷ []) (V 0 ⊗ K (pos 0)) (K (pos 0)) refl

  staggered_crossing : CrossAtStarts a b c d
  staggered_crossing =
      record {
        common = record {
          m = (b.level -ℤ c.level) *ℤ Q;
          k = (c.level -ℤ a.level) *ℤ Q +ℤ (d.level -ℤ c.level) *ℤ P;
          i = (b.level -ℤ a.level) *ℤ Q +ℤ (d.level -ℤ b.level) *ℤ P;
          j = (b.level -ℤ c.level) *ℤ P;
          first = record {
            first = int_mul_nonneg (b.level -ℤ c.level) Q (no_fall _ _ cb) (weak (pos 0) Q Q_some);
            second = weak (pos 0) _ (sum_above _ _ (int_mul_pos (c.level -ℤ a.level) Q (rise _ _ ac) Q_some)
                (int_mul_pos (d.level -ℤ c.level) P (rise _ _ cd) P_some));
            some = above_as _ _ (first a.level b.level c.level d.level) total;
          };
          second = record {
            first = weak (pos 0) _ (sum_above _ _ (int_mul_pos (b.level -ℤ a.level) Q (rise _ _ ab) Q_some)
                (int_mul_pos (d.level -ℤ b.level) P (rise _ _ bd) P_some));
            second = int_mul_nonneg (b.level -ℤ c.level) P (no_fall _ _ cb) (weak (pos 0) P P_some);
            some = above_as _ _ (second a.level b.level c.level d.level) total;
          };
          whole = first a.level b.level c.level d.level ∙ sym (second a.level b.level c.level d.level);
          x = equal _ _
              (starts a.start b.start c.start d.start a.level b.level c.level d.level
              ∙ (λ l. P *ℤ sym q_is l -ℤ Q *ℤ sym p_is l) ∙ cancel);
          y = levels a.level b.level c.level d.level;
        };
        apart = λ e. unequal
            ((λ l. (d.level -ℤ c.level) *ℤ p_is l +ℤ (b.level -ℤ a.level) *ℤ q_is l) ∙ turn_is
            ∙ times_zero (b.level -ℤ c.level) (turn a b c d) e);
      }

-- where the common point has no weight on a, and none on d, it is b and c at once; but c is clear
one_point : (n : ℤ) (a b c d : Track) → IsSlide n a b c d → (h : MeetAtGoals a b c d) → h.m ≡ pos 0
    → h.j ≡ pos 0 → ⊥
one_point n a b c d s h m_zero j_zero =
    s.c_clear (pos 0) (pos 1) weights (second_alone a.level b.level c.level (alone a.level b.level c.level d.level h.y))
    (in_pixel (pos 0) (pos 1) n a.goal b.goal c.goal a.start b.start weights s.in_a s.in_b
    (second_alone a.goal b.goal c.goal (alone a.goal b.goal c.goal d.goal h.x)))
  where
    weights : AreWeights (pos 0) (pos 1)
    weights = record { first = omega (arith, signed); second = omega (arith, signed); some = omega (arith, signed) }

    second_alone : (x y z : ℤ) → y ≡ z → mix (pos 0) (pos 1) x y ≡ (pos 0 +ℤ pos 1) *ℤ z
    second_alone x y z e =
        same_polynomial (x ∷ y ∷ []) (K (pos 0) ⊗ V 0 ⊕ K (pos 1) ⊗ V 1) ((K (pos 0) ⊕ K (pos 1)) ⊗ V 1) refl
        ∙ ap (λ l. (pos 0 +ℤ pos 1) *ℤ l) e

    whole : h.k ≡ h.i
    whole = by h.m h.k h.i h.j m_zero j_zero h.whole
      where
        by : (m k i j : ℤ) → m ≡ pos 0 → j ≡ pos 0 → m +ℤ k ≡ i +ℤ j → k ≡ i
        by m k i j e f g = omega (arith, signed, e, f, g)

    some : pos 0 <ℤ h.k
    some = by h.m h.k m_zero h.first.some
      where
        by : (m k : ℤ) → m ≡ pos 0 → pos 0 <ℤ (m +ℤ k) → pos 0 <ℤ k
        by m k e g = omega (arith, signed, e, g)

    alone : (u v w z : ℤ) → mix h.m h.k u v ≡ mix h.i h.j w z → v ≡ w
    alone u v w z e =
        int_same_of_mul h.k v w some
        (same_polynomial (h.k ∷ u ∷ v ∷ []) (V 0 ⊗ V 2) (K (pos 0) ⊗ V 1 ⊕ V 0 ⊗ V 2) refl
        ∙ (λ l. mix (sym m_zero l) h.k u v) ∙ e ∙ (λ l. mix (sym whole l) (j_zero l) w z)
        ∙ same_polynomial (h.k ∷ w ∷ z ∷ []) (V 0 ⊗ V 1 ⊕ K (pos 0) ⊗ V 2) (V 0 ⊗ V 1) refl)

-- the two sides have one sign, strictly
pub staggered : (n : ℤ) (a b c d : Track) → a.level <ℤ c.level → c.level ≤ℤ b.level
    → b.level <ℤ d.level
    → IsSlide n a b c d → MeetAtGoals a b c d → CrossAtStarts a b c d
staggered n a b c d ac cb bd s h =
    ⊎_elim (λ (l : pos 0 <ℤ (h.m +ℤ h.j)).
    by (side_at_starts a b c) (side_at_starts c d b) refl refl
    (begins_right n a b c s.some s.in_a s.in_b s.in_c s.c_clear c_between)
    (begins_left n a b c s.some s.in_a s.in_b s.in_c s.c_clear c_between)
    (begins_right n c d b s.some s.in_c s.in_d s.in_b s.b_clear b_between)
    (begins_left n c d b s.some s.in_c s.in_d s.in_b s.b_clear b_between)
    (opposite h.m h.j (side_at_goals a b c) (pos 0 -ℤ side_at_goals c d b)
    (record { first = h.first.first; second = h.second.second; some = l }) (sides_agree a b c d h)))
    (λ (l : (h.m +ℤ h.j) ≤ℤ pos 0).
    let none = both_zero h.m h.j h.first.first h.second.second l in
    absurd (one_point n a b c d s h none.0 none.1))
    (int_lt_or_le (pos 0) (h.m +ℤ h.j))
  where
    both_zero : (m j : ℤ) → pos 0 ≤ℤ m → pos 0 ≤ℤ j → (m +ℤ j) ≤ℤ pos 0 → (m ≡ pos 0) × (j ≡ pos 0)
    both_zero m j h g e = (omega (arith, signed, h, g, e), omega (arith, signed, h, g, e))

    c_between : IsBetween a b c
    c_between = between a b c (weak _ _ ac) cb (less_le _ _ _ ac cb)

    b_between : IsBetween c d b
    b_between = between c d b cb (weak _ _ bd) (le_less _ _ _ cb bd)

    agree : (p q : ℤ) → p *ℤ q -ℤ q *ℤ p ≡ pos 0
    agree p q = same_polynomial (p ∷ q ∷ []) (V 0 ⊗ V 1 ⊖ V 1 ⊗ V 0) (K (pos 0)) refl

    agree_turned : (p q : ℤ) → (pos 0 -ℤ p) *ℤ q -ℤ (pos 0 -ℤ q) *ℤ p ≡ pos 0
    agree_turned p q =
        same_polynomial (p ∷ q ∷ []) ((K (pos 0) ⊖ V 0) ⊗ V 1 ⊖ (K (pos 0) ⊖ V 1) ⊗ V 0) (K (pos 0)) refl

    at_least : (x : ℤ) → (pos 0 -ℤ x) ≤ℤ pos 0 → pos 0 ≤ℤ x
    at_least x h = omega (arith, signed, h)

    at_most : (x : ℤ) → pos 0 ≤ℤ (pos 0 -ℤ x) → x ≤ℤ pos 0
    at_most x h = omega (arith, signed, h)

    positive : (x y p q : ℤ) → pos 0 <ℤ x → pos 0 <ℤ y → pos 0 <ℤ p → pos 0 <ℤ q
        → x *ℤ p +ℤ y *ℤ q ≡ pos 0 → ⊥
    positive x y p q hx hy hp hq e = none (x *ℤ p) (y *ℤ q) (int_mul_pos x p hx hp) (int_mul_pos y q hy hq) e
      where
        none : (x y : ℤ) → pos 0 <ℤ x → pos 0 <ℤ y → x +ℤ y ≡ pos 0 → ⊥
        none x y h g e = omega (arith, signed, h, g, e)

    negative : (x y p q : ℤ) → pos 0 <ℤ x → pos 0 <ℤ y → p <ℤ pos 0 → q <ℤ pos 0
        → x *ℤ p +ℤ y *ℤ q ≡ pos 0 → ⊥
    negative x y p q hx hy hp hq e =
        positive x y (pos 0 -ℤ p) (pos 0 -ℤ q) hx hy (size p hp) (size q hq)
        (same_polynomial (x ∷ y ∷ p ∷ q ∷ []) (V 0 ⊗ (K (pos 0) ⊖ V 2) ⊕ V 1 ⊗ (K (pos 0) ⊖ V 3))
        (K (pos 0) ⊖ (V 0 ⊗ V 2 ⊕ V 1 ⊗ V 3)) refl ∙ ap (λ l. pos 0 -ℤ l) e)

    by : (p q : ℤ) → p ≡ side_at_starts a b c → q ≡ side_at_starts c d b
        → (pos 0 ≤ℤ side_at_goals a b c → pos 0 <ℤ p) → (side_at_goals a b c ≤ℤ pos 0 → p <ℤ pos 0)
        → (pos 0 ≤ℤ side_at_goals c d b → pos 0 <ℤ q) → (side_at_goals c d b ≤ℤ pos 0 → q <ℤ pos 0)
        → ((pos 0 ≤ℤ side_at_goals a b c) × ((pos 0 -ℤ side_at_goals c d b) ≤ℤ pos 0))
        ⊎ ((side_at_goals a b c ≤ℤ pos 0) × (pos 0 ≤ℤ (pos 0 -ℤ side_at_goals c d b)))
        → CrossAtStarts a b c d
    by p q p_is q_is c_right c_left b_right b_left (inl g) =
        let ph = c_right g.0 in
        let qh = b_right (at_least _ g.1) in
        staggered_crossing a b c d p q q p p_is q_is qh ph (agree p q)
        (positive _ _ p q (rise _ _ (le_less _ _ _ cb bd)) (rise _ _ (less_le _ _ _ ac cb)) ph qh) ac cb bd
    by p q p_is q_is c_right c_left b_right b_left (inr g) =
        let ph = c_left g.0 in
        let qh = b_left (at_most _ g.1) in
        staggered_crossing a b c d p q (pos 0 -ℤ q) (pos 0 -ℤ p) p_is q_is (size q qh) (size p ph) (agree_turned p q)
        (negative _ _ p q (rise _ _ (le_less _ _ _ cb bd)) (rise _ _ (less_le _ _ _ ac cb)) ph qh) ac cb bd
