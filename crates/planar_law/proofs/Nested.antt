-- Two edges that come to a common point, where the levels of one lie between those of the other. The
-- two ends of the inner edge come to opposite sides of the outer one, or onto it; so they begin on
-- opposite sides, strictly, and the edges cross. With p and q for the two sides where they begin, the
-- sizes of q and p are the weights of the crossing on the inner edge.

use Rattle.std.proofs.Common.{◌≡◌, refl, sym, ◌∙◌, arith, [], ◌∷◌, ◌⊎◌, inl, inr}
use Rattle.std.specs.Prelude.{ℤ, pos, ◌+ℤ◌, ◌-ℤ◌, ◌*ℤ◌, ◌≤ℤ◌, ◌<ℤ◌}
use Rattle.grid_core.proofs.Signed.{signed}
use Rattle.grid_core.proofs.Ring.{int_mul_nonneg, int_mul_pos}
use Rattle.grid_core.proofs.Polynomial.{V, K, ◌⊕◌, ◌⊖◌, ◌⊗◌, same_polynomial}
use Rattle.planar_law.proofs.Inequalities.{weak, le_le, rise, no_fall, size, sum_above, above_as, equal, no_difference}
use Rattle.planar_law.proofs.Mix.{mix}
use Rattle.planar_law.proofs.Tracks.{Track, IsSlide, MeetAtGoals, CrossAtStarts, turn}
use Rattle.planar_law.proofs.Sides.{side, side_at_goals, side_at_starts, IsBetween, between}
use Rattle.planar_law.proofs.Sides.{begins_right, begins_left, opposite}
use Rattle.planar_law.proofs.Vanish.{zero_of}

-- the sides of c and d where they come to have opposite signs
module _ (a b c d : Track) (h : MeetAtGoals a b c d) where
  sides_cancel : mix h.i h.j (side_at_goals a b c) (side_at_goals a b d) ≡ pos 0
  sides_cancel =
      zero_of (mix h.i h.j (side_at_goals a b c) (side_at_goals a b d))
      (a.level -ℤ b.level) (mix h.m h.k a.goal b.goal -ℤ mix h.i h.j c.goal d.goal)
      (b.goal -ℤ a.goal) (mix h.m h.k a.level b.level -ℤ mix h.i h.j c.level d.level)
      (a.goal *ℤ b.level -ℤ b.goal *ℤ a.level) ((h.m +ℤ h.k) -ℤ (h.i +ℤ h.j))
      (by h.m h.k h.i h.j a.goal b.goal c.goal d.goal a.level b.level c.level d.level)
      (no_difference _ _ h.x) (no_difference _ _ h.y) (no_difference _ _ h.whole)
    where
      by : (m k i j u v w z ya yb yc yd : ℤ)
          → mix i j (side u v w ya yb yc) (side u v z ya yb yd)
          ≡ (ya -ℤ yb) *ℤ (mix m k u v -ℤ mix i j w z) +ℤ (v -ℤ u) *ℤ (mix m k ya yb -ℤ mix i j yc yd)
          +ℤ (u *ℤ yb -ℤ v *ℤ ya) *ℤ ((m +ℤ k) -ℤ (i +ℤ j))
      by m k i j u v w z ya yb yc yd =
          same_polynomial (m ∷ k ∷ i ∷ j ∷ u ∷ v ∷ w ∷ z ∷ ya ∷ yb ∷ yc ∷ yd ∷ [])
          (V 2 ⊗ (((V 9 ⊖ V 10) ⊕ (V 10 ⊖ V 8)) ⊗ V 6 ⊖ ((V 9 ⊖ V 10) ⊗ V 4 ⊕ (V 10 ⊖ V 8) ⊗ V 5))
          ⊕ V 3 ⊗ (((V 9 ⊖ V 11) ⊕ (V 11 ⊖ V 8)) ⊗ V 7 ⊖ ((V 9 ⊖ V 11) ⊗ V 4 ⊕ (V 11 ⊖ V 8) ⊗ V 5)))
          ((V 8 ⊖ V 9) ⊗ ((V 0 ⊗ V 4 ⊕ V 1 ⊗ V 5) ⊖ (V 2 ⊗ V 6 ⊕ V 3 ⊗ V 7))
          ⊕ (V 5 ⊖ V 4) ⊗ ((V 0 ⊗ V 8 ⊕ V 1 ⊗ V 9) ⊖ (V 2 ⊗ V 10 ⊕ V 3 ⊗ V 11))
          ⊕ (V 4 ⊗ V 9 ⊖ V 5 ⊗ V 8) ⊗ ((V 0 ⊕ V 1) ⊖ (V 2 ⊕ V 3))) refl

-- the crossing of two edges, from the sides p and q of c and d, whose sum weighted by P and Q is 0
module _ (a b c d : Track) (p q Q P : ℤ) (p_is : p ≡ side_at_starts a b c) (q_is : q ≡ side_at_starts a b d)
    (Q_some : pos 0 <ℤ Q) (P_some : pos 0 <ℤ P) (cancel : mix Q P p q ≡ pos 0)
    (unequal : p -ℤ q ≡ pos 0 → ⊥)
    (ac : a.level ≤ℤ c.level) (cb : c.level ≤ℤ b.level) (ad : a.level ≤ℤ d.level) (db : d.level ≤ℤ b.level)
    (rises : a.level <ℤ b.level) where
  not_negative : (x y z w : ℤ) → x ≤ℤ y → z ≤ℤ w → pos 0 ≤ℤ mix Q P (y -ℤ x) (w -ℤ z)
  not_negative x y z w h g =
      both _ _ (int_mul_nonneg Q (y -ℤ x) (weak (pos 0) Q Q_some) (no_fall x y h))
      (int_mul_nonneg P (w -ℤ z) (weak (pos 0) P P_some) (no_fall z w g))
    where
      both : (x y : ℤ) → pos 0 ≤ℤ x → pos 0 ≤ℤ y → pos 0 ≤ℤ (x +ℤ y)
      both x y h g = omega (arith, signed, h, g)

  positive : (x : ℤ) → pos 0 <ℤ x → pos 0 <ℤ (x *ℤ (b.level -ℤ a.level))
  positive x h = int_mul_pos x (b.level -ℤ a.level) h (rise a.level b.level rises)

  whole : mix Q P (b.level -ℤ c.level) (b.level -ℤ d.level) +ℤ mix Q P (c.level -ℤ a.level) (d.level -ℤ a.level)
      ≡ Q *ℤ (b.level -ℤ a.level) +ℤ P *ℤ (b.level -ℤ a.level)
  whole =
      same_polynomial (Q ∷ P ∷ a.level ∷ b.level ∷ c.level ∷ d.level ∷ [])
      ((V 0 ⊗ (V 3 ⊖ V 4) ⊕ V 1 ⊗ (V 3 ⊖ V 5)) ⊕ (V 0 ⊗ (V 4 ⊖ V 2) ⊕ V 1 ⊗ (V 5 ⊖ V 2)))
      (V 0 ⊗ (V 3 ⊖ V 2) ⊕ V 1 ⊗ (V 3 ⊖ V 2)) refl

  levels : mix (mix Q P (b.level -ℤ c.level) (b.level -ℤ d.level))
      (mix Q P (c.level -ℤ a.level) (d.level -ℤ a.level)) a.level b.level
      ≡ mix (Q *ℤ (b.level -ℤ a.level)) (P *ℤ (b.level -ℤ a.level)) c.level d.level
  levels =
      same_polynomial (Q ∷ P ∷ a.level ∷ b.level ∷ c.level ∷ d.level ∷ [])
      ((V 0 ⊗ (V 3 ⊖ V 4) ⊕ V 1 ⊗ (V 3 ⊖ V 5)) ⊗ V 2 ⊕ (V 0 ⊗ (V 4 ⊖ V 2) ⊕ V 1 ⊗ (V 5 ⊖ V 2)) ⊗ V 3)
      ((V 0 ⊗ (V 3 ⊖ V 2)) ⊗ V 4 ⊕ (V 1 ⊗ (V 3 ⊖ V 2)) ⊗ V 5) refl

  starts : (xa xb xc xd ya yb yc yd : ℤ)
      → mix (Q *ℤ (yb -ℤ ya)) (P *ℤ (yb -ℤ ya)) xc xd
      -ℤ mix (mix Q P (yb -ℤ yc) (yb -ℤ yd)) (mix Q P (yc -ℤ ya) (yd -ℤ ya)) xa xb
      ≡ mix Q P (side xa xb xc ya yb yc) (side xa xb xd ya yb yd)
  starts xa xb xc xd ya yb yc yd =
      same_polynomial (Q ∷ P ∷ xa ∷ xb ∷ xc ∷ xd ∷ ya ∷ yb ∷ yc ∷ yd ∷ [])
      (((V 0 ⊗ (V 7 ⊖ V 6)) ⊗ V 4 ⊕ (V 1 ⊗ (V 7 ⊖ V 6)) ⊗ V 5)
      ⊖ ((V 0 ⊗ (V 7 ⊖ V 8) ⊕ V 1 ⊗ (V 7 ⊖ V 9)) ⊗ V 2 ⊕ (V 0 ⊗ (V 8 ⊖ V 6) ⊕ V 1 ⊗ (V 9 ⊖ V 6)) ⊗ V 3))
      (V 0 ⊗ (((V 7 ⊖ V 8) ⊕ (V 8 ⊖ V 6)) ⊗ V 4 ⊖ ((V 7 ⊖ V 8) ⊗ V 2 ⊕ (V 8 ⊖ V 6) ⊗ V 3))
      ⊕ V 1 ⊗ (((V 7 ⊖ V 9) ⊕ (V 9 ⊖ V 6)) ⊗ V 5 ⊖ ((V 7 ⊖ V 9) ⊗ V 2 ⊕ (V 9 ⊖ V 6) ⊗ V 3))) refl

  turn_is : turn a b c d ≡ side_at_starts a b c -ℤ side_at_starts a b d
  turn_is =
      same_polynomial (a.start ∷ b.start ∷ c.start ∷ d.start ∷ a.level ∷ b.level ∷ c.level ∷ d.level ∷ [])
      ((V 1 ⊖ V 0) ⊗ (V 7 ⊖ V 6) ⊖ (V 5 ⊖ V 4) ⊗ (V 3 ⊖ V 2))
      ((((V 5 ⊖ V 6) ⊕ (V 6 ⊖ V 4)) ⊗ V 2 ⊖ ((V 5 ⊖ V 6) ⊗ V 0 ⊕ (V 6 ⊖ V 4) ⊗ V 1))
      ⊖ (((V 5 ⊖ V 7) ⊕ (V 7 ⊖ V 4)) ⊗ V 3 ⊖ ((V 5 ⊖ V 7) ⊗ V 0 ⊕ (V 7 ⊖ V 4) ⊗ V 1))) refl

  nested_crossing : CrossAtStarts a b c d
  nested_crossing =
      record {
        common = record {
          m = mix Q P (b.level -ℤ c.level) (b.level -ℤ d.level);
          k = mix Q P (c.level -ℤ a.level) (d.level -ℤ a.level);
          i = Q *ℤ (b.level -ℤ a.level);
          j = P *ℤ (b.level -ℤ a.level);
          first = record {
            first = not_negative c.level b.level d.level b.level cb db;
            second = not_negative a.level c.level a.level d.level ac ad;
            some = above_as _ _ whole total;
          };
          second = record {
            first = weak (pos 0) _ (positive Q Q_some);
            second = weak (pos 0) _ (positive P P_some);
            some = total;
          };
          whole = whole;
          x = sym (equal _ _
              (starts a.start b.start c.start d.start a.level b.level c.level d.level
              ∙ (λ l. mix Q P (sym p_is l) (sym q_is l)) ∙ cancel));
          y = levels;
        };
        apart = λ e. unequal ((λ l. p_is l -ℤ q_is l) ∙ sym turn_is ∙ e);
      }
    where
      total : pos 0 <ℤ (Q *ℤ (b.level -ℤ a.level) +ℤ P *ℤ (b.level -ℤ a.level))
      total = sum_above _ _ (positive Q Q_some) (positive P P_some)

-- the two sides have opposite signs, strictly
pub nested : (n : ℤ) (a b c d : Track) → a.level ≤ℤ c.level → d.level ≤ℤ b.level
    → c.level ≤ℤ d.level
    → a.level <ℤ b.level → IsSlide n a b c d → MeetAtGoals a b c d → CrossAtStarts a b c d
nested n a b c d ac db cd rises s h =
    by (side_at_starts a b c) (side_at_starts a b d) refl refl
    (begins_right n a b c s.some s.in_a s.in_b s.in_c s.c_clear c_between)
    (begins_left n a b c s.some s.in_a s.in_b s.in_c s.c_clear c_between)
    (begins_right n a b d s.some s.in_a s.in_b s.in_d s.d_clear d_between)
    (begins_left n a b d s.some s.in_a s.in_b s.in_d s.d_clear d_between)
    (opposite h.i h.j (side_at_goals a b c) (side_at_goals a b d) h.second (sides_cancel a b c d h))
  where
    cb : c.level ≤ℤ b.level
    cb = le_le _ _ _ cd db

    ad : a.level ≤ℤ d.level
    ad = le_le _ _ _ ac cd

    c_between : IsBetween a b c
    c_between = between a b c ac cb rises

    d_between : IsBetween a b d
    d_between = between a b d ad db rises

    -- the two sides and their sizes
    right_left : (p q : ℤ) → mix (pos 0 -ℤ q) p p q ≡ pos 0
    right_left p q = same_polynomial (p ∷ q ∷ []) ((K (pos 0) ⊖ V 1) ⊗ V 0 ⊕ V 0 ⊗ V 1) (K (pos 0)) refl

    left_right : (p q : ℤ) → mix q (pos 0 -ℤ p) p q ≡ pos 0
    left_right p q = same_polynomial (p ∷ q ∷ []) (V 1 ⊗ V 0 ⊕ (K (pos 0) ⊖ V 0) ⊗ V 1) (K (pos 0)) refl

    right_apart : (p q : ℤ) → pos 0 <ℤ p → q <ℤ pos 0 → p -ℤ q ≡ pos 0 → ⊥
    right_apart p q h g e = omega (arith, signed, h, g, e)

    left_apart : (p q : ℤ) → p <ℤ pos 0 → pos 0 <ℤ q → p -ℤ q ≡ pos 0 → ⊥
    left_apart p q h g e = omega (arith, signed, h, g, e)

    by : (p q : ℤ) → p ≡ side_at_starts a b c → q ≡ side_at_starts a b d
        → (pos 0 ≤ℤ side_at_goals a b c → pos 0 <ℤ p) → (side_at_goals a b c ≤ℤ pos 0 → p <ℤ pos 0)
        → (pos 0 ≤ℤ side_at_goals a b d → pos 0 <ℤ q) → (side_at_goals a b d ≤ℤ pos 0 → q <ℤ pos 0)
        → ((pos 0 ≤ℤ side_at_goals a b c) × (side_at_goals a b d ≤ℤ pos 0))
        ⊎ ((side_at_goals a b c ≤ℤ pos 0) × (pos 0 ≤ℤ side_at_goals a b d))
        → CrossAtStarts a b c d
    by p q p_is q_is c_right c_left d_right d_left (inl g) =
        nested_crossing a b c d p q (pos 0 -ℤ q) p p_is q_is (size q (d_left g.1)) (c_right g.0) (right_left p q)
        (right_apart p q (c_right g.0) (d_left g.1)) ac cb ad db rises
    by p q p_is q_is c_right c_left d_right d_left (inr g) =
        nested_crossing a b c d p q q (pos 0 -ℤ p) p_is q_is (d_right g.1) (size p (c_left g.0)) (left_right p q)
        (left_apart p q (c_left g.0) (d_right g.1)) ac cb ad db rises
