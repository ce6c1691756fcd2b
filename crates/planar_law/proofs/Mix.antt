-- A weighted mean of two points, where each lies in a pixel, lies in the unit square around the same
-- mean of the pixels' centres. Each side of that square is the same mean of the pixels' sides; the
-- upper one stays strict, since some weight isn't 0. Weights m and k stand for m / (m + k) and
-- k / (m + k), and coordinates are over n.

use Rattle.std.proofs.Common.{◌≡◌, refl, ap, ◌∙◌, arith, [], ◌∷◌}
use Rattle.std.specs.Prelude.{ℤ, pos, ◌+ℤ◌, ◌-ℤ◌, ◌*ℤ◌, ◌≤ℤ◌, ◌<ℤ◌}
use Rattle.grid_core.proofs.Signed.{signed}
use Rattle.grid_core.proofs.Ring.{int_mul-le_left, int_mul-lt_left, int_add_comm, int_mul_nonneg}
use Rattle.grid_core.proofs.Ring.{int_mul_pos}
use Rattle.grid_core.proofs.Polynomial.{V, K, ◌⊕◌, ◌⊖◌, ◌⊗◌, same_polynomial}
use Rattle.grid_core.specs.Laws.{IsFromTo}
use Rattle.planar_law.proofs.Inequalities.{weak, le_as, lt_as}

-- two weights, neither negative and not both 0
pub record AreWeights (m k : ℤ) : Type 0 where
  pub first : pos 0 ≤ℤ m
  pub second : pos 0 ≤ℤ k
  pub some : pos 0 <ℤ (m +ℤ k)

-- the weighted sum of a and b
abbrev pub mix : ℤ → ℤ → ℤ → ℤ → ℤ
mix m k a b = m *ℤ a +ℤ k *ℤ b

-- ---- orders of sums

-- weighted sums rise with their parts
pub mix-le : (m k a b c d : ℤ) → AreWeights m k → a ≤ℤ c → b ≤ℤ d → mix m k a b ≤ℤ mix m k c d
mix-le m k a b c d w h g =
    omega (arith, signed, int_mul-le_left m a c w.first h, int_mul-le_left k b d w.second g)

-- where both parts rise strictly, so does the sum
pub mix-lt : (m k a b c d : ℤ) → AreWeights m k → a <ℤ c → b <ℤ d → mix m k a b <ℤ mix m k c d
mix-lt m k a b c d w h g =
    above (mix m k (a +ℤ pos 1) (b +ℤ pos 1)) (mix m k a b) (m +ℤ k) (mix m k c d)
    (same_polynomial (m ∷ k ∷ a ∷ b ∷ []) (V 0 ⊗ (V 2 ⊕ K (pos 1)) ⊕ V 1 ⊗ (V 3 ⊕ K (pos 1)))
    ((V 0 ⊗ V 2 ⊕ V 1 ⊗ V 3) ⊕ (V 0 ⊕ V 1)) refl)
    w.some
    (mix-le m k (a +ℤ pos 1) (b +ℤ pos 1) c d w (omega (arith, signed, h)) (omega (arith, signed, g)))
  where
    above : (x y l z : ℤ) → x ≡ y +ℤ l → pos 0 <ℤ l → x ≤ℤ z → y <ℤ z
    above x y l z e s t = omega (arith, signed, e, s, t)

-- ---- means of points in pixels

-- twice a mean is the mean of twice the parts
doubled : (m k a b : ℤ) → mix m k (pos 2 *ℤ a) (pos 2 *ℤ b) ≡ pos 2 *ℤ mix m k a b
doubled m k a b =
    same_polynomial (m ∷ k ∷ a ∷ b ∷ []) (V 0 ⊗ (K (pos 2) ⊗ V 2) ⊕ V 1 ⊗ (K (pos 2) ⊗ V 3))
    (K (pos 2) ⊗ (V 0 ⊗ V 2 ⊕ V 1 ⊗ V 3)) refl

-- the lower side
pub mixed_low : (m k n u v a b : ℤ) → AreWeights m k → IsFromTo u u a n → IsFromTo v v b n
    → ((pos 2 *ℤ mix m k u v -ℤ (m +ℤ k)) *ℤ n) ≤ℤ (pos 2 *ℤ mix m k a b)
mixed_low m k n u v a b w h g =
    le_as _ _ _ _
    (same_polynomial (m ∷ k ∷ n ∷ u ∷ v ∷ [])
    (V 0 ⊗ ((K (pos 2) ⊗ V 3 ⊖ K (pos 1)) ⊗ V 2) ⊕ V 1 ⊗ ((K (pos 2) ⊗ V 4 ⊖ K (pos 1)) ⊗ V 2))
    ((K (pos 2) ⊗ (V 0 ⊗ V 3 ⊕ V 1 ⊗ V 4) ⊖ (V 0 ⊕ V 1)) ⊗ V 2) refl)
    (doubled m k a b) (mix-le m k _ _ _ _ w h.low g.low)

-- the upper side
pub mixed_high : (m k n u v a b : ℤ) → AreWeights m k → IsFromTo u u a n → IsFromTo v v b n
    → (pos 2 *ℤ mix m k a b) <ℤ ((pos 2 *ℤ mix m k u v +ℤ (m +ℤ k)) *ℤ n)
mixed_high m k n u v a b w h g =
    lt_as _ _ _ _ (doubled m k a b)
    (same_polynomial (m ∷ k ∷ n ∷ u ∷ v ∷ [])
    (V 0 ⊗ ((K (pos 2) ⊗ V 3 ⊕ K (pos 1)) ⊗ V 2) ⊕ V 1 ⊗ ((K (pos 2) ⊗ V 4 ⊕ K (pos 1)) ⊗ V 2))
    ((K (pos 2) ⊗ (V 0 ⊗ V 3 ⊕ V 1 ⊗ V 4) ⊕ (V 0 ⊕ V 1)) ⊗ V 2) refl)
    (mix-lt m k _ _ _ _ w h.high g.high)

-- the sides of the square around l w over n are those of pixel w over l n
pub low_wide : (l n w : ℤ) → (pos 2 *ℤ (l *ℤ w) -ℤ l) *ℤ n ≡ (pos 2 *ℤ w -ℤ pos 1) *ℤ (l *ℤ n)
low_wide l n w =
    same_polynomial (l ∷ n ∷ w ∷ []) ((K (pos 2) ⊗ (V 0 ⊗ V 2) ⊖ V 0) ⊗ V 1)
    ((K (pos 2) ⊗ V 2 ⊖ K (pos 1)) ⊗ (V 0 ⊗ V 1)) refl

pub high_wide : (l n w : ℤ) → (pos 2 *ℤ (l *ℤ w) +ℤ l) *ℤ n ≡ (pos 2 *ℤ w +ℤ pos 1) *ℤ (l *ℤ n)
high_wide l n w =
    same_polynomial (l ∷ n ∷ w ∷ []) ((K (pos 2) ⊗ (V 0 ⊗ V 2) ⊕ V 0) ⊗ V 1)
    ((K (pos 2) ⊗ V 2 ⊕ K (pos 1)) ⊗ (V 0 ⊗ V 1)) refl

-- where the mean of the centres is a centre itself, the mean of the points lies in its pixel
pub in_pixel : (m k n u v w a b : ℤ) → AreWeights m k → IsFromTo u u a n → IsFromTo v v b n
    → mix m k u v ≡ (m +ℤ k) *ℤ w → IsFromTo w w (mix m k a b) ((m +ℤ k) *ℤ n)
in_pixel m k n u v w a b weights h g e =
    record {
      low = le_as _ _ _ _ (ap (λ c. (pos 2 *ℤ c -ℤ (m +ℤ k)) *ℤ n) e ∙ low_wide (m +ℤ k) n w) refl
          (mixed_low m k n u v a b weights h g);
      high = lt_as _ _ _ _ refl (ap (λ c. (pos 2 *ℤ c +ℤ (m +ℤ k)) *ℤ n) e ∙ high_wide (m +ℤ k) n w)
          (mixed_high m k n u v a b weights h g);
    }

-- a fraction with both numbers times l lies where it lay
pub scaled : (l n lo hi a : ℤ) → pos 0 <ℤ l → IsFromTo lo hi a n → IsFromTo lo hi (l *ℤ a) (l *ℤ n)
scaled l n lo hi a some h =
    record {
      low = le_as _ _ _ _ (turned l (pos 2 *ℤ lo -ℤ pos 1) n) (turned l (pos 2) a)
          (int_mul-le_left l _ _ (weak (pos 0) l some) h.low);
      high = lt_as _ _ _ _ (turned l (pos 2) a) (turned l (pos 2 *ℤ hi +ℤ pos 1) n)
          (int_mul-lt_left l _ _ some h.high);
    }
  where
    turned : (x y z : ℤ) → x *ℤ (y *ℤ z) ≡ y *ℤ (x *ℤ z)
    turned x y z = same_polynomial (x ∷ y ∷ z ∷ []) (V 0 ⊗ (V 1 ⊗ V 2)) (V 1 ⊗ (V 0 ⊗ V 2)) refl

-- ---- weights the other way round

pub weights_turned : (m k : ℤ) → AreWeights m k → AreWeights k m
weights_turned m k w = record { first = w.second; second = w.first; some = lt_as _ _ _ _ refl (int_add_comm m k) w.some }

pub mix-turned : (m k a b : ℤ) → mix m k a b ≡ mix k m b a
mix-turned m k a b = int_add_comm (m *ℤ a) (k *ℤ b)

-- ---- weights times a number

pub weights_times : (m k l : ℤ) → AreWeights m k → pos 0 <ℤ l → AreWeights (m *ℤ l) (k *ℤ l)
weights_times m k l w some =
    record {
      first = int_mul_nonneg m l w.first (weak (pos 0) l some);
      second = int_mul_nonneg k l w.second (weak (pos 0) l some);
      some = lt_as _ _ _ _ refl
          (same_polynomial (m ∷ k ∷ l ∷ []) ((V 0 ⊕ V 1) ⊗ V 2) (V 0 ⊗ V 2 ⊕ V 1 ⊗ V 2) refl)
          (int_mul_pos (m +ℤ k) l w.some some);
    }
