-- A point that stays on its side: let C lie in pixel w, and let the mean of A and B not lie there.
-- Where the same mean of their pixels' centres is at most w, the mean of A and B is below C: it is
-- below the upper side of w, so it is below the lower one, and C isn't. The other way round likewise.

use Rattle.std.proofs.Common.{◌≡◌, arith, ⊎_elim}
use Rattle.std.specs.Prelude.{ℤ, pos, ◌+ℤ◌, ◌-ℤ◌, ◌*ℤ◌, ◌≤ℤ◌, ◌<ℤ◌}
use Rattle.grid_core.proofs.Signed.{signed}
use Rattle.grid_core.proofs.Ring.{int_mul-le_right, int_lt_or_le}
use Rattle.grid_core.specs.Laws.{IsFromTo}
use Rattle.planar_law.proofs.Inequalities.{weak}
use Rattle.planar_law.proofs.Mix.{AreWeights, mix, mixed_low, mixed_high, low_wide, high_wide, scaled}

-- what is below the upper side of a pixel and doesn't lie in it is below its lower side
below_low : (w p n : ℤ) → (IsFromTo w w p n → ⊥)
    → (pos 2 *ℤ p) <ℤ ((pos 2 *ℤ w +ℤ pos 1) *ℤ n)
    → (pos 2 *ℤ p) <ℤ ((pos 2 *ℤ w -ℤ pos 1) *ℤ n)
below_low w p n misses high =
    ⊎_elim (λ (l : (pos 2 *ℤ p) <ℤ ((pos 2 *ℤ w -ℤ pos 1) *ℤ n)). l)
    (λ (l : ((pos 2 *ℤ w -ℤ pos 1) *ℤ n) ≤ℤ (pos 2 *ℤ p)).
    absurd (misses (record { low = l; high = high })))
    (int_lt_or_le (pos 2 *ℤ p) ((pos 2 *ℤ w -ℤ pos 1) *ℤ n))

-- and what isn't below its lower side isn't below its upper one
above_high : (w p n : ℤ) → (IsFromTo w w p n → ⊥)
    → ((pos 2 *ℤ w -ℤ pos 1) *ℤ n) ≤ℤ (pos 2 *ℤ p)
    → ((pos 2 *ℤ w +ℤ pos 1) *ℤ n) ≤ℤ (pos 2 *ℤ p)
above_high w p n misses low =
    ⊎_elim (λ (l : (pos 2 *ℤ p) <ℤ ((pos 2 *ℤ w +ℤ pos 1) *ℤ n)).
    absurd (misses (record { low = low; high = l })))
    (λ (l : ((pos 2 *ℤ w +ℤ pos 1) *ℤ n) ≤ℤ (pos 2 *ℤ p)). l)
    (int_lt_or_le (pos 2 *ℤ p) ((pos 2 *ℤ w +ℤ pos 1) *ℤ n))

module _ (m k n u v w a b c : ℤ) (weights : AreWeights m k) (some : pos 0 <ℤ n) (in_u : IsFromTo u u a n)
    (in_v : IsFromTo v v b n) (in_w : IsFromTo w w c n)
    (misses : IsFromTo w w (mix m k a b) ((m +ℤ k) *ℤ n) → ⊥) where
  -- c over n, as a number over (m + k) n
  widened : IsFromTo w w ((m +ℤ k) *ℤ c) ((m +ℤ k) *ℤ n)
  widened = scaled (m +ℤ k) n w w c weights.some in_w

  -- the mean of A and B is below C where the mean of the centres is at most w
  pub stays_below : mix m k u v ≤ℤ ((m +ℤ k) *ℤ w) → mix m k a b <ℤ ((m +ℤ k) *ℤ c)
  stays_below h =
      half _ _ _
      (below_low w (mix m k a b) ((m +ℤ k) *ℤ n) misses
      (through _ _ _ _ (mixed_high m k n u v a b weights in_u in_v)
      (int_mul-le_right _ _ n (weak (pos 0) n some) (raised _ _ (m +ℤ k) h)) (high_wide (m +ℤ k) n w)))
      widened.low
    where
      raised : (x y l : ℤ) → x ≤ℤ y → (pos 2 *ℤ x +ℤ l) ≤ℤ (pos 2 *ℤ y +ℤ l)
      raised x y l h = omega (arith, signed, h)

      through : (x y z t : ℤ) → x <ℤ y → y ≤ℤ z → z ≡ t → x <ℤ t
      through x y z t h g e = omega (arith, signed, h, g, e)

      half : (x y z : ℤ) → (pos 2 *ℤ x) <ℤ y → y ≤ℤ (pos 2 *ℤ z) → x <ℤ z
      half x y z h g = omega (arith, signed, h, g)

  -- and above C where that mean is at least w
  pub stays_above : ((m +ℤ k) *ℤ w) ≤ℤ mix m k u v → ((m +ℤ k) *ℤ c) <ℤ mix m k a b
  stays_above h =
      half _ _ _ widened.high
      (above_high w (mix m k a b) ((m +ℤ k) *ℤ n) misses
      (through _ _ _ _ (low_wide (m +ℤ k) n w)
      (int_mul-le_right _ _ n (weak (pos 0) n some) (raised _ _ (m +ℤ k) h))
      (mixed_low m k n u v a b weights in_u in_v)))
    where
      raised : (x y l : ℤ) → x ≤ℤ y → (pos 2 *ℤ x -ℤ l) ≤ℤ (pos 2 *ℤ y -ℤ l)
      raised x y l h = omega (arith, signed, h)

      through : (x y z t : ℤ) → y ≡ x → y ≤ℤ z → z ≤ℤ t → x ≤ℤ t
      through x y z t e h g = omega (arith, signed, h, g, e)

      half : (x y z : ℤ) → (pos 2 *ℤ x) <ℤ y → y ≤ℤ (pos 2 *ℤ z) → x <ℤ z
      half x y z h g = omega (arith, signed, h, g)
