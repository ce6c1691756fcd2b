-- On which side of an edge an end lies, measured at its level: above 0 right of it, below 0 left. As
-- the edge is clear of the end's pixel, an end that comes to one side or onto the edge begins
-- strictly on that side. Of two numbers whose weighted sum is 0, one is at most 0 and one at least 0.

use Rattle.std.proofs.Common.{◌≡◌, refl, arith, [], ◌∷◌, inl, inr}
use Rattle.std.specs.Prelude.{ℤ, pos, ◌+ℤ◌, ◌-ℤ◌, ◌*ℤ◌, ◌≤ℤ◌, ◌<ℤ◌, ◌⊎◌}
use Rattle.grid_core.proofs.Signed.{signed}
use Rattle.grid_core.proofs.Ring.{int_lt_or_le}
use Rattle.grid_core.proofs.Polynomial.{V, K, ◌⊕◌, ◌⊖◌, ◌⊗◌, same_polynomial}
use Rattle.grid_core.specs.Laws.{IsFromTo}
use Rattle.planar_law.proofs.Mix.{AreWeights, mix, mix-lt}
use Rattle.planar_law.proofs.Stay.{stays_below, stays_above}
use Rattle.planar_law.proofs.Tracks.{Track, IsClear}

-- how far c is right of the point at its level of the line through a and b, times b's level less a's
abbrev pub side : ℤ → ℤ → ℤ → ℤ → ℤ → ℤ → ℤ
side xa xb xc ya yb yc = ((yb -ℤ yc) +ℤ (yc -ℤ ya)) *ℤ xc -ℤ mix (yb -ℤ yc) (yc -ℤ ya) xa xb

-- the same of tracks, where they come to and where they begin
abbrev pub side_at_goals : Track → Track → Track → ℤ
side_at_goals a b c = side a.goal b.goal c.goal a.level b.level c.level

abbrev pub side_at_starts : Track → Track → Track → ℤ
side_at_starts a b c = side a.start b.start c.start a.level b.level c.level

-- c is level with a point of the edge from a to b, which rises
abbrev pub IsBetween : Track → Track → Track → Type 0
IsBetween a b c = AreWeights (b.level -ℤ c.level) (c.level -ℤ a.level)

pub between : (a b c : Track) → a.level ≤ℤ c.level → c.level ≤ℤ b.level → a.level <ℤ b.level
    → IsBetween a b c
between a b c low high rises = by a.level b.level c.level low high rises
  where
    by : (x y z : ℤ) → x ≤ℤ z → z ≤ℤ y → x <ℤ y → AreWeights (y -ℤ z) (z -ℤ x)
    by x y z low high rises =
        record {
          first = omega (arith, signed, high);
          second = omega (arith, signed, low);
          some = omega (arith, signed, rises);
        }

module _ (n : ℤ) (a b c : Track) (some : pos 0 <ℤ n) (in_a : IsFromTo a.goal a.goal a.start n)
    (in_b : IsFromTo b.goal b.goal b.start n) (in_c : IsFromTo c.goal c.goal c.start n)
    (clear : IsClear n c a b) (weights : IsBetween a b c) where
  -- the point of the edge that is level with c
  level_with : (x y z : ℤ) → mix (y -ℤ z) (z -ℤ x) x y ≡ ((y -ℤ z) +ℤ (z -ℤ x)) *ℤ z
  level_with x y z =
      same_polynomial (x ∷ y ∷ z ∷ []) ((V 1 ⊖ V 2) ⊗ V 0 ⊕ (V 2 ⊖ V 0) ⊗ V 1) (((V 1 ⊖ V 2) ⊕ (V 2 ⊖ V 0)) ⊗ V 2)
      refl

  misses : IsFromTo c.goal c.goal (mix (b.level -ℤ c.level) (c.level -ℤ a.level) a.start b.start)
      (((b.level -ℤ c.level) +ℤ (c.level -ℤ a.level)) *ℤ n) → ⊥
  misses = clear (b.level -ℤ c.level) (c.level -ℤ a.level) weights (level_with a.level b.level c.level)

  -- an order of two numbers, and the sign of their difference
  at_most : (x y : ℤ) → pos 0 ≤ℤ (x -ℤ y) → y ≤ℤ x
  at_most x y h = omega (arith, signed, h)

  at_least : (x y : ℤ) → (x -ℤ y) ≤ℤ pos 0 → x ≤ℤ y
  at_least x y h = omega (arith, signed, h)

  below : (x y : ℤ) → y <ℤ x → pos 0 <ℤ (x -ℤ y)
  below x y h = omega (arith, signed, h)

  above : (x y : ℤ) → x <ℤ y → (x -ℤ y) <ℤ pos 0
  above x y h = omega (arith, signed, h)

  -- c begins on the right of the edge where it doesn't come to its left
  pub begins_right : pos 0 ≤ℤ side_at_goals a b c → pos 0 <ℤ side_at_starts a b c
  begins_right h =
      below _ _
      (stays_below _ _ n a.goal b.goal c.goal a.start b.start c.start weights some in_a in_b in_c misses
      (at_most _ _ h))

  -- and on its left where it doesn't come to its right
  pub begins_left : side_at_goals a b c ≤ℤ pos 0 → side_at_starts a b c <ℤ pos 0
  begins_left h =
      above _ _
      (stays_above _ _ n a.goal b.goal c.goal a.start b.start c.start weights some in_a in_b in_c misses
      (at_least _ _ h))

-- ---- signs

-- of two numbers whose weighted sum is 0 one is at least 0 and the other at most 0
pub opposite : (i j p q : ℤ) → AreWeights i j → mix i j p q ≡ pos 0
    → ((pos 0 ≤ℤ p) × (q ≤ℤ pos 0)) ⊎ ((p ≤ℤ pos 0) × (pos 0 ≤ℤ q))
opposite i j p q w e = by (int_lt_or_le (pos 0) p) (int_lt_or_le (pos 0) q) (int_lt_or_le q (pos 0)) (int_lt_or_le p (pos 0))
  where
    nothing : mix i j (pos 0) (pos 0) ≡ pos 0
    nothing = same_polynomial (i ∷ j ∷ []) (V 0 ⊗ K (pos 0) ⊕ V 1 ⊗ K (pos 0)) (K (pos 0)) refl

    unequal : (x y : ℤ) → x <ℤ y → x ≡ pos 0 → y ≡ pos 0 → ⊥
    unequal x y h e f = omega (arith, signed, h, e, f)

    by : (pos 0 <ℤ p) ⊎ (p ≤ℤ pos 0) → (pos 0 <ℤ q) ⊎ (q ≤ℤ pos 0) → (q <ℤ pos 0) ⊎ (pos 0 ≤ℤ q)
        → (p <ℤ pos 0) ⊎ (pos 0 ≤ℤ p)
        → ((pos 0 ≤ℤ p) × (q ≤ℤ pos 0)) ⊎ ((p ≤ℤ pos 0) × (pos 0 ≤ℤ q))
    by (inl h) (inl g) _ _ =
        absurd (unequal (mix i j (pos 0) (pos 0)) (mix i j p q) (mix-lt i j (pos 0) (pos 0) p q w h g) nothing e)
    by (inl h) (inr g) _ _ = inl (omega (arith, signed, h), g)
    by (inr h) _ (inr g) _ = inr (h, g)
    by (inr h) _ (inl g) (inl f) =
        absurd (unequal (mix i j p q) (mix i j (pos 0) (pos 0)) (mix-lt i j p q (pos 0) (pos 0) w f g) e nothing)
    by (inr h) _ (inl g) (inr f) = inl (f, omega (arith, signed, g))
