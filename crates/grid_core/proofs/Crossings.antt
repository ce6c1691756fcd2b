-- Crossings: that of s and t is that of t and s, and both meet the pixel that it lies in.
-- The point is s.p + (u / den) d on the one segment and t.p + (v / den) e on the other; the two are
-- one by Cramer's rule. A quotient that is rounded down is from the number to one below it, which
-- puts the point into its pixel.

use Rattle.std.proofs.Common.{◌≡◌, refl, ap, sym, ◌∙◌, ℕ, suc, ◌*◌, ◌+◌, ◌/◌, ◌<◌, ◌≤◌, arith, Bool, true, false, ◌&&◌, [], ◌∷◌}
use Rattle.std.proofs.Common.{IsTrue, IfSome, Some, None, subst, option_map}
use Rattle.std.specs.Prelude.{ℤ, pos, negsuc, neg_ℤ, ◌+ℤ◌, ◌-ℤ◌, ◌*ℤ◌, ◌≤ℤ◌, ◌<ℤ◌, int_lt, Option, if◌then◌else◌}
use Rattle.std.specs.Int.{int_div_euclid}
use Rattle.std.proofs.lemmas.Int.{ints}
use Rattle.std.proofs.lemmas.Option.{same_Some}
use Rattle.grid_core.specs.declared.point.Point.{Point}
use Rattle.grid_core.specs.Vector.{cross_of, minus}
use Rattle.grid_core.specs.Segment.{Segment, direction}
use Rattle.grid_core.specs.Meets.{box_of, meets_pixel_of}
use Rattle.grid_core.specs.Crossing.{RationalPoint, in_unit_interval, point_along, within_both, crossing_of}
use Rattle.grid_core.specs.Crossing.{pixel_coordinate, pixel_of}
use Rattle.grid_core.specs.Rounding.{crossing_pixel}
use Rattle.grid_core.specs.Laws.{IsFromTo, IsInBox}
use Rattle.grid_core.proofs.Signed.{signed, same_lt, from_lt_true}
use Rattle.grid_core.proofs.Polynomial.{V, K, ◌⊕◌, ◌⊖◌, ◌⊗◌, same_polynomial}
use Rattle.grid_core.proofs.MeetingPoint.{meets_where_a_point_lies, as_naturals}

-- ---- quotients that are rounded down

-- m times a number below 0, by its size
negative_times : (m k : ℕ) → pos m *ℤ negsuc k ≡ neg_ℤ (pos (m * k + m))
negative_times m k =
    let more : m * suc k ≡ m * k + m = omega arith in
    ap (λ n. neg_ℤ (pos n)) more

whole_part : (a m : ℕ) → 0 < m → (m * (a / m) ≤ a) × (a < m * (a / m) + m)
whole_part a m h = omega arith

-- m times the quotient is at most the number
pub floor_low : (a m : ℤ) → pos 0 <ℤ m → (m *ℤ int_div_euclid a m) ≤ℤ a
floor_low a (negsuc m) h = absurd (omega (arith, signed, h))
floor_low (pos a) (pos m) h = omega (arith, signed, whole_part a m (omega (arith, signed, h)))
floor_low (negsuc a) (pos m) h =
    omega (arith, signed, negative_times m (a / m), whole_part a m (omega (arith, signed, h)))

-- one more than the quotient, times m, is above the number
pub floor_high : (a m : ℤ) → pos 0 <ℤ m → a <ℤ (m *ℤ (int_div_euclid a m +ℤ pos 1))
floor_high a m h =
    by a m h
  where
    one_more : (m q : ℤ) → m *ℤ (q +ℤ pos 1) ≡ m *ℤ q +ℤ m
    one_more m q = same_polynomial (m ∷ q ∷ []) (V 0 ⊗ (V 1 ⊕ K (pos 1))) (V 0 ⊗ V 1 ⊕ V 0) refl

    by : (a m : ℤ) → pos 0 <ℤ m → a <ℤ (m *ℤ (int_div_euclid a m +ℤ pos 1))
    by a (negsuc m) h = absurd (omega (arith, signed, h))
    by (pos a) (pos m) h =
        omega (arith, signed, one_more (pos m) (pos (a / m)), whole_part a m (omega (arith, signed, h)))
    by (negsuc a) (pos m) h =
        omega (
          arith,
          signed,
          one_more (pos m) (negsuc (a / m)),
          negative_times m (a / m),
          whole_part a m (omega (arith, signed, h)),
        )

-- ---- the crossing of t and s

-- the two ways to write the point, in one coordinate: Cramer's rule
one_point_x : (px py tx ty a b c d : ℤ)
    → px *ℤ (a *ℤ d -ℤ b *ℤ c) +ℤ ((tx -ℤ px) *ℤ d -ℤ (ty -ℤ py) *ℤ c) *ℤ a
    ≡ tx *ℤ (a *ℤ d -ℤ b *ℤ c) +ℤ ((tx -ℤ px) *ℤ b -ℤ (ty -ℤ py) *ℤ a) *ℤ c
one_point_x px py tx ty a b c d =
    same_polynomial (px ∷ py ∷ tx ∷ ty ∷ a ∷ b ∷ c ∷ d ∷ [])
    (V 0 ⊗ (V 4 ⊗ V 7 ⊖ V 5 ⊗ V 6) ⊕ ((V 2 ⊖ V 0) ⊗ V 7 ⊖ (V 3 ⊖ V 1) ⊗ V 6) ⊗ V 4)
    (V 2 ⊗ (V 4 ⊗ V 7 ⊖ V 5 ⊗ V 6) ⊕ ((V 2 ⊖ V 0) ⊗ V 5 ⊖ (V 3 ⊖ V 1) ⊗ V 4) ⊗ V 6) refl

one_point_y : (px py tx ty a b c d : ℤ)
    → py *ℤ (a *ℤ d -ℤ b *ℤ c) +ℤ ((tx -ℤ px) *ℤ d -ℤ (ty -ℤ py) *ℤ c) *ℤ b
    ≡ ty *ℤ (a *ℤ d -ℤ b *ℤ c) +ℤ ((tx -ℤ px) *ℤ b -ℤ (ty -ℤ py) *ℤ a) *ℤ d
one_point_y px py tx ty a b c d =
    same_polynomial (px ∷ py ∷ tx ∷ ty ∷ a ∷ b ∷ c ∷ d ∷ [])
    (V 1 ⊗ (V 4 ⊗ V 7 ⊖ V 5 ⊗ V 6) ⊕ ((V 2 ⊖ V 0) ⊗ V 7 ⊖ (V 3 ⊖ V 1) ⊗ V 6) ⊗ V 5)
    (V 3 ⊗ (V 4 ⊗ V 7 ⊖ V 5 ⊗ V 6) ⊕ ((V 2 ⊖ V 0) ⊗ V 5 ⊖ (V 3 ⊖ V 1) ⊗ V 4) ⊗ V 7) refl

-- the same with the signs of both weights and of the denominator turned
turned : (p u d den : ℤ) → p *ℤ (pos 0 -ℤ den) +ℤ (pos 0 -ℤ u) *ℤ d ≡ pos 0 -ℤ (p *ℤ den +ℤ u *ℤ d)
turned p u d den =
    same_polynomial (p ∷ u ∷ d ∷ den ∷ [])
    (V 0 ⊗ (K (pos 0) ⊖ V 3) ⊕ (K (pos 0) ⊖ V 1) ⊗ V 2) (K (pos 0) ⊖ (V 0 ⊗ V 3 ⊕ V 1 ⊗ V 2)) refl

-- the weights and the denominator of the crossing of t and s, by those of s and t
den_turned : (s t : Segment) → cross_of (direction t) (direction s) ≡ pos 0 -ℤ cross_of (direction s) (direction t)
den_turned s t =
    same_polynomial ((direction s).x ∷ (direction s).y ∷ (direction t).x ∷ (direction t).y ∷ [])
    (V 2 ⊗ V 1 ⊖ V 3 ⊗ V 0) (K (pos 0) ⊖ (V 0 ⊗ V 3 ⊖ V 1 ⊗ V 2)) refl

weight_turned : (p q d : Point) → cross_of (minus p q) d ≡ pos 0 -ℤ cross_of (minus q p) d
weight_turned p q d =
    same_polynomial (p.x ∷ p.y ∷ q.x ∷ q.y ∷ d.x ∷ d.y ∷ [])
    ((V 0 ⊖ V 2) ⊗ V 5 ⊖ (V 1 ⊖ V 3) ⊗ V 4) (K (pos 0) ⊖ ((V 2 ⊖ V 0) ⊗ V 5 ⊖ (V 3 ⊖ V 1) ⊗ V 4)) refl

swapped : (b c : Bool) → (b && c) ≡ (c && b)
swapped true true = refl
swapped true false = refl
swapped false true = refl
swapped false false = refl

-- where the point is one on both segments, it doesn't matter which of them comes first
within_swapped : (s t : Segment) (u v den : ℤ) → point_along s u den ≡ point_along t v den
    → within_both s u v den ≡ within_both t v u den
within_swapped s t u v den e = λ i. if swapped (in_unit_interval u den) (in_unit_interval v den) i then Some (e i) else None

abbrev by_sign : Segment → ℤ → ℤ → ℤ → Option RationalPoint
by_sign s u v den =
    if int_lt (pos 0) den then within_both s u v den
    else if int_lt den (pos 0) then within_both s (pos 0 -ℤ u) (pos 0 -ℤ v) (pos 0 -ℤ den)
    else None

back : (n : ℤ) → pos 0 -ℤ (pos 0 -ℤ n) ≡ n
back n = omega (arith, signed)

sign_swapped : (s t : Segment) (u v den : ℤ) → point_along s u den ≡ point_along t v den
    → by_sign s u v den ≡ by_sign t (pos 0 -ℤ v) (pos 0 -ℤ u) (pos 0 -ℤ den)
sign_swapped s t u v den e =
    by (int_lt (pos 0) den) refl (int_lt den (pos 0)) refl
    ∙ sym (λ i. if above i then within_both t (pos 0 -ℤ v) (pos 0 -ℤ u) (pos 0 -ℤ den)
    else if below i then within_both t (pos 0 -ℤ (pos 0 -ℤ v)) (pos 0 -ℤ (pos 0 -ℤ u)) (pos 0 -ℤ (pos 0 -ℤ den))
    else None)
  where
    above : int_lt (pos 0) (pos 0 -ℤ den) ≡ int_lt den (pos 0)
    above =
        same_lt (pos 0) (pos 0 -ℤ den) den (pos 0) (λ h. omega (arith, signed, h)) (λ h. omega (arith, signed, h))

    below : int_lt (pos 0 -ℤ den) (pos 0) ≡ int_lt (pos 0) den
    below =
        same_lt (pos 0 -ℤ den) (pos 0) (pos 0) den (λ h. omega (arith, signed, h)) (λ h. omega (arith, signed, h))

    minus_point : point_along s (pos 0 -ℤ u) (pos 0 -ℤ den) ≡ point_along t (pos 0 -ℤ v) (pos 0 -ℤ den)
    minus_point =
        let x =
        turned s.p.x u (direction s).x den ∙ ap (λ (c : RationalPoint). pos 0 -ℤ c.num_x) e
        ∙ sym (turned t.p.x v (direction t).x den) in
        let y =
        turned s.p.y u (direction s).y den ∙ ap (λ (c : RationalPoint). pos 0 -ℤ c.num_y) e
        ∙ sym (turned t.p.y v (direction t).y den) in
        λ i. record { num_x = x i; num_y = y i; den = pos 0 -ℤ den }

    by : (b : Bool) → int_lt (pos 0) den ≡ b → (c : Bool) → int_lt den (pos 0) ≡ c
        → (if b then within_both s u v den
        else if c then within_both s (pos 0 -ℤ u) (pos 0 -ℤ v) (pos 0 -ℤ den)
        else None)
        ≡ (if c then within_both t (pos 0 -ℤ v) (pos 0 -ℤ u) (pos 0 -ℤ den)
        else if b then within_both t (pos 0 -ℤ (pos 0 -ℤ v)) (pos 0 -ℤ (pos 0 -ℤ u)) (pos 0 -ℤ (pos 0 -ℤ den))
        else None)
    by true p false q =
        within_swapped s t u v den e ∙ sym (λ i. within_both t (back v i) (back u i) (back den i))
    by false p true q = within_swapped s t (pos 0 -ℤ u) (pos 0 -ℤ v) (pos 0 -ℤ den) minus_point
    by false p false q = refl
    by true p true q =
        absurd (omega (arith, signed, from_lt_true (pos 0) den p, from_lt_true den (pos 0) q))

one_point : (s t : Segment)
    → point_along s (cross_of (minus t.p s.p) (direction t)) (cross_of (direction s) (direction t))
    ≡ point_along t (cross_of (minus t.p s.p) (direction s)) (cross_of (direction s) (direction t))
one_point s t =
    let d = direction s in
    let e = direction t in
    let x = one_point_x s.p.x s.p.y t.p.x t.p.y d.x d.y e.x e.y in
    let y = one_point_y s.p.x s.p.y t.p.x t.p.y d.x d.y e.x e.y in
    λ i. record { num_x = x i; num_y = y i; den = cross_of (direction s) (direction t) }

-- the crossing of s and t is that of t and s, in all three numbers
pub crossing_same : (s t : Segment) → crossing_of s t ≡ crossing_of t s
crossing_same s t =
    sign_swapped s t (cross_of (minus t.p s.p) (direction t)) (cross_of (minus t.p s.p) (direction s))
    (cross_of (direction s) (direction t)) (one_point s t)
    ∙ sym (λ i. by_sign t (weight_turned s.p t.p (direction s) i) (weight_turned s.p t.p (direction t) i) (den_turned s t i))

-- ---- the pixel of a crossing

low_side : (h d : ℤ) → (pos 2 *ℤ h -ℤ pos 1) *ℤ d ≡ (pos 2 *ℤ d) *ℤ h -ℤ d
low_side h d =
    same_polynomial (h ∷ d ∷ []) ((K (pos 2) ⊗ V 0 ⊖ K (pos 1)) ⊗ V 1) ((K (pos 2) ⊗ V 1) ⊗ V 0 ⊖ V 1) refl

high_side : (h d : ℤ) → (pos 2 *ℤ h +ℤ pos 1) *ℤ d ≡ (pos 2 *ℤ d) *ℤ (h +ℤ pos 1) -ℤ d
high_side h d =
    same_polynomial (h ∷ d ∷ [])
    ((K (pos 2) ⊗ V 0 ⊕ K (pos 1)) ⊗ V 1) ((K (pos 2) ⊗ V 1) ⊗ (V 0 ⊕ K (pos 1)) ⊖ V 1) refl

-- n / d lies around its nearest whole number
around_nearest : (n d : ℤ) → pos 0 <ℤ d → IsFromTo (pixel_coordinate n d) (pixel_coordinate n d) n d
around_nearest n d h =
    let twice : pos 0 <ℤ (pos 2 *ℤ d) = omega (arith, signed, h) in
    let low = floor_low (pos 2 *ℤ n +ℤ d) (pos 2 *ℤ d) twice in
    let high = floor_high (pos 2 *ℤ n +ℤ d) (pos 2 *ℤ d) twice in
    record {
      low = omega (arith, signed, low, low_side (pixel_coordinate n d) d);
      high = omega (arith, signed, high, high_side (pixel_coordinate n d) d);
    }

-- a point lies in its pixel
pub lies_in_its_pixel : (c : RationalPoint) → pos 0 <ℤ c.den → IsInBox (box_of (pixel_of c)) c
lies_in_its_pixel c h = record { x = around_nearest c.num_x c.den h; y = around_nearest c.num_y c.den h }

-- s meets the pixel of each of its points
pub meets_pixel_of_point : (s : Segment) (u den : ℤ) → pos 0 <ℤ den → pos 0 ≤ℤ u → u ≤ℤ den
    → IsTrue (meets_pixel_of s (pixel_of (point_along s u den)))
meets_pixel_of_point s u den h low high =
    (meets_where_a_point_lies s (box_of (pixel_of (point_along s u den)))).1
    (as_naturals s (box_of (pixel_of (point_along s u den))) u den low high h (lies_in_its_pixel (point_along s u den) h))

within_met : (s : Segment) (u v den : ℤ) → pos 0 <ℤ den
    → IfSome (within_both s u v den) (λ c. IsTrue (meets_pixel_of s (pixel_of c)))
within_met s u v den h = by (in_unit_interval u den && in_unit_interval v den) refl
  where
    by : (b : Bool) → in_unit_interval u den && in_unit_interval v den ≡ b
        → IfSome (if b then Some (point_along s u den) else None) (λ c. IsTrue (meets_pixel_of s (pixel_of c)))
    by true e =
        let part : (pos 0 ≤ℤ u) × (u ≤ℤ den) = grind (arith, ints) in
        meets_pixel_of_point s u den h part.0 part.1
    by false e = tt

first_met : (s t : Segment) → IfSome (crossing_of s t) (λ c. IsTrue (meets_pixel_of s (pixel_of c)))
first_met s t =
    by (cross_of (minus t.p s.p) (direction t)) (cross_of (minus t.p s.p) (direction s))
    (cross_of (direction s) (direction t)) (int_lt (pos 0) (cross_of (direction s) (direction t))) refl
    (int_lt (cross_of (direction s) (direction t)) (pos 0)) refl
  where
    by : (u v den : ℤ) (b : Bool) → int_lt (pos 0) den ≡ b → (c : Bool) → int_lt den (pos 0) ≡ c
        → IfSome
        (if b then within_both s u v den
        else if c then within_both s (pos 0 -ℤ u) (pos 0 -ℤ v) (pos 0 -ℤ den)
        else None)
        (λ c. IsTrue (meets_pixel_of s (pixel_of c)))
    by u v den true p c q = within_met s u v den (from_lt_true (pos 0) den p)
    by u v den false p true q =
        within_met s (pos 0 -ℤ u) (pos 0 -ℤ v) (pos 0 -ℤ den) (omega (arith, signed, from_lt_true den (pos 0) q))
    by u v den false p false q = tt

first_met_at : (s t : Segment) (h : Point) → crossing_pixel s t ≡ Some h → IsTrue (meets_pixel_of s h)
first_met_at s t h e =
    by (crossing_of s t) (first_met s t) e
  where
    by : (o : Option RationalPoint) → IfSome o (λ c. IsTrue (meets_pixel_of s (pixel_of c)))
        → option_map pixel_of o ≡ Some h → IsTrue (meets_pixel_of s h)
    by None m k = cc
    by (Some c) m k = subst (λ g. IsTrue (meets_pixel_of s g)) (same_Some (pixel_of c) h k) m

-- two segments that cross both meet the pixel of their crossing
pub crossing_met : (s t : Segment) (h : Point) → crossing_pixel s t ≡ Some h
    → IsTrue (meets_pixel_of s h) × IsTrue (meets_pixel_of t h)
crossing_met s t h e = (
  first_met_at s t h e,
  first_met_at t s h (ap (option_map pixel_of) (crossing_same t s) ∙ e),
)
