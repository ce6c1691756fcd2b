-- Each test of two constraints, as a test of the corners or of the bounding boxes.
-- At the start or the end of the segment a constraint compares two coordinates. The two constraints
-- of one coordinate leave room, since the box isn't empty. Those of two coordinates give a corner,
-- by an equation of polynomials.

use Rattle.std.proofs.Common.{◌≡◌, ◌∙◌, not, arith, refl, [], ◌∷◌, true}
use Rattle.std.specs.Prelude.{ℤ, pos, negsuc, ◌+ℤ◌, ◌-ℤ◌, ◌*ℤ◌, ◌<ℤ◌, ◌≤ℤ◌, int_lt, int_le}
use Rattle.std.proofs.lemmas.Int.{ints}
use Rattle.grid_core.proofs.Signed.{lt_true, same_lt, same_le, same_lt_le, le-not_lt}
use Rattle.grid_core.proofs.Ring.{int_mul_pos}
use Rattle.grid_core.proofs.Polynomial.{Expr, V, K, ◌⊕◌, ◌⊖◌, ◌⊗◌, same_polynomial}

-- twice how far p is above the lower side of the pixels from lo on
abbrev above_lower : ℤ → ℤ → ℤ
above_lower p lo = pos 2 *ℤ p -ℤ pos 2 *ℤ lo +ℤ pos 1

-- twice how far p is below the upper side of the pixels up to hi
abbrev below_upper : ℤ → ℤ → ℤ
below_upper p hi = pos 2 *ℤ hi +ℤ pos 1 -ℤ pos 2 *ℤ p

-- twice the cross product of the direction and the way from p to a corner, given by twice (x, y)
abbrev side : ℤ → ℤ → ℤ → ℤ → ℤ → ℤ → ℤ
side dx dy px py x y = dx *ℤ (y -ℤ pos 2 *ℤ py) -ℤ dy *ℤ (x -ℤ pos 2 *ℤ px)

-- the same three as expressions
abbrev above_lower_in : Expr → Expr → Expr
above_lower_in p lo = K (pos 2) ⊗ p ⊖ K (pos 2) ⊗ lo ⊕ K (pos 1)

abbrev below_upper_in : Expr → Expr → Expr
below_upper_in p hi = K (pos 2) ⊗ hi ⊕ K (pos 1) ⊖ K (pos 2) ⊗ p

abbrev side_in : Expr → Expr → Expr
side_in x y = V 2 ⊗ (y ⊖ K (pos 2) ⊗ V 1) ⊖ V 3 ⊗ (x ⊖ K (pos 2) ⊗ V 0)

-- ---- where t is not restricted, and at the start and the end

pub upper_alone : (p hi : ℤ) → int_lt (pos 0) (below_upper p hi) ≡ int_le p hi
upper_alone p hi =
    same_lt_le (pos 0) (below_upper p hi) p hi (λ h. omega (arith, ints)) (λ h. omega (arith, ints))

pub lower_alone : (p lo : ℤ) → int_le (pos 0) (above_lower p lo) ≡ int_le lo p
lower_alone p lo =
    same_le (pos 0) (above_lower p lo) lo p (λ h. omega (arith, ints)) (λ h. omega (arith, ints))

pub upper_at_start : (p hi b : ℤ)
    → int_lt (pos 0) (below_upper p hi *ℤ pos 1 -ℤ pos 0 *ℤ b) ≡ int_le p hi
upper_at_start p hi b =
    same_lt_le (pos 0) (below_upper p hi *ℤ pos 1 -ℤ pos 0 *ℤ b) p hi
    (λ h. omega (arith, ints)) (λ h. omega (arith, ints))

pub lower_at_start : (p lo b : ℤ)
    → int_le (pos 0) (above_lower p lo *ℤ pos 1 -ℤ pos 0 *ℤ b) ≡ int_le lo p
lower_at_start p lo b =
    same_le (pos 0) (above_lower p lo *ℤ pos 1 -ℤ pos 0 *ℤ b) lo p
    (λ h. omega (arith, ints)) (λ h. omega (arith, ints))

pub lower_at_end : (p q lo : ℤ)
    → int_le (pos 0) (pos 1 *ℤ (pos 2 *ℤ (q -ℤ p)) -ℤ above_lower p lo *ℤ negsuc 0) ≡ int_le lo q
lower_at_end p q lo =
    same_le (pos 0) (pos 1 *ℤ (pos 2 *ℤ (q -ℤ p)) -ℤ above_lower p lo *ℤ negsuc 0) lo q
    (λ h. omega (arith, ints)) (λ h. omega (arith, ints))

pub upper_at_end : (p q hi : ℤ)
    → int_lt (pos 0) (pos 1 *ℤ (pos 0 -ℤ pos 2 *ℤ (q -ℤ p)) -ℤ below_upper p hi *ℤ negsuc 0)
    ≡ int_le q hi
upper_at_end p q hi =
    same_lt_le (pos 0)
    (pos 1 *ℤ (pos 0 -ℤ pos 2 *ℤ (q -ℤ p)) -ℤ below_upper p hi *ℤ negsuc 0) q hi
    (λ h. omega (arith, ints)) (λ h. omega (arith, ints))

-- ---- the two sides of one coordinate

-- along a coordinate that rises, the lower side is met before the upper one is left
pub room_rising : (p d lo hi : ℤ) → pos 0 <ℤ d → lo ≤ℤ hi
    → int_lt (pos 0)
    (below_upper p hi *ℤ (pos 2 *ℤ d) -ℤ above_lower p lo *ℤ (pos 0 -ℤ pos 2 *ℤ d)) ≡ true
room_rising p d lo hi h k =
    let room = int_mul_pos d (hi -ℤ lo +ℤ pos 1) h (omega (arith, ints)) in
    let same = same_polynomial (p ∷ d ∷ lo ∷ hi ∷ [])
    (below_upper_in (V 0) (V 3) ⊗ (K (pos 2) ⊗ V 1)
    ⊖ above_lower_in (V 0) (V 2) ⊗ (K (pos 0) ⊖ K (pos 2) ⊗ V 1))
    (K (pos 4) ⊗ (V 1 ⊗ (V 3 ⊖ V 2 ⊕ K (pos 1)))) refl in
    lt_true (pos 0)
    (below_upper p hi *ℤ (pos 2 *ℤ d) -ℤ above_lower p lo *ℤ (pos 0 -ℤ pos 2 *ℤ d))
    (omega (arith, ints, room, same))

-- along a coordinate that falls, the upper side is met before the lower one is left
pub room_falling : (p d lo hi : ℤ) → d <ℤ pos 0 → lo ≤ℤ hi
    → int_lt (pos 0)
    (above_lower p lo *ℤ (pos 0 -ℤ pos 2 *ℤ d) -ℤ below_upper p hi *ℤ (pos 2 *ℤ d)) ≡ true
room_falling p d lo hi h k =
    let down = pos 0 -ℤ d in
    let room = int_mul_pos down (hi -ℤ lo +ℤ pos 1) (omega (arith, ints)) (omega (arith, ints)) in
    let same = same_polynomial (p ∷ d ∷ lo ∷ hi ∷ [])
    (above_lower_in (V 0) (V 2) ⊗ (K (pos 0) ⊖ K (pos 2) ⊗ V 1)
    ⊖ below_upper_in (V 0) (V 3) ⊗ (K (pos 2) ⊗ V 1))
    (K (pos 4) ⊗ ((K (pos 0) ⊖ V 1) ⊗ (V 3 ⊖ V 2 ⊕ K (pos 1)))) refl in
    lt_true (pos 0)
    (above_lower p lo *ℤ (pos 0 -ℤ pos 2 *ℤ d) -ℤ below_upper p hi *ℤ (pos 2 *ℤ d))
    (omega (arith, ints, room, same))

-- ---- the corners

above_twice : (w z : ℤ) → w ≡ pos 2 *ℤ z → int_lt (pos 0) w ≡ int_lt (pos 0) z
above_twice w z e =
    same_lt (pos 0) w (pos 0) z (λ h. omega (arith, ints)) (λ h. omega (arith, ints))

below_twice : (w z : ℤ) → w ≡ pos 2 *ℤ (pos 0 -ℤ z) → int_lt (pos 0) w ≡ int_lt z (pos 0)
below_twice w z e =
    same_lt (pos 0) w z (pos 0) (λ h. omega (arith, ints)) (λ h. omega (arith, ints))

not_above_twice : (w z : ℤ) → w ≡ pos 2 *ℤ (pos 0 -ℤ z)
    → int_le (pos 0) w ≡ not (int_lt (pos 0) z)
not_above_twice w z e =
    same_le (pos 0) w z (pos 0) (λ h. omega (arith, ints)) (λ h. omega (arith, ints))
    ∙ le-not_lt z (pos 0)

-- the left and the upper side: the upper left corner is on the left
pub upper_left : (px py dx dy left top : ℤ)
    → int_lt (pos 0)
    (below_upper py top *ℤ (pos 2 *ℤ dx) -ℤ above_lower px left *ℤ (pos 0 -ℤ pos 2 *ℤ dy))
    ≡ int_lt (pos 0) (side dx dy px py (pos 2 *ℤ left -ℤ pos 1) (pos 2 *ℤ top +ℤ pos 1))
upper_left px py dx dy left top =
    above_twice
    (below_upper py top *ℤ (pos 2 *ℤ dx) -ℤ above_lower px left *ℤ (pos 0 -ℤ pos 2 *ℤ dy))
    (side dx dy px py (pos 2 *ℤ left -ℤ pos 1) (pos 2 *ℤ top +ℤ pos 1))
    (same_polynomial (px ∷ py ∷ dx ∷ dy ∷ left ∷ top ∷ [])
    (below_upper_in (V 1) (V 5) ⊗ (K (pos 2) ⊗ V 2)
    ⊖ above_lower_in (V 0) (V 4) ⊗ (K (pos 0) ⊖ K (pos 2) ⊗ V 3))
    (K (pos 2) ⊗ side_in (K (pos 2) ⊗ V 4 ⊖ K (pos 1)) (K (pos 2) ⊗ V 5 ⊕ K (pos 1))) refl)

-- the lower and the right side: the lower right corner is on the right
pub lower_right : (px py dx dy low right : ℤ)
    → int_lt (pos 0)
    (below_upper px right *ℤ (pos 2 *ℤ dy) -ℤ above_lower py low *ℤ (pos 0 -ℤ pos 2 *ℤ dx))
    ≡ int_lt (side dx dy px py (pos 2 *ℤ right +ℤ pos 1) (pos 2 *ℤ low -ℤ pos 1)) (pos 0)
lower_right px py dx dy low right =
    below_twice
    (below_upper px right *ℤ (pos 2 *ℤ dy) -ℤ above_lower py low *ℤ (pos 0 -ℤ pos 2 *ℤ dx))
    (side dx dy px py (pos 2 *ℤ right +ℤ pos 1) (pos 2 *ℤ low -ℤ pos 1))
    (same_polynomial (px ∷ py ∷ dx ∷ dy ∷ low ∷ right ∷ [])
    (below_upper_in (V 0) (V 5) ⊗ (K (pos 2) ⊗ V 3)
    ⊖ above_lower_in (V 1) (V 4) ⊗ (K (pos 0) ⊖ K (pos 2) ⊗ V 2))
    (K (pos 2) ⊗ (K (pos 0)
    ⊖ side_in (K (pos 2) ⊗ V 5 ⊕ K (pos 1)) (K (pos 2) ⊗ V 4 ⊖ K (pos 1)))) refl)

-- the upper and the right side: the upper right corner is on the left
pub upper_right : (px py dx dy right top : ℤ)
    → int_lt (pos 0)
    (below_upper px right *ℤ (pos 0 -ℤ pos 2 *ℤ dy)
    -ℤ below_upper py top *ℤ (pos 0 -ℤ pos 2 *ℤ dx))
    ≡ int_lt (pos 0) (side dx dy px py (pos 2 *ℤ right +ℤ pos 1) (pos 2 *ℤ top +ℤ pos 1))
upper_right px py dx dy right top =
    above_twice
    (below_upper px right *ℤ (pos 0 -ℤ pos 2 *ℤ dy)
    -ℤ below_upper py top *ℤ (pos 0 -ℤ pos 2 *ℤ dx))
    (side dx dy px py (pos 2 *ℤ right +ℤ pos 1) (pos 2 *ℤ top +ℤ pos 1))
    (same_polynomial (px ∷ py ∷ dx ∷ dy ∷ right ∷ top ∷ [])
    (below_upper_in (V 0) (V 4) ⊗ (K (pos 0) ⊖ K (pos 2) ⊗ V 3)
    ⊖ below_upper_in (V 1) (V 5) ⊗ (K (pos 0) ⊖ K (pos 2) ⊗ V 2))
    (K (pos 2) ⊗ side_in (K (pos 2) ⊗ V 4 ⊕ K (pos 1)) (K (pos 2) ⊗ V 5 ⊕ K (pos 1))) refl)

-- the left and the lower side: the lower left corner is not on the left
pub lower_left : (px py dx dy left low : ℤ)
    → int_le (pos 0) (above_lower py low *ℤ (pos 2 *ℤ dx) -ℤ above_lower px left *ℤ (pos 2 *ℤ dy))
    ≡ not (int_lt (pos 0) (side dx dy px py (pos 2 *ℤ left -ℤ pos 1) (pos 2 *ℤ low -ℤ pos 1)))
lower_left px py dx dy left low =
    not_above_twice
    (above_lower py low *ℤ (pos 2 *ℤ dx) -ℤ above_lower px left *ℤ (pos 2 *ℤ dy))
    (side dx dy px py (pos 2 *ℤ left -ℤ pos 1) (pos 2 *ℤ low -ℤ pos 1))
    (same_polynomial (px ∷ py ∷ dx ∷ dy ∷ left ∷ low ∷ [])
    (above_lower_in (V 1) (V 5) ⊗ (K (pos 2) ⊗ V 2) ⊖ above_lower_in (V 0) (V 4) ⊗ (K (pos 2) ⊗ V 3))
    (K (pos 2) ⊗ (K (pos 0)
    ⊖ side_in (K (pos 2) ⊗ V 4 ⊖ K (pos 1)) (K (pos 2) ⊗ V 5 ⊖ K (pos 1)))) refl)
