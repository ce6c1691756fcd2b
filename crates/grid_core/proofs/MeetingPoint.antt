-- A segment meets a box exactly where a point of it lies in the box.
-- The six constraints at t = u / v, times v, are that u / v is from 0 to 1 and that the point lies
-- between the four sides.

use Rattle.std.proofs.Common.{◌≡◌, refl, arith, true, false, [], ◌∷◌, IsTrue}
use Rattle.std.specs.Prelude.{ℤ, pos, negsuc, ◌+ℤ◌, ◌-ℤ◌, ◌*ℤ◌, ◌≤ℤ◌, ◌<ℤ◌}
use Rattle.std.specs.List.{AllByRecursion}
use Rattle.grid_core.proofs.Signed.{signed, lt_true, le_true, from_lt_true, from_le_true}
use Rattle.grid_core.proofs.Polynomial.{V, K, ◌⊕◌, ◌⊖◌, ◌⊗◌, same_polynomial}
use Rattle.grid_core.proofs.Constraints.{IsMet, Solution, room_if_all_met, solution_of_room}
use Rattle.grid_core.specs.declared.pixel_box.PixelBox.{PixelBox}
use Rattle.grid_core.specs.Segment.{Segment}
use Rattle.grid_core.specs.Meets.{is_kept, constraints}
use Rattle.grid_core.specs.Crossing.{point_along}
use Rattle.grid_core.specs.Laws.{IsInBox, HasPointIn, MeetsWhereAPointLies}

-- ---- one coordinate

low_is : (p q lo u v : ℤ) → (pos 2 *ℤ p -ℤ pos 2 *ℤ lo +ℤ pos 1) *ℤ v +ℤ (pos 2 *ℤ (q -ℤ p)) *ℤ u
    ≡ pos 2 *ℤ (p *ℤ v +ℤ u *ℤ (q -ℤ p)) -ℤ (pos 2 *ℤ lo -ℤ pos 1) *ℤ v
low_is p q lo u v =
    same_polynomial (p ∷ q ∷ lo ∷ u ∷ v ∷ [])
    ((K (pos 2) ⊗ V 0 ⊖ K (pos 2) ⊗ V 2 ⊕ K (pos 1)) ⊗ V 4 ⊕ (K (pos 2) ⊗ (V 1 ⊖ V 0)) ⊗ V 3)
    (K (pos 2) ⊗ (V 0 ⊗ V 4 ⊕ V 3 ⊗ (V 1 ⊖ V 0)) ⊖ (K (pos 2) ⊗ V 2 ⊖ K (pos 1)) ⊗ V 4) refl

high_is : (p q hi u v : ℤ) → (pos 2 *ℤ hi +ℤ pos 1 -ℤ pos 2 *ℤ p) *ℤ v +ℤ (pos 0 -ℤ pos 2 *ℤ (q -ℤ p)) *ℤ u
    ≡ (pos 2 *ℤ hi +ℤ pos 1) *ℤ v -ℤ pos 2 *ℤ (p *ℤ v +ℤ u *ℤ (q -ℤ p))
high_is p q hi u v =
    same_polynomial (p ∷ q ∷ hi ∷ u ∷ v ∷ [])
    ((K (pos 2) ⊗ V 2 ⊕ K (pos 1) ⊖ K (pos 2) ⊗ V 0) ⊗ V 4 ⊕ (K (pos 0) ⊖ K (pos 2) ⊗ (V 1 ⊖ V 0)) ⊗ V 3)
    ((K (pos 2) ⊗ V 2 ⊕ K (pos 1)) ⊗ V 4 ⊖ K (pos 2) ⊗ (V 0 ⊗ V 4 ⊕ V 3 ⊗ (V 1 ⊖ V 0))) refl

-- a side as a constraint, and the other way round, over the value of the constraint
low_met : (z n m : ℤ) → z ≡ n -ℤ m → m ≤ℤ n → IsTrue (is_kept false z)
low_met z n m e h = le_true (pos 0) z (omega (arith, signed, e, h))

high_met : (z n m : ℤ) → z ≡ m -ℤ n → n <ℤ m → IsTrue (is_kept true z)
high_met z n m e h = lt_true (pos 0) z (omega (arith, signed, e, h))

low_from : (z n m : ℤ) → z ≡ n -ℤ m → IsTrue (is_kept false z) → m ≤ℤ n
low_from z n m e h = let k = from_le_true (pos 0) z h in omega (arith, signed, e, k)

high_from : (z n m : ℤ) → z ≡ m -ℤ n → IsTrue (is_kept true z) → n <ℤ m
high_from z n m e h = let k = from_lt_true (pos 0) z h in omega (arith, signed, e, k)

-- t from 0 on, and t up to 1
start_is : (u v : ℤ) → pos 0 *ℤ v +ℤ pos 1 *ℤ u ≡ u -ℤ pos 0
start_is u v = same_polynomial (u ∷ v ∷ []) (K (pos 0) ⊗ V 1 ⊕ K (pos 1) ⊗ V 0) (V 0 ⊖ K (pos 0)) refl

end_is : (u v : ℤ) → pos 1 *ℤ v +ℤ (pos 0 -ℤ pos 1) *ℤ u ≡ v -ℤ u
end_is u v = same_polynomial (u ∷ v ∷ []) (K (pos 1) ⊗ V 1 ⊕ (K (pos 0) ⊖ K (pos 1)) ⊗ V 0) (V 1 ⊖ V 0) refl

-- ---- the six constraints

-- a point of the segment at u / v meets the six
all_met : (s : Segment) (area : PixelBox) (u v : ℤ) → pos 0 ≤ℤ u → u ≤ℤ v → IsInBox area (point_along s u v)
    → AllByRecursion (IsMet u v) (constraints s area)
all_met s area u v h k w = (
  low_met _ u (pos 0) (start_is u v) h,
  (
    low_met _ v u (end_is u v) k,
    (
      low_met _ _ _ (low_is s.p.x s.q.x area.lo.x u v) w.x.low,
      (
        high_met _ _ _ (high_is s.p.x s.q.x area.hi.x u v) w.x.high,
        (
          low_met _ _ _ (low_is s.p.y s.q.y area.lo.y u v) w.y.low,
          (high_met _ _ _ (high_is s.p.y s.q.y area.hi.y u v) w.y.high, tt),
        ),
      ),
    ),
  ),
)

-- where u / v meets the six, it is the point of the segment there
in_box : (s : Segment) (area : PixelBox) (u v : ℤ) → AllByRecursion (IsMet u v) (constraints s area)
    → IsInBox area (point_along s u v)
in_box s area u v m =
    record {
      x = record {
        low = low_from _ _ _ (low_is s.p.x s.q.x area.lo.x u v) m.1.1.0;
        high = high_from _ _ _ (high_is s.p.x s.q.x area.hi.x u v) m.1.1.1.0;
      };
      y = record {
        low = low_from _ _ _ (low_is s.p.y s.q.y area.lo.y u v) m.1.1.1.1.0;
        high = high_from _ _ _ (high_is s.p.y s.q.y area.hi.y u v) m.1.1.1.1.1.0;
      };
    }

-- whole numbers that aren't negative are the natural ones
pub as_naturals : (s : Segment) (area : PixelBox) (u v : ℤ) → pos 0 ≤ℤ u → u ≤ℤ v → pos 0 <ℤ v
    → IsInBox area (point_along s u v) → HasPointIn s area
as_naturals s area (pos a) (pos b) h k l w =
    record {
      a = a;
      b = b;
      part = omega (arith, signed, k);
      whole = omega (arith, signed, l);
      inside = w;
    }
as_naturals s area (pos a) (negsuc b) h k l w = absurd (omega (arith, signed, l))
as_naturals s area (negsuc a) v h k l w = absurd (omega (arith, signed, h))

-- the solution of the six constraints is the point
point_of : (s : Segment) (area : PixelBox) → Solution (constraints s area) → HasPointIn s area
point_of s area t =
    as_naturals s area t.u t.v
    (low_from _ t.u (pos 0) (start_is t.u t.v) t.meets.0)
    (low_from _ t.v t.u (end_is t.u t.v) t.meets.1.0)
    t.positive (in_box s area t.u t.v t.meets)

-- a segment meets a box exactly where a point of it lies in the box
pub meets_where_a_point_lies : (s : Segment) (area : PixelBox) → MeetsWhereAPointLies s area
meets_where_a_point_lies s area = (
  λ h. point_of s area (solution_of_room _ _ _ (omega (arith, signed)) (omega (arith, signed)) h),
  λ w. room_if_all_met (pos w.a) (pos w.b) (constraints s area) (omega (arith, signed, w.whole))
      (all_met s area (pos w.a) (pos w.b) (omega (arith, signed)) (omega (arith, signed, w.part)) w.inside),
)
