-- Segments whose bounding boxes have no point in common have no crossing.
-- A crossing point is a point of both, by one equation in each coordinate, so that neither lies
-- beyond the other.

use Rattle.std.proofs.Common.{◌≡◌, sym, ◌∙◌, arith, refl, [], ◌∷◌, Bool, true, false, Some, None}
use Rattle.std.proofs.Common.{Less, ⊎_elim, true≢false}
use Rattle.std.specs.Int.Signed.{≤ℤ_refl}
use Rattle.std.specs.Prelude.{ℤ, pos, ◌+ℤ◌, ◌-ℤ◌, ◌*ℤ◌, ◌<ℤ◌, ◌≤ℤ◌, int_lt, ◌&&◌, if◌then◌else◌}
use Rattle.std.specs.Int.{int_min, int_max}
use Rattle.std.proofs.lemmas.Int.{ints, clamps}
use Rattle.grid_core.specs.declared.point.Point.{Point}
use Rattle.grid_core.specs.Vector.{cross_of, minus, point_cmp}
use Rattle.grid_core.specs.Segment.{Segment, direction}
use Rattle.grid_core.specs.Crossing.{crossing_of, in_unit_interval, point_along, within_both}
use Rattle.grid_core.proofs.Signed.{lt_false, from_lt_true}
use Rattle.grid_core.proofs.Ring.{int_mul_comm, int_mul-le_right, int_le_of_mul}
use Rattle.grid_core.proofs.Order.{point_less}
use Rattle.grid_core.proofs.Identities.{along_is_mean}
use Rattle.grid_core.proofs.Polynomial.{V, K, ◌⊕◌, ◌⊖◌, ◌⊗◌, same_polynomial}
use Rattle.rat_cross.specs.Apart.{separate_of, apart_of}

-- ---- one coordinate

split : (b u den : ℤ) → b *ℤ (den -ℤ u) +ℤ b *ℤ u ≡ b *ℤ den
split b u den = same_polynomial (b ∷ u ∷ den ∷ []) (V 0 ⊗ (V 2 ⊖ V 1) ⊕ V 0 ⊗ V 1) (V 0 ⊗ V 2) refl

-- a point between p and q is not above what is not below either
at_most : (p q u den b : ℤ) → pos 0 ≤ℤ u → u ≤ℤ den → p ≤ℤ b → q ≤ℤ b
    → (p *ℤ den +ℤ u *ℤ (q -ℤ p)) ≤ℤ (b *ℤ den)
at_most p q u den b low high h k =
    let first = int_mul-le_right p b (den -ℤ u) (omega (arith, ints)) h in
    let second = int_mul-le_right q b u low k in
    omega (arith, ints, first, second, along_is_mean p q u den, split b u den)

-- a point between p and q is not below what is not above either
at_least : (p q u den b : ℤ) → pos 0 ≤ℤ u → u ≤ℤ den → b ≤ℤ p → b ≤ℤ q
    → (b *ℤ den) ≤ℤ (p *ℤ den +ℤ u *ℤ (q -ℤ p))
at_least p q u den b low high h k =
    let first = int_mul-le_right b p (den -ℤ u) (omega (arith, ints)) h in
    let second = int_mul-le_right b q u low k in
    omega (arith, ints, first, second, along_is_mean p q u den, split b u den)

-- two ranges, one below the other, have no point in common
one_above : (p q r t u v den a b : ℤ) → pos 0 <ℤ den → pos 0 ≤ℤ u → u ≤ℤ den → pos 0 ≤ℤ v → v ≤ℤ den
    → p *ℤ den +ℤ u *ℤ (q -ℤ p) ≡ r *ℤ den +ℤ v *ℤ (t -ℤ r) → p ≤ℤ a → q ≤ℤ a → b ≤ℤ r → b ≤ℤ t
    → b ≤ℤ a
one_above p q r t u v den a b positive ul uh vl vh same pa qa br bt =
    let low = at_least r t v den b vl vh br bt in
    let high = at_most p q u den a ul uh pa qa in
    int_le_of_mul den b a positive
    (omega (arith, ints, low, high, same, int_mul_comm den a, int_mul_comm den b))

-- ---- the crossing point is a point of both segments

-- the parameters u / den and v / den give one point of both segments, which are in units of 1 / den
record OnePoint (s t : Segment) (u v den : ℤ) : Type 0 where
  positive : pos 0 <ℤ den
  same_x : s.p.x *ℤ den +ℤ u *ℤ (s.q.x -ℤ s.p.x) ≡ t.p.x *ℤ den +ℤ v *ℤ (t.q.x -ℤ t.p.x)
  same_y : s.p.y *ℤ den +ℤ u *ℤ (s.q.y -ℤ s.p.y) ≡ t.p.y *ℤ den +ℤ v *ℤ (t.q.y -ℤ t.p.y)

meet_x : (s t : Segment)
    → s.p.x *ℤ cross_of (direction s) (direction t) +ℤ cross_of (minus t.p s.p) (direction t) *ℤ
    (s.q.x -ℤ s.p.x)
    ≡ t.p.x *ℤ cross_of (direction s) (direction t) +ℤ cross_of (minus t.p s.p) (direction s) *ℤ
    (t.q.x -ℤ t.p.x)
meet_x s t =
    same_polynomial (s.p.x ∷ s.p.y ∷ s.q.x ∷ s.q.y ∷ t.p.x ∷ t.p.y ∷ t.q.x ∷ t.q.y ∷ [])
    (V 0 ⊗ ((V 2 ⊖ V 0) ⊗ (V 7 ⊖ V 5) ⊖ (V 3 ⊖ V 1) ⊗ (V 6 ⊖ V 4)) ⊕
    ((V 4 ⊖ V 0) ⊗ (V 7 ⊖ V 5) ⊖ (V 5 ⊖ V 1) ⊗ (V 6 ⊖ V 4)) ⊗ (V 2 ⊖ V 0))
    (V 4 ⊗ ((V 2 ⊖ V 0) ⊗ (V 7 ⊖ V 5) ⊖ (V 3 ⊖ V 1) ⊗ (V 6 ⊖ V 4)) ⊕
    ((V 4 ⊖ V 0) ⊗ (V 3 ⊖ V 1) ⊖ (V 5 ⊖ V 1) ⊗ (V 2 ⊖ V 0)) ⊗ (V 6 ⊖ V 4)) refl

meet_y : (s t : Segment)
    → s.p.y *ℤ cross_of (direction s) (direction t) +ℤ cross_of (minus t.p s.p) (direction t) *ℤ
    (s.q.y -ℤ s.p.y)
    ≡ t.p.y *ℤ cross_of (direction s) (direction t) +ℤ cross_of (minus t.p s.p) (direction s) *ℤ
    (t.q.y -ℤ t.p.y)
meet_y s t =
    same_polynomial (s.p.x ∷ s.p.y ∷ s.q.x ∷ s.q.y ∷ t.p.x ∷ t.p.y ∷ t.q.x ∷ t.q.y ∷ [])
    (V 1 ⊗ ((V 2 ⊖ V 0) ⊗ (V 7 ⊖ V 5) ⊖ (V 3 ⊖ V 1) ⊗ (V 6 ⊖ V 4)) ⊕
    ((V 4 ⊖ V 0) ⊗ (V 7 ⊖ V 5) ⊖ (V 5 ⊖ V 1) ⊗ (V 6 ⊖ V 4)) ⊗ (V 3 ⊖ V 1))
    (V 5 ⊗ ((V 2 ⊖ V 0) ⊗ (V 7 ⊖ V 5) ⊖ (V 3 ⊖ V 1) ⊗ (V 6 ⊖ V 4)) ⊕
    ((V 4 ⊖ V 0) ⊗ (V 3 ⊖ V 1) ⊖ (V 5 ⊖ V 1) ⊗ (V 2 ⊖ V 0)) ⊗ (V 7 ⊖ V 5)) refl

negated : (p u den m : ℤ) → p *ℤ (pos 0 -ℤ den) +ℤ (pos 0 -ℤ u) *ℤ m ≡ pos 0 -ℤ (p *ℤ den +ℤ u *ℤ m)
negated p u den m =
    same_polynomial (p ∷ u ∷ den ∷ m ∷ []) (V 0 ⊗ (K (pos 0) ⊖ V 2) ⊕ (K (pos 0) ⊖ V 1) ⊗ V 3)
    (K (pos 0) ⊖ (V 0 ⊗ V 2 ⊕ V 1 ⊗ V 3)) refl

one_point : (s t : Segment) → pos 0 <ℤ cross_of (direction s) (direction t)
    → OnePoint s t (cross_of (minus t.p s.p) (direction t)) (cross_of (minus t.p s.p) (direction s))
    (cross_of (direction s) (direction t))
one_point s t h = record { positive = h; same_x = meet_x s t; same_y = meet_y s t }

one_point_back : (s t : Segment) (u v den : ℤ) → den <ℤ pos 0
    → s.p.x *ℤ den +ℤ u *ℤ (s.q.x -ℤ s.p.x) ≡ t.p.x *ℤ den +ℤ v *ℤ (t.q.x -ℤ t.p.x)
    → s.p.y *ℤ den +ℤ u *ℤ (s.q.y -ℤ s.p.y) ≡ t.p.y *ℤ den +ℤ v *ℤ (t.q.y -ℤ t.p.y)
    → OnePoint s t (pos 0 -ℤ u) (pos 0 -ℤ v) (pos 0 -ℤ den)
one_point_back s t u v den h x y =
    record {
      positive = omega (arith, ints);
      same_x =
          negated s.p.x u den (s.q.x -ℤ s.p.x) ∙ (λ i. pos 0 -ℤ x i)
          ∙ sym (negated t.p.x v den (t.q.x -ℤ t.p.x));
      same_y =
          negated s.p.y u den (s.q.y -ℤ s.p.y) ∙ (λ i. pos 0 -ℤ y i)
          ∙ sym (negated t.p.y v den (t.q.y -ℤ t.p.y));
    }

-- ---- bounding boxes

not_right : (a b : Point) → point_cmp a b ≡ Less → a.x ≤ℤ b.x
not_right a b h =
    ⊎_elim (λ (less : a.x <ℤ b.x). omega (arith, ints))
    (λ (both : (a.x ≡ b.x) × (a.y <ℤ b.y)). omega (arith, ints)) (point_less a b h)

reach : (a b c d : ℤ) → c ≤ℤ b → a ≤ℤ d → separate_of a b c d ≡ false
reach a b c d h k = simp (lt_false b c h, lt_false d a k)

reach_both : (s t : Segment) (u v den : ℤ) → OnePoint s t u v den → point_cmp s.p s.q ≡ Less
    → point_cmp t.p t.q ≡ Less
    → pos 0 ≤ℤ u → u ≤ℤ den → pos 0 ≤ℤ v → v ≤ℤ den → apart_of s t ≡ false
reach_both s t u v den o hs ht ul uh vl vh =
    let sx = not_right s.p s.q hs in
    let tx = not_right t.p t.q ht in
    let x1 : t.p.x ≤ℤ s.q.x =
    one_above s.p.x s.q.x t.p.x t.q.x u v den s.q.x t.p.x o.positive ul uh vl vh o.same_x sx
    (≤ℤ_refl s.q.x) (≤ℤ_refl t.p.x) tx in
    let x2 : s.p.x ≤ℤ t.q.x =
    one_above t.p.x t.q.x s.p.x s.q.x v u den t.q.x s.p.x o.positive vl vh ul uh
    (sym o.same_x) tx (≤ℤ_refl t.q.x) (≤ℤ_refl s.p.x) sx in
    let sl = int_min s.p.y s.q.y in
    let sh = int_max s.p.y s.q.y in
    let tl = int_min t.p.y t.q.y in
    let th = int_max t.p.y t.q.y in
    let y1 : int_min t.p.y t.q.y ≤ℤ int_max s.p.y s.q.y =
    one_above s.p.y s.q.y t.p.y t.q.y u v den sh tl o.positive ul uh vl vh o.same_y
    (max_left s.p.y s.q.y) (max_right s.p.y s.q.y) (min_left t.p.y t.q.y)
    (min_right t.p.y t.q.y) in
    let y2 : int_min s.p.y s.q.y ≤ℤ int_max t.p.y t.q.y =
    one_above t.p.y t.q.y s.p.y s.q.y v u den th sl o.positive vl vh ul uh (sym o.same_y)
    (max_left t.p.y t.q.y) (max_right t.p.y t.q.y) (min_left s.p.y s.q.y)
    (min_right s.p.y s.q.y) in
    simp (reach s.p.x s.q.x t.p.x t.q.x x1 x2, reach sl sh tl th y1 y2)
  where
    max_left : (a b : ℤ) → a ≤ℤ int_max a b
    max_left a b = omega (arith, ints, clamps)

    max_right : (a b : ℤ) → b ≤ℤ int_max a b
    max_right a b = omega (arith, ints, clamps)

    min_left : (a b : ℤ) → int_min a b ≤ℤ a
    min_left a b = omega (arith, ints, clamps)

    min_right : (a b : ℤ) → int_min a b ≤ℤ b
    min_right a b = omega (arith, ints, clamps)

part_branch : (s t : Segment) (u v den : ℤ) (b : Bool) → in_unit_interval u den && in_unit_interval v den ≡ b
    → OnePoint s t u v den
    → point_cmp s.p s.q ≡ Less → point_cmp t.p t.q ≡ Less → apart_of s t ≡ true
    → (if b then Some (point_along s u den) else None) ≡ None
part_branch s t u v den true e o hs ht apart =
    let parts : ((pos 0 ≤ℤ u) × (u ≤ℤ den)) × ((pos 0 ≤ℤ v) × (v ≤ℤ den)) =
    (grind (arith, ints), grind (arith, ints)) in
    absurd (true≢false (sym apart
    ∙ reach_both s t u v den o hs ht parts.0.0 parts.0.1 parts.1.0 parts.1.1))
part_branch s t u v den false e o hs ht apart = refl

sign_branch : (s t : Segment) (u v den : ℤ) (b c : Bool) → int_lt (pos 0) den ≡ b
    → int_lt den (pos 0) ≡ c
    → (pos 0 <ℤ den → OnePoint s t u v den)
    → (den <ℤ pos 0 → OnePoint s t (pos 0 -ℤ u) (pos 0 -ℤ v) (pos 0 -ℤ den))
    → point_cmp s.p s.q ≡ Less → point_cmp t.p t.q ≡ Less → apart_of s t ≡ true
    → (if b then within_both s u v den else if c then within_both s (pos 0 -ℤ u) (pos 0 -ℤ v)
    (pos 0 -ℤ den) else None) ≡ None
sign_branch s t u v den true c e f o back hs ht apart =
    part_branch s t u v den (in_unit_interval u den && in_unit_interval v den) refl
    (o (from_lt_true (pos 0) den e)) hs ht apart
sign_branch s t u v den false true e f o back hs ht apart =
    part_branch s t (pos 0 -ℤ u) (pos 0 -ℤ v) (pos 0 -ℤ den)
    (in_unit_interval (pos 0 -ℤ u) (pos 0 -ℤ den) && in_unit_interval (pos 0 -ℤ v) (pos 0 -ℤ den)) refl
    (back (from_lt_true den (pos 0) f)) hs ht apart
sign_branch s t u v den false false e f o back hs ht apart = refl

-- segments whose bounding boxes have no point in common have no crossing
pub apart_none : (s t : Segment) → point_cmp s.p s.q ≡ Less → point_cmp t.p t.q ≡ Less
    → apart_of s t ≡ true → crossing_of s t ≡ None
apart_none s t hs ht apart =
    let den = cross_of (direction s) (direction t) in
    let u = cross_of (minus t.p s.p) (direction t) in
    let v = cross_of (minus t.p s.p) (direction s) in
    sign_branch s t u v den (int_lt (pos 0) den) (int_lt den (pos 0)) refl refl
    (one_point s t) (λ h. one_point_back s t u v den h (meet_x s t) (meet_y s t)) hs ht apart
