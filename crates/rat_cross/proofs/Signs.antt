-- The crossing of two segments, by the sign of the cross product of their directions.
-- Where it is negative, both directions are seen from the other end of the way between the segments,
-- which turns the sign of all three products, and its size is the product taken the other way round.

use Rattle.std.proofs.Common.{◌≡◌, ℕ, sym, ◌∙◌, arith, refl, [], ◌∷◌}
use Rattle.std.specs.Prelude.{ℤ, pos, ◌-ℤ◌, ◌*ℤ◌, ◌<ℤ◌, int_lt, unsigned_abs, true, false}
use Rattle.std.proofs.lemmas.Int.{ints}
use Rattle.grid_core.specs.declared.point.Point.{Point}
use Rattle.grid_core.specs.Vector.{cross_of, minus}
use Rattle.grid_core.specs.Segment.{Segment, direction}
use Rattle.grid_core.specs.Crossing.{crossing_of, within_both}
use Rattle.grid_core.proofs.Signed.{signed, one_part, lt_true, lt_false, from_lt_true}
use Rattle.grid_core.proofs.Polynomial.{V, K, ◌⊖◌, ◌⊗◌, same_polynomial}

-- the way between two points that are known by other names
pub way_is : {a b d : Point} (p q : Point) → d ≡ minus b a → a ≡ p → b ≡ q → d ≡ minus q p
way_is p q h ha hb = h ∙ (λ i. minus (hb i) (ha i))

turned : (a b c d : ℤ) → a *ℤ d -ℤ b *ℤ c ≡ pos 0 -ℤ (c *ℤ b -ℤ d *ℤ a)
turned a b c d =
    same_polynomial (a ∷ b ∷ c ∷ d ∷ []) (V 0 ⊗ V 3 ⊖ V 1 ⊗ V 2)
    (K (pos 0) ⊖ (V 2 ⊗ V 1 ⊖ V 3 ⊗ V 0)) refl

-- the size of a cross product is the product itself where that is above 0
pub size_left : (d e : Point) {v : ℤ} (n : ℕ) → n ≡ unsigned_abs v → v ≡ cross_of d e → int_lt (pos 0) v ≡ true
    → pos n ≡ cross_of d e
size_left d e {v} n size h positive =
    omega (arith, signed, size, h, one_part v, from_lt_true (pos 0) v positive)

-- and where it is below 0 the product taken the other way round
pub size_right : (d e : Point) {v : ℤ} (n : ℕ) → n ≡ unsigned_abs v → v ≡ cross_of d e → int_lt v (pos 0) ≡ true
    → pos n ≡ cross_of e d
size_right d e {v} n size h negative =
    omega (arith, signed, size, h, one_part v, from_lt_true v (pos 0) negative, turned e.x e.y d.x d.y)

-- the size of a number that is not 0 is above 0
pub some_left : (v : ℤ) (n : ℕ) → n ≡ unsigned_abs v → int_lt (pos 0) v ≡ true → pos 0 <ℤ pos n
some_left v n size positive = omega (arith, signed, size, one_part v, from_lt_true (pos 0) v positive)

pub some_right : (v : ℤ) (n : ℕ) → n ≡ unsigned_abs v → int_lt v (pos 0) ≡ true → pos 0 <ℤ pos n
some_right v n size negative = omega (arith, signed, size, one_part v, from_lt_true v (pos 0) negative)

-- where the second direction points to the left of the first
pub crossing_left : (s t : Segment) (d e w : Point) (den : ℤ) → d ≡ direction s → e ≡ direction t
    → w ≡ minus t.p s.p
    → den ≡ cross_of d e → pos 0 <ℤ den
    → within_both s (cross_of w e) (cross_of w d) den ≡ crossing_of s t
crossing_left s t d e w den hd he hw hden h =
    let whole : den ≡ cross_of (direction s) (direction t) = hden ∙ (λ i. cross_of (hd i) (he i)) in
    let test : int_lt (pos 0) (cross_of (direction s) (direction t)) ≡ true =
    (λ i. int_lt (pos 0) (sym whole i)) ∙ lt_true (pos 0) den h in
    (λ i. within_both s (cross_of (hw i) (he i)) (cross_of (hw i) (hd i)) (whole i)) ∙ simp test

back : (p q : Point) (e : Point) → cross_of (minus p q) e ≡ pos 0 -ℤ cross_of (minus q p) e
back p q e =
    same_polynomial (p.x ∷ p.y ∷ q.x ∷ q.y ∷ e.x ∷ e.y ∷ [])
    ((V 0 ⊖ V 2) ⊗ V 5 ⊖ (V 1 ⊖ V 3) ⊗ V 4)
    (K (pos 0) ⊖ ((V 2 ⊖ V 0) ⊗ V 5 ⊖ (V 3 ⊖ V 1) ⊗ V 4)) refl

-- where the second direction points to the right of the first
pub crossing_right : (s t : Segment) (d e w : Point) (den : ℤ) → d ≡ direction s → e ≡ direction t
    → w ≡ minus s.p t.p
    → den ≡ cross_of e d → pos 0 <ℤ den
    → within_both s (cross_of w e) (cross_of w d) den ≡ crossing_of s t
crossing_right s t d e w den hd he hw hden h =
    let over = cross_of (direction s) (direction t) in
    let whole : den ≡ pos 0 -ℤ cross_of (direction s) (direction t) =
    hden ∙ (λ i. cross_of (he i) (hd i))
    ∙ turned (direction t).x (direction t).y (direction s).x (direction s).y in
    let positive : int_lt (pos 0) (cross_of (direction s) (direction t)) ≡ false =
    lt_false (pos 0) over (omega (arith, ints)) in
    let negative : int_lt (cross_of (direction s) (direction t)) (pos 0) ≡ true =
    lt_true over (pos 0) (omega (arith, ints)) in
    let u = back s.p t.p (direction t) in
    let v = back s.p t.p (direction s) in
    (λ i. within_both s (cross_of (hw i) (he i)) (cross_of (hw i) (hd i)) (whole i))
    ∙ (λ i. within_both s (u i) (v i) (pos 0 -ℤ cross_of (direction s) (direction t)))
    ∙ simp (positive, negative)
