-- The order of directions, clockwise from straight up, is total.
-- Three directions d, e, f of one half have positive weights with
-- (d x f) le = (e x f) ld + (d x e) lf: for the first half `m x + y` of each, where m is above the
-- sizes of all three y, and for the second half its negation. So the signs of d x e and of e x f give
-- that of d x f.
use Rattle.std.proofs.Common.{◌≡◌, refl, sym, ap, ◌∙◌, ℕ, zero, suc, ◌+◌, ◌<◌, ◌≤◌, arith, ◌⊎◌, inl, inr, [], ◌∷◌}
use Rattle.std.proofs.Common.{Ordering, Less, Equal, Greater, int_cmp, nat_cmp}
use Rattle.std.specs.Prelude.{ℤ, pos, negsuc, neg_ℤ, ◌+ℤ◌, ◌*ℤ◌, ◌<ℤ◌, ◌≤ℤ◌, unsigned_abs}
use Rattle.std.specs.Cmp.{IsTotalOrder, int_cmp_is}
use Rattle.std.specs.Ordering.{ordering_then, ordering_reverse, MatchOrdering}
use Rattle.std.proofs.lemmas.Int.{ints}
use Rattle.std.proofs.lemmas.Bool.Decides.{nat_tests}
use Rattle.std.proofs.lemmas.Cmp.{ranked, int_ranked, nat_cmp_total, tied_itself, alike_right, then_total, on_total}
use Rattle.std.proofs.lemmas.Map.Lookups.{CmpEqualImpliesEq}
use Rattle.grid_core.specs.declared.point.Point.{Point}
use Rattle.grid_core.specs.Vector.{cross_of, minus, point_cmp}
use Rattle.grid_core.specs.Contours.{HalfEdge, half_of, clockwise_cmp, around_cmp}
use Rattle.grid_core.proofs.Signed.{signed}
use Rattle.grid_core.proofs.Identities.{cross-turned}
use Rattle.grid_core.proofs.Order.{point_total, point_exact}
use Rattle.face_trace.specs.HalfEdge.{spoke_cmp}
use Rattle.grid_core.proofs.Ring.{int_mul_pos, int_mul_neg_pos, int_mul-le_left, int_lt_of_mul, int_same_of_mul, int_neg-mul, int_mul_comm}
use Rattle.grid_core.proofs.Polynomial.{V, ◌⊕◌, ◌⊖◌, ◌⊗◌, same_polynomial}

-- ---- halves

first_half : (d : Point) → half_of d ≡ 0 → (pos 0 <ℤ d.x) ⊎ ((d.x ≡ pos 0) × (pos 0 <ℤ d.y))
first_half d h = grind (arith, ints)

second_half : (d : Point) → half_of d ≡ 1 → (d.x <ℤ pos 0) ⊎ ((d.x ≡ pos 0) × (d.y <ℤ pos 0))
second_half d h = grind (arith, ints)

no_half : (d : Point) → half_of d ≡ 2 → (d.x ≡ pos 0) × (d.y ≡ pos 0)
no_half d h = grind (arith, ints)

halves : (d : Point) → half_of d ≤ 2
halves d = grind (arith, ints)

-- ---- weights

-- positive weights for three directions
record IsBalanced (d e f : Point) : Type 0 where
  ld : ℤ
  le : ℤ
  lf : ℤ
  positive_d : pos 0 <ℤ ld
  positive_e : pos 0 <ℤ le
  positive_f : pos 0 <ℤ lf
  balance : le *ℤ cross_of d f ≡ ld *ℤ cross_of e f +ℤ lf *ℤ cross_of d e

-- m x + y is positive for a direction of the first half, where m is above the size of y
heavy_first : (m x y : ℤ) → (neg_ℤ y) <ℤ m → (pos 0 <ℤ x) ⊎ ((x ≡ pos 0) × (pos 0 <ℤ y)) → pos 0 <ℤ m
    → pos 0 <ℤ (m *ℤ x +ℤ y)
heavy_first m x y h (inl p) q =
    let large : (m *ℤ pos 1) ≤ℤ (m *ℤ x) = int_mul-le_left m (pos 1) x (omega (arith, ints)) (omega (arith, ints)) in
    let one : m *ℤ pos 1 ≡ m = omega (arith, ints) in
    omega (arith, ints, large, one)
heavy_first m x y h (inr p) q =
    let none : m *ℤ x ≡ pos 0 = ap (λ z. m *ℤ z) p.0 ∙ omega (arith, ints) in
    omega (arith, ints, none, p.1)

-- and its negation for a direction of the second half
heavy_second : (m x y : ℤ) → y <ℤ m → (x <ℤ pos 0) ⊎ ((x ≡ pos 0) × (y <ℤ pos 0)) → pos 0 <ℤ m
    → pos 0 <ℤ (neg_ℤ (m *ℤ x +ℤ y))
heavy_second m x y h (inl p) q =
    let large : (m *ℤ x) ≤ℤ (m *ℤ negsuc 0) = int_mul-le_left m x (negsuc 0) (omega (arith, ints)) (omega (arith, ints)) in
    let one : m *ℤ negsuc 0 ≡ neg_ℤ m = omega (arith, ints) in
    omega (arith, ints, large, one)
heavy_second m x y h (inr p) q =
    let none : m *ℤ x ≡ pos 0 = ap (λ z. m *ℤ z) p.0 ∙ omega (arith, ints) in
    omega (arith, ints, none, p.1)

-- above the sizes of three numbers
above : ℤ → ℤ → ℤ → ℤ
above a b c = pos (unsigned_abs a + unsigned_abs b + unsigned_abs c + 1)

balance_of : (m : ℤ) (d e f : Point)
    → (m *ℤ e.x +ℤ e.y) *ℤ cross_of d f
    ≡ (m *ℤ d.x +ℤ d.y) *ℤ cross_of e f +ℤ (m *ℤ f.x +ℤ f.y) *ℤ cross_of d e
balance_of m d e f =
    same_polynomial (d.x ∷ d.y ∷ e.x ∷ e.y ∷ f.x ∷ f.y ∷ m ∷ [])
    ((V 6 ⊗ V 2 ⊕ V 3) ⊗ (V 0 ⊗ V 5 ⊖ V 1 ⊗ V 4))
    ((V 6 ⊗ V 0 ⊕ V 1) ⊗ (V 2 ⊗ V 5 ⊖ V 3 ⊗ V 4) ⊕ (V 6 ⊗ V 4 ⊕ V 5) ⊗ (V 0 ⊗ V 3 ⊖ V 1 ⊗ V 2)) refl

balance_back : (m : ℤ) (d e f : Point)
    → neg_ℤ (m *ℤ e.x +ℤ e.y) *ℤ cross_of d f
    ≡ neg_ℤ (m *ℤ d.x +ℤ d.y) *ℤ cross_of e f +ℤ neg_ℤ (m *ℤ f.x +ℤ f.y) *ℤ cross_of d e
balance_back m d e f =
    omega (
      arith,
      ints,
      balance_of m d e f,
      int_neg-mul (m *ℤ e.x +ℤ e.y) (cross_of d f),
      int_neg-mul (m *ℤ d.x +ℤ d.y) (cross_of e f),
      int_neg-mul (m *ℤ f.x +ℤ f.y) (cross_of d e),
    )

first_balanced : (d e f : Point) → half_of d ≡ 0 → half_of e ≡ 0 → half_of f ≡ 0 → IsBalanced d e f
unfolding above
first_balanced d e f p q r =
    let m = above d.y e.y f.y in
    record {
      ld = m *ℤ d.x +ℤ d.y;
      le = m *ℤ e.x +ℤ e.y;
      lf = m *ℤ f.x +ℤ f.y;
      positive_d = heavy_first m d.x d.y (omega (arith, signed)) (first_half d p) (omega (arith, signed));
      positive_e = heavy_first m e.x e.y (omega (arith, signed)) (first_half e q) (omega (arith, signed));
      positive_f = heavy_first m f.x f.y (omega (arith, signed)) (first_half f r) (omega (arith, signed));
      balance = balance_of m d e f;
    }

second_balanced : (d e f : Point) → half_of d ≡ 1 → half_of e ≡ 1 → half_of f ≡ 1 → IsBalanced d e f
unfolding above
second_balanced d e f p q r =
    let m = above d.y e.y f.y in
    record {
      ld = neg_ℤ (m *ℤ d.x +ℤ d.y);
      le = neg_ℤ (m *ℤ e.x +ℤ e.y);
      lf = neg_ℤ (m *ℤ f.x +ℤ f.y);
      positive_d = heavy_second m d.x d.y (omega (arith, signed)) (second_half d p) (omega (arith, signed));
      positive_e = heavy_second m e.x e.y (omega (arith, signed)) (second_half e q) (omega (arith, signed));
      positive_f = heavy_second m f.x f.y (omega (arith, signed)) (second_half f r) (omega (arith, signed));
      balance = balance_back m d e f;
    }

no_way : (d : Point) → half_of d ≡ 2 → d ≡ record { x = pos 0; y = pos 0 }
no_way d p = let z = no_half d p in λ i. record { x = z.0 i; y = z.1 i }

none_balanced : (d e f : Point) → half_of d ≡ 2 → half_of e ≡ 2 → half_of f ≡ 2 → IsBalanced d e f
none_balanced d e f p q r =
    record {
      ld = pos 1;
      le = pos 1;
      lf = pos 1;
      positive_d = omega (arith, ints);
      positive_e = omega (arith, ints);
      positive_f = omega (arith, ints);
      balance = (λ i. pos 1 *ℤ cross_of (no_way d p i) (no_way f r i))
          ∙ sym (λ i. pos 1 *ℤ cross_of (no_way e q i) (no_way f r i) +ℤ pos 1 *ℤ cross_of (no_way d p i) (no_way e q i));
    }

balanced : (d e f : Point) → half_of d ≡ half_of e → half_of e ≡ half_of f → IsBalanced d e f
balanced d e f p q = by (half_of f) refl (halves f)
  where
    by : (n : ℕ) → half_of f ≡ n → n ≤ 2 → IsBalanced d e f
    by zero r h = first_balanced d e f (p ∙ q ∙ r) (q ∙ r) r
    by (suc zero) r h = second_balanced d e f (p ∙ q ∙ r) (q ∙ r) r
    by (suc (suc zero)) r h = none_balanced d e f (p ∙ q ∙ r) (q ∙ r) r
    by (suc (suc (suc n))) r h = absurd (omega (arith, h))

-- ---- signs

-- a number is ranked with 0 as its negation is, the other way round
negated : (a b : ℤ) → a ≡ neg_ℤ b → int_cmp a (pos 0) ≡ ordering_reverse (int_cmp b (pos 0))
negated a b e = by (int_cmp b (pos 0)) refl (int_ranked b (pos 0) _ refl)
  where
    by : (o : Ordering) → int_cmp b (pos 0) ≡ o → MatchOrdering o (b <ℤ pos 0) (b ≡ pos 0) (pos 0 <ℤ b)
        → int_cmp a (pos 0) ≡ ordering_reverse o
    by Less p h = sym (int_cmp_is a (pos 0) Greater (omega (arith, ints, h)))
    by Equal p h = sym (int_cmp_is a (pos 0) Equal (omega (arith, ints, h)))
    by Greater p h = sym (int_cmp_is a (pos 0) Less (omega (arith, ints, h)))

-- numbers that positive factors make equal are ranked with 0 alike
same_sign : (l m a b : ℤ) → pos 0 <ℤ l → pos 0 <ℤ m → l *ℤ a ≡ m *ℤ b
    → int_cmp a (pos 0) ≡ int_cmp b (pos 0)
same_sign l m a b p q e = by (int_cmp b (pos 0)) refl (int_ranked b (pos 0) _ refl)
  where
    none : l *ℤ pos 0 ≡ pos 0
    none = omega (arith, ints)

    by : (o : Ordering) → int_cmp b (pos 0) ≡ o → MatchOrdering o (b <ℤ pos 0) (b ≡ pos 0) (pos 0 <ℤ b)
        → int_cmp a (pos 0) ≡ o
    by Less r h =
        let less = int_mul_neg_pos b m h q in
        sym (int_cmp_is a (pos 0) Less (int_lt_of_mul l a (pos 0) p (omega (arith, ints, less, int_mul_comm m b, none, e))))
    by Equal r h =
        let zero_b : m *ℤ b ≡ pos 0 = ap (λ z. m *ℤ z) h ∙ omega (arith, ints) in
        sym (int_cmp_is a (pos 0) Equal (int_same_of_mul l a (pos 0) p (e ∙ zero_b ∙ sym none)))
    by Greater r h =
        let more = int_mul_pos m b q h in
        sym (int_cmp_is a (pos 0) Greater (int_lt_of_mul l (pos 0) a p (omega (arith, ints, more, none, e))))

-- two negative products make a negative sum
negative_sum : (l m k a b c : ℤ) → pos 0 <ℤ l → pos 0 <ℤ m → pos 0 <ℤ k
    → l *ℤ a ≡ m *ℤ b +ℤ k *ℤ c → b <ℤ pos 0 → c <ℤ pos 0 → a <ℤ pos 0
negative_sum l m k a b c p q r e h i =
    let none : l *ℤ pos 0 ≡ pos 0 = omega (arith, ints) in
    let first = int_mul_neg_pos b m h q in
    let second = int_mul_neg_pos c k i r in
    int_lt_of_mul l a (pos 0) p
    (omega (arith, ints, first, second, int_mul_comm m b, int_mul_comm k c, none, e))

-- ---- one order, and where that ties another

then_reversed : (o r : Ordering) → ordering_then (ordering_reverse o) (ordering_reverse r)
    ≡ ordering_reverse (ordering_then o r)
then_reversed Less r = refl
then_reversed Equal r = refl
then_reversed Greater r = refl

-- ---- directions

clockwise_less : (d e : Point) → clockwise_cmp d e ≡ Less
    → (half_of d < half_of e) ⊎ ((half_of d ≡ half_of e) × (cross_of d e <ℤ pos 0))
clockwise_less d e =
    by (nat_cmp (half_of d) (half_of e)) (int_cmp (cross_of d e) (pos 0))
    (ranked (half_of d) (half_of e) _ refl) (int_ranked (cross_of d e) (pos 0) _ refl)
  where
    by : (o r : Ordering)
        → MatchOrdering o (half_of d < half_of e) (half_of d ≡ half_of e) (half_of e < half_of d)
        → MatchOrdering r (cross_of d e <ℤ pos 0) (cross_of d e ≡ pos 0) (pos 0 <ℤ cross_of d e)
        → ordering_then o r ≡ Less
        → (half_of d < half_of e) ⊎ ((half_of d ≡ half_of e) × (cross_of d e <ℤ pos 0))
    by Less r h k g = inl h
    by Equal Less h k g = inr (h, k)
    by Equal Equal h k g = absurd (cc g)
    by Equal Greater h k g = absurd (cc g)
    by Greater r h k g = absurd (cc g)

clockwise_equal : (d e : Point) → clockwise_cmp d e ≡ Equal
    → (half_of d ≡ half_of e) × (cross_of d e ≡ pos 0)
clockwise_equal d e =
    by (nat_cmp (half_of d) (half_of e)) (int_cmp (cross_of d e) (pos 0))
    (ranked (half_of d) (half_of e) _ refl) (int_ranked (cross_of d e) (pos 0) _ refl)
  where
    by : (o r : Ordering)
        → MatchOrdering o (half_of d < half_of e) (half_of d ≡ half_of e) (half_of e < half_of d)
        → MatchOrdering r (cross_of d e <ℤ pos 0) (cross_of d e ≡ pos 0) (pos 0 <ℤ cross_of d e)
        → ordering_then o r ≡ Equal → (half_of d ≡ half_of e) × (cross_of d e ≡ pos 0)
    by Less r h k g = absurd (cc g)
    by Equal Less h k g = absurd (cc g)
    by Equal Equal h k g = (h, k)
    by Equal Greater h k g = absurd (cc g)
    by Greater r h k g = absurd (cc g)

below : (m n : ℕ) → m < n → nat_cmp m n ≡ Less
below m n h = grind (arith, nat_tests)

-- an earlier half, or in one half clockwise
clockwise_of : (d e : Point) → (half_of d < half_of e) ⊎ ((half_of d ≡ half_of e) × (cross_of d e <ℤ pos 0))
    → clockwise_cmp d e ≡ Less
clockwise_of d e (inl h) = ap (λ o. ordering_then o (int_cmp (cross_of d e) (pos 0))) (below _ _ h)
clockwise_of d e (inr h) =
    ap (λ o. ordering_then o (int_cmp (cross_of d e) (pos 0)))
    (ap (nat_cmp (half_of d)) (sym h.0) ∙ tied_itself nat_cmp_total (half_of d))
    ∙ sym (int_cmp_is (cross_of d e) (pos 0) Less h.1)

clockwise_antisymm : (d e : Point) → clockwise_cmp d e ≡ ordering_reverse (clockwise_cmp e d)
clockwise_antisymm d e =
    (λ i. ordering_then (nat_cmp_total.antisymm (half_of d) (half_of e) i)
    (negated (cross_of d e) (cross_of e d) (cross-turned d e) i))
    ∙ then_reversed (nat_cmp (half_of e) (half_of d)) (int_cmp (cross_of e d) (pos 0))

clockwise_trans : (d e f : Point) → clockwise_cmp d e ≡ Less → clockwise_cmp e f ≡ Less
    → clockwise_cmp d f ≡ Less
clockwise_trans d e f h k = clockwise_of d f (by (clockwise_less d e h) (clockwise_less e f k))
  where
    by : (half_of d < half_of e) ⊎ ((half_of d ≡ half_of e) × (cross_of d e <ℤ pos 0))
        → (half_of e < half_of f) ⊎ ((half_of e ≡ half_of f) × (cross_of e f <ℤ pos 0))
        → (half_of d < half_of f) ⊎ ((half_of d ≡ half_of f) × (cross_of d f <ℤ pos 0))
    by (inl p) (inl q) = inl (omega (arith, p, q))
    by (inl p) (inr q) = inl (omega (arith, p, q.0))
    by (inr p) (inl q) = inl (omega (arith, p.0, q))
    by (inr p) (inr q) =
        let w = balanced d e f p.0 q.0 in
        inr (
          p.0 ∙ q.0,
          negative_sum w.le w.ld w.lf (cross_of d f) (cross_of e f) (cross_of d e)
              w.positive_e w.positive_d w.positive_f w.balance q.1 p.1,
        )

clockwise_congr : (d e f : Point) → clockwise_cmp d e ≡ Equal → clockwise_cmp d f ≡ clockwise_cmp e f
clockwise_congr d e f h = by (nat_cmp (half_of e) (half_of f)) refl (ranked (half_of e) (half_of f) _ refl)
  where
    tied : (half_of d ≡ half_of e) × (cross_of d e ≡ pos 0)
    tied = clockwise_equal d e h

    one_half : nat_cmp (half_of d) (half_of f) ≡ nat_cmp (half_of e) (half_of f)
    one_half = ap (λ n. nat_cmp n (half_of f)) tied.0

    by : (o : Ordering) → nat_cmp (half_of e) (half_of f) ≡ o
        → MatchOrdering o (half_of e < half_of f) (half_of e ≡ half_of f) (half_of f < half_of e)
        → clockwise_cmp d f ≡ clockwise_cmp e f
    by Less p r =
        ap (λ o. ordering_then o (int_cmp (cross_of d f) (pos 0))) (one_half ∙ p)
        ∙ sym (ap (λ o. ordering_then o (int_cmp (cross_of e f) (pos 0))) p)
    by Greater p r =
        ap (λ o. ordering_then o (int_cmp (cross_of d f) (pos 0))) (one_half ∙ p)
        ∙ sym (ap (λ o. ordering_then o (int_cmp (cross_of e f) (pos 0))) p)
    by Equal p r =
        let w = balanced d e f tied.0 r in
        let none : w.lf *ℤ cross_of d e ≡ pos 0 = ap (λ z. w.lf *ℤ z) tied.1 ∙ omega (arith, ints) in
        let alike : w.le *ℤ cross_of d f ≡ w.ld *ℤ cross_of e f = omega (arith, ints, w.balance, none) in
        λ i. ordering_then (one_half i)
        (same_sign w.le w.ld (cross_of d f) (cross_of e f) w.positive_e w.positive_d alike i)

-- directions are totally ordered
pub clockwise_total : IsTotalOrder clockwise_cmp
clockwise_total = record { antisymm = clockwise_antisymm; trans = clockwise_trans; congr = clockwise_congr }

-- ---- points around a point

-- the points around v are totally ordered
pub around_total : (v : Point) → IsTotalOrder (around_cmp v)
around_total v = then_total (on_total (λ (u : Point). minus u v) clockwise_total) point_total

-- and only equal points are tied
pub around_exact : (v u w : Point) → around_cmp v u w ≡ Equal → u ≡ w
around_exact v u w h = point_exact u w (last_tied (clockwise_cmp (minus u v) (minus w v)) (point_cmp u w) h)
  where
    last_tied : (o r : Ordering) → ordering_then o r ≡ Equal → r ≡ Equal
    last_tied Less r e = absurd (cc e)
    last_tied Equal r e = e
    last_tied Greater r e = absurd (cc e)

-- ---- half-edges around their starts

module _ {X A B : Type 0} (f : X → A) (t : X → B) {R : A → A → Ordering} {S : A → B → B → Ordering}
    (o : IsTotalOrder R) (exact : CmpEqualImpliesEq R) (each : (a : A) → IsTotalOrder (S a)) where
  abbrev lex : X → X → Ordering
  lex g h = ordering_then (R (f g) (f h)) (S (f g) (t g) (t h))

  lex_antisymm : (g h : X) → lex g h ≡ ordering_reverse (lex h g)
  lex_antisymm g h = by (R (f h) (f g)) refl
    where
      by : (r : Ordering) → R (f h) (f g) ≡ r → lex g h ≡ ordering_reverse (lex h g)
      by Less e =
          ap (λ r. ordering_then r (S (f g) (t g) (t h))) (o.antisymm (f g) (f h) ∙ ap ordering_reverse e)
          ∙ sym (ap (λ r. ordering_reverse (ordering_then r (S (f h) (t h) (t g)))) e)
      by Greater e =
          ap (λ r. ordering_then r (S (f g) (t g) (t h))) (o.antisymm (f g) (f h) ∙ ap ordering_reverse e)
          ∙ sym (ap (λ r. ordering_reverse (ordering_then r (S (f h) (t h) (t g)))) e)
      by Equal e =
          ap (λ r. ordering_then r (S (f g) (t g) (t h))) (o.antisymm (f g) (f h) ∙ ap ordering_reverse e)
          ∙ (each (f g)).antisymm (t g) (t h)
          ∙ ap (λ a. ordering_reverse (S a (t h) (t g))) (sym (exact (f h) (f g) e))
          ∙ sym (ap (λ r. ordering_reverse (ordering_then r (S (f h) (t h) (t g)))) e)

  lex_trans : (g h k : X) → lex g h ≡ Less → lex h k ≡ Less → lex g k ≡ Less
  lex_trans g h k p q = by (R (f g) (f h)) (R (f h) (f k)) refl refl
    where
      by : (r s : Ordering) → R (f g) (f h) ≡ r → R (f h) (f k) ≡ s → lex g k ≡ Less
      by Less Less d e = ap (λ r. ordering_then r (S (f g) (t g) (t k))) (o.trans (f g) (f h) (f k) d e)
      by Less Equal d e =
          ap (λ r. ordering_then r (S (f g) (t g) (t k))) (sym (alike_right o (f h) (f k) (f g) e) ∙ d)
      by Equal Less d e = ap (λ r. ordering_then r (S (f g) (t g) (t k))) (o.congr (f g) (f h) (f k) d ∙ e)
      by Equal Equal d e =
          ap (λ r. ordering_then r (S (f g) (t g) (t k))) (o.congr (f g) (f h) (f k) d ∙ e)
          ∙ (each (f g)).trans (t g) (t h) (t k)
          (sym (ap (λ r. ordering_then r (S (f g) (t g) (t h))) d) ∙ p)
          (ap (λ a. S a (t h) (t k)) (exact (f g) (f h) d)
          ∙ sym (ap (λ r. ordering_then r (S (f h) (t h) (t k))) e) ∙ q)
      by Greater s d e = absurd (cc (sym (ap (λ r. ordering_then r (S (f g) (t g) (t h))) d) ∙ p))
      by Less Greater d e = absurd (cc (sym (ap (λ r. ordering_then r (S (f h) (t h) (t k))) e) ∙ q))
      by Equal Greater d e = absurd (cc (sym (ap (λ r. ordering_then r (S (f h) (t h) (t k))) e) ∙ q))

  both_tied : (g h : X) → lex g h ≡ Equal → (f g ≡ f h) × (S (f g) (t g) (t h) ≡ Equal)
  both_tied g h p = by (R (f g) (f h)) refl p
    where
      by : (r : Ordering) → R (f g) (f h) ≡ r → ordering_then r (S (f g) (t g) (t h)) ≡ Equal
          → (f g ≡ f h) × (S (f g) (t g) (t h) ≡ Equal)
      by Less d e = absurd (cc e)
      by Equal d e = (exact (f g) (f h) d, e)
      by Greater d e = absurd (cc e)

  lex_congr : (g h k : X) → lex g h ≡ Equal → lex g k ≡ lex h k
  lex_congr g h k p =
      let tied = both_tied g h p in
      ap (λ s. ordering_then (R (f g) (f k)) s) ((each (f g)).congr (t g) (t h) (t k) tied.1)
      ∙ ap (λ a. ordering_then (R a (f k)) (S a (t h) (t k))) tied.0

  lex_total : IsTotalOrder (λ g h. ordering_then (R (f g) (f h)) (S (f g) (t g) (t h)))
  lex_total = record { antisymm = lex_antisymm; trans = lex_trans; congr = lex_congr }

-- half-edges are totally ordered around their starts
pub spoke_total : IsTotalOrder spoke_cmp
spoke_total = lex_total (λ (h : HalfEdge). h.origin) (λ h. h.target) point_total point_exact around_total

-- and only equal ones are tied
pub spoke_exact : CmpEqualImpliesEq spoke_cmp
spoke_exact g h e =
    let tied = both_tied (λ (k : HalfEdge). k.origin) (λ k. k.target) point_total point_exact around_total g h e in
    let target : g.target ≡ h.target = around_exact g.origin g.target h.target tied.1 in
    λ i. record { origin = tied.0 i; target = target i }
