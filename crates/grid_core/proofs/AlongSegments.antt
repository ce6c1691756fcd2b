-- Of two different pixels that a segment meets, the one met further along has the greater product
-- with the direction d. Let the point at a / b lie in pixel g, and that at a' / b' in pixel h. How
-- far the two are from their centres, taken together (`offsets`), is
-- 2 (b' a - b a') d + 2 b b' (h - g), and it is below 2 b b' in size in each coordinate. A number
-- below B in size, times a whole k that isn't 0, is below B k². So the product of the offsets with
-- h - g is below 2 b b' times the square of h - g, and (b' a - b a') (d · (h - g)) is below 0.

use Rattle.std.proofs.Common.{◌≡◌, refl, ap, ◌∙◌, arith, [], ◌∷◌, IsTrue, inl, inr, ⊎_elim}
use Rattle.std.proofs.Common.{Ordering, Less, Equal, Greater}
use Rattle.std.specs.Prelude.{ℤ, pos, neg_ℤ, ◌+ℤ◌, ◌-ℤ◌, ◌*ℤ◌, ◌≤ℤ◌, ◌<ℤ◌, ◌⊎◌}
use Rattle.grid_core.proofs.Signed.{signed}
use Rattle.grid_core.proofs.Ring.{int_mul-le_left, int_mul-lt_left, int_mul-lt_right, int_mul_pos}
use Rattle.grid_core.proofs.Ring.{int_lt_or_le, int_zero-mul, int_one-mul, int_add-mul, int_sub-mul}
use Rattle.grid_core.proofs.Ring.{int_mul_comm, int_mul_nonpos_nonneg, int_neg-mul, int_mul-neg}
use Rattle.grid_core.proofs.Polynomial.{V, K, ◌⊕◌, ◌⊖◌, ◌⊗◌, same_polynomial}
use Rattle.grid_core.proofs.MeetingPoint.{meets_where_a_point_lies}
use Rattle.grid_core.proofs.Order.{point_exact, point_less, point_greater}
use Rattle.grid_core.specs.declared.point.Point.{Point}
use Rattle.grid_core.specs.Vector.{dot_of, point_cmp}
use Rattle.grid_core.specs.Segment.{Segment, direction}
use Rattle.grid_core.specs.Meets.{box_of, meets_pixel_of}
use Rattle.grid_core.specs.Crossing.{point_along}
use Rattle.grid_core.specs.Laws.{IsFromTo, IsInBox, HasPointIn}

-- ---- below a square

-- k is 0, and so are both products, or e k is below B times the square of k
BelowSquare : ℤ → ℤ → ℤ → Type 0
BelowSquare B e k = ((k ≡ pos 0) × (e *ℤ k ≡ pos 0) × (B *ℤ (k *ℤ k) ≡ pos 0)) ⊎ ((e *ℤ k) <ℤ (B *ℤ (k *ℤ k)))

below_square_up : (B e k : ℤ) → pos 0 <ℤ B → e <ℤ B → pos 0 <ℤ k → (e *ℤ k) <ℤ (B *ℤ (k *ℤ k))
below_square_up B e k some h p =
    let first = int_mul-lt_right e B k p h in
    let square = int_mul-le_left k (pos 1) k (omega (arith, signed, p)) (omega (arith, signed, p)) in
    let grown : k ≤ℤ (k *ℤ k) = omega (arith, signed, square) in
    let second = int_mul-le_left B k (k *ℤ k) (omega (arith, signed, some)) grown in
    omega (arith, signed, first, second)

below_square_down : (B e k : ℤ) → pos 0 <ℤ B → neg_ℤ B <ℤ e → k <ℤ pos 0 → (e *ℤ k) <ℤ (B *ℤ (k *ℤ k))
below_square_down B e k some h p =
    let turned = below_square_up B (neg_ℤ e) (neg_ℤ k) some (omega (arith, signed, h)) (omega (arith, signed, p)) in
    let one : neg_ℤ e *ℤ neg_ℤ k ≡ e *ℤ k = omega (arith, signed, int_neg-mul e (neg_ℤ k), int_mul-neg e k) in
    let two : B *ℤ (neg_ℤ k *ℤ neg_ℤ k) ≡ B *ℤ (k *ℤ k) =
    ap (λ n. B *ℤ n) (omega (arith, signed, int_neg-mul k (neg_ℤ k), int_mul-neg k k)) in
    omega (arith, signed, turned, one, two)

below_square : (B e k : ℤ) → pos 0 <ℤ B → neg_ℤ B <ℤ e → e <ℤ B → BelowSquare B e k
unfolding BelowSquare
below_square B e k some low high = by (int_lt_or_le (pos 0) k) (int_lt_or_le k (pos 0))
  where
    none : k ≡ pos 0 → (k ≡ pos 0) × (e *ℤ k ≡ pos 0) × (B *ℤ (k *ℤ k) ≡ pos 0)
    none z = (
      z,
      ap (λ n. e *ℤ n) z ∙ int_mul_comm e (pos 0) ∙ int_zero-mul e,
      ap (λ n. B *ℤ (n *ℤ n)) z ∙ int_mul_comm B (pos 0) ∙ int_zero-mul B,
    )

    by : (pos 0 <ℤ k) ⊎ (k ≤ℤ pos 0) → (k <ℤ pos 0) ⊎ (pos 0 ≤ℤ k)
        → ((k ≡ pos 0) × (e *ℤ k ≡ pos 0) × (B *ℤ (k *ℤ k) ≡ pos 0)) ⊎ ((e *ℤ k) <ℤ (B *ℤ (k *ℤ k)))
    by (inl p) q = inr (below_square_up B e k some high p)
    by (inr p) (inl q) = inr (below_square_down B e k some low q)
    by (inr p) (inr q) = inl (none (omega (arith, signed, p, q)))

-- in two coordinates that aren't both 0
below_squares : (B e f k l : ℤ) → BelowSquare B e k → BelowSquare B f l → (k ≡ pos 0 → l ≡ pos 0 → ⊥)
    → (e *ℤ k +ℤ f *ℤ l) <ℤ (B *ℤ (k *ℤ k) +ℤ B *ℤ (l *ℤ l))
unfolding BelowSquare
below_squares B e f k l (inl p) (inl q) apart = absurd (apart p.0 q.0)
below_squares B e f k l (inl p) (inr q) apart = omega (arith, signed, p.1, p.2, q)
below_squares B e f k l (inr p) (inl q) apart = omega (arith, signed, p, q.1, q.2)
below_squares B e f k l (inr p) (inr q) apart = omega (arith, signed, p, q)

-- ---- one coordinate

-- twice how far the first point is from its centre, less the same of the second, times b b'
offsets : (p d g h a b a' b' : ℤ) → ℤ
offsets p d g h a b a' b' = b' *ℤ (pos 2 *ℤ (p *ℤ b +ℤ a *ℤ d) -ℤ pos 2 *ℤ g *ℤ b)
    -ℤ b *ℤ (pos 2 *ℤ (p *ℤ b' +ℤ a' *ℤ d) -ℤ pos 2 *ℤ h *ℤ b')

offsets_are : (p d g h a b a' b' : ℤ)
    → offsets p d g h a b a' b' ≡ pos 2 *ℤ ((b' *ℤ a -ℤ b *ℤ a') *ℤ d +ℤ (b *ℤ b') *ℤ (h -ℤ g))
unfolding offsets
offsets_are p d g h a b a' b' =
    same_polynomial (p ∷ d ∷ g ∷ h ∷ a ∷ b ∷ a' ∷ b' ∷ [])
    (V 7 ⊗ (K (pos 2) ⊗ (V 0 ⊗ V 5 ⊕ V 4 ⊗ V 1) ⊖ K (pos 2) ⊗ V 2 ⊗ V 5)
    ⊖ V 5 ⊗ (K (pos 2) ⊗ (V 0 ⊗ V 7 ⊕ V 6 ⊗ V 1) ⊖ K (pos 2) ⊗ V 3 ⊗ V 7))
    (K (pos 2) ⊗ ((V 7 ⊗ V 4 ⊖ V 5 ⊗ V 6) ⊗ V 1 ⊕ (V 5 ⊗ V 7) ⊗ (V 3 ⊖ V 2))) refl

-- a coordinate in pixel g is half of a pixel to the left of its centre, at most, and less than half to the right
around : (n g b : ℤ) → IsFromTo g g n b
    → (neg_ℤ b ≤ℤ (pos 2 *ℤ n -ℤ pos 2 *ℤ g *ℤ b)) × ((pos 2 *ℤ n -ℤ pos 2 *ℤ g *ℤ b) <ℤ b)
around n g b w =
    let low = w.low in
    let high = w.high in
    let less = int_sub-mul (pos 2 *ℤ g) (pos 1) b in
    let more = int_add-mul (pos 2 *ℤ g) (pos 1) b in
    let one = int_one-mul b in
    (omega (arith, signed, low, less, one), omega (arith, signed, high, more, one))

-- two such numbers, each times the other's denominator, differ by less than twice the product of the denominators
between_two : (b b' u u' : ℤ) → pos 0 <ℤ b → pos 0 <ℤ b' → neg_ℤ b ≤ℤ u → u <ℤ b → neg_ℤ b' ≤ℤ u' → u' <ℤ b'
    → (neg_ℤ (pos 2 *ℤ (b *ℤ b')) <ℤ (b' *ℤ u -ℤ b *ℤ u')) × ((b' *ℤ u -ℤ b *ℤ u') <ℤ (pos 2 *ℤ (b *ℤ b')))
between_two b b' u u' some some' low high low' high' =
    let first = int_mul-lt_left b' u b some' high in
    let second = int_mul-le_left b' (neg_ℤ b) u (omega (arith, signed, some')) low in
    let third = int_mul-lt_left b u' b' some high' in
    let fourth = int_mul-le_left b (neg_ℤ b') u' (omega (arith, signed, some)) low' in
    let turned = int_mul_comm b' b in
    let minus = int_mul-neg b' b in
    let minus' = int_mul-neg b b' in
    (omega (arith, signed, second, third, turned, minus), omega (arith, signed, first, fourth, turned, minus'))

offsets_within : (p d g h a b a' b' : ℤ) → pos 0 <ℤ b → pos 0 <ℤ b'
    → IsFromTo g g (p *ℤ b +ℤ a *ℤ d) b → IsFromTo h h (p *ℤ b' +ℤ a' *ℤ d) b'
    → (neg_ℤ (pos 2 *ℤ (b *ℤ b')) <ℤ offsets p d g h a b a' b') × (offsets p d g h a b a' b' <ℤ (pos 2 *ℤ (b *ℤ b')))
unfolding offsets
offsets_within p d g h a b a' b' some some' w w' =
    let u = around (p *ℤ b +ℤ a *ℤ d) g b w in
    let u' = around (p *ℤ b' +ℤ a' *ℤ d) h b' w' in
    between_two b b' _ _ some some' u.0 u.1 u'.0 u'.1

-- ---- both coordinates

-- the two offsets along h - g
offsets_along : (m b dx dy gx gy hx hy : ℤ)
    → (pos 2 *ℤ (m *ℤ dx +ℤ b *ℤ (hx -ℤ gx))) *ℤ (hx -ℤ gx) +ℤ (pos 2 *ℤ (m *ℤ dy +ℤ b *ℤ (hy -ℤ gy))) *ℤ (hy -ℤ gy)
    ≡ pos 2 *ℤ (m *ℤ ((hx *ℤ dx +ℤ hy *ℤ dy) -ℤ (gx *ℤ dx +ℤ gy *ℤ dy)))
    +ℤ ((pos 2 *ℤ b) *ℤ ((hx -ℤ gx) *ℤ (hx -ℤ gx)) +ℤ (pos 2 *ℤ b) *ℤ ((hy -ℤ gy) *ℤ (hy -ℤ gy)))
offsets_along m b dx dy gx gy hx hy =
    same_polynomial (m ∷ b ∷ dx ∷ dy ∷ gx ∷ gy ∷ hx ∷ hy ∷ [])
    ((K (pos 2) ⊗ (V 0 ⊗ V 2 ⊕ V 1 ⊗ (V 6 ⊖ V 4))) ⊗ (V 6 ⊖ V 4)
    ⊕ (K (pos 2) ⊗ (V 0 ⊗ V 3 ⊕ V 1 ⊗ (V 7 ⊖ V 5))) ⊗ (V 7 ⊖ V 5))
    (K (pos 2) ⊗ (V 0 ⊗ ((V 6 ⊗ V 2 ⊕ V 7 ⊗ V 3) ⊖ (V 4 ⊗ V 2 ⊕ V 5 ⊗ V 3)))
    ⊕ ((K (pos 2) ⊗ V 1) ⊗ ((V 6 ⊖ V 4) ⊗ (V 6 ⊖ V 4)) ⊕ (K (pos 2) ⊗ V 1) ⊗ ((V 7 ⊖ V 5) ⊗ (V 7 ⊖ V 5)))) refl

-- the pixel of the point that is further along has the greater product: the two differences have one sign
pub product_rises : (s : Segment) (g h : Point) (a b a' b' : ℤ) → pos 0 <ℤ b → pos 0 <ℤ b'
    → IsInBox (box_of g) (point_along s a b) → IsInBox (box_of h) (point_along s a' b')
    → (h.x -ℤ g.x ≡ pos 0 → h.y -ℤ g.y ≡ pos 0 → ⊥)
    → ((b' *ℤ a -ℤ b *ℤ a') *ℤ (dot_of h (direction s) -ℤ dot_of g (direction s))) <ℤ pos 0
product_rises s g h a b a' b' some some' w w' apart =
    let positive : pos 0 <ℤ (pos 2 *ℤ (b *ℤ b')) =
    int_mul_pos (pos 2) (b *ℤ b') (omega (arith, signed)) (int_mul_pos b b' some some') in
    let x = offsets_within s.p.x (direction s).x g.x h.x a b a' b' some some' w.x w'.x in
    let y = offsets_within s.p.y (direction s).y g.y h.y a b a' b' some some' w.y w'.y in
    let below =
    below_squares (pos 2 *ℤ (b *ℤ b')) _ _ (h.x -ℤ g.x) (h.y -ℤ g.y)
    (below_square (pos 2 *ℤ (b *ℤ b')) _ (h.x -ℤ g.x) positive x.0 x.1)
    (below_square (pos 2 *ℤ (b *ℤ b')) _ (h.y -ℤ g.y) positive y.0 y.1) apart in
    let ex = ap (λ n. n *ℤ (h.x -ℤ g.x)) (offsets_are s.p.x (direction s).x g.x h.x a b a' b') in
    let ey = ap (λ n. n *ℤ (h.y -ℤ g.y)) (offsets_are s.p.y (direction s).y g.y h.y a b a' b') in
    let sum = offsets_along (b' *ℤ a -ℤ b *ℤ a') (b *ℤ b') (direction s).x (direction s).y g.x g.y h.x h.y in
    omega (arith, signed, below, ex, ey, sum)

-- ---- pixels that a segment meets

-- two points are one, or their coordinates don't both agree
same_or_apart : (g h : Point) → (g ≡ h) ⊎ (h.x -ℤ g.x ≡ pos 0 → h.y -ℤ g.y ≡ pos 0 → ⊥)
same_or_apart g h = by (point_cmp g h) refl
  where
    by : (o : Ordering) → point_cmp g h ≡ o → (g ≡ h) ⊎ (h.x -ℤ g.x ≡ pos 0 → h.y -ℤ g.y ≡ pos 0 → ⊥)
    by Less e = inr (λ x y. absurd (omega (arith, signed, x, y, point_less g h e)))
    by Equal e = inl (point_exact g h e)
    by Greater e = inr (λ x y. absurd (omega (arith, signed, x, y, point_less h g (point_greater g h e))))

-- two pixels that s meets and that have one product with its direction are one pixel
pub one_product : (s : Segment) (g h : Point) → IsTrue (meets_pixel_of s g) → IsTrue (meets_pixel_of s h)
    → dot_of g (direction s) ≡ dot_of h (direction s) → g ≡ h
one_product s g h m n e = by ((meets_where_a_point_lies s (box_of g)).0 m) ((meets_where_a_point_lies s (box_of h)).0 n)
  where
    by : HasPointIn s (box_of g) → HasPointIn s (box_of h) → g ≡ h
    by w v =
        ⊎_elim (λ (same : g ≡ h). same)
        (λ (apart : h.x -ℤ g.x ≡ pos 0 → h.y -ℤ g.y ≡ pos 0 → ⊥).
        let rises =
        product_rises s g h (pos w.a) (pos w.b) (pos v.a) (pos v.b)
        (omega (arith, signed, w.whole)) (omega (arith, signed, v.whole)) w.inside v.inside
        apart in
        let level = ap (λ n. (pos v.b *ℤ pos w.a -ℤ pos w.b *ℤ pos v.a) *ℤ (dot_of h (direction s) -ℤ n)) e in
        let none = ap (λ n. (pos v.b *ℤ pos w.a -ℤ pos w.b *ℤ pos v.a) *ℤ n) (nothing (dot_of h (direction s))) in
        let zero = int_mul_comm (pos v.b *ℤ pos w.a -ℤ pos w.b *ℤ pos v.a) (pos 0) in
        let gone = int_zero-mul (pos v.b *ℤ pos w.a -ℤ pos w.b *ℤ pos v.a) in
        absurd (omega (arith, signed, rises, level, none, zero, gone)))
        (same_or_apart g h)
      where
        nothing : (n : ℤ) → n -ℤ n ≡ pos 0
        nothing n = omega (arith, signed)

-- a coordinate at the start and at the end
at_start : (p d : ℤ) → p *ℤ pos 1 +ℤ pos 0 *ℤ d ≡ p
at_start p d = same_polynomial (p ∷ d ∷ []) (V 0 ⊗ K (pos 1) ⊕ K (pos 0) ⊗ V 1) (V 0) refl

at_end : (p q : ℤ) → p *ℤ pos 1 +ℤ pos 1 *ℤ (q -ℤ p) ≡ q
at_end p q = same_polynomial (p ∷ q ∷ []) (V 0 ⊗ K (pos 1) ⊕ K (pos 1) ⊗ (V 1 ⊖ V 0)) (V 1) refl

-- a whole coordinate lies in its own pixel
centred : (n g : ℤ) → n ≡ g → IsFromTo g g n (pos 1)
centred n g e = record { low = omega (arith, signed, e); high = omega (arith, signed, e) }

-- p lies in its own pixel, and q in its own
starts_in_p : (s : Segment) → HasPointIn s (box_of s.p)
starts_in_p s =
    record {
      a = 0;
      b = 1;
      part = omega arith;
      whole = omega arith;
      inside = record {
        x = centred _ s.p.x (at_start s.p.x (direction s).x);
        y = centred _ s.p.y
            (at_start s.p.y (direction s).y);
      };
    }

ends_in_q : (s : Segment) → HasPointIn s (box_of s.q)
ends_in_q s =
    record {
      a = 1;
      b = 1;
      part = omega arith;
      whole = omega arith;
      inside = record { x = centred _ s.q.x (at_end s.p.x s.q.x); y = centred _ s.q.y (at_end s.p.y s.q.y) };
    }

-- s meets the pixel of p, and that of q
pub meets_p : (s : Segment) → IsTrue (meets_pixel_of s s.p)
meets_p s = (meets_where_a_point_lies s (box_of s.p)).1 (starts_in_p s)

pub meets_q : (s : Segment) → IsTrue (meets_pixel_of s s.q)
meets_q s = (meets_where_a_point_lies s (box_of s.q)).1 (ends_in_q s)

-- n is above 0 where its product with a number that isn't negative is above 0
rises_by : (c n : ℤ) → pos 0 ≤ℤ c → (pos 0 -ℤ n *ℤ c) <ℤ pos 0 → pos 0 <ℤ n
rises_by c n h k =
    ⊎_elim (λ (l : pos 0 <ℤ n). l)
    (λ (l : n ≤ℤ pos 0). absurd (let p = int_mul_nonpos_nonneg n c l h in omega (arith, signed, k, p)))
    (int_lt_or_le (pos 0) n)

-- every other pixel that s meets has a greater product than p
pub beyond_p : (s : Segment) (h : Point) → IsTrue (meets_pixel_of s h)
    → (s.p ≡ h) ⊎ (dot_of s.p (direction s) <ℤ dot_of h (direction s))
unfolding starts_in_p
beyond_p s h m = by ((meets_where_a_point_lies s (box_of h)).0 m) (same_or_apart s.p h)
  where
    from_start : (a b n : ℤ) → (b *ℤ pos 0 -ℤ pos 1 *ℤ a) *ℤ n ≡ pos 0 -ℤ n *ℤ a
    from_start a b n = same_polynomial (a ∷ b ∷ n ∷ []) ((V 1 ⊗ K (pos 0) ⊖ K (pos 1) ⊗ V 0) ⊗ V 2)
        (K (pos 0) ⊖ V 2 ⊗ V 0) refl

    by : HasPointIn s (box_of h) → (s.p ≡ h) ⊎ (h.x -ℤ s.p.x ≡ pos 0 → h.y -ℤ s.p.y ≡ pos 0 → ⊥)
        → (s.p ≡ h) ⊎ (dot_of s.p (direction s) <ℤ dot_of h (direction s))
    by w (inl same) = inl same
    by w (inr apart) =
        let rises =
        product_rises s s.p h (pos 0) (pos 1) (pos w.a) (pos w.b) (omega (arith, signed))
        (omega (arith, signed, w.whole)) (starts_in_p s).inside w.inside apart in
        let turned = from_start (pos w.a) (pos w.b) (dot_of h (direction s) -ℤ dot_of s.p (direction s)) in
        let above =
        rises_by (pos w.a) (dot_of h (direction s) -ℤ dot_of s.p (direction s))
        (omega (arith, signed)) (omega (arith, signed, rises, turned)) in
        inr (omega (arith, signed, above))

-- every other pixel that s meets has a lesser product than q
pub short_of_q : (s : Segment) (h : Point) → IsTrue (meets_pixel_of s h)
    → (h ≡ s.q) ⊎ (dot_of h (direction s) <ℤ dot_of s.q (direction s))
unfolding ends_in_q
short_of_q s h m = by ((meets_where_a_point_lies s (box_of h)).0 m) (same_or_apart h s.q)
  where
    to_end : (a b n : ℤ) → (pos 1 *ℤ a -ℤ b *ℤ pos 1) *ℤ n ≡ pos 0 -ℤ n *ℤ (b -ℤ a)
    to_end a b n = same_polynomial (a ∷ b ∷ n ∷ []) ((K (pos 1) ⊗ V 0 ⊖ V 1 ⊗ K (pos 1)) ⊗ V 2)
        (K (pos 0) ⊖ V 2 ⊗ (V 1 ⊖ V 0)) refl

    by : HasPointIn s (box_of h) → (h ≡ s.q) ⊎ (s.q.x -ℤ h.x ≡ pos 0 → s.q.y -ℤ h.y ≡ pos 0 → ⊥)
        → (h ≡ s.q) ⊎ (dot_of h (direction s) <ℤ dot_of s.q (direction s))
    by w (inl same) = inl same
    by w (inr apart) =
        let rises =
        product_rises s h s.q (pos w.a) (pos w.b) (pos 1) (pos 1)
        (omega (arith, signed, w.whole)) (omega (arith, signed)) w.inside (ends_in_q s).inside
        apart in
        let turned = to_end (pos w.a) (pos w.b) (dot_of s.q (direction s) -ℤ dot_of h (direction s)) in
        let above =
        rises_by (pos w.b -ℤ pos w.a) (dot_of s.q (direction s) -ℤ dot_of h (direction s))
        (omega (arith, signed, w.part)) (omega (arith, signed, rises, turned)) in
        inr (omega (arith, signed, above))
