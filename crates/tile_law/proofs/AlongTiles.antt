-- The order along a segment, by place. Of two different pixels that a segment meets the one of
-- the greater product isn't to the left of the other, and isn't below it where the segment rises,
-- nor above it where the segment falls: the points of the segment that lie in them stand so.

use Rattle.std.proofs.Common.{◌≡◌, refl, ap, sym, subst, ◌∙◌, arith, [], ◌∷◌, IsTrue, ⊎_elim}
use Rattle.std.proofs.Common.{Bool, true, false, Ordering, Less, Equal, Greater, is_lt}
use Rattle.std.specs.Prelude.{◌<◌, ℤ, pos, ◌+ℤ◌, ◌-ℤ◌, ◌*ℤ◌, ◌≤ℤ◌, ◌<ℤ◌, if◌then◌else◌}
use Rattle.std.specs.Cmp.{int_cmp_is}
use Rattle.std.specs.Ordering.{int_cmp, ordering_then, ordering_reverse, MatchOrdering}
use Rattle.std.proofs.lemmas.Cmp.{int_ranked, tied_itself}
use Rattle.std.proofs.lemmas.Map.Lookups.{exact_signed}
use Rattle.grid_core.specs.declared.point.Point.{Point}
use Rattle.grid_core.specs.Vector.{dot_of, point_cmp}
use Rattle.grid_core.specs.Profile.{Sizes}
use Rattle.grid_core.specs.Segment.{Segment, direction}
use Rattle.grid_core.specs.Meets.{box_of, meets_pixel_of}
use Rattle.grid_core.specs.Rounding.{along_cmp}
use Rattle.grid_core.specs.Tiles.{tile_of, falls, along_tile_cmp}
use Rattle.grid_core.specs.Laws.{IsFromTo, HasPointIn}
use Rattle.tile_law.specs.Laws.{place_cmp}
use Rattle.grid_core.proofs.Signed.{signed, from_lt_true, from_lt_false}
use Rattle.grid_core.proofs.Ring.{int_mul-le_left, int_mul-lt_left, int_lt_of_mul, int_lt_or_le}
use Rattle.grid_core.proofs.Ring.{int_mul_comm, int_mul_nonpos_nonneg, int_mul_pos, int_mul_nonneg}
use Rattle.grid_core.proofs.Polynomial.{V, K, ◌⊕◌, ◌⊖◌, ◌⊗◌, same_polynomial}
use Rattle.grid_core.proofs.Order.{point_less}
use Rattle.grid_core.proofs.AlongSegments.{product_rises, one_product}
use Rattle.grid_core.proofs.MeetingPoint.{meets_where_a_point_lies}
use Rattle.grid_core.proofs.RouteOrder.{along_total}
use Rattle.grid_core.proofs.Quotients.{floor_rises}
use Rattle.grid_core.proofs.TileOrder.{along_tile_total}

-- ---- one coordinate

-- where n / b isn't beyond n' / b', the first number of a range that has the one isn't beyond the
-- last number of a range that has the other
pub not_beyond : (lo hi low high n n' b b' : ℤ) → pos 0 <ℤ b → pos 0 <ℤ b' → (b' *ℤ n) ≤ℤ (b *ℤ n')
    → IsFromTo lo hi n b → IsFromTo low high n' b' → lo ≤ℤ high
not_beyond lo hi low high n n' b b' some some' order w v =
    let first = int_mul-le_left b' ((pos 2 *ℤ lo -ℤ pos 1) *ℤ b) (pos 2 *ℤ n) (omega (arith, signed, some')) w.low in
    let second = int_mul-lt_left b (pos 2 *ℤ n') ((pos 2 *ℤ high +ℤ pos 1) *ℤ b') some v.high in
    let fewer = twice_times b' n in
    let more = twice_times b n' in
    let left = regrouped b' b (pos 2 *ℤ lo -ℤ pos 1) in
    let right = regrouped b b' (pos 2 *ℤ high +ℤ pos 1) in
    let turned = ap (λ m. m *ℤ (pos 2 *ℤ lo -ℤ pos 1)) (int_mul_comm b' b) in
    let less = int_lt_of_mul (b *ℤ b') (pos 2 *ℤ lo -ℤ pos 1) (pos 2 *ℤ high +ℤ pos 1)
    (int_mul_pos b b' some some')
    (omega (arith, signed, first, second, order, fewer, more, left, right, turned)) in
    omega (arith, signed, less)
  where
    twice_times : (m n : ℤ) → m *ℤ (pos 2 *ℤ n) ≡ pos 2 *ℤ (m *ℤ n)
    twice_times m n = same_polynomial (m ∷ n ∷ []) (V 0 ⊗ (K (pos 2) ⊗ V 1)) (K (pos 2) ⊗ (V 0 ⊗ V 1)) refl

    regrouped : (m n c : ℤ) → m *ℤ (c *ℤ n) ≡ (m *ℤ n) *ℤ c
    regrouped m n c = same_polynomial (m ∷ n ∷ c ∷ []) (V 0 ⊗ (V 2 ⊗ V 1)) ((V 0 ⊗ V 1) ⊗ V 2) refl

-- how far two points of a segment are apart in one coordinate, times the denominators
pub difference : (p d a b a' b' : ℤ)
    → b *ℤ (p *ℤ b' +ℤ a' *ℤ d) -ℤ b' *ℤ (p *ℤ b +ℤ a *ℤ d) ≡ (b *ℤ a' -ℤ b' *ℤ a) *ℤ d
difference p d a b a' b' =
    same_polynomial (p ∷ d ∷ a ∷ b ∷ a' ∷ b' ∷ [])
    (V 3 ⊗ (V 0 ⊗ V 5 ⊕ V 4 ⊗ V 1) ⊖ V 5 ⊗ (V 0 ⊗ V 3 ⊕ V 2 ⊗ V 1)) ((V 3 ⊗ V 4 ⊖ V 5 ⊗ V 2) ⊗ V 1) refl

-- ---- two pixels

-- the second pixel isn't to the left of the first, and not on the other side of it than the
-- segment's way up or down
pub record IsPast (s : Segment) (g h : Point) : Type 0 where
  pub right : s.p.x ≤ℤ s.q.x → g.x ≤ℤ h.x
  pub up : s.p.y ≤ℤ s.q.y → g.y ≤ℤ h.y
  pub down : s.q.y ≤ℤ s.p.y → h.y ≤ℤ g.y

-- of two pixels that s meets the one of the greater product is past the other
pub past : (s : Segment) (g h : Point) → IsTrue (meets_pixel_of s g) → IsTrue (meets_pixel_of s h)
    → dot_of g (direction s) <ℤ dot_of h (direction s) → IsPast s g h
past s g h m n less = by ((meets_where_a_point_lies s (box_of g)).0 m) ((meets_where_a_point_lies s (box_of h)).0 n)
  where
    by : HasPointIn s (box_of g) → HasPointIn s (box_of h) → IsPast s g h
    by w v =
        record {
          right = λ l.
              not_beyond g.x g.x h.x h.x _ _ (pos w.b) (pos v.b) some some'
              (let part = int_mul_nonneg farther (s.q.x -ℤ s.p.x) later (omega (arith, signed, l)) in
              omega (arith, signed, part, difference s.p.x (direction s).x (pos w.a) (pos w.b) (pos v.a) (pos v.b)))
              w.inside.x v.inside.x;
          up = λ l.
              not_beyond g.y g.y h.y h.y _ _ (pos w.b) (pos v.b) some some'
              (let part = int_mul_nonneg farther (s.q.y -ℤ s.p.y) later (omega (arith, signed, l)) in
              omega (arith, signed, part, difference s.p.y (direction s).y (pos w.a) (pos w.b) (pos v.a) (pos v.b)))
              w.inside.y v.inside.y;
          down = λ l.
              not_beyond h.y h.y g.y g.y _ _ (pos v.b) (pos w.b) some' some
              (let part = int_mul_nonpos_nonneg (s.q.y -ℤ s.p.y) farther (omega (arith, signed, l)) later in
              omega (
                arith,
                signed,
                part,
                int_mul_comm (s.q.y -ℤ s.p.y) farther,
                difference s.p.y (direction s).y (pos w.a) (pos w.b) (pos v.a) (pos v.b),
              ))
              v.inside.y w.inside.y;
        }
      where
        some : pos 0 <ℤ pos w.b
        some = omega (arith, signed, w.whole)

        some' : pos 0 <ℤ pos v.b
        some' = omega (arith, signed, v.whole)

        farther : ℤ
        farther = pos w.b *ℤ pos v.a -ℤ pos v.b *ℤ pos w.a

        apart : h.x -ℤ g.x ≡ pos 0 → h.y -ℤ g.y ≡ pos 0 → ⊥
        apart x y =
            let one : dot_of g (direction s) ≡ dot_of h (direction s) = λ i.
            same h.x g.x x i *ℤ (direction s).x +ℤ same h.y g.y y i *ℤ (direction s).y in
            omega (arith, signed, less, one)
          where
            same : (a b : ℤ) → a -ℤ b ≡ pos 0 → b ≡ a
            same a b e = omega (arith, signed, e)

        turned : (a b c : ℤ) → (a -ℤ b) *ℤ c ≡ pos 0 -ℤ (b -ℤ a) *ℤ c
        turned a b c =
            same_polynomial (a ∷ b ∷ c ∷ []) ((V 0 ⊖ V 1) ⊗ V 2) (K (pos 0) ⊖ (V 1 ⊖ V 0) ⊗ V 2) refl

        later : pos 0 ≤ℤ farther
        later =
            let rises =
            product_rises s g h (pos w.a) (pos w.b) (pos v.a) (pos v.b) some some' w.inside v.inside apart in
            let other = turned (pos v.b *ℤ pos w.a) (pos w.b *ℤ pos v.a)
            (dot_of h (direction s) -ℤ dot_of g (direction s)) in
            ⊎_elim (λ (l : farther <ℤ pos 0).
            absurd (let none = int_mul_nonpos_nonneg farther (dot_of h (direction s) -ℤ dot_of g (direction s))
            (omega (arith, signed, l)) (omega (arith, signed, less)) in
            omega (arith, signed, rises, other, none)))
            (λ (l : pos 0 ≤ℤ farther). l)
            (int_lt_or_le farther (pos 0))

-- the lesser end isn't to the right of the greater
pub runs_right : (s : Segment) → point_cmp s.p s.q ≡ Less → s.p.x ≤ℤ s.q.x
runs_right s ordered = omega (arith, signed, point_less s.p s.q ordered)

-- what the order along s says of the products
less_product : (s : Segment) (g h : Point) → along_cmp s g h ≡ Less → dot_of g (direction s) <ℤ dot_of h (direction s)
less_product s g h e =
    subst (λ o. MatchOrdering o (dot_of g (direction s) <ℤ dot_of h (direction s))
    (dot_of g (direction s) ≡ dot_of h (direction s)) (dot_of h (direction s) <ℤ dot_of g (direction s))) e
    (int_ranked (dot_of g (direction s)) (dot_of h (direction s)) _ refl)

-- ---- the order by place

less_first : (a b : ℤ) (o : Ordering) → a ≤ℤ b → (a ≡ b → o ≡ Less) → ordering_then (int_cmp a b) o ≡ Less
less_first a b o l f = by (int_cmp a b) (int_ranked a b _ refl)
  where
    by : (r : Ordering) → MatchOrdering r (a <ℤ b) (a ≡ b) (b <ℤ a) → ordering_then r o ≡ Less
    by Less m = refl
    by Equal m = f m
    by Greater m = absurd (omega (arith, signed, l, m))

less_at : (a b : ℤ) → a <ℤ b → int_cmp a b ≡ Less
less_at a b l = sym (int_cmp_is a b Less l)

place_less : (s : Segment) → point_cmp s.p s.q ≡ Less → (g h : Point) → IsPast s g h → (g ≡ h → ⊥)
    → place_cmp s g h ≡ Less
place_less s ordered g h past apart =
    less_first g.x h.x _ (past.right (runs_right s ordered)) (λ e. by e (falls s) refl)
  where
    by : g.x ≡ h.x → (b : Bool) → falls s ≡ b → (if b then int_cmp h.y g.y else int_cmp g.y h.y) ≡ Less
    by e true f =
        let down = past.down (omega (arith, signed, from_lt_true s.q.y s.p.y f)) in
        ⊎_elim (λ (l : h.y <ℤ g.y). less_at h.y g.y l)
        (λ (l : g.y ≤ℤ h.y). absurd (let y : g.y ≡ h.y = omega (arith, signed, l, down) in
        apart (λ i. record { x = e i; y = y i })))
        (int_lt_or_le h.y g.y)
    by e false f =
        let up = past.up (from_lt_false s.q.y s.p.y f) in
        ⊎_elim (λ (l : g.y <ℤ h.y). less_at g.y h.y l)
        (λ (l : h.y ≤ℤ g.y). absurd (let y : g.y ≡ h.y = omega (arith, signed, l, up) in
        apart (λ i. record { x = e i; y = y i })))
        (int_lt_or_le g.y h.y)

-- the pixels that s meets stand along s by place
pub along_is_by_place : (s : Segment) → point_cmp s.p s.q ≡ Less → (g h : Point) → IsTrue (meets_pixel_of s g)
    → IsTrue (meets_pixel_of s h) → along_cmp s g h ≡ place_cmp s g h
along_is_by_place s ordered g h m n = by (along_cmp s g h) refl
  where
    before : (g h : Point) → IsTrue (meets_pixel_of s g) → IsTrue (meets_pixel_of s h) → along_cmp s g h ≡ Less
        → place_cmp s g h ≡ Less
    before g h m n e =
        place_less s ordered g h (past s g h m n (less_product s g h e))
        (λ same. cc (e, ap (along_cmp s g) (sym same) ∙ tied_itself (along_total s) g))

    by : (o : Ordering) → along_cmp s g h ≡ o → along_cmp s g h ≡ place_cmp s g h
    by Less e = e ∙ sym (before g h m n e)
    by Equal e =
        let same = one_product s g h m n (exact_signed (dot_of g (direction s)) (dot_of h (direction s)) e) in
        e ∙ sym (ap (place_cmp s g) (sym same) ∙ tied_itself (along_tile_total s) (record { i = g.x; j = g.y }))
    by Greater e =
        let back = before h g n m ((along_total s).antisymm h g ∙ ap ordering_reverse e) in
        e
        ∙ sym ((along_tile_total s).antisymm (record { i = g.x; j = g.y }) (record { i = h.x; j = h.y })
        ∙ ap ordering_reverse back)

-- ---- tiles

not_less_first : (a b : ℤ) (o : Ordering) → b ≤ℤ a → is_lt o ≡ false → is_lt (ordering_then (int_cmp a b) o) ≡ false
not_less_first a b o l e = by (int_cmp a b) (int_ranked a b _ refl)
  where
    by : (r : Ordering) → MatchOrdering r (a <ℤ b) (a ≡ b) (b <ℤ a) → is_lt (ordering_then r o) ≡ false
    by Less m = absurd (omega (arith, signed, l, m))
    by Equal m = e
    by Greater m = refl

not_less : (a b : ℤ) → b ≤ℤ a → is_lt (int_cmp a b) ≡ false
not_less a b l = by (int_cmp a b) (int_ranked a b _ refl)
  where
    by : (r : Ordering) → MatchOrdering r (a <ℤ b) (a ≡ b) (b <ℤ a) → is_lt r ≡ false
    by Less m = absurd (omega (arith, signed, l, m))
    by Equal m = refl
    by Greater m = refl

-- of two pixels that s meets, the later along s lies in a later tile along s, or in the same
pub later_tile : (pr : Sizes) → 0 < pr.side → (s : Segment) → point_cmp s.p s.q ≡ Less → (g h : Point)
    → IsTrue (meets_pixel_of s g) → IsTrue (meets_pixel_of s h) → along_cmp s g h ≡ Less
    → is_lt (along_tile_cmp s (tile_of pr h) (tile_of pr g)) ≡ false
later_tile pr some s ordered g h m n e =
    not_less_first (tile_of pr h).i (tile_of pr g).i _
    (floor_rises g.x h.x (pos pr.side) positive (passed.right (runs_right s ordered))) (by (falls s) refl)
  where
    positive : pos 0 <ℤ pos pr.side
    positive = omega (arith, signed, some)

    passed : IsPast s g h
    passed = past s g h m n (less_product s g h e)

    by : (b : Bool) → falls s ≡ b
        → is_lt (if b then int_cmp (tile_of pr g).j (tile_of pr h).j else int_cmp (tile_of pr h).j (tile_of pr g).j)
        ≡ false
    by true f =
        not_less (tile_of pr g).j (tile_of pr h).j
        (floor_rises h.y g.y (pos pr.side) positive
        (passed.down (omega (arith, signed, from_lt_true s.q.y s.p.y f))))
    by false f =
        not_less (tile_of pr h).j (tile_of pr g).j
        (floor_rises g.y h.y (pos pr.side) positive (passed.up (from_lt_false s.q.y s.p.y f)))
