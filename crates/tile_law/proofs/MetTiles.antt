-- The tiles that a segment meets. A point of the segment lies between its ends in each coordinate,
-- so the tile in which it lies is between those of the ends, and the filter over these misses none.
-- Of two tiles along the segment the later one lies to the right, or in one column farther the way
-- that the segment goes, and so do the points of the segment that lie in it.

use Rattle.std.proofs.Common.{◌≡◌, refl, ap, subst, ◌∙◌, arith, [], ◌∷◌, IsTrue, inl, inr, ⊎_elim, ◌↔◌}
use Rattle.std.proofs.Common.{Bool, true, false, Contains, Ordering, Less, Equal, Greater}
use Rattle.std.specs.Prelude.{◌<◌, ◌*◌, ℤ, pos, ◌+ℤ◌, ◌-ℤ◌, ◌*ℤ◌, ◌≤ℤ◌, ◌<ℤ◌, ◌⊎◌, if◌then◌else◌}
use Rattle.std.specs.Int.{int_div_euclid, int_min, int_max}
use Rattle.std.specs.List.{AllByRecursion}
use Rattle.std.specs.List.Sorted.{IsStrictlySortedBy}
use Rattle.std.specs.Ordering.{int_cmp, ordering_then, MatchOrdering}
use Rattle.std.proofs.lemmas.Cmp.{int_ranked, int_cmp_total, tied_itself}
use Rattle.std.proofs.lemmas.Int.{ints, clamps}
use Rattle.std.proofs.lemmas.List.Kept.{IsStrictlySortedBy-filter}
use Rattle.grid_core.specs.declared.tile.TileId.{TileId}
use Rattle.grid_core.specs.Vector.{point_cmp}
use Rattle.grid_core.specs.Profile.{Sizes}
use Rattle.grid_core.specs.Segment.{Segment, direction}
use Rattle.grid_core.specs.Tiles.{tile_cmp, tile_of, tile_box, meets_tile, whole_numbers, column_between, tiles_between}
use Rattle.grid_core.specs.Tiles.{tiles, falls, along_tile_cmp, along}
use Rattle.grid_core.specs.Laws.{IsFromTo, HasPointIn}
use Rattle.grid_core.proofs.ListMembers.{contains_filter, contains_map, contains_flat_map}
use Rattle.grid_core.proofs.MeetingPoint.{meets_where_a_point_lies}
use Rattle.grid_core.proofs.Polynomial.{V, K, ◌⊕◌, ◌⊖◌, ◌⊗◌, same_polynomial}
use Rattle.grid_core.proofs.Quotients.{times_more, floor_le, floor_ge}
use Rattle.grid_core.proofs.Ring.{int_mul-le_left, int_lt_or_le, int_mul_nonneg, int_mul_nonpos_nonneg}
use Rattle.grid_core.proofs.Ring.{int_mul_comm}
use Rattle.grid_core.proofs.RisingMembers.{sorted_rising, contains_rising}
use Rattle.grid_core.proofs.Signed.{signed, from_lt_true, from_lt_false}
use Rattle.grid_core.proofs.TileOrder.{along_tile_total, along_tile_exact}
use Rattle.tile_law.specs.Laws.{MeetsBefore, TilesAreMet}
use Rattle.tile_law.proofs.AlongTiles.{not_beyond, runs_right, difference}
use Rattle.tile_law.proofs.JoinedLists.{all_of, all_mapped, sorted_mapped, sorted_flat_map, sorted_whole, contains_whole}

-- ---- between the ends

-- a number lies from itself to itself
itself : (p : ℤ) → IsFromTo p p p (pos 1)
itself p = record { low = omega (arith, signed); high = omega (arith, signed) }

-- a range that has a number between p and q, p not above q, begins at most at q and ends at least at p
reaches : (p q lo hi a b : ℤ) → pos 0 ≤ℤ a → a ≤ℤ b → pos 0 <ℤ b → p ≤ℤ q
    → IsFromTo lo hi (p *ℤ b +ℤ a *ℤ (q -ℤ p)) b → (p ≤ℤ hi) × (lo ≤ℤ q)
reaches p q lo hi a b part whole some order w =
    let first = int_mul_nonneg a (q -ℤ p) part (omega (arith, signed, order)) in
    let last = int_mul_nonneg (b -ℤ a) (q -ℤ p) (omega (arith, signed, whole)) (omega (arith, signed, order)) in
    let start = from_start p q a b in
    let end = to_end p q a b in
    let one : pos 0 <ℤ pos 1 = omega (arith, signed) in (
      not_beyond p p lo hi p (p *ℤ b +ℤ a *ℤ (q -ℤ p)) (pos 1) b one some (omega (arith, signed, first, start)) (itself p) w,
      not_beyond lo hi q q (p *ℤ b +ℤ a *ℤ (q -ℤ p)) q b (pos 1) some one (omega (arith, signed, last, end)) w (itself q),
    )
  where
    from_start : (p q a b : ℤ) → pos 1 *ℤ (p *ℤ b +ℤ a *ℤ (q -ℤ p)) -ℤ b *ℤ p ≡ a *ℤ (q -ℤ p)
    from_start p q a b =
        same_polynomial (p ∷ q ∷ a ∷ b ∷ [])
        (K (pos 1) ⊗ (V 0 ⊗ V 3 ⊕ V 2 ⊗ (V 1 ⊖ V 0)) ⊖ V 3 ⊗ V 0) (V 2 ⊗ (V 1 ⊖ V 0)) refl

    to_end : (p q a b : ℤ) → b *ℤ q -ℤ pos 1 *ℤ (p *ℤ b +ℤ a *ℤ (q -ℤ p)) ≡ (b -ℤ a) *ℤ (q -ℤ p)
    to_end p q a b =
        same_polynomial (p ∷ q ∷ a ∷ b ∷ [])
        (V 3 ⊗ V 1 ⊖ K (pos 1) ⊗ (V 0 ⊗ V 3 ⊕ V 2 ⊗ (V 1 ⊖ V 0))) ((V 3 ⊖ V 2) ⊗ (V 1 ⊖ V 0)) refl

-- the same where q isn't above p
reaches_down : (p q lo hi a b : ℤ) → pos 0 ≤ℤ a → a ≤ℤ b → pos 0 <ℤ b → q ≤ℤ p
    → IsFromTo lo hi (p *ℤ b +ℤ a *ℤ (q -ℤ p)) b → (q ≤ℤ hi) × (lo ≤ℤ p)
reaches_down p q lo hi a b part whole some order w =
    reaches q p lo hi (b -ℤ a) b (omega (arith, signed, whole)) (omega (arith, signed, part)) some order
    (subst (λ n. IsFromTo lo hi n b) (from_q p q a b) w)
  where
    from_q : (p q a b : ℤ) → p *ℤ b +ℤ a *ℤ (q -ℤ p) ≡ q *ℤ b +ℤ (b -ℤ a) *ℤ (p -ℤ q)
    from_q p q a b =
        same_polynomial (p ∷ q ∷ a ∷ b ∷ [])
        (V 0 ⊗ V 3 ⊕ V 2 ⊗ (V 1 ⊖ V 0)) (V 1 ⊗ V 3 ⊕ (V 3 ⊖ V 2) ⊗ (V 0 ⊖ V 1)) refl

-- a column that ends at p or later, and begins at q or earlier, is between those of p and of q
columns : (p q m t : ℤ) → pos 0 <ℤ m → (p ≤ℤ (m *ℤ t +ℤ m -ℤ pos 1)) × ((m *ℤ t) ≤ℤ q)
    → (int_div_euclid p m ≤ℤ t) × (t ≤ℤ int_div_euclid q m)
columns p q m t some h = (
  floor_le p m t some (omega (arith, signed, h, times_more m t)),
  floor_ge q m t some h.1,
)

-- ---- one after another

-- of two points of a segment, the one that lies in the greater range, where the segment doesn't fall,
-- is farther along it
comes_before : {lo hi low high : ℤ} (p d a b a' b' : ℤ) → pos 0 <ℤ b → pos 0 <ℤ b' → pos 0 ≤ℤ d → hi <ℤ low
    → IsFromTo lo hi (p *ℤ b +ℤ a *ℤ d) b → IsFromTo low high (p *ℤ b' +ℤ a' *ℤ d) b'
    → (b' *ℤ a) <ℤ (b *ℤ a')
comes_before {lo} {hi} {low} {high} p d a b a' b' some some' rises apart w v =
    ⊎_elim (λ (l : (b' *ℤ a) <ℤ (b *ℤ a')). l)
    (λ (l : (b *ℤ a') ≤ℤ (b' *ℤ a)).
    absurd (let less = int_mul_nonpos_nonneg (b *ℤ a' -ℤ b' *ℤ a) d (omega (arith, signed, l)) rises in
    let back = not_beyond low high lo hi (p *ℤ b' +ℤ a' *ℤ d) (p *ℤ b +ℤ a *ℤ d) b' b some' some
    (omega (arith, signed, less, difference p d a b a' b')) v w in
    omega (arith, signed, back, apart)))
    (int_lt_or_le (b' *ℤ a) (b *ℤ a'))

-- the one that lies in the lesser range, where the segment doesn't rise
comes_before_down : {lo hi low high : ℤ} (p d a b a' b' : ℤ) → pos 0 <ℤ b → pos 0 <ℤ b' → d ≤ℤ pos 0 → high <ℤ lo
    → IsFromTo lo hi (p *ℤ b +ℤ a *ℤ d) b → IsFromTo low high (p *ℤ b' +ℤ a' *ℤ d) b'
    → (b' *ℤ a) <ℤ (b *ℤ a')
comes_before_down {lo} {hi} {low} {high} p d a b a' b' some some' falls apart w v =
    ⊎_elim (λ (l : (b' *ℤ a) <ℤ (b *ℤ a')). l)
    (λ (l : (b *ℤ a') ≤ℤ (b' *ℤ a)).
    absurd (let less = int_mul_nonpos_nonneg d (b' *ℤ a -ℤ b *ℤ a') falls (omega (arith, signed, l)) in
    let back = not_beyond lo hi low high (p *ℤ b +ℤ a *ℤ d) (p *ℤ b' +ℤ a' *ℤ d) b b' some some'
    (omega (arith, signed, less, int_mul_comm d (b' *ℤ a -ℤ b *ℤ a'), difference p d a' b' a b)) w v in
    omega (arith, signed, back, apart)))
    (int_lt_or_le (b' *ℤ a) (b *ℤ a'))

module _ (pr : Sizes) (some : 0 < pr.side) (s : Segment) where
  side : ℤ
  side = pos pr.side

  positive : pos 0 <ℤ pos pr.side
  positive = omega (arith, signed, some)

  -- ---- the columns and rows between those of the ends

  pub record IsBetween (t : TileId) : Type 0 where
    pub after : (tile_of pr s.p).i ≤ℤ t.i
    pub before : t.i ≤ℤ (tile_of pr s.q).i
    pub above : int_min (tile_of pr s.p).j (tile_of pr s.q).j ≤ℤ t.j
    pub below : t.j ≤ℤ int_max (tile_of pr s.p).j (tile_of pr s.q).j

  rows_between : (j k t : ℤ) → (j ≤ℤ t) × (t ≤ℤ k) → (int_min j k ≤ℤ t) × (t ≤ℤ int_max j k)
  rows_between j k t h = omega (arith, ints, clamps, h)

  rows_between_down : (j k t : ℤ) → (k ≤ℤ t) × (t ≤ℤ j) → (int_min j k ≤ℤ t) × (t ≤ℤ int_max j k)
  rows_between_down j k t h = omega (arith, ints, clamps, h)

  pub met_between : point_cmp s.p s.q ≡ Less → (t : TileId) → IsTrue (meets_tile pr t s) → IsBetween t
  met_between ordered t m = by ((meets_where_a_point_lies s (tile_box pr t)).0 m)
    where
      by : HasPointIn s (tile_box pr t) → IsBetween t
      by w =
          record { after = column.0; before = column.1; above = row.0; below = row.1 }
        where
          part : pos 0 ≤ℤ pos w.a
          part = omega (arith, signed)

          whole : pos w.a ≤ℤ pos w.b
          whole = omega (arith, signed, w.part)

          den : pos 0 <ℤ pos w.b
          den = omega (arith, signed, w.whole)

          column : ((tile_of pr s.p).i ≤ℤ t.i) × (t.i ≤ℤ (tile_of pr s.q).i)
          column =
              columns s.p.x s.q.x (pos pr.side) t.i positive
              (reaches s.p.x s.q.x _ _ (pos w.a) (pos w.b) part whole den (runs_right s ordered) w.inside.x)

          row : (int_min (tile_of pr s.p).j (tile_of pr s.q).j ≤ℤ t.j)
              × (t.j ≤ℤ int_max (tile_of pr s.p).j (tile_of pr s.q).j)
          row =
              ⊎_elim (λ (l : s.q.y <ℤ s.p.y).
              rows_between_down (tile_of pr s.p).j (tile_of pr s.q).j t.j
              (columns s.q.y s.p.y (pos pr.side) t.j positive
              (reaches_down s.p.y s.q.y _ _ (pos w.a) (pos w.b) part whole den (omega (arith, signed, l)) w.inside.y)))
              (λ (l : s.p.y ≤ℤ s.q.y).
              rows_between (tile_of pr s.p).j (tile_of pr s.q).j t.j
              (columns s.p.y s.q.y (pos pr.side) t.j positive
              (reaches s.p.y s.q.y _ _ (pos w.a) (pos w.b) part whole den l w.inside.y)))
              (int_lt_or_le s.q.y s.p.y)

  contains_between : (t : TileId) → IsBetween t → Contains (tiles_between pr s) t
  contains_between t b =
      let low = int_min (tile_of pr s.p).j (tile_of pr s.q).j in
      let high = int_max (tile_of pr s.p).j (tile_of pr s.q).j in
      let column = contains_whole (tile_of pr s.p).i (tile_of pr s.q).i t.i b.after b.before in
      let row = contains_whole low high t.j b.above b.below in
      let here : Contains (column_between low high t.i) t =
      (contains_map (λ j. record { i = t.i; j = j }) (whole_numbers low high) t).1
      (row.0, t.j, row.1, row.2, refl) in
      (contains_flat_map (column_between low high) t (whole_numbers (tile_of pr s.p).i (tile_of pr s.q).i)).1
      (column.0, t.i, column.1, column.2, here)

  -- ---- by column and row

  pub sorted_between : IsStrictlySortedBy tile_cmp (tiles_between pr s)
  sorted_between =
      sorted_flat_map tile_cmp int_cmp (column_between low high) each across
      (whole_numbers (tile_of pr s.p).i (tile_of pr s.q).i) (sorted_whole (tile_of pr s.p).i (tile_of pr s.q).i)
    where
      low : ℤ
      low = int_min (tile_of pr s.p).j (tile_of pr s.q).j

      high : ℤ
      high = int_max (tile_of pr s.p).j (tile_of pr s.q).j

      at : ℤ → ℤ → TileId
      at i j = record { i = i; j = j }

      one_column : (i j k : ℤ) → int_cmp j k ≡ Less → tile_cmp (at i j) (at i k) ≡ Less
      one_column i j k e = ap (λ o. ordering_then o (int_cmp j k)) (tied_itself int_cmp_total i) ∙ e

      each : (i : ℤ) → IsStrictlySortedBy tile_cmp (column_between low high i)
      each i = sorted_mapped (at i) int_cmp tile_cmp (one_column i) (whole_numbers low high) (sorted_whole low high)

      across : (i k : ℤ) → int_cmp i k ≡ Less
          → AllByRecursion (λ t. AllByRecursion (λ u. tile_cmp t u ≡ Less) (column_between low high k))
          (column_between low high i)
      across i k e =
          all_mapped (at i) (λ t. AllByRecursion (λ u. tile_cmp t u ≡ Less) (column_between low high k)) (whole_numbers low high)
          (all_of _ (λ j. all_mapped (at k) (λ u. tile_cmp (at i j) u ≡ Less) (whole_numbers low high)
          (all_of _ (λ l. ap (λ o. ordering_then o (int_cmp j l)) e) (whole_numbers low high))) (whole_numbers low high))

  pub contains_tiles : point_cmp s.p s.q ≡ Less → (t : TileId) → Contains (tiles pr s) t ↔ IsTrue (meets_tile pr t s)
  contains_tiles ordered t =
      let kept = contains_filter (λ t. meets_tile pr t s) (tiles_between pr s) t in
      (λ c. (kept.0 c).1, λ m. kept.1 (contains_between t (met_between ordered t m), m))

  pub sorted_tiles : IsStrictlySortedBy tile_cmp (tiles pr s)
  sorted_tiles = IsStrictlySortedBy-filter tile_cmp (λ t. meets_tile pr t s) (tiles_between pr s) sorted_between

  -- ---- along the segment

  pub contains_along : point_cmp s.p s.q ≡ Less → (t : TileId) → Contains (along pr s) t ↔ IsTrue (meets_tile pr t s)
  contains_along ordered t =
      let same = contains_rising (along_tile_total s) (along_tile_exact s) (tiles pr s) t in
      let met = contains_tiles ordered t in
      (λ c. met.0 (same.0 c), λ m. same.1 (met.1 m))

  pub sorted_along : IsStrictlySortedBy (along_tile_cmp s) (along pr s)
  sorted_along = sorted_rising (along_tile_total s) (tiles pr s)

  -- a box to the right of another, and for a segment that rises a higher one, begins after the end
  -- of the other
  next_begins : (t u : ℤ) → t <ℤ u → (pos pr.side *ℤ t +ℤ pos pr.side -ℤ pos 1) <ℤ (pos pr.side *ℤ u)
  next_begins t u l =
      let more = int_mul-le_left (pos pr.side) (t +ℤ pos 1) u (omega (arith, signed, positive)) (omega (arith, signed, l)) in
      omega (arith, signed, more, times_more (pos pr.side) t)

  less_along : (t u : TileId) → along_tile_cmp s t u ≡ Less
      → (t.i <ℤ u.i)
      ⊎ (((s.p.y ≤ℤ s.q.y) × (t.j <ℤ u.j)) ⊎ ((s.q.y ≤ℤ s.p.y) × (u.j <ℤ t.j)))
  less_along t u e = first (int_cmp t.i u.i) (int_ranked t.i u.i _ refl) e
    where
      number : (a b : ℤ) → int_cmp a b ≡ Less → a <ℤ b
      number a b e = subst (λ o. MatchOrdering o (a <ℤ b) (a ≡ b) (b <ℤ a)) e (int_ranked a b _ refl)

      second : (b : Bool) → falls s ≡ b → (if b then int_cmp u.j t.j else int_cmp t.j u.j) ≡ Less
          → ((s.p.y ≤ℤ s.q.y) × (t.j <ℤ u.j)) ⊎ ((s.q.y ≤ℤ s.p.y) × (u.j <ℤ t.j))
      second true f e = inr (omega (arith, signed, from_lt_true s.q.y s.p.y f), number u.j t.j e)
      second false f e = inl (from_lt_false s.q.y s.p.y f, number t.j u.j e)

      first : (o : Ordering) → MatchOrdering o (t.i <ℤ u.i) (t.i ≡ u.i) (u.i <ℤ t.i)
          → ordering_then o (if falls s then int_cmp u.j t.j else int_cmp t.j u.j) ≡ Less
          → (t.i <ℤ u.i) ⊎ (((s.p.y ≤ℤ s.q.y) × (t.j <ℤ u.j)) ⊎ ((s.q.y ≤ℤ s.p.y) × (u.j <ℤ t.j)))
      first Less m e = inl m
      first Equal m e = inr (second (falls s) refl e)
      first Greater m e = absurd (cc e)

  -- the points of s in a tile come before those in a later tile
  pub meets_before : point_cmp s.p s.q ≡ Less → (t u : TileId) → along_tile_cmp s t u ≡ Less
      → MeetsBefore s (tile_box pr t) (tile_box pr u)
  meets_before ordered t u e g h =
      ⊎_elim (λ (l : t.i <ℤ u.i).
      natural (comes_before s.p.x (direction s).x (pos g.a) (pos g.b) (pos h.a) (pos h.b) den den'
      (omega (arith, signed, runs_right s ordered)) (next_begins t.i u.i l) g.inside.x h.inside.x))
      (λ (k : ((s.p.y ≤ℤ s.q.y) × (t.j <ℤ u.j)) ⊎ ((s.q.y ≤ℤ s.p.y) × (u.j <ℤ t.j))).
      ⊎_elim (λ (l : (s.p.y ≤ℤ s.q.y) × (t.j <ℤ u.j)).
      natural (comes_before s.p.y (direction s).y (pos g.a) (pos g.b) (pos h.a) (pos h.b) den den'
      (omega (arith, signed, l.0)) (next_begins t.j u.j l.1) g.inside.y h.inside.y))
      (λ (l : (s.q.y ≤ℤ s.p.y) × (u.j <ℤ t.j)).
      natural (comes_before_down s.p.y (direction s).y (pos g.a) (pos g.b) (pos h.a) (pos h.b) den den'
      (omega (arith, signed, l.0)) (next_begins u.j t.j l.1) g.inside.y h.inside.y)) k)
      (less_along t u e)
    where
      den : pos 0 <ℤ pos g.b
      den = omega (arith, signed, g.whole)

      den' : pos 0 <ℤ pos h.b
      den' = omega (arith, signed, h.whole)

      natural : (pos h.b *ℤ pos g.a) <ℤ (pos g.b *ℤ pos h.a) → (g.a * h.b) < (h.a * g.b)
      natural l =
          omega (arith, signed, l, int_mul_comm (pos h.b) (pos g.a), int_mul_comm (pos g.b) (pos h.a))

pub tiles_are_met : (pr : Sizes) → 0 < pr.side → (s : Segment) → point_cmp s.p s.q ≡ Less → TilesAreMet pr s
tiles_are_met pr some s ordered =
    record {
      met = contains_tiles pr some s ordered;
      in_order = sorted_tiles pr some s;
      met_along = contains_along pr some s ordered;
      in_order_along = sorted_along pr some s;
      from_p_to_q = meets_before pr some s ordered;
    }
