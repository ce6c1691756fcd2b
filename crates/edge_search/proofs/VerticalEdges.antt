-- The vertical edge that a query point is on. It is the last of the vertical edges in order whose lower end doesn't come
-- after the point's pixel: the point over the lower end of a later one would be on both.
use Rattle.std.proofs.Common.{◌≡◌, refl, sym, ap, ap₂, subst, ◌∙◌, arith, ⊎_elim, inl, inr, ℕ, ◌-◌, ◌<◌}
use Rattle.std.proofs.Common.{◌≤◌, Bool, true, false, ◌&&◌, true≢false}
use Rattle.std.proofs.Common.{List, [], ◌∷◌, length, take, filter, Contains, IsTrue, slice_index_or}
use Rattle.std.proofs.Common.{Ordering, Less, Equal, Greater, is_lt}
use Rattle.std.specs.Prelude.{ℤ, pos, ◌+ℤ◌, ◌-ℤ◌, ◌*ℤ◌, ◌<ℤ◌, ◌≤ℤ◌, ◌⊎◌, Some, slice_get}
use Rattle.std.specs.Int.{int_div_euclid}
use Rattle.std.specs.Ordering.{int_eq, is_le, ordering_then}
use Rattle.std.specs.List.Sorted.{IsSorted, IsPermutation, IsPartitionedBy, IsPartitionPoint}
use Rattle.std.proofs.lemmas.Bool.Decides.{Decides-int_eq}
use Rattle.std.proofs.lemmas.List.{length-take-le, get_or-take}
use Rattle.std.proofs.lemmas.Option.{slice_get_read}
use Rattle.std.proofs.lemmas.List.Elements.{All-contains, Contains-get_or}
use Rattle.std.proofs.lemmas.List.Sorted.{sorted_far, ranks_by, Contains-permutation, IsPermutation-sym}
use Rattle.grid_core.specs.declared.point.Point.{Point}
use Rattle.grid_core.specs.Vector.{point_cmp}
use Rattle.grid_core.specs.Edge.{EdgeEnds, IsEdge, edge_cmp}
use Rattle.grid_core.specs.Planar.{IsEnd}
use Rattle.grid_core.specs.Places.{query_point, lies_on, side_of_edge}
use Rattle.grid_core.proofs.ListMembers.{contains_filter}
use Rattle.grid_core.proofs.Order.{point_exact, point_greater, point_less, edge_total}
use Rattle.grid_core.proofs.Polynomial.{V, K, ◌⊖◌, ◌⊗◌, same_polynomial}
use Rattle.grid_core.proofs.Quotients.{floor_ge, floor_le, above_floor_ge}
use Rattle.grid_core.proofs.Ring.{int_lt_or_le}
use Rattle.grid_core.proofs.Signed.{signed}
use Rattle.edge_search.specs.Pieces.{AreVerticals}
use Rattle.edge_search.specs.Search.{DontCross, NoneEndsAt}
use Rattle.edge_search.proofs.EdgeRanks.{on_columns, on_rows, range_low, range_high}
use Rattle.edge_search.proofs.Enough.{between}

-- ---- which edges are vertical

abbrev pub is_vertical : EdgeEnds → Bool
is_vertical e = int_eq e.a.x e.b.x

-- the vertical ones of some edges, put in order
pub verticals_are : (es vs : List EdgeEnds) → IsPermutation (filter is_vertical es) vs → IsSorted edge_cmp vs
    → AreVerticals es vs
verticals_are es vs moved sorted =
    record {
      each = λ e h.
          let kept = (contains_filter is_vertical es e).0
          (Contains-permutation vs (filter is_vertical es) e (IsPermutation-sym (filter is_vertical es) vs moved) h) in
          (kept.0, (Decides-int_eq e.a.x e.b.x).0 kept.1);
      all = λ e h level.
          Contains-permutation (filter is_vertical es) vs e moved
          ((contains_filter is_vertical es e).1 (h, (Decides-int_eq e.a.x e.b.x).1 level));
      order = sorted;
    }

-- ---- lower ends in order

abbrev NotAfter : Point → Point → Type 0
NotAfter a b = (a.x <ℤ b.x) ⊎ ((a.x ≡ b.x) × (a.y ≤ℤ b.y))

less_not_after : (a b : Point) → point_cmp a b ≡ Less → NotAfter a b
less_not_after a b h =
    ⊎_elim (λ (l : a.x <ℤ b.x). inl l) (λ (l : (a.x ≡ b.x) × (a.y <ℤ b.y)). inr (l.0, omega (arith, signed, l.1)))
    (point_less a b h)

same_not_after : (a b : Point) → a ≡ b → NotAfter a b
same_not_after a b h =
    let x : a.x ≡ b.x = ap (λ (p : Point). p.x) h in
    let y : a.y ≡ b.y = ap (λ (p : Point). p.y) h in
    inr (x, omega (arith, signed, y))

from_le : (a b : Point) → is_le (point_cmp a b) ≡ true → NotAfter a b
from_le a b h = by (point_cmp a b) refl h
  where
    by : (o : Ordering) → point_cmp a b ≡ o → is_le o ≡ true → NotAfter a b
    by Less is h = less_not_after a b is
    by Equal is h = same_not_after a b (point_exact a b is)
    by Greater is h = absurd (true≢false (sym h))

to_le : (a b : Point) → NotAfter a b → is_le (point_cmp a b) ≡ true
to_le a b h = by (point_cmp a b) refl
  where
    by : (o : Ordering) → point_cmp a b ≡ o → is_le o ≡ true
    by Less is = refl
    by Equal is = refl
    by Greater is = absurd (clash h (point_less b a (point_greater a b is)))
      where
        clash : NotAfter a b → (b.x <ℤ a.x) ⊎ ((b.x ≡ a.x) × (b.y <ℤ a.y)) → ⊥
        clash (inl l) (inl m) = omega (arith, signed, l, m)
        clash (inl l) (inr m) = omega (arith, signed, l, m.0)
        clash (inr l) (inl m) = omega (arith, signed, l.0, m)
        clash (inr l) (inr m) = omega (arith, signed, l.1, m.1)

not_after_joined : (a b c : Point) → NotAfter a b → NotAfter b c → NotAfter a c
not_after_joined a b c (inl l) (inl m) = inl (omega (arith, signed, l, m))
not_after_joined a b c (inl l) (inr m) = inl (omega (arith, signed, l, m.0))
not_after_joined a b c (inr l) (inl m) = inl (omega (arith, signed, l.0, m))
not_after_joined a b c (inr l) (inr m) = inr (l.0 ∙ m.0, omega (arith, signed, l.1, m.1))

edge_not_after : (e f : EdgeEnds) → is_lt (edge_cmp f e) ≡ false → NotAfter e.a f.a
edge_not_after e f h = by (point_cmp f.a e.a) refl h
  where
    by : (o : Ordering) → point_cmp f.a e.a ≡ o → is_lt (ordering_then o (point_cmp f.b e.b)) ≡ false → NotAfter e.a f.a
    by Less is h = absurd (true≢false h)
    by Equal is h = same_not_after e.a f.a (sym (point_exact f.a e.a is))
    by Greater is h = less_not_after e.a f.a (point_greater f.a e.a is)

-- the lower end doesn't come after the pixel
abbrev pub starts_by : Point → EdgeEnds → Bool
starts_by pixel e = is_le (point_cmp e.a pixel)

module _ (vs : List EdgeEnds) (sorted : IsSorted edge_cmp vs) where
  ends_rise : (i j : ℕ) (d : EdgeEnds) → i ≤ j → j < length vs → NotAfter (slice_index_or vs i d).a (slice_index_or vs j d).a
  ends_rise i j d up fits =
      edge_not_after (slice_index_or vs i d) (slice_index_or vs j d)
      (sorted_far (λ x y. is_lt (edge_cmp x y)) (ranks_by edge_total (λ e. e)) vs sorted i j d up fits)

  pub starts_parted : (pixel : Point) → IsPartitionedBy (starts_by pixel) vs
  starts_parted pixel i j d up fits h =
      to_le (slice_index_or vs i d).a pixel
      (not_after_joined (slice_index_or vs i d).a (slice_index_or vs j d).a pixel (ends_rise i j d up fits)
      (from_le (slice_index_or vs j d).a pixel h))

-- ---- a point on a vertical edge

on_vertical : (e : EdgeEnds) (q : Point) → e.a.x ≡ e.b.x → q.x ≡ pos 256 *ℤ e.a.x → (pos 256 *ℤ e.a.y) ≤ℤ q.y
    → q.y ≤ℤ (pos 256 *ℤ e.b.y) → IsTrue (lies_on q e)
on_vertical e q vertical column low high =
    let no_width : e.b.x -ℤ e.a.x ≡ pos 0 = omega (arith, signed, vertical) in
    let no_way : q.x -ℤ pos 256 *ℤ e.a.x ≡ pos 0 = omega (arith, signed, column) in
    let none : pos 0 *ℤ (q.y -ℤ pos 256 *ℤ e.a.y) -ℤ (e.b.y -ℤ e.a.y) *ℤ pos 0 ≡ pos 0 =
    same_polynomial ((q.y -ℤ pos 256 *ℤ e.a.y) ∷ (e.b.y -ℤ e.a.y) ∷ []) (K (pos 0) ⊗ V 0 ⊖ V 1 ⊗ K (pos 0)) (K (pos 0)) refl in
    let level : side_of_edge e q ≡ pos 0 =
    (λ i. no_width i *ℤ (q.y -ℤ pos 256 *ℤ e.a.y) -ℤ (e.b.y -ℤ e.a.y) *ℤ no_way i) ∙ none in
    ap₂ (λ a b. a && b)
    (ap₂ (λ a b. a && b) ((Decides-int_eq (side_of_edge e q) (pos 0)).1 level)
    (between (pos 256 *ℤ e.a.x) (pos 256 *ℤ e.b.x) q.x
    (inl (omega (arith, signed, column), omega (arith, signed, column, vertical)))))
    (between (pos 256 *ℤ e.a.y) (pos 256 *ℤ e.b.y) q.y (inl (low, high)))

-- a vertical edge rises
rises : (e : EdgeEnds) → IsEdge e → e.a.x ≡ e.b.x → e.a.y <ℤ e.b.y
rises e edge vertical =
    ⊎_elim (λ (l : e.a.x <ℤ e.b.x). absurd (clash l)) (λ (l : (e.a.x ≡ e.b.x) × (e.a.y <ℤ e.b.y)). l.1) (point_less e.a e.b edge)
  where
    clash : e.a.x <ℤ e.b.x → ⊥
    clash l = omega (arith, signed, l, vertical)

-- no grid point is 1/256 over one
not_over : (a b : ℤ) → pos 256 *ℤ a ≡ pos 256 *ℤ b +ℤ pos 1 → ⊥
not_over a b h = omega (arith, signed, h)

module _ {vs : List EdgeEnds} {q : Point} (vertical : AreVerticals vs vs) (apart : DontCross vs) (free : NoneEndsAt vs q) where
  straight : (e : EdgeEnds) → Contains vs e → e.a.x ≡ e.b.x
  straight e h = (vertical.each e h).1

  -- of two edges over each other of which one has the point, both starting by its pixel, the other starts no later
  one_starts : (e f : EdgeEnds) → Contains vs e → Contains vs f → IsTrue (lies_on q e) → e.a.x ≡ f.a.x → e.a.y ≤ℤ f.a.y
      → (pos 256 *ℤ f.a.y) ≤ℤ q.y → e ≡ f
  one_starts e f of_e of_f on column up under =
      ⊎_elim inside at_end (int_lt_or_le (pos 256 *ℤ f.a.y) q.y)
    where
      r : Point
      r = record { x = pos 256 *ℤ f.a.x; y = pos 256 *ℤ f.a.y +ℤ pos 1 }

      rise_e : e.a.y <ℤ e.b.y
      rise_e = rises e (All-contains IsEdge vs e apart.ordered of_e) (straight e of_e)

      rise_f : f.a.y <ℤ f.b.y
      rise_f = rises f (All-contains IsEdge vs f apart.ordered of_f) (straight f of_f)

      top : q.y ≤ℤ (pos 256 *ℤ e.b.y)
      top = range_high (pos 256 *ℤ e.a.y) (pos 256 *ℤ e.b.y) q.y (omega (arith, signed, rise_e)) (on_rows e q on)

      q_column : q.x ≡ pos 256 *ℤ f.a.x
      q_column =
          let no_width = straight e of_e in
          let low = range_low (pos 256 *ℤ e.a.x) (pos 256 *ℤ e.b.x) q.x (omega (arith, signed, no_width)) (on_columns e q on) in
          let high =
          range_high (pos 256 *ℤ e.a.x) (pos 256 *ℤ e.b.x) q.x (omega (arith, signed, no_width)) (on_columns e q on) in
          omega (arith, signed, low, high, no_width, column)

      inside : (pos 256 *ℤ f.a.y) <ℤ q.y → e ≡ f
      inside over =
          ⊎_elim (λ (same : e ≡ f). same)
          (λ (end : (h : Point) × IsEnd e h × IsEnd f h × (query_point h ≡ r)).
          absurd (not_over (end.0).y f.a.y (ap (λ (p : Point). p.y) end.3)))
          (apart.one e f r of_e of_f
          (on_vertical e r (straight e of_e) (omega (arith, signed, column)) (omega (arith, signed, up))
          (omega (arith, signed, over, top)))
          (on_vertical f r (straight f of_f) refl (omega (arith, signed)) (omega (arith, signed, rise_f))))

      at_end : q.y ≤ℤ (pos 256 *ℤ f.a.y) → e ≡ f
      at_end over =
          let y : pos 256 *ℤ f.a.y ≡ q.y = omega (arith, signed, over, under) in
          absurd (free f f.a of_f (inl refl) (λ i. record { x = sym q_column i; y = y i }))

  -- the last one that starts by the point's pixel is the one that has the point
  pub last_has : (pixel : Point) → pixel.x ≡ int_div_euclid q.x (pos 256) → pixel.y ≡ int_div_euclid q.y (pos 256)
      → (i : ℕ) → i ≤ length vs
      → IsPartitionPoint (λ e. starts_by pixel e ≡ true) (λ e. starts_by pixel e ≡ false) vs i
      → (e : EdgeEnds) → Contains vs e → IsTrue (lies_on q e) → (0 < i) × (slice_index_or vs (i - 1) e ≡ e)
  last_has pixel px py i within parted e h on = (some_i, sym (one_starts e f h of_f on column.0 column.1 under))
    where
      no_width : e.a.x ≡ e.b.x
      no_width = straight e h

      rise : e.a.y <ℤ e.b.y
      rise = rises e (All-contains IsEdge vs e apart.ordered h) no_width

      left : (pos 256 *ℤ e.a.x) ≤ℤ q.x
      left = range_low (pos 256 *ℤ e.a.x) (pos 256 *ℤ e.b.x) q.x (omega (arith, signed, no_width)) (on_columns e q on)

      right : q.x ≤ℤ (pos 256 *ℤ e.b.x)
      right = range_high (pos 256 *ℤ e.a.x) (pos 256 *ℤ e.b.x) q.x (omega (arith, signed, no_width)) (on_columns e q on)

      foot : (pos 256 *ℤ e.a.y) ≤ℤ q.y
      foot = range_low (pos 256 *ℤ e.a.y) (pos 256 *ℤ e.b.y) q.y (omega (arith, signed, rise)) (on_rows e q on)

      pixel_x : pixel.x ≡ e.a.x
      pixel_x =
          let low = floor_ge q.x (pos 256) e.a.x (omega (arith, signed)) left in
          let high = floor_le q.x (pos 256) e.a.x (omega (arith, signed)) (omega (arith, signed, right, no_width)) in
          omega (arith, signed, low, high, px)

      starts : starts_by pixel e ≡ true
      starts =
          let low = floor_ge q.y (pos 256) e.a.y (omega (arith, signed)) foot in
          to_le e.a pixel (inr (sym pixel_x, omega (arith, signed, low, py)))

      before : h.0 < i
      before = ⊎_elim (λ (l : h.0 < i). l) (λ (l : i ≤ h.0). absurd (clash l)) (lt_or_le h.0 i)
        where
          lt_or_le : (a b : ℕ) → (a < b) ⊎ (b ≤ a)
          lt_or_le a b = grind arith

          clash : i ≤ h.0 → ⊥
          clash l = true≢false (sym starts ∙ ap (starts_by pixel) (sym h.2) ∙ parted.1 h.0 e l h.1)

      some_i : 0 < i
      some_i = omega (arith, before)

      f : EdgeEnds
      f = slice_index_or vs (i - 1) e

      last : i - 1 < length vs
      last = omega (arith, some_i, within)

      of_f : Contains vs f
      of_f = Contains-get_or vs (i - 1) e last

      f_starts : NotAfter f.a pixel
      f_starts = from_le f.a pixel (parted.0 (i - 1) e (omega arith) (omega (arith, some_i)))

      e_first : NotAfter e.a f.a
      e_first =
          subst (λ (x : EdgeEnds). NotAfter x.a f.a) h.2 (ends_rise vs vertical.order h.0 (i - 1) e (omega (arith, before)) last)

      column : (e.a.x ≡ f.a.x) × (e.a.y ≤ℤ f.a.y)
      column = by e_first f_starts
        where
          by : NotAfter e.a f.a → NotAfter f.a pixel → (e.a.x ≡ f.a.x) × (e.a.y ≤ℤ f.a.y)
          by (inr l) m = l
          by (inl l) (inl m) = absurd (clash l m)
            where
              clash : e.a.x <ℤ f.a.x → f.a.x <ℤ pixel.x → ⊥
              clash l m = omega (arith, signed, l, m, pixel_x)
          by (inl l) (inr m) = absurd (clash l m.0)
            where
              clash : e.a.x <ℤ f.a.x → f.a.x ≡ pixel.x → ⊥
              clash l m = omega (arith, signed, l, m, pixel_x)

      under : (pos 256 *ℤ f.a.y) ≤ℤ q.y
      under = by f_starts
        where
          by : NotAfter f.a pixel → (pos 256 *ℤ f.a.y) ≤ℤ q.y
          by (inl l) = absurd (clash l column.0)
            where
              clash : f.a.x <ℤ pixel.x → e.a.x ≡ f.a.x → ⊥
              clash l m = omega (arith, signed, l, m, pixel_x)
          by (inr l) = above_floor_ge q.y (pos 256) f.a.y (omega (arith, signed)) (omega (arith, signed, l.1, py))

-- the last of the first i
pub last_of : (vs : List EdgeEnds) (i : ℕ) (e : EdgeEnds) → i ≤ length vs → 0 < i → slice_index_or vs (i - 1) e ≡ e
    → slice_get (take i vs) (length (take i vs) - 1) ≡ Some e
last_of vs i e within some is =
    let size : length (take i vs) ≡ i = length-take-le i vs within in
    slice_get_read (take i vs) (length (take i vs)) (length (take i vs) - 1) e refl (omega (arith, size, some))
    (sym
    (ap (λ (n : ℕ). slice_index_or (take i vs) (n - 1) e) size
    ∙ get_or-take i vs (i - 1) e (omega (arith, some))
    ∙ is))
