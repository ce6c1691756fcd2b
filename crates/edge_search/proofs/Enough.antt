-- Some of the edges that tell the place of a query point that is at no vertex. On a second edge with the point it would
-- be at a common end. So the edge near one that has the point is that one; and where none has it, the nearest edge
-- above among some is the nearest among all, and so below.
use Rattle.std.proofs.Common.{◌≡◌, refl, ap, ap₂, sym, subst, ◌∙◌, arith, ℕ, Bool, true, false, true≢false, IsTrue, ⊎_elim, inl, inr}
use Rattle.std.proofs.Common.{List, [], ◌∷◌, filter, Contains, Option, Some, None, Ordering, Less, Equal, Greater}
use Rattle.std.specs.Prelude.{ℤ, pos, ◌+ℤ◌, ◌-ℤ◌, ◌*ℤ◌, ◌<ℤ◌, ◌≤ℤ◌, ◌⊎◌, ◌&&◌, int_lt, int_le, slice_get}
use Rattle.std.specs.Int.{int_min, int_max}
use Rattle.std.specs.Ordering.{ordering_then, ordering_reverse}
use Rattle.std.proofs.lemmas.Bool.Decides.{Decides-int_eq}
use Rattle.std.proofs.lemmas.Cmp.{int_ranked}
use Rattle.std.proofs.lemmas.Int.{int_min_is, int_max_is}
use Rattle.std.proofs.lemmas.List.Elements.{All-contains}
use Rattle.grid_core.specs.declared.point.Point.{Point}
use Rattle.grid_core.specs.declared.place.Place.TheVariants.{Between}
use Rattle.grid_core.specs.Vector.{point_eq}
use Rattle.grid_core.specs.Edge.{EdgeEnds, IsEdge, edge_cmp}
use Rattle.grid_core.specs.Planar.{IsEnd}
use Rattle.grid_core.specs.Places.{query_point, is_between, spans, lies_on, side_of_edge, height_cmp, slope_cmp, upwards_cmp, downwards_cmp}
use Rattle.grid_core.specs.Places.{edge_above, edge_below, place_off_vertices, place_or_vertex, place_among}
use Rattle.grid_core.proofs.Order.{point_less, edge_total, edge_exact}
use Rattle.grid_core.proofs.Comparisons.{point_decides}
use Rattle.grid_core.proofs.ListMembers.{contains_filter}
use Rattle.grid_core.proofs.Signed.{signed, le_true, lt_true, lt_false, from_le_true, from_lt_true, from_lt_false}
use Rattle.grid_core.proofs.Ring.{int_mul_nonneg, int_same_of_mul, int_le_of_mul, int_lt_or_le}
use Rattle.grid_core.proofs.Polynomial.{V, K, ◌⊕◌, ◌⊖◌, ◌⊗◌, same_polynomial}
use Rattle.place_test.specs.Nearest.{vertex_among, edge_on}
use Rattle.planar_law.specs.PlanarEdges.{Graph, IsPlanarGraph, JoinsVertices}
use Rattle.edge_search.specs.EdgeOrder.{ComesBefore, OneEdgeHas}
use Rattle.edge_search.specs.Near.{AreEnough, EnoughTellThePlace}
use Rattle.edge_search.proofs.Ranges.{and_left, and_right}
use Rattle.edge_search.proofs.EdgeOrder.{width, height, over, lower_is}
use Rattle.edge_search.proofs.EdgeRanks.{on_line, on_columns, range_low, range_high, one_edge_has}
use Rattle.edge_search.proofs.Least.{Leads, none_in, first_of_part, no_first}
use Rattle.edge_search.proofs.UpwardsOrder.{IsWide, turned_up, total_up, joined_up, turned_down, total_down, joined_down}

-- ---- one edge and a point

pub between : (a b z : ℤ) → ((a ≤ℤ z) × (z ≤ℤ b)) ⊎ ((b ≤ℤ z) × (z ≤ℤ a)) → is_between a b z ≡ true
between a b z (inl h) =
    ap₂ (λ x y. x && y)
    (le_true (int_min a b) z (omega (arith, signed, h.0, h.1, int_min_is a b)))
    (le_true z (int_max a b) (omega (arith, signed, h.0, h.1, int_max_is a b)))
between a b z (inr h) =
    ap₂ (λ x y. x && y)
    (le_true (int_min a b) z (omega (arith, signed, h.0, h.1, int_min_is a b)))
    (le_true z (int_max a b) (omega (arith, signed, h.0, h.1, int_max_is a b)))

-- what is along a slope that rises by d, u of 256 w of the way
within : (w d u t : ℤ) → pos 0 <ℤ w → pos 0 ≤ℤ d → pos 0 ≤ℤ u → u ≤ℤ (pos 256 *ℤ w) → w *ℤ t ≡ d *ℤ u
    → (pos 0 ≤ℤ t) × (t ≤ℤ (pos 256 *ℤ d))
within w d u t some_w no_d no_u short is =
    let low = int_mul_nonneg d u no_d no_u in
    let high = int_mul_nonneg d (pos 256 *ℤ w -ℤ u) no_d (omega (arith, signed, short)) in
    let parts : w *ℤ (pos 256 *ℤ d) ≡ d *ℤ u +ℤ d *ℤ (pos 256 *ℤ w -ℤ u) =
    same_polynomial (w ∷ d ∷ u ∷ []) (V 0 ⊗ (K (pos 256) ⊗ V 1)) (V 1 ⊗ V 2 ⊕ V 1 ⊗ (K (pos 256) ⊗ V 0 ⊖ V 2)) refl in
    let none : w *ℤ pos 0 ≡ pos 0 = omega (arith, signed) in (
      int_le_of_mul w (pos 0) t some_w (omega (arith, signed, low, is, none)),
      int_le_of_mul w t (pos 256 *ℤ d) some_w (omega (arith, signed, high, parts, is)),
    )

module _ (e : EdgeEnds) (q : Point) where
  pub spans_low : IsTrue (spans q e) → (pos 256 *ℤ e.a.x) ≤ℤ q.x
  spans_low h = from_le_true (pos 256 *ℤ e.a.x) q.x (and_left (int_le (pos 256 *ℤ e.a.x) q.x) (int_lt q.x (pos 256 *ℤ e.b.x)) h)

  pub spans_high : IsTrue (spans q e) → q.x <ℤ (pos 256 *ℤ e.b.x)
  spans_high h = from_lt_true q.x (pos 256 *ℤ e.b.x) (and_right (int_le (pos 256 *ℤ e.a.x) q.x) (int_lt q.x (pos 256 *ℤ e.b.x)) h)

  wide_if_spans : IsTrue (spans q e) → IsWide e
  wide_if_spans h = omega (arith, signed, spans_low h, spans_high h)

  level_is : side_of_edge e q ≡ pos 0
      → (e.b.x -ℤ e.a.x) *ℤ (q.y -ℤ pos 256 *ℤ e.a.y) ≡ (e.b.y -ℤ e.a.y) *ℤ (q.x -ℤ pos 256 *ℤ e.a.x)
  level_is h = omega (arith, signed, h)

  -- a point of an edge's columns on the line through it is on the edge
  pub on_span : IsTrue (spans q e) → side_of_edge e q ≡ pos 0 → IsTrue (lies_on q e)
  on_span h level =
      let low = spans_low h in
      let high = spans_high h in
      let w = e.b.x -ℤ e.a.x in
      let d = e.b.y -ℤ e.a.y in
      let u = q.x -ℤ pos 256 *ℤ e.a.x in
      let t = q.y -ℤ pos 256 *ℤ e.a.y in
      let some_w : pos 0 <ℤ w = wide_if_spans h in
      let no_u : pos 0 ≤ℤ u = omega (arith, signed, low) in
      let short : u ≤ℤ (pos 256 *ℤ w) = omega (arith, signed, high) in
      let is : w *ℤ t ≡ d *ℤ u = level_is level in
      let columns = between (pos 256 *ℤ e.a.x) (pos 256 *ℤ e.b.x) q.x (inl (low, omega (arith, signed, high))) in
      let rows = ⊎_elim
      (λ (falls : d <ℤ pos 0).
      let back : w *ℤ (pos 0 -ℤ t) ≡ (pos 0 -ℤ d) *ℤ u =
      same_polynomial (w ∷ t ∷ []) (V 0 ⊗ (K (pos 0) ⊖ V 1)) (K (pos 0) ⊖ V 0 ⊗ V 1) refl
      ∙ ap (λ z. pos 0 -ℤ z) is
      ∙ same_polynomial (d ∷ u ∷ []) (K (pos 0) ⊖ V 0 ⊗ V 1) ((K (pos 0) ⊖ V 0) ⊗ V 1) refl in
      let in_rows = within w (pos 0 -ℤ d) u (pos 0 -ℤ t) some_w (omega (arith, signed, falls)) no_u short back in
      between (pos 256 *ℤ e.a.y) (pos 256 *ℤ e.b.y) q.y
      (inr (omega (arith, signed, in_rows.1), omega (arith, signed, in_rows.0))))
      (λ (rises : pos 0 ≤ℤ d).
      let in_rows = within w d u t some_w rises no_u short is in
      between (pos 256 *ℤ e.a.y) (pos 256 *ℤ e.b.y) q.y
      (inl (omega (arith, signed, in_rows.0), omega (arith, signed, in_rows.1))))
      (int_lt_or_le d (pos 0)) in
      ap₂ (λ a b. a && b) (ap₂ (λ a b. a && b) ((Decides-int_eq (side_of_edge e q) (pos 0)).1 level) columns) rows

  -- an edge of some width that has a point, and not its column, ends there
  ends_there : e.a.x <ℤ e.b.x → IsTrue (lies_on q e) → spans q e ≡ false → query_point e.b ≡ q
  ends_there wide on apart =
      let order : (pos 256 *ℤ e.a.x) ≤ℤ (pos 256 *ℤ e.b.x) = omega (arith, signed, wide) in
      let low = range_low (pos 256 *ℤ e.a.x) (pos 256 *ℤ e.b.x) q.x order (on_columns e q on) in
      let high = range_high (pos 256 *ℤ e.a.x) (pos 256 *ℤ e.b.x) q.x order (on_columns e q on) in
      let last : (pos 256 *ℤ e.b.x) ≤ℤ q.x =
      ⊎_elim
      (λ (l : q.x <ℤ (pos 256 *ℤ e.b.x)).
      let has : spans q e ≡ true =
      ap₂ (λ a b. a && b) (le_true (pos 256 *ℤ e.a.x) q.x low) (lt_true q.x (pos 256 *ℤ e.b.x) l) in
      absurd (true≢false (sym has ∙ apart)))
      (λ (l : (pos 256 *ℤ e.b.x) ≤ℤ q.x). l)
      (int_lt_or_le q.x (pos 256 *ℤ e.b.x)) in
      let x : pos 256 *ℤ e.b.x ≡ q.x = omega (arith, signed, high, last) in
      let w = e.b.x -ℤ e.a.x in
      let d = e.b.y -ℤ e.a.y in
      let across : q.x -ℤ pos 256 *ℤ e.a.x ≡ pos 256 *ℤ w = omega (arith, signed, x) in
      let level = level_is (on_line e q on) in
      let up : q.y -ℤ pos 256 *ℤ e.a.y ≡ pos 256 *ℤ d =
      int_same_of_mul w (q.y -ℤ pos 256 *ℤ e.a.y) (pos 256 *ℤ d) (omega (arith, signed, wide))
      (level ∙ ap (λ z. d *ℤ z) across
      ∙ same_polynomial (w ∷ d ∷ []) (V 1 ⊗ (K (pos 256) ⊗ V 0)) (V 0 ⊗ (K (pos 256) ⊗ V 1)) refl) in
      let y : pos 256 *ℤ e.b.y ≡ q.y = omega (arith, signed, up) in
      λ i. record { x = x i; y = y i }

-- ---- two edges and a point

side_over : (c e : EdgeEnds) (q : Point)
    → width e *ℤ side_of_edge c q ≡ width c *ℤ side_of_edge e q +ℤ over c e q.x
side_over c e q =
    same_polynomial
    (c.a.x ∷ c.a.y ∷ (c.b.x -ℤ c.a.x) ∷ (c.b.y -ℤ c.a.y) ∷ e.a.x ∷ e.a.y ∷ (e.b.x -ℤ e.a.x) ∷ (e.b.y -ℤ e.a.y) ∷ q.x ∷ q.y ∷ [])
    (V 6 ⊗ (V 2 ⊗ (V 9 ⊖ K (pos 256) ⊗ V 1) ⊖ V 3 ⊗ (V 8 ⊖ K (pos 256) ⊗ V 0)))
    (V 2 ⊗ (V 6 ⊗ (V 9 ⊖ K (pos 256) ⊗ V 5) ⊖ V 7 ⊗ (V 8 ⊖ K (pos 256) ⊗ V 4))
    ⊕ (((K (pos 256) ⊗ V 5) ⊗ V 6 ⊕ V 7 ⊗ (V 8 ⊖ K (pos 256) ⊗ V 4)) ⊗ V 2
    ⊖ ((K (pos 256) ⊗ V 1) ⊗ V 2 ⊕ V 3 ⊗ (V 8 ⊖ K (pos 256) ⊗ V 0)) ⊗ V 6)) refl

pub before_over : (e f : EdgeEnds) (q : Point) → ComesBefore q e f → pos 0 ≤ℤ over e f q.x
before_over e f q h = by (height_cmp q e f) refl h
  where
    by : (o : Ordering) → height_cmp q e f ≡ o → ordering_then o (slope_cmp e f) ≡ Less → pos 0 ≤ℤ over e f q.x
    by Less is h = omega (arith, signed, lower_is e f q is)
    by Equal is h =
        let level : height e q.x *ℤ width f ≡ height f q.x *ℤ width e =
        int_ranked (height e q.x *ℤ width f) (height f q.x *ℤ width e) Equal (sym is) in
        omega (arith, signed, level)
    by Greater is h = absurd (cc h)

-- what comes before an edge that has the point, and isn't below the point, has the point too
level_before : (c e : EdgeEnds) (q : Point) → IsWide e → ComesBefore q c e → side_of_edge e q ≡ pos 0
    → int_lt (pos 0) (side_of_edge c q) ≡ false → side_of_edge c q ≡ pos 0
level_before c e q wide before level not_below =
    let high = from_lt_false (pos 0) (side_of_edge c q) not_below in
    let none : width c *ℤ side_of_edge e q ≡ pos 0 =
    ap (λ z. width c *ℤ z) level ∙ same_polynomial (width c ∷ []) (V 0 ⊗ K (pos 0)) (K (pos 0)) refl in
    let zero : width e *ℤ pos 0 ≡ pos 0 = same_polynomial (width e ∷ []) (V 0 ⊗ K (pos 0)) (K (pos 0)) refl in
    let low = int_le_of_mul (width e) (pos 0) (side_of_edge c q) wide
    (omega (arith, signed, side_over c e q, none, zero, before_over c e q before)) in
    omega (arith, signed, low, high)

first_two : (h s t : Ordering) → ordering_then h s ≡ Less → ordering_then h (ordering_then s t) ≡ Less
first_two Less s t e = refl
first_two Equal Less t e = refl
first_two Equal Equal t e = absurd (cc e)
first_two Equal Greater t e = absurd (cc e)
first_two Greater s t e = absurd (cc e)

-- ---- edges in their own order

turned_edge : (e f : EdgeEnds) → edge_cmp e f ≡ Less → edge_cmp f e ≡ Greater
turned_edge e f h = edge_total.antisymm f e ∙ ap ordering_reverse h

total_edge : (e f : EdgeEnds) → Unit {0} → Unit {0} → Leads edge_cmp e f ⊎ Leads edge_cmp f e
total_edge e f u v = by (edge_cmp e f) refl
  where
    by : (o : Ordering) → edge_cmp e f ≡ o → Leads edge_cmp e f ⊎ Leads edge_cmp f e
    by Less is = inl (inr is)
    by Equal is = inl (inl (edge_exact e f is))
    by Greater is = inr (inr (edge_total.antisymm f e ∙ ap ordering_reverse is))

joined_edge : (e f g : EdgeEnds) → Unit {0} → Unit {0} → Unit {0} → Leads edge_cmp e f → Leads edge_cmp f g → Leads edge_cmp e g
joined_edge e f g u v w (inl h) l = subst (λ x. Leads edge_cmp x g) (sym h) l
joined_edge e f g u v w (inr h) (inl i) = subst (Leads edge_cmp e) i (inr h)
joined_edge e f g u v w (inr h) (inr i) = inr (edge_total.trans e f g h i)

-- ---- all of it

module _ {es some : List EdgeEnds} {q : Point} (ordered : (e : EdgeEnds) → Contains es e → IsEdge e)
    (one : OneEdgeHas es) (enough : AreEnough es some q)
    (free : (e : EdgeEnds) (h : Point) → Contains es e → IsEnd e h → query_point h ≡ q → ⊥) where
  on_near : (e : EdgeEnds) → Contains es e → IsTrue (lies_on q e) → Contains some e
  on_near e of_e on = ⊎_elim wide (λ (h : (e.a.x ≡ e.b.x) × (e.a.y <ℤ e.b.y)). enough.vertical e of_e h.0 on) (point_less e.a e.b (ordered e of_e))
    where
      level : side_of_edge e q ≡ pos 0
      level = on_line e q on

      wide : e.a.x <ℤ e.b.x → Contains some e
      wide l = by (spans q e) refl
        where
          by : (b : Bool) → spans q e ≡ b → Contains some e
          by true s =
              let near = (enough.near e of_e s).above (lt_false (pos 0) (side_of_edge e q) (omega (arith, signed, level))) in
              let c = near.0 in
              ⊎_elim
              (λ (same : c ≡ e). subst (Contains some) same near.1)
              (λ (before : ComesBefore q c e).
              let there = level_before c e q (wide_if_spans e q s) before level near.3 in
              ⊎_elim
              (λ (same : c ≡ e). subst (Contains some) same near.1)
              (λ (end : (h : Point) × IsEnd c h × IsEnd e h × (query_point h ≡ q)).
              absurd (free e end.0 of_e end.2 end.3))
              (one c e q (enough.members c near.1) of_e (on_span c q near.2 there) on))
              near.4
          by false s = absurd (free e e.b of_e (inr refl) (ends_there e q l on s))

  on_same : edge_on some q ≡ edge_on es q
  on_same =
      first_of_part edge_cmp turned_edge (λ e. Unit {0}) total_edge joined_edge (lies_on q) some es (λ e h. tt) enough.members
      (λ e of_e on. (e, on_near e of_e on, on, inl refl))

  above_same : ((e : EdgeEnds) → Contains es e → IsTrue (lies_on q e) → ⊥) → edge_above some q ≡ edge_above es q
  above_same none =
      first_of_part (upwards_cmp q) (turned_up q) IsWide (total_up q) (joined_up q)
      (λ e. spans q e && int_lt (side_of_edge e q) (pos 0)) some es
      (λ e h. wide_if_spans e q (and_left (spans q e) (int_lt (side_of_edge e q) (pos 0)) h)) enough.members
      (λ e of_e h.
      let s = and_left (spans q e) (int_lt (side_of_edge e q) (pos 0)) h in
      let under = from_lt_true (side_of_edge e q) (pos 0) (and_right (spans q e) (int_lt (side_of_edge e q) (pos 0)) h) in
      let near = (enough.near e of_e s).above (lt_false (pos 0) (side_of_edge e q) (omega (arith, signed, under))) in
      let c = near.0 in
      let high = from_lt_false (pos 0) (side_of_edge c q) near.3 in
      let strict : side_of_edge c q <ℤ pos 0 =
      ⊎_elim (λ (l : side_of_edge c q <ℤ pos 0). l)
      (λ (l : pos 0 ≤ℤ side_of_edge c q).
      absurd (none c (enough.members c near.1) (on_span c q near.2 (omega (arith, signed, l, high)))))
      (int_lt_or_le (side_of_edge c q) (pos 0)) in (
        c,
        near.1,
        ap₂ (λ a b. a && b) near.2 (lt_true (side_of_edge c q) (pos 0) strict),
        ⊎_elim (λ (same : c ≡ e). inl same)
            (λ (before : ComesBefore q c e). inr (first_two (height_cmp q c e) (slope_cmp c e) (edge_cmp c e) before))
            near.4,
      ))

  below_same : edge_below some q ≡ edge_below es q
  below_same =
      first_of_part (downwards_cmp q) (turned_down q) IsWide (total_down q) (joined_down q)
      (λ e. spans q e && int_lt (pos 0) (side_of_edge e q)) some es
      (λ e h. wide_if_spans e q (and_left (spans q e) (int_lt (pos 0) (side_of_edge e q)) h)) enough.members
      (λ e of_e h.
      let s = and_left (spans q e) (int_lt (pos 0) (side_of_edge e q)) h in
      let near = (enough.near e of_e s).below (and_right (spans q e) (int_lt (pos 0) (side_of_edge e q)) h) in
      let c = near.0 in (
        c,
        near.1,
        ap₂ (λ a b. a && b) near.2 near.3,
        ⊎_elim (λ (same : c ≡ e). inl same)
            (λ (before : ComesBefore q e c). inr (first_two (height_cmp q e c) (slope_cmp e c) (edge_cmp c e) before))
            near.4,
      ))

  pub off_same : place_off_vertices some q (edge_on some q) ≡ place_off_vertices es q (edge_on es q)
  off_same = ap (place_off_vertices some q) on_same ∙ by (edge_on es q) refl
    where
      by : (o : Option EdgeEnds) → edge_on es q ≡ o → place_off_vertices some q o ≡ place_off_vertices es q o
      by (Some e) is = refl
      by None is =
          let none : (e : EdgeEnds) → Contains es e → IsTrue (lies_on q e) → ⊥ =
          λ e of_e on. no_first edge_cmp turned_edge (λ x. Unit {0}) total_edge joined_edge (filter (lies_on q) es) (λ x c. tt) is e
          ((contains_filter (lies_on q) es e).1 (of_e, on)) in
          λ i. Between (above_same none i) (below_same i)

-- a vertex at q is found
pub vertex_found : (vs : List Point) (q h : Point) → Contains vs h → query_point h ≡ q → vertex_among vs q ≡ None → ⊥
vertex_found vs q h c there none = by (filter (λ v. point_eq (query_point v) q) vs) refl
  where
    test : Point → Bool
    test v = point_eq (query_point v) q

    has : Contains (filter (λ v. point_eq (query_point v) q) vs) h
    has = (contains_filter (λ v. point_eq (query_point v) q) vs h).1 (c, (point_decides (query_point h) q).1 there)

    by : (l : List Point) → filter (λ v. point_eq (query_point v) q) vs ≡ l → ⊥
    by [] is = none_in (subst (λ l. Contains l h) is has)
    by (v ∷ rest) is =
        let some : vertex_among vs q ≡ Some v = ap (λ l. slice_get l 0) is in
        cc

-- where each end of an edge that is at q is a vertex, some edges that are enough tell the place
pub told_by_enough : {es some : List EdgeEnds} (vs : List Point) {q : Point}
    → ((e : EdgeEnds) → Contains es e → IsEdge e)
    → OneEdgeHas es
    → ((e : EdgeEnds) (h : Point) → Contains es e → IsEnd e h → query_point h ≡ q → Contains vs h)
    → AreEnough es some q
    → place_among vs some q ≡ place_among vs es q
told_by_enough {es} {some} vs {q} ordered one joined enough = by (vertex_among vs q) refl
  where
    by : (o : Option Point) → vertex_among vs q ≡ o → place_among vs some q ≡ place_among vs es q
    by (Some h) is = ap (place_or_vertex some q) is ∙ sym (ap (place_or_vertex es q) is)
    by None is =
        ap (place_or_vertex some q) is
        ∙ off_same ordered one enough (λ e h of_e end there. vertex_found vs q h (joined e h of_e end there) there is)
        ∙ sym (ap (place_or_vertex es q) is)

pub enough_tell_the_place : {n : ℕ} {g : Graph} → IsPlanarGraph n g → EnoughTellThePlace g
enough_tell_the_place {n} {g} planar some q enough =
    told_by_enough g.vertices (λ e of_e. All-contains IsEdge g.edges e planar.ordered of_e) (one_edge_has planar.planar planar.ordered)
    (λ e h of_e end there.
    let ends = All-contains (JoinsVertices g.vertices) g.edges e planar.joined of_e in
    ⊎_elim (λ (a : h ≡ e.a). subst (Contains g.vertices) (sym a) ends.0)
    (λ (b : h ≡ e.b). subst (Contains g.vertices) (sym b) ends.1) end)
    enough
