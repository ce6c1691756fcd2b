-- Edges over a column that lies inside both. No two of a planar graph are level there, since they would have a common
-- point that is no end. So one of them is lower; it stays so further right, and further left until both begin.
use Rattle.std.proofs.Common.{◌≡◌, refl, sym, ap, subst, ◌∙◌, arith, Bool, true, ◌&&◌, ⊎_elim, inl, inr, [], ◌∷◌, List, Contains}
use Rattle.std.proofs.Common.{Ordering, Less, Equal, Greater}
use Rattle.std.specs.Prelude.{ℤ, pos, ◌+ℤ◌, ◌-ℤ◌, ◌*ℤ◌, ◌<ℤ◌, ◌≤ℤ◌, int_le, ◌⊎◌, IsTrue}
use Rattle.std.specs.List.{All}
use Rattle.std.specs.Int.{int_min, int_max}
use Rattle.std.specs.Ordering.{ordering_then, int_eq}
use Rattle.std.specs.Cmp.{int_cmp_is}
use Rattle.std.proofs.lemmas.Cmp.{int_ranked}
use Rattle.std.proofs.lemmas.Bool.Decides.{Decides-int_eq}
use Rattle.std.proofs.lemmas.List.Elements.{All-contains}
use Rattle.grid_core.specs.declared.point.Point.{Point}
use Rattle.grid_core.specs.Edge.{EdgeEnds, IsEdge}
use Rattle.grid_core.specs.Crossing.{RationalPoint}
use Rattle.grid_core.specs.Planar.{point_of_edge, IsOnePoint, IsOnEdge, IsCommonEnd, IsEnd, IsPlanar}
use Rattle.grid_core.specs.Places.{is_between, lies_on, height_cmp, slope_cmp, side_of_edge, query_point}
use Rattle.grid_core.proofs.Order.{point_less}
use Rattle.grid_core.proofs.Signed.{signed}
use Rattle.grid_core.proofs.Ring.{int_mul_nonneg, int_same_of_mul, int_lt_or_le}
use Rattle.grid_core.proofs.Polynomial.{V, K, ◌⊕◌, ◌⊖◌, ◌⊗◌, same_polynomial}
use Rattle.edge_search.specs.EdgeOrder.{ComesBefore, IsInside, LowerInsideComesBefore, OneEdgeHas}
use Rattle.edge_search.proofs.Ranges.{and_left, and_right, between_low, between_high}
use Rattle.edge_search.proofs.EdgeOrder.{width, height, over, on_edge, Has, stays_over, lower_is, is_lower, has_columns, over_moved, side_is}

-- ---- the point of an edge over a column

abbrev point_over : EdgeEnds → ℤ → RationalPoint
point_over e x = point_of_edge e (x -ℤ pos 256 *ℤ e.a.x) (pos 256 *ℤ width e)

column_over : (e : EdgeEnds) (x : ℤ)
    → e.a.x *ℤ (pos 256 *ℤ (e.b.x -ℤ e.a.x)) +ℤ (x -ℤ pos 256 *ℤ e.a.x) *ℤ (e.b.x -ℤ e.a.x) ≡ x *ℤ (e.b.x -ℤ e.a.x)
column_over e x =
    same_polynomial (e.a.x ∷ (e.b.x -ℤ e.a.x) ∷ x ∷ [])
    (V 0 ⊗ (K (pos 256) ⊗ V 1) ⊕ (V 2 ⊖ K (pos 256) ⊗ V 0) ⊗ V 1) (V 2 ⊗ V 1) refl

height_over : (e : EdgeEnds) (x : ℤ)
    → e.a.y *ℤ (pos 256 *ℤ (e.b.x -ℤ e.a.x)) +ℤ (x -ℤ pos 256 *ℤ e.a.x) *ℤ (e.b.y -ℤ e.a.y) ≡ height e x
height_over e x =
    same_polynomial (e.a.x ∷ e.a.y ∷ (e.b.x -ℤ e.a.x) ∷ (e.b.y -ℤ e.a.y) ∷ x ∷ [])
    (V 1 ⊗ (K (pos 256) ⊗ V 2) ⊕ (V 4 ⊖ K (pos 256) ⊗ V 0) ⊗ V 3)
    ((K (pos 256) ⊗ V 1) ⊗ V 2 ⊕ V 3 ⊗ (V 4 ⊖ K (pos 256) ⊗ V 0)) refl

one_column : (x w v : ℤ) → (x *ℤ w) *ℤ (pos 256 *ℤ v) ≡ (x *ℤ v) *ℤ (pos 256 *ℤ w)
one_column x w v =
    same_polynomial (x ∷ w ∷ v ∷ []) ((V 0 ⊗ V 1) ⊗ (K (pos 256) ⊗ V 2)) ((V 0 ⊗ V 2) ⊗ (K (pos 256) ⊗ V 1)) refl

apart_256 : (h w : ℤ) → h *ℤ (pos 256 *ℤ w) ≡ pos 256 *ℤ (h *ℤ w)
apart_256 h w =
    same_polynomial (h ∷ w ∷ []) (V 0 ⊗ (K (pos 256) ⊗ V 1)) (K (pos 256) ⊗ (V 0 ⊗ V 1)) refl

-- edges that are level over a column have one point there
one_point : (e f : EdgeEnds) (x : ℤ) → over e f x ≡ pos 0 → IsOnePoint (point_over e x) (point_over f x)
one_point e f x level =
    let same : height e x *ℤ width f ≡ height f x *ℤ width e = omega (arith, signed, level) in
    record {
      x = ap (λ z. z *ℤ (pos 256 *ℤ width f)) (column_over e x)
          ∙ one_column x (width e) (width f)
          ∙ ap (λ z. z *ℤ (pos 256 *ℤ width e)) (sym (column_over f x));
      y = ap (λ z. z *ℤ (pos 256 *ℤ width f)) (height_over e x)
          ∙ apart_256 (height e x) (width f)
          ∙ ap (λ z. pos 256 *ℤ z) same
          ∙ sym (apart_256 (height f x) (width e))
          ∙ ap (λ z. z *ℤ (pos 256 *ℤ width e)) (sym (height_over f x));
    }

wide_inside : (e : EdgeEnds) (q : Point) → IsInside q e → pos 0 <ℤ width e
wide_inside e q h = omega (arith, signed, h.from, h.to)

-- a point inside an edge's columns is none of its ends
no_end_inside : (e : EdgeEnds) (q h : Point) → IsInside q e
    → (e.a.x *ℤ (pos 256 *ℤ (e.b.x -ℤ e.a.x)) +ℤ (q.x -ℤ pos 256 *ℤ e.a.x) *ℤ (e.b.x -ℤ e.a.x)) *ℤ pos 1
    ≡ h.x *ℤ (pos 256 *ℤ (e.b.x -ℤ e.a.x))
    → IsEnd e h → ⊥
no_end_inside e q h inside is end =
    let column : q.x ≡ pos 256 *ℤ h.x =
    int_same_of_mul (width e) q.x (pos 256 *ℤ h.x) (wide_inside e q inside)
    (same_polynomial (q.x ∷ width e ∷ []) (V 1 ⊗ V 0) ((V 0 ⊗ V 1) ⊗ K (pos 1)) refl
    ∙ ap (λ z. z *ℤ pos 1) (sym (column_over e q.x))
    ∙ is
    ∙ same_polynomial (h.x ∷ width e ∷ []) (V 0 ⊗ (K (pos 256) ⊗ V 1)) (V 1 ⊗ (K (pos 256) ⊗ V 0)) refl) in
    ⊎_elim
    (λ (a : h ≡ e.a).
    let there : h.x ≡ e.a.x = ap (λ (p : Point). p.x) a in
    omega (arith, signed, column, there, inside.from))
    (λ (b : h ≡ e.b).
    let there : h.x ≡ e.b.x = ap (λ (p : Point). p.x) b in
    omega (arith, signed, column, there, inside.to))
    end

-- ---- to the left

turned_over : (e f : EdgeEnds) (x : ℤ) → over f e x ≡ pos 0 -ℤ over e f x
turned_over e f x =
    same_polynomial (height e x ∷ width e ∷ height f x ∷ width f ∷ [])
    (V 0 ⊗ V 3 ⊖ V 2 ⊗ V 1) (K (pos 0) ⊖ (V 2 ⊗ V 1 ⊖ V 0 ⊗ V 3)) refl

turned_product : (s d : ℤ) → (pos 0 -ℤ s) *ℤ d ≡ pos 0 -ℤ s *ℤ d
turned_product s d = same_polynomial (s ∷ d ∷ []) ((K (pos 0) ⊖ V 0) ⊗ V 1) (K (pos 0) ⊖ V 0 ⊗ V 1) refl

-- what is level over a column, and lower further right, has less slope
less_slope : (e f : EdgeEnds) (x y : ℤ) → x <ℤ y → over e f x ≡ pos 0 → pos 0 <ℤ over e f y → slope_cmp e f ≡ Less
less_slope e f x y left level up =
    let s = (f.b.y -ℤ f.a.y) *ℤ width e -ℤ (e.b.y -ℤ e.a.y) *ℤ width f in
    let steeper : pos 0 <ℤ s =
    ⊎_elim (λ (l : pos 0 <ℤ s). l)
    (λ (l : s ≤ℤ pos 0).
    let lost = int_mul_nonneg (pos 0 -ℤ s) (y -ℤ x) (omega (arith, signed, l)) (omega (arith, signed, left)) in
    absurd (omega (arith, signed, lost, turned_product s (y -ℤ x), over_moved e f x y, level, up)))
    (int_lt_or_le (pos 0) s) in
    sym (int_cmp_is ((e.b.y -ℤ e.a.y) *ℤ width f) ((f.b.y -ℤ f.a.y) *ℤ width e) Less (omega (arith, signed, steeper)))

module _ {es : List EdgeEnds} {vs : List Point} (planar : IsPlanar es vs) where
  -- edges that are level inside both are one
  level_inside : (e f : EdgeEnds) (q : Point) → Contains es e → Contains es f → IsInside q e → IsInside q f
      → over e f q.x ≡ pos 0 → e ≡ f
  level_inside e f q of_e of_f in_e in_f level =
      let c = point_over e q.x in
      let whole_e : pos 0 <ℤ (pos 256 *ℤ width e) = omega (arith, signed, in_e.from, in_e.to) in
      let whole_f : pos 0 <ℤ (pos 256 *ℤ width f) = omega (arith, signed, in_f.from, in_f.to) in
      let on_e : IsOnEdge e c =
      on_edge e c (q.x -ℤ pos 256 *ℤ e.a.x) (pos 256 *ℤ width e) (omega (arith, signed, in_e.from))
      (omega (arith, signed, in_e.to)) whole_e (record { x = refl; y = refl }) in
      let on_f : IsOnEdge f c =
      on_edge f c (q.x -ℤ pos 256 *ℤ f.a.x) (pos 256 *ℤ width f) (omega (arith, signed, in_f.from))
      (omega (arith, signed, in_f.to)) whole_f (one_point e f q.x level) in
      ⊎_elim
      (λ (one : e ≡ f). one)
      (λ (end : IsCommonEnd e f c). absurd (no_end_inside e q end.at in_e end.is.x end.of_first))
      (planar.apart e f c of_e of_f whole_e on_e on_f)

  -- what is lower over a column comes before over each column further left
  before_left : (e f : EdgeEnds) (q r : Point) → Contains es e → Contains es f → Has e r.x q.x → Has f r.x q.x
      → r.x <ℤ q.x → pos 0 <ℤ over e f q.x → ComesBefore r e f
  before_left e f q r of_e of_f has_e has_f left up = by (height_cmp r e f) refl
    where
      by : (o : Ordering) → height_cmp r e f ≡ o → ordering_then (height_cmp r e f) (slope_cmp e f) ≡ Less
      by Less is = ap (λ o. ordering_then o (slope_cmp e f)) is
      by Equal is =
          let level : height e r.x *ℤ width f ≡ height f r.x *ℤ width e =
          int_ranked (height e r.x *ℤ width f) (height f r.x *ℤ width e) Equal (sym is) in
          ap (λ o. ordering_then o (slope_cmp e f)) is
          ∙ less_slope e f r.x q.x left (omega (arith, signed, level)) up
      by Greater is =
          let higher : (height f r.x *ℤ width e) <ℤ (height e r.x *ℤ width f) =
          int_ranked (height e r.x *ℤ width f) (height f r.x *ℤ width e) Greater (sym is) in
          let stays = stays_over planar f e r.x q.x of_f of_e has_f has_e left (omega (arith, signed, higher)) in
          absurd (omega (arith, signed, stays, turned_over e f q.x, up))

  before_right : (e f : EdgeEnds) (q r : Point) → Contains es e → Contains es f → Has e q.x r.x → Has f q.x r.x
      → q.x ≤ℤ r.x → pos 0 <ℤ over e f q.x → ComesBefore r e f
  before_right e f q r of_e of_f has_e has_f left up =
      ap (λ o. ordering_then o (slope_cmp e f))
      (is_lower e f r
      (⊎_elim
      (λ (before : q.x <ℤ r.x). stays_over planar e f q.x r.x of_e of_f has_e has_f before up)
      (λ (back : r.x ≤ℤ q.x).
      let one : q.x ≡ r.x = omega (arith, signed, left, back) in
      subst (λ x. pos 0 <ℤ over e f x) one up)
      (int_lt_or_le q.x r.x)))

  pub lower_inside : LowerInsideComesBefore es
  lower_inside e f q r of_e of_f in_e in_f e_r f_r low = by (height_cmp q e f) refl
    where
      at_r_e : Has e r.x r.x
      at_r_e = has_columns e r r e_r e_r

      at_r_f : Has f r.x r.x
      at_r_f = has_columns f r r f_r f_r

      lower : pos 0 <ℤ over e f q.x → ComesBefore r e f
      lower up =
          ⊎_elim
          (λ (before : r.x <ℤ q.x).
          before_left e f q r of_e of_f (record { from = at_r_e.from; to = in_e.to })
          (record { from = at_r_f.from; to = in_f.to }) before up)
          (λ (back : q.x ≤ℤ r.x).
          before_right e f q r of_e of_f
          (record { from = omega (arith, signed, in_e.from); to = at_r_e.to })
          (record { from = omega (arith, signed, in_f.from); to = at_r_f.to }) back up)
          (int_lt_or_le r.x q.x)

      by : (o : Ordering) → height_cmp q e f ≡ o → (e ≡ f) ⊎ ComesBefore r e f
      by Less is = inr (lower (lower_is e f q is))
      by Equal is =
          let level : height e q.x *ℤ width f ≡ height f q.x *ℤ width e =
          int_ranked (height e q.x *ℤ width f) (height f q.x *ℤ width e) Equal (sym is) in
          inl (level_inside e f q of_e of_f in_e in_f (omega (arith, signed, level)))
      by Greater is = absurd (low is)

-- ---- a query point on edges

abbrev as_fractions : Point → RationalPoint
as_fractions q = record { num_x = q.x; num_y = q.y; den = pos 256 }

-- a query point that lies on an edge is a point of it
on_slanted : (e : EdgeEnds) (q : Point) → e.a.x <ℤ e.b.x → (pos 256 *ℤ e.a.x) ≤ℤ q.x → q.x ≤ℤ (pos 256 *ℤ e.b.x)
    → side_of_edge e q ≡ pos 0 → IsOnEdge e (as_fractions q)
on_slanted e q wide low high level =
    let up : width e *ℤ q.y ≡ height e q.x = omega (arith, signed, side_is e q, level) in
    on_edge e (as_fractions q) (q.x -ℤ pos 256 *ℤ e.a.x) (pos 256 *ℤ width e) (omega (arith, signed, low))
    (omega (arith, signed, high)) (omega (arith, signed, wide))
    (record {
      x = same_polynomial (q.x ∷ width e ∷ []) (V 0 ⊗ (K (pos 256) ⊗ V 1)) ((V 0 ⊗ V 1) ⊗ K (pos 256)) refl
          ∙ ap (λ z. z *ℤ pos 256) (sym (column_over e q.x));
      y = same_polynomial (q.y ∷ width e ∷ []) (V 0 ⊗ (K (pos 256) ⊗ V 1)) ((V 1 ⊗ V 0) ⊗ K (pos 256)) refl
          ∙ ap (λ z. z *ℤ pos 256) (up ∙ sym (height_over e q.x));
    })

on_upright : (e : EdgeEnds) (q : Point) → e.a.x ≡ e.b.x → e.a.y <ℤ e.b.y → q.x ≡ pos 256 *ℤ e.a.x
    → (pos 256 *ℤ e.a.y) ≤ℤ q.y → q.y ≤ℤ (pos 256 *ℤ e.b.y) → IsOnEdge e (as_fractions q)
on_upright e q upright tall column low high =
    let none : e.b.x -ℤ e.a.x ≡ pos 0 = omega (arith, signed, upright) in
    let d = e.b.y -ℤ e.a.y in
    let u = q.y -ℤ pos 256 *ℤ e.a.y in
    on_edge e (as_fractions q) u (pos 256 *ℤ d) (omega (arith, signed, low)) (omega (arith, signed, high))
    (omega (arith, signed, tall))
    (record {
      x = ap (λ z. z *ℤ (pos 256 *ℤ d)) column
          ∙ same_polynomial (e.a.x ∷ d ∷ u ∷ []) ((K (pos 256) ⊗ V 0) ⊗ (K (pos 256) ⊗ V 1))
          ((V 0 ⊗ (K (pos 256) ⊗ V 1) ⊕ V 2 ⊗ K (pos 0)) ⊗ K (pos 256)) refl
          ∙ ap (λ z. (e.a.x *ℤ (pos 256 *ℤ d) +ℤ u *ℤ z) *ℤ pos 256) (sym none);
      y = same_polynomial (e.a.y ∷ d ∷ q.y ∷ []) (V 2 ⊗ (K (pos 256) ⊗ V 1))
          ((V 0 ⊗ (K (pos 256) ⊗ V 1) ⊕ (V 2 ⊖ K (pos 256) ⊗ V 0) ⊗ V 1) ⊗ K (pos 256)) refl;
    })

module _ (e : EdgeEnds) (q : Point) where
  abbrev in_line : Bool
  in_line = int_eq (side_of_edge e q) (pos 0)

  abbrev in_columns : Bool
  in_columns = is_between (pos 256 *ℤ e.a.x) (pos 256 *ℤ e.b.x) q.x

  abbrev in_rows : Bool
  in_rows = is_between (pos 256 *ℤ e.a.y) (pos 256 *ℤ e.b.y) q.y

  -- what it is to lie on an edge
  pub on_line : IsTrue (lies_on q e) → side_of_edge e q ≡ pos 0
  on_line h = (Decides-int_eq (side_of_edge e q) (pos 0)).0 (and_left in_line in_columns (and_left (in_line && in_columns) in_rows h))

  pub on_columns : IsTrue (lies_on q e) → is_between (pos 256 *ℤ e.a.x) (pos 256 *ℤ e.b.x) q.x ≡ true
  on_columns h = and_right in_line in_columns (and_left (in_line && in_columns) in_rows h)

  pub on_rows : IsTrue (lies_on q e) → is_between (pos 256 *ℤ e.a.y) (pos 256 *ℤ e.b.y) q.y ≡ true
  on_rows h = and_right (in_line && in_columns) in_rows h

pub range_low : (a b z : ℤ) → a ≤ℤ b → is_between a b z ≡ true → a ≤ℤ z
range_low a b z order h = between_low a b z order (and_left (int_le (int_min a b) z) (int_le z (int_max a b)) h)

pub range_high : (a b z : ℤ) → a ≤ℤ b → is_between a b z ≡ true → z ≤ℤ b
range_high a b z order h = between_high a b z order (and_right (int_le (int_min a b) z) (int_le z (int_max a b)) h)

pub on_it : (e : EdgeEnds) (q : Point) → IsEdge e → IsTrue (lies_on q e) → IsOnEdge e (as_fractions q)
on_it e q ordered on =
    ⊎_elim
    (λ (wide : e.a.x <ℤ e.b.x).
    let order : (pos 256 *ℤ e.a.x) ≤ℤ (pos 256 *ℤ e.b.x) = omega (arith, signed, wide) in
    on_slanted e q wide (range_low (pos 256 *ℤ e.a.x) (pos 256 *ℤ e.b.x) q.x order (on_columns e q on))
    (range_high (pos 256 *ℤ e.a.x) (pos 256 *ℤ e.b.x) q.x order (on_columns e q on)) (on_line e q on))
    (λ (tall : (e.a.x ≡ e.b.x) × (e.a.y <ℤ e.b.y)).
    let order : (pos 256 *ℤ e.a.x) ≤ℤ (pos 256 *ℤ e.b.x) = omega (arith, signed, tall.0) in
    let rise : (pos 256 *ℤ e.a.y) ≤ℤ (pos 256 *ℤ e.b.y) = omega (arith, signed, tall.1) in
    let low = range_low (pos 256 *ℤ e.a.x) (pos 256 *ℤ e.b.x) q.x order (on_columns e q on) in
    let high = range_high (pos 256 *ℤ e.a.x) (pos 256 *ℤ e.b.x) q.x order (on_columns e q on) in
    on_upright e q tall.0 tall.1 (omega (arith, signed, low, high, tall.0))
    (range_low (pos 256 *ℤ e.a.y) (pos 256 *ℤ e.b.y) q.y rise (on_rows e q on))
    (range_high (pos 256 *ℤ e.a.y) (pos 256 *ℤ e.b.y) q.y rise (on_rows e q on)))
    (point_less e.a e.b ordered)

pub one_edge_has : {es : List EdgeEnds} {vs : List Point} → IsPlanar es vs → All IsEdge es → OneEdgeHas es
one_edge_has {es} planar ordered e f q of_e of_f on_e on_f =
    ⊎_elim
    (λ (one : e ≡ f). inl one)
    (λ (end : IsCommonEnd e f (as_fractions q)).
    let x : pos 256 *ℤ end.at.x ≡ q.x = omega (arith, signed, end.is.x) in
    let y : pos 256 *ℤ end.at.y ≡ q.y = omega (arith, signed, end.is.y) in
    let there : query_point end.at ≡ q = λ i. record { x = x i; y = y i } in
    inr (end.at, end.of_first, end.of_second, there))
    (planar.apart e f (as_fractions q) of_e of_f (omega (arith, signed))
    (on_it e q (All-contains IsEdge es e ordered of_e) on_e)
    (on_it f q (All-contains IsEdge es f ordered of_f) on_f))
