-- Of two edges of a planar graph that both have two columns, the one that is lower over the first is lower
-- over the second. Let it not be: between the two columns, where the difference of the heights is
-- divided as they are above and below, the edges have a common point. It lies right of the first column
-- and not right of the second, so that it is no end of either; but edges have no other point in common.
use Rattle.std.proofs.Common.{◌≡◌, refl, sym, ap, subst, ◌∙◌, arith, ⊎_elim, [], ◌∷◌, List, Contains}
use Rattle.std.proofs.Common.{Ordering, Less, Equal, Greater}
use Rattle.std.specs.Prelude.{ℤ, pos, ◌+ℤ◌, ◌-ℤ◌, ◌*ℤ◌, ◌<ℤ◌, ◌≤ℤ◌, ◌⊎◌, unsigned_abs, IsTrue, int_le, int_lt}
use Rattle.std.specs.Ordering.{ordering_then}
use Rattle.std.specs.Cmp.{int_cmp_is}
use Rattle.std.proofs.lemmas.Cmp.{int_ranked}
use Rattle.grid_core.specs.declared.point.Point.{Point}
use Rattle.grid_core.specs.Edge.{EdgeEnds}
use Rattle.grid_core.specs.Crossing.{RationalPoint}
use Rattle.grid_core.specs.Planar.{point_of_edge, IsOnePoint, IsOnEdge, IsCommonEnd, IsPlanar}
use Rattle.grid_core.specs.Places.{spans, height_cmp, slope_cmp, side_of_edge}
use Rattle.grid_core.proofs.Signed.{signed, from_le_true, from_lt_true, lt_true}
use Rattle.grid_core.proofs.Ring.{int_mul_pos, int_mul_nonneg, int_same_of_mul, int_lt_of_mul, int_lt_or_le}
use Rattle.grid_core.proofs.Polynomial.{V, K, ◌⊕◌, ◌⊖◌, ◌⊗◌, same_polynomial}
use Rattle.edge_search.specs.EdgeOrder.{LowerStaysLower, AboveIsAboveThoseBefore}
use Rattle.edge_search.proofs.Ranges.{and_left, and_right}

abbrev pub width : EdgeEnds → ℤ
width e = e.b.x -ℤ e.a.x

-- how high an edge is at a column in 1/256 of a pixel, times its width
abbrev pub height : EdgeEnds → ℤ → ℤ
height e x = (pos 256 *ℤ e.a.y) *ℤ (e.b.x -ℤ e.a.x) +ℤ (e.b.y -ℤ e.a.y) *ℤ (x -ℤ pos 256 *ℤ e.a.x)

-- how much higher f is than e there, times both widths
abbrev pub over : EdgeEnds → EdgeEnds → ℤ → ℤ
over e f x = height f x *ℤ width e -ℤ height e x *ℤ width f

-- a point of an edge, by a part and a whole of it
pub on_edge : (e : EdgeEnds) (c : RationalPoint) (u n : ℤ) → pos 0 ≤ℤ u → u ≤ℤ n → pos 0 <ℤ n
    → IsOnePoint c (point_of_edge e u n) → IsOnEdge e c
on_edge e c u n low high some is =
    let part : pos (unsigned_abs u) ≡ u = omega (arith, signed, low) in
    let whole : pos (unsigned_abs n) ≡ n = omega (arith, signed, some) in
    record {
      a = unsigned_abs u;
      b = unsigned_abs n;
      part = omega (arith, signed, low, high);
      whole = omega (arith, signed, some);
      is = subst (λ v. IsOnePoint c (point_of_edge e v (pos (unsigned_abs n)))) (sym part)
          (subst (λ m. IsOnePoint c (point_of_edge e u m)) (sym whole) is);
    }

-- ---- a column between two, and how high an edge is there

-- the sum of two weights, and the mean of two columns times the sum
abbrev part_of : EdgeEnds → (m k x y : ℤ) → ℤ
part_of e m k x y = (m *ℤ x +ℤ k *ℤ y) -ℤ pos 256 *ℤ (e.a.x *ℤ (m +ℤ k))

abbrev whole_of : EdgeEnds → (m k : ℤ) → ℤ
whole_of e m k = pos 256 *ℤ (width e *ℤ (m +ℤ k))

column_there : (e : EdgeEnds) (m k x y : ℤ)
    → e.a.x *ℤ whole_of e m k +ℤ part_of e m k x y *ℤ (e.b.x -ℤ e.a.x) ≡ width e *ℤ (m *ℤ x +ℤ k *ℤ y)
column_there e m k x y =
    same_polynomial (e.a.x ∷ (e.b.x -ℤ e.a.x) ∷ m ∷ k ∷ x ∷ y ∷ [])
    (V 0 ⊗ (K (pos 256) ⊗ (V 1 ⊗ (V 2 ⊕ V 3)))
    ⊕ ((V 2 ⊗ V 4 ⊕ V 3 ⊗ V 5) ⊖ K (pos 256) ⊗ (V 0 ⊗ (V 2 ⊕ V 3))) ⊗ V 1)
    (V 1 ⊗ (V 2 ⊗ V 4 ⊕ V 3 ⊗ V 5)) refl

height_there : (e : EdgeEnds) (m k x y : ℤ)
    → e.a.y *ℤ whole_of e m k +ℤ part_of e m k x y *ℤ (e.b.y -ℤ e.a.y) ≡ m *ℤ height e x +ℤ k *ℤ height e y
height_there e m k x y =
    same_polynomial (e.a.x ∷ e.a.y ∷ (e.b.x -ℤ e.a.x) ∷ (e.b.y -ℤ e.a.y) ∷ m ∷ k ∷ x ∷ y ∷ [])
    (V 1 ⊗ (K (pos 256) ⊗ (V 2 ⊗ (V 4 ⊕ V 5)))
    ⊕ ((V 4 ⊗ V 6 ⊕ V 5 ⊗ V 7) ⊖ K (pos 256) ⊗ (V 0 ⊗ (V 4 ⊕ V 5))) ⊗ V 3)
    (V 4 ⊗ ((K (pos 256) ⊗ V 1) ⊗ V 2 ⊕ V 3 ⊗ (V 6 ⊖ K (pos 256) ⊗ V 0))
    ⊕ V 5 ⊗ ((K (pos 256) ⊗ V 1) ⊗ V 2 ⊕ V 3 ⊗ (V 7 ⊖ K (pos 256) ⊗ V 0))) refl

-- the part is above 0, and less than the whole
part_is : (a m k x y : ℤ)
    → (m *ℤ x +ℤ k *ℤ y) -ℤ pos 256 *ℤ (a *ℤ (m +ℤ k)) ≡ m *ℤ (x -ℤ pos 256 *ℤ a) +ℤ k *ℤ (y -ℤ pos 256 *ℤ a)
part_is a m k x y =
    same_polynomial (a ∷ m ∷ k ∷ x ∷ y ∷ [])
    ((V 1 ⊗ V 3 ⊕ V 2 ⊗ V 4) ⊖ K (pos 256) ⊗ (V 0 ⊗ (V 1 ⊕ V 2)))
    (V 1 ⊗ (V 3 ⊖ K (pos 256) ⊗ V 0) ⊕ V 2 ⊗ (V 4 ⊖ K (pos 256) ⊗ V 0)) refl

rest_is : (a b m k x y : ℤ)
    → pos 256 *ℤ ((b -ℤ a) *ℤ (m +ℤ k)) -ℤ ((m *ℤ x +ℤ k *ℤ y) -ℤ pos 256 *ℤ (a *ℤ (m +ℤ k)))
    ≡ m *ℤ (pos 256 *ℤ b -ℤ x) +ℤ k *ℤ (pos 256 *ℤ b -ℤ y)
rest_is a b m k x y =
    same_polynomial (a ∷ b ∷ m ∷ k ∷ x ∷ y ∷ [])
    (K (pos 256) ⊗ ((V 1 ⊖ V 0) ⊗ (V 2 ⊕ V 3)) ⊖ ((V 2 ⊗ V 4 ⊕ V 3 ⊗ V 5) ⊖ K (pos 256) ⊗ (V 0 ⊗ (V 2 ⊕ V 3))))
    (V 2 ⊗ (K (pos 256) ⊗ V 1 ⊖ V 4) ⊕ V 3 ⊗ (K (pos 256) ⊗ V 1 ⊖ V 5)) refl

sum_above : (m k p q : ℤ) → pos 0 ≤ℤ m → pos 0 <ℤ k → pos 0 ≤ℤ p → pos 0 <ℤ q → pos 0 <ℤ (m *ℤ p +ℤ k *ℤ q)
sum_above m k p q h i j l = omega (arith, signed, int_mul_nonneg m p h j, int_mul_pos k q i l)

-- an edge has the columns x and y, x left of y
pub record Has (e : EdgeEnds) (x y : ℤ) : Type 0 where
  pub from : (pos 256 *ℤ e.a.x) ≤ℤ x
  pub to : y <ℤ (pos 256 *ℤ e.b.x)

module _ (e : EdgeEnds) (m k x y : ℤ) (has : Has e x y) (left : x <ℤ y) (no_m : pos 0 ≤ℤ m) (some_k : pos 0 <ℤ k) where
  wide : pos 0 <ℤ width e
  wide = omega (arith, signed, has.from, has.to, left)

  part_above : pos 0 <ℤ part_of e m k x y
  part_above =
      subst (λ z. pos 0 <ℤ z) (sym (part_is e.a.x m k x y))
      (sum_above m k (x -ℤ pos 256 *ℤ e.a.x) (y -ℤ pos 256 *ℤ e.a.x) no_m some_k
      (omega (arith, signed, has.from)) (omega (arith, signed, has.from, left)))

  rest_above : pos 0 <ℤ (whole_of e m k -ℤ part_of e m k x y)
  rest_above =
      subst (λ z. pos 0 <ℤ z) (sym (rest_is e.a.x e.b.x m k x y))
      (sum_above m k (pos 256 *ℤ e.b.x -ℤ x) (pos 256 *ℤ e.b.x -ℤ y) no_m some_k
      (omega (arith, signed, has.to, left)) (omega (arith, signed, has.to)))

  whole_above : pos 0 <ℤ whole_of e m k
  whole_above = omega (arith, signed, part_above, rest_above)

-- ---- the point that two edges have in common

turned : (w v m k : ℤ) (z : ℤ)
    → (w *ℤ z) *ℤ (pos 256 *ℤ (v *ℤ (m +ℤ k))) ≡ (v *ℤ z) *ℤ (pos 256 *ℤ (w *ℤ (m +ℤ k)))
turned w v m k z =
    same_polynomial (w ∷ v ∷ m ∷ k ∷ z ∷ [])
    ((V 0 ⊗ V 4) ⊗ (K (pos 256) ⊗ (V 1 ⊗ (V 2 ⊕ V 3)))) ((V 1 ⊗ V 4) ⊗ (K (pos 256) ⊗ (V 0 ⊗ (V 2 ⊕ V 3)))) refl

-- p and q are the heights of the one edge, r and t those of the other, over the widths w and v
balanced : (p q r t w v s : ℤ)
    → ((pos 0 -ℤ (t *ℤ w -ℤ q *ℤ v)) *ℤ p +ℤ (r *ℤ w -ℤ p *ℤ v) *ℤ q) *ℤ (pos 256 *ℤ (v *ℤ s))
    ≡ ((pos 0 -ℤ (t *ℤ w -ℤ q *ℤ v)) *ℤ r +ℤ (r *ℤ w -ℤ p *ℤ v) *ℤ t) *ℤ (pos 256 *ℤ (w *ℤ s))
balanced p q r t w v s =
    same_polynomial (p ∷ q ∷ r ∷ t ∷ w ∷ v ∷ s ∷ [])
    (((K (pos 0) ⊖ (V 3 ⊗ V 4 ⊖ V 1 ⊗ V 5)) ⊗ V 0 ⊕ (V 2 ⊗ V 4 ⊖ V 0 ⊗ V 5) ⊗ V 1) ⊗ (K (pos 256) ⊗ (V 5 ⊗ V 6)))
    (((K (pos 0) ⊖ (V 3 ⊗ V 4 ⊖ V 1 ⊗ V 5)) ⊗ V 2 ⊕ (V 2 ⊗ V 4 ⊖ V 0 ⊗ V 5) ⊗ V 3) ⊗ (K (pos 256) ⊗ (V 4 ⊗ V 6))) refl

module _ (e f : EdgeEnds) (x y : ℤ) where
  -- how far apart the edges are over x, and how far the other way over y
  abbrev k : ℤ
  k = over e f x

  abbrev m : ℤ
  m = pos 0 -ℤ over e f y

  -- the point of e there
  abbrev meeting : RationalPoint
  meeting =
      record {
        num_x = width e *ℤ (m *ℤ x +ℤ k *ℤ y);
        num_y = m *ℤ height e x +ℤ k *ℤ height e y;
        den = whole_of e m k;
      }

  meeting_of_first : IsOnePoint meeting (point_of_edge e (part_of e m k x y) (whole_of e m k))
  meeting_of_first =
      record {
        x = ap (λ z. z *ℤ whole_of e m k) (sym (column_there e m k x y));
        y = ap (λ z. z *ℤ whole_of e m k) (sym (height_there e m k x y));
      }

  meeting_of_second : IsOnePoint meeting (point_of_edge f (part_of f m k x y) (whole_of f m k))
  meeting_of_second =
      record {
        x = turned (width e) (width f) m k (m *ℤ x +ℤ k *ℤ y)
            ∙ ap (λ z. z *ℤ whole_of e m k) (sym (column_there f m k x y));
        y = balanced (height e x) (height e y) (height f x) (height f y) (width e) (width f) (m +ℤ k)
            ∙ ap (λ z. z *ℤ whole_of e m k) (sym (height_there f m k x y));
      }

-- a point of this column is no end of the edge
no_end : (e : EdgeEnds) (at : Point) (m k x y : ℤ) → Has e x y → x <ℤ y → pos 0 ≤ℤ m → pos 0 <ℤ k
    → (width e *ℤ (m *ℤ x +ℤ k *ℤ y)) *ℤ pos 1 ≡ at.x *ℤ whole_of e m k
    → (at ≡ e.a) ⊎ (at ≡ e.b) → pos 0 <ℤ pos 0
no_end e at m k x y has left no_m some_k is end =
    let column : m *ℤ x +ℤ k *ℤ y ≡ pos 256 *ℤ (at.x *ℤ (m +ℤ k)) =
    int_same_of_mul (width e) (m *ℤ x +ℤ k *ℤ y) (pos 256 *ℤ (at.x *ℤ (m +ℤ k))) (wide e m k x y has left no_m some_k)
    (same_polynomial (width e ∷ (m *ℤ x +ℤ k *ℤ y) ∷ []) (V 0 ⊗ V 1) ((V 0 ⊗ V 1) ⊗ K (pos 1)) refl
    ∙ is
    ∙ same_polynomial (at.x ∷ width e ∷ (m +ℤ k) ∷ []) (V 0 ⊗ (K (pos 256) ⊗ (V 1 ⊗ V 2))) (V 1 ⊗ (K (pos 256) ⊗ (V 0 ⊗ V 2))) refl) in
    ⊎_elim
    (λ (a : at ≡ e.a).
    let there : m *ℤ x +ℤ k *ℤ y ≡ pos 256 *ℤ (e.a.x *ℤ (m +ℤ k)) =
    column ∙ ap (λ (h : Point). pos 256 *ℤ (h.x *ℤ (m +ℤ k))) a in
    omega (arith, signed, there, part_above e m k x y has left no_m some_k))
    (λ (b : at ≡ e.b).
    let there : m *ℤ x +ℤ k *ℤ y ≡ pos 256 *ℤ (e.b.x *ℤ (m +ℤ k)) =
    column ∙ ap (λ (h : Point). pos 256 *ℤ (h.x *ℤ (m +ℤ k))) b in
    let split : pos 256 *ℤ ((e.b.x -ℤ e.a.x) *ℤ (m +ℤ k))
    ≡ pos 256 *ℤ (e.b.x *ℤ (m +ℤ k)) -ℤ pos 256 *ℤ (e.a.x *ℤ (m +ℤ k)) =
    same_polynomial (e.a.x ∷ e.b.x ∷ (m +ℤ k) ∷ []) (K (pos 256) ⊗ ((V 1 ⊖ V 0) ⊗ V 2))
    (K (pos 256) ⊗ (V 1 ⊗ V 2) ⊖ K (pos 256) ⊗ (V 0 ⊗ V 2)) refl in
    omega (arith, signed, there, split, rest_above e m k x y has left no_m some_k))
    end

module _ {es : List EdgeEnds} {vs : List Point} (planar : IsPlanar es vs) where
  pub stays_over : (e f : EdgeEnds) (x y : ℤ) → Contains es e → Contains es f → Has e x y → Has f x y → x <ℤ y
      → pos 0 <ℤ over e f x → pos 0 <ℤ over e f y
  stays_over e f x y of_e of_f has_e has_f left up = ⊎_elim (λ l. l) by (int_lt_or_le (pos 0) (over e f y))
    where
      by : over e f y ≤ℤ pos 0 → pos 0 <ℤ over e f y
      by down =
          let m = pos 0 -ℤ over e f y in
          let k = over e f x in
          let c = meeting e f x y in
          let no_m : pos 0 ≤ℤ m = omega (arith, signed, down) in
          let on_e : IsOnEdge e c =
          on_edge e c (part_of e m k x y) (whole_of e m k)
          (omega (arith, signed, part_above e m k x y has_e left no_m up))
          (omega (arith, signed, rest_above e m k x y has_e left no_m up))
          (whole_above e m k x y has_e left no_m up)
          (meeting_of_first e f x y) in
          let on_f : IsOnEdge f c =
          on_edge f c (part_of f m k x y) (whole_of f m k)
          (omega (arith, signed, part_above f m k x y has_f left no_m up))
          (omega (arith, signed, rest_above f m k x y has_f left no_m up))
          (whole_above f m k x y has_f left no_m up)
          (meeting_of_second e f x y) in
          ⊎_elim
          (λ (one : e ≡ f).
          let none : over e f x ≡ pos 0 =
          ap (λ (g : EdgeEnds). over e g x) (sym one)
          ∙ same_polynomial (height e x ∷ width e ∷ []) (V 0 ⊗ V 1 ⊖ V 0 ⊗ V 1) (K (pos 0)) refl in
          absurd (omega (arith, signed, none, up)))
          (λ (end : IsCommonEnd e f c).
          absurd (omega (arith, signed, no_end e end.at m k x y has_e left no_m up end.is.x end.of_first)))
          (planar.apart e f c of_e of_f (whole_above e m k x y has_e left no_m up) on_e on_f)

-- ---- the law

pub has_columns : (e : EdgeEnds) (q r : Point) → IsTrue (spans q e) → IsTrue (spans r e) → Has e q.x r.x
has_columns e q r h i =
    record {
      from = from_le_true (pos 256 *ℤ e.a.x) q.x (and_left (int_le (pos 256 *ℤ e.a.x) q.x) (int_lt q.x (pos 256 *ℤ e.b.x)) h);
      to = from_lt_true r.x (pos 256 *ℤ e.b.x) (and_right (int_le (pos 256 *ℤ e.a.x) r.x) (int_lt r.x (pos 256 *ℤ e.b.x)) i);
    }

pub lower_is : (e f : EdgeEnds) (q : Point) → height_cmp q e f ≡ Less → pos 0 <ℤ over e f q.x
lower_is e f q h =
    let below : (height e q.x *ℤ width f) <ℤ (height f q.x *ℤ width e) =
    int_ranked (height e q.x *ℤ width f) (height f q.x *ℤ width e) Less (sym h) in
    omega (arith, signed, below)

pub is_lower : (e f : EdgeEnds) (q : Point) → pos 0 <ℤ over e f q.x → height_cmp q e f ≡ Less
is_lower e f q h =
    sym (int_cmp_is (height e q.x *ℤ width f) (height f q.x *ℤ width e) Less (omega (arith, signed, h)))

pub lower_stays_lower : {es : List EdgeEnds} {vs : List Point} → IsPlanar es vs → LowerStaysLower es
lower_stays_lower {es} {vs} planar e f q r of_e of_f e_q f_q e_r f_r left h =
    ⊎_elim
    (λ (before : q.x <ℤ r.x).
    is_lower e f r (stays_over planar e f q.x r.x of_e of_f (has_columns e q r e_q e_r) (has_columns f q r f_q f_r) before
    (lower_is e f q h)))
    (λ (back : r.x ≤ℤ q.x).
    let one : q.x ≡ r.x = omega (arith, signed, left, back) in
    is_lower e f r (subst (λ x. pos 0 <ℤ over e f x) one (lower_is e f q h)))
    (int_lt_or_le q.x r.x)

-- ---- points above edges

-- over e f is linear in the column
pub over_moved : (e f : EdgeEnds) (x y : ℤ)
    → over e f y
    ≡ over e f x +ℤ ((f.b.y -ℤ f.a.y) *ℤ width e -ℤ (e.b.y -ℤ e.a.y) *ℤ width f) *ℤ (y -ℤ x)
over_moved e f x y =
    same_polynomial
    (e.a.x ∷ e.a.y ∷ (e.b.x -ℤ e.a.x) ∷ (e.b.y -ℤ e.a.y) ∷ f.a.x ∷ f.a.y ∷ (f.b.x -ℤ f.a.x) ∷ (f.b.y -ℤ f.a.y) ∷ x ∷ y ∷ [])
    (((K (pos 256) ⊗ V 5) ⊗ V 6 ⊕ V 7 ⊗ (V 9 ⊖ K (pos 256) ⊗ V 4)) ⊗ V 2
    ⊖ ((K (pos 256) ⊗ V 1) ⊗ V 2 ⊕ V 3 ⊗ (V 9 ⊖ K (pos 256) ⊗ V 0)) ⊗ V 6)
    ((((K (pos 256) ⊗ V 5) ⊗ V 6 ⊕ V 7 ⊗ (V 8 ⊖ K (pos 256) ⊗ V 4)) ⊗ V 2
    ⊖ ((K (pos 256) ⊗ V 1) ⊗ V 2 ⊕ V 3 ⊗ (V 8 ⊖ K (pos 256) ⊗ V 0)) ⊗ V 6)
    ⊕ (V 7 ⊗ V 2 ⊖ V 3 ⊗ V 6) ⊗ (V 9 ⊖ V 8)) refl

pub side_is : (e : EdgeEnds) (q : Point) → side_of_edge e q ≡ width e *ℤ q.y -ℤ height e q.x
side_is e q =
    same_polynomial (e.a.x ∷ e.a.y ∷ (e.b.x -ℤ e.a.x) ∷ (e.b.y -ℤ e.a.y) ∷ q.x ∷ q.y ∷ [])
    (V 2 ⊗ (V 5 ⊖ K (pos 256) ⊗ V 1) ⊖ V 3 ⊗ (V 4 ⊖ K (pos 256) ⊗ V 0))
    (V 2 ⊗ V 5 ⊖ ((K (pos 256) ⊗ V 1) ⊗ V 2 ⊕ V 3 ⊗ (V 4 ⊖ K (pos 256) ⊗ V 0))) refl

-- a point above an edge is above each edge that isn't higher; p and q are the heights over the widths w and v
pub above_lower : (w v p q y : ℤ) → pos 0 <ℤ w → pos 0 <ℤ v → pos 0 ≤ℤ (q *ℤ w -ℤ p *ℤ v) → pos 0 <ℤ (v *ℤ y -ℤ q)
    → pos 0 <ℤ (w *ℤ y -ℤ p)
above_lower w v p q y some_w some_v up above =
    let gap = int_mul_pos (v *ℤ y -ℤ q) w above some_w in
    let parts : v *ℤ (w *ℤ y -ℤ p) ≡ (v *ℤ y -ℤ q) *ℤ w +ℤ (q *ℤ w -ℤ p *ℤ v) =
    same_polynomial (w ∷ v ∷ p ∷ q ∷ y ∷ []) (V 1 ⊗ (V 0 ⊗ V 4 ⊖ V 2))
    ((V 1 ⊗ V 4 ⊖ V 3) ⊗ V 0 ⊕ (V 3 ⊗ V 0 ⊖ V 2 ⊗ V 1)) refl in
    let none : v *ℤ pos 0 ≡ pos 0 = same_polynomial (v ∷ []) (V 0 ⊗ K (pos 0)) (K (pos 0)) refl in
    int_lt_of_mul v (pos 0) (w *ℤ y -ℤ p) some_v (omega (arith, signed, gap, parts, none, up))

pub wide_by : (e : EdgeEnds) (x y : ℤ) → Has e x y → x ≤ℤ y → pos 0 <ℤ width e
wide_by e x y has left = omega (arith, signed, has.from, has.to, left)

module _ {es : List EdgeEnds} {vs : List Point} (planar : IsPlanar es vs) where
  -- what comes before isn't higher further right
  not_higher : (e f : EdgeEnds) (q r : Point) → Contains es e → Contains es f → Has e q.x r.x → Has f q.x r.x → q.x ≤ℤ r.x
      → (o : Ordering) → height_cmp q e f ≡ o → ordering_then o (slope_cmp e f) ≡ Less → pos 0 ≤ℤ over e f r.x
  not_higher e f q r of_e of_f has_e has_f left Less is h =
      ⊎_elim
      (λ (before : q.x <ℤ r.x).
      omega (arith, signed, stays_over planar e f q.x r.x of_e of_f has_e has_f before (lower_is e f q is)))
      (λ (back : r.x ≤ℤ q.x).
      let one : q.x ≡ r.x = omega (arith, signed, left, back) in
      let here = subst (λ x. pos 0 <ℤ over e f x) one (lower_is e f q is) in
      omega (arith, signed, here))
      (int_lt_or_le q.x r.x)
  not_higher e f q r of_e of_f has_e has_f left Equal is h =
      let level : height e q.x *ℤ width f ≡ height f q.x *ℤ width e =
      int_ranked (height e q.x *ℤ width f) (height f q.x *ℤ width e) Equal (sym is) in
      let steeper : ((e.b.y -ℤ e.a.y) *ℤ width f) <ℤ ((f.b.y -ℤ f.a.y) *ℤ width e) =
      int_ranked ((e.b.y -ℤ e.a.y) *ℤ width f) ((f.b.y -ℤ f.a.y) *ℤ width e) Less (sym h) in
      let gained = int_mul_nonneg ((f.b.y -ℤ f.a.y) *ℤ width e -ℤ (e.b.y -ℤ e.a.y) *ℤ width f) (r.x -ℤ q.x)
      (omega (arith, signed, steeper)) (omega (arith, signed, left)) in
      omega (arith, signed, over_moved e f q.x r.x, level, gained)
  not_higher e f q r of_e of_f has_e has_f left Greater is h = absurd (cc h)

  pub above_those_before : AboveIsAboveThoseBefore es
  above_those_before e f q r of_e of_f e_q f_q e_r f_r left before above =
      let has_e = has_columns e q r e_q e_r in
      let has_f = has_columns f q r f_q f_r in
      let over_f : pos 0 <ℤ (width f *ℤ r.y -ℤ height f r.x) =
      subst (λ z. pos 0 <ℤ z) (side_is f r) (from_lt_true (pos 0) (side_of_edge f r) above) in
      let over_e = above_lower (width e) (width f) (height e r.x) (height f r.x) r.y
      (wide_by e q.x r.x has_e left) (wide_by f q.x r.x has_f left)
      (not_higher e f q r of_e of_f has_e has_f left (height_cmp q e f) refl before) over_f in
      lt_true (pos 0) (side_of_edge e r) (subst (λ z. pos 0 <ℤ z) (sym (side_is e r)) over_e)
