-- A scan that keeps the first of what it has come to, in an order: one more member of a list, and
-- what is then first. The head of a rising list with one member more is that member where it is
-- less than the head, and the head otherwise.
use Rattle.std.proofs.Common.{◌≡◌, refl, ap, ap₂, sym, ◌∙◌, arith, Bool, true, false, true≢false, cond}
use Rattle.std.proofs.Common.{List, [], ◌∷◌, ◌++◌, filter}
use Rattle.std.proofs.Common.{Option, Some, None, Ordering, Less, Equal, Greater, is_lt}
use Rattle.std.specs.Prelude.{slice_get, if◌then◌else◌, ℤ, int_le, int_lt, pos, ◌&&◌}
use Rattle.std.specs.Int.{int_min, int_max}
use Rattle.std.specs.Ordering.{int_eq}
use Rattle.std.proofs.lemmas.Int.{ints, int_min_is, int_max_is}
use Rattle.grid_core.proofs.Signed.{from_le_true, from_lt_true, le_true}
use Rattle.std.proofs.lemmas.List.{append-nil}
use Rattle.std.specs.BTreeSet.{insert_key}
use Rattle.std.specs.Ordering.{match_ordering}
use Rattle.grid_core.specs.declared.point.Point.{Point}
use Rattle.grid_core.specs.Vector.{point_eq}
use Rattle.grid_core.specs.Edge.{EdgeEnds, edge_cmp}
use Rattle.grid_core.specs.RisingSet.{rising}
use Rattle.grid_core.specs.Places.{query_point, lies_on, is_between, spans, side_of_edge, least_by, upwards_cmp, downwards_cmp}
use Rattle.grid_core.proofs.Filters.{filter_joined}
use Rattle.grid_core.proofs.RisingSets.{rising_push}
use Rattle.place_test.specs.Nearest.{Around, around, first_of, vertex_or, vertex_among}

module _ {A : Type 0} (cmp : A → A → Ordering) where
  -- the head of a list with one member more
  pub head_inserted : (x : A) (xs : List A) → slice_get (insert_key cmp xs x) 0 ≡ first_of cmp (slice_get xs 0) x
  head_inserted x [] = refl
  head_inserted x (y ∷ ys) = by (cmp x y)
    where
      by : (r : Ordering) → slice_get (match_ordering r (x ∷ y ∷ ys) (y ∷ ys) (y ∷ insert_key cmp ys x)) 0
          ≡ (if is_lt r then Some x else Some y)
      by Less = refl
      by Equal = refl
      by Greater = refl

  -- the first of one member more
  least_push : (xs : List A) (x : A) → least_by cmp (xs ++ x ∷ []) ≡ first_of cmp (least_by cmp xs) x
  least_push xs x = ap (λ ys. slice_get ys 0) (rising_push cmp xs x) ∙ head_inserted x (rising cmp xs)

  -- the first of those that pass, with one member more
  pub least_kept_push : (p : A → Bool) (xs : List A) (x : A)
      → least_by cmp (filter p (xs ++ x ∷ []))
      ≡ (if p x then first_of cmp (least_by cmp (filter p xs)) x else least_by cmp (filter p xs))
  least_kept_push p xs x = ap (least_by cmp) (filter_joined p xs (x ∷ [])) ∙ by (p x)
    where
      by : (b : Bool) → least_by cmp (filter p xs ++ cond b (x ∷ []) [])
          ≡ (if b then first_of cmp (least_by cmp (filter p xs)) x else least_by cmp (filter p xs))
      by true = least_push (filter p xs) x
      by false = ap (least_by cmp) (append-nil (filter p xs))

-- ---- vertices

-- the vertex at q with one vertex more
pub vertex_push : (q : Point) (vs : List Point) (h : Point)
    → vertex_among (vs ++ h ∷ []) q ≡ vertex_or q (vertex_among vs q) h
vertex_push q vs h =
    ap (λ hs. slice_get hs 0) (filter_joined (λ v. point_eq (query_point v) q) vs (h ∷ []))
    ∙ by (filter (λ v. point_eq (query_point v) q) vs)
  where
    none : (b : Bool) → slice_get (cond b (h ∷ []) []) 0 ≡ (if b then Some h else None)
    none true = refl
    none false = refl

    by : (hs : List Point) → slice_get (hs ++ filter (λ v. point_eq (query_point v) q) (h ∷ [])) 0
        ≡ vertex_or q (slice_get hs 0) h
    by [] = none (point_eq (query_point h) q)
    by (v ∷ vs) = refl

-- ---- all of it

-- with one vertex more
pub around_vertex : (vs : List Point) (es : List EdgeEnds) (q h : Point) {w : Around} {v : Option Point}
    → v ≡ vertex_or q w.vertex h → w ≡ around vs es q
    → (record { vertex = v; on = w.on; above = w.above; below = w.below }) ≡ around (vs ++ h ∷ []) es q
around_vertex vs es q h {w} {v} f e = λ i. record {
  vertex = (f ∙ ap (λ u. vertex_or q u h) (ap (λ (x : Around). x.vertex) e) ∙ sym (vertex_push q vs h)) i;
  on = (e i).on;
  above = (e i).above;
  below = (e i).below;
}

-- of what is so far and one edge more, the first in an order, where the edge passes a test
abbrev pub first_if : (EdgeEnds → Bool) → (EdgeEnds → EdgeEnds → Ordering) → Option EdgeEnds → EdgeEnds
    → Option EdgeEnds
first_if p cmp so_far f = if p f then first_of cmp so_far f else so_far

one_more : (p : EdgeEnds → Bool) (cmp : EdgeEnds → EdgeEnds → Ordering) (es : List EdgeEnds) (f : EdgeEnds)
    (so_far now : Option EdgeEnds) → so_far ≡ least_by cmp (filter p es) → now ≡ first_if p cmp so_far f
    → now ≡ least_by cmp (filter p (es ++ f ∷ []))
one_more p cmp es f so_far now e g =
    g ∙ ap (λ o. first_if p cmp o f) e ∙ sym (least_kept_push cmp p es f)

-- with one edge more
pub around_edge : (vs : List Point) (es : List EdgeEnds) (q : Point) (f : EdgeEnds) {w : Around}
    {on above below : Option EdgeEnds}
    → on ≡ first_if (lies_on q) edge_cmp w.on f
    → above ≡ first_if (λ e. spans q e && int_lt (side_of_edge e q) (pos 0)) (upwards_cmp q) w.above f
    → below ≡ first_if (λ e. spans q e && int_lt (pos 0) (side_of_edge e q)) (downwards_cmp q) w.below f
    → w ≡ around vs es q
    → (record { vertex = w.vertex; on = on; above = above; below = below }) ≡ around vs (es ++ f ∷ []) q
around_edge vs es q f {w} {on} {above} {below} o a b e = λ i. record {
  vertex = (e i).vertex;
  on = one_more (lies_on q) edge_cmp es f w.on on (λ j. (e j).on) o i;
  above = one_more (λ e. spans q e && int_lt (side_of_edge e q) (pos 0)) (upwards_cmp q) es f w.above above
      (λ j. (e j).above) a i;
  below = one_more (λ e. spans q e && int_lt (pos 0) (side_of_edge e q)) (downwards_cmp q) es f w.below below
      (λ j. (e j).below) b i;
}

-- ---- edges wholly left or right of q

no_and_right : (a b : Bool) → b ≡ false → (a && b) ≡ false
no_and_right true b e = e
no_and_right false b e = refl

spans_between : (a b z : ℤ) → is_between a b z ≡ false → (int_le a z && int_lt z b) ≡ false
spans_between a b z h = by (int_le a z) refl (int_lt z b) refl
  where
    both : int_le a z ≡ true → int_lt z b ≡ true → is_between a b z ≡ true
    both l r =
        let low = from_le_true a z l in
        let high = from_lt_true z b r in
        ap₂ (λ x y. x && y)
        (le_true (int_min a b) z (omega (arith, ints, low, high, int_min_is a b)))
        (le_true z (int_max a b) (omega (arith, ints, low, high, int_max_is a b)))

    by : (c : Bool) → int_le a z ≡ c → (d : Bool) → int_lt z b ≡ d → (c && d) ≡ false
    by true l true r = absurd (true≢false (sym (both l r) ∙ h))
    by true l false r = refl
    by false l d r = refl

-- an edge that has no point in q's column is neither on q nor above or below it
pub around_outside : (vs : List Point) (es : List EdgeEnds) (q : Point) (f : EdgeEnds) {w : Around}
    → is_between (query_point f.a).x (query_point f.b).x q.x ≡ false → w ≡ around vs es q
    → w ≡ around vs (es ++ f ∷ []) q
around_outside vs es q f {w} h e =
    let off : lies_on q f ≡ false =
    ap (λ b. b && is_between (query_point f.a).y (query_point f.b).y q.y)
    (no_and_right (int_eq (side_of_edge f q) (pos 0)) _ h) in
    let apart : spans q f ≡ false = spans_between (query_point f.a).x (query_point f.b).x q.x h in
    let on : w.on ≡ first_if (lies_on q) edge_cmp w.on f =
    ap (λ b. if b then first_of edge_cmp w.on f else w.on) (sym off) in
    let above : w.above ≡ first_if (λ e. spans q e && int_lt (side_of_edge e q) (pos 0)) (upwards_cmp q) w.above f =
    ap (λ b. if b && int_lt (side_of_edge f q) (pos 0) then first_of (upwards_cmp q) w.above f else w.above) (sym apart) in
    let below : w.below ≡ first_if (λ e. spans q e && int_lt (pos 0) (side_of_edge e q)) (downwards_cmp q) w.below f =
    ap (λ b. if b && int_lt (pos 0) (side_of_edge f q) then first_of (downwards_cmp q) w.below f else w.below) (sym apart) in
    around_edge vs es q f on above below e
