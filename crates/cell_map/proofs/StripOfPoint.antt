-- Where a query point lies follows from what lies in its strip. A vertex at the point, and an edge
-- that has the point or its column, has a column on either side of the point's, so that it meets the
-- point's strip. A vertex outside the strip is no nearer than the wall on its side, so that it
-- ends no cell before the wall does.
use Rattle.std.proofs.Common.{◌≡◌, refl, ap, ap₂, ⊎_elim, sym, ◌∙◌, arith, Bool, true, false, cond, ◌&&◌, true≢false, List, [], ◌∷◌}
use Rattle.std.proofs.Common.{filter, map, fold}
use Rattle.std.specs.Prelude.{ℤ, pos, ◌+ℤ◌, ◌-ℤ◌, ◌*ℤ◌, ◌≤ℤ◌, ◌<ℤ◌, int_le, int_lt, Option, Some, None, slice_get, All, ◌⊎◌}
use Rattle.std.specs.Int.{int_min, int_max}
use Rattle.std.specs.Ordering.{int_eq}
use Rattle.std.specs.List.{AllByRecursion}
use Rattle.std.proofs.lemmas.Int.{ints, int_min_is, int_max_is}
use Rattle.grid_core.proofs.Signed.{from_le_true, from_lt_true, le_true}
use Rattle.grid_core.proofs.Quotients.{floor_ge, above_floor_ge, below_floor_le}
use Rattle.grid_core.proofs.Crossings.{floor_low}
use Rattle.grid_core.specs.declared.point.Point.{Point}
use Rattle.grid_core.specs.Edge.{EdgeEnds, IsEdge}
use Rattle.grid_core.specs.Places.{strip_of, spans, lies_on, query_point}
use Rattle.grid_core.specs.Vector.{point_eq}
use Rattle.grid_core.proofs.Order.{point_less}
use Rattle.grid_core.proofs.Comparisons.{point_decides}
use Rattle.edge_search.proofs.Ranges.{and_left, and_right, between_low, between_high}
use Rattle.cell_map.specs.Strips.{strip_at, meets_strip, lies_in_strip, strip_of_graph}
use Rattle.std.proofs.lemmas.Bool.Decides.{Decides-int_eq, not_from_Decides}
use Rattle.std.proofs.lemmas.List.Elements.{recursion_from_All}
use Rattle.grid_core.specs.declared.place.Place.TheVariants.{Between}
use Rattle.grid_core.specs.Edge.{edge_cmp}
use Rattle.grid_core.specs.Places.{side_of_edge, least_by, upwards_cmp, downwards_cmp, edge_above, edge_below}
use Rattle.grid_core.specs.Places.{place_off_vertices, place_or_vertex, place_among, is_at_most, is_at_least, cell_between}
use Rattle.grid_core.proofs.Filters.{filter_within}
use Rattle.place_test.specs.Nearest.{vertex_among, edge_on}
use Rattle.planar_law.specs.PlanarEdges.{Graph}
use Rattle.cell_map.specs.Found.{found_at, found_among}

-- ---- columns

-- a column left of q's, or q's, is in a strip no further right than q's
column_left : (q : Point) (x : ℤ) → (pos 256 *ℤ x) ≤ℤ q.x → strip_at x ≤ℤ strip_of 256 q
column_left q x h =
    let low = floor_low x (pos 256) (omega (arith, ints)) in
    floor_ge q.x (pos 65536) (strip_at x) (omega (arith, ints)) (omega (arith, ints, low, h))

-- a column right of q's, or q's, is in a strip no further left than q's
column_right : (q : Point) (x : ℤ) → q.x ≤ℤ (pos 256 *ℤ x) → strip_of 256 q ≤ℤ strip_at x
column_right q x h =
    let low = floor_low q.x (pos 65536) (omega (arith, ints)) in
    floor_ge x (pos 256) (strip_of 256 q) (omega (arith, ints)) (omega (arith, ints, low, h))

-- a column in a strip further left is left of the wall, and one further right is not left of the other
left_of_wall : (k x : ℤ) → strip_at x <ℤ k → x <ℤ (pos 256 *ℤ k)
left_of_wall k x h =
    let b = below_floor_le x (pos 256) (k -ℤ pos 1) (omega (arith, ints)) (omega (arith, ints, h)) in
    omega (arith, ints, b)

right_of_wall : (k x : ℤ) → k <ℤ strip_at x → (pos 256 *ℤ (k +ℤ pos 1)) ≤ℤ x
right_of_wall k x h = above_floor_ge x (pos 256) (k +ℤ pos 1) (omega (arith, ints)) (omega (arith, ints, h))

-- ---- edges and vertices

-- q's strip is one of those from the lesser end's to the greater end's
meets_between : (q : Point) (e : EdgeEnds) → (pos 256 *ℤ e.a.x) ≤ℤ q.x → q.x ≤ℤ (pos 256 *ℤ e.b.x)
    → meets_strip (strip_of 256 q) e ≡ true
meets_between q e low high =
    ap₂ (λ a b. a && b) (le_true _ _ (column_left q e.a.x low)) (le_true _ _ (column_right q e.b.x high))

-- an edge whose columns have q's meets q's strip
spanning_meets : (q : Point) (e : EdgeEnds) → spans q e ≡ true → meets_strip (strip_of 256 q) e ≡ true
spanning_meets q e h =
    let left = int_le (pos 256 *ℤ e.a.x) q.x in
    let right = int_lt q.x (pos 256 *ℤ e.b.x) in
    let low = from_le_true (pos 256 *ℤ e.a.x) q.x (and_left left right h) in
    let high = from_lt_true q.x (pos 256 *ℤ e.b.x) (and_right left right h) in
    meets_between q e low (omega (arith, ints, high))

pub ordered_columns : (e : EdgeEnds) → IsEdge e → (pos 256 *ℤ e.a.x) ≤ℤ (pos 256 *ℤ e.b.x)
ordered_columns e h = ⊎_elim
    (λ (l : e.a.x <ℤ e.b.x). omega (arith, ints, l))
    (λ (l : (e.a.x ≡ e.b.x) × (e.a.y <ℤ e.b.y)). omega (arith, ints, l.0))
    (point_less e.a e.b h)

-- an edge that has q meets q's strip
having_meets : (q : Point) (e : EdgeEnds) → IsEdge e → lies_on q e ≡ true → meets_strip (strip_of 256 q) e ≡ true
having_meets q e ordered h =
    let columns = and_right _ _ (and_left _ _ h) in
    let order = ordered_columns e ordered in
    meets_between q e (between_low _ _ q.x order (and_left _ _ columns)) (between_high _ _ q.x order (and_right _ _ columns))

-- a vertex at q lies in q's strip
pub vertex_lies : (q h : Point) → point_eq (query_point h) q ≡ true → lies_in_strip (strip_of 256 q) h ≡ true
vertex_lies q h e =
    let same : query_point h ≡ q = (point_decides (query_point h) q).0 e in
    let column : pos 256 *ℤ h.x ≡ q.x = ap (λ (p : Point). p.x) same in
    let low = column_left q h.x (omega (arith, ints, column)) in
    let high = column_right q h.x (omega (arith, ints, column)) in
    (Decides-int_eq (strip_at h.x) (strip_of 256 q)).1 (omega (arith, ints, low, high))

-- ---- lists

-- where the first test holds of all that have Φ and pass the second, it takes nothing away from the second
filter_both : {X : Type 0} (Φ : X → Type 0) (p t : X → Bool) → ((x : X) → Φ x → t x ≡ true → p x ≡ true)
    → (xs : List X) → AllByRecursion Φ xs → filter t (filter p xs) ≡ filter t xs
filter_both Φ p t h [] k = refl
filter_both Φ p t h (x ∷ xs) k = by (filter_both Φ p t h xs k.1) (p x) refl (t x) refl
  where
    by : filter t (filter p xs) ≡ filter t xs → (b : Bool) → p x ≡ b → (c : Bool) → t x ≡ c
        → filter t (cond b (x ∷ filter p xs) (filter p xs)) ≡ cond c (x ∷ filter t xs) (filter t xs)
    by rest true e true f =
        ap (λ b. cond b (x ∷ filter t (filter p xs)) (filter t (filter p xs))) f ∙ ap (λ l. x ∷ l) rest
    by rest true e false f = ap (λ b. cond b (x ∷ filter t (filter p xs)) (filter t (filter p xs))) f ∙ rest
    by rest false e true f = absurd (true≢false (sym (h x k.0 f) ∙ e))
    by rest false e false f = rest

-- the columns on one side of the vertices that pass a test
abbrev columns : (Point → Bool) → (ℤ → Bool) → List Point → List ℤ
columns p side vs = filter side (map (λ h. h.x) (filter p vs))

columns_cons : (p : Point → Bool) (side : ℤ → Bool) (h : Point) (vs : List Point) (b c : Bool) → p h ≡ b
    → side h.x ≡ c
    → columns p side (h ∷ vs)
    ≡ cond b (cond c (h.x ∷ columns p side vs) (columns p side vs)) (columns p side vs)
columns_cons p side h vs b c e d =
    ap (λ a. filter side (map (λ (h : Point). h.x) (cond a (h ∷ filter p vs) (filter p vs)))) e ∙ by b
  where
    by : (b : Bool) → filter side (map (λ (h : Point). h.x) (cond b (h ∷ filter p vs) (filter p vs)))
        ≡ cond b (cond c (h.x ∷ columns p side vs) (columns p side vs)) (columns p side vs)
    by true = ap (λ a. cond a (h.x ∷ columns p side vs) (columns p side vs)) d
    by false = refl

module _ (k : ℤ) (p : Point → Bool) (f : ℤ → ℤ → ℤ) (side : ℤ → Bool) (Past : ℤ → Type 0)
    (kept : (w x : ℤ) → Past w → Past (f w x))
    (idle : (w x : ℤ) → Past w → side x ≡ true → int_eq (strip_at x) k ≡ false → f w x ≡ w) where
  -- vertices outside the strip end no cell before the wall does
  same_fold : (w : ℤ) (vs : List Point) → Past w
      → fold f w (columns p side (filter (lies_in_strip k) vs)) ≡ fold f w (columns p side vs)
  same_fold w [] i = refl
  same_fold w (h ∷ vs) i = by (λ u j. same_fold u vs j) (lies_in_strip k h) refl (p h) refl (side h.x) refl
    where
      inside : List Point
      inside = filter (lies_in_strip k) vs

      all : (b c : Bool) → p h ≡ b → side h.x ≡ c
          → fold f w (columns p side (h ∷ vs))
          ≡ fold f w (cond b (cond c (h.x ∷ columns p side vs) (columns p side vs)) (columns p side vs))
      all b c e d = ap (fold f w) (columns_cons p side h vs b c e d)

      some : (b c : Bool) → p h ≡ b → side h.x ≡ c
          → fold f w (columns p side (h ∷ inside))
          ≡ fold f w (cond b (cond c (h.x ∷ columns p side inside) (columns p side inside)) (columns p side inside))
      some b c e d = ap (fold f w) (columns_cons p side h inside b c e d)

      by : ((u : ℤ) → Past u → fold f u (columns p side inside) ≡ fold f u (columns p side vs))
          → (a : Bool) → lies_in_strip k h ≡ a → (b : Bool) → p h ≡ b → (c : Bool) → side h.x ≡ c
          → fold f w (columns p side (cond a (h ∷ inside) inside)) ≡ fold f w (columns p side (h ∷ vs))
      by rest true e true g true d = some true true g d ∙ rest (f w h.x) (kept w h.x i) ∙ sym (all true true g d)
      by rest true e true g false d = some true false g d ∙ rest w i ∙ sym (all true false g d)
      by rest true e false g c d = some false c g d ∙ rest w i ∙ sym (all false c g d)
      by rest false e true g true d =
          rest w i ∙ ap (λ u. fold f u (columns p side vs)) (sym (idle w h.x i d e)) ∙ sym (all true true g d)
      by rest false e true g false d = rest w i ∙ sym (all true false g d)
      by rest false e false g c d = rest w i ∙ sym (all false c g d)

-- ---- cells

int_eq_apart : (x k : ℤ) → int_eq x k ≡ false → (x <ℤ k) ⊎ (k <ℤ x)
int_eq_apart x k e = grind (arith, ints, (not_from_Decides (int_eq x k) (Decides-int_eq x k)) e)

left_kept : (k w x : ℤ) → (pos 256 *ℤ k) ≤ℤ w → (pos 256 *ℤ k) ≤ℤ int_max w x
left_kept k w x h = omega (arith, ints, h, int_max_is w x)

right_kept : (k w x : ℤ) → w ≤ℤ (pos 256 *ℤ (k +ℤ pos 1)) → int_min w x ≤ℤ (pos 256 *ℤ (k +ℤ pos 1))
right_kept k w x h = omega (arith, ints, h, int_min_is w x)

left_idle : (q : Point) (w x : ℤ) → (pos 256 *ℤ strip_of 256 q) ≤ℤ w → int_le (pos 256 *ℤ x) q.x ≡ true
    → int_eq (strip_at x) (strip_of 256 q) ≡ false → int_max w x ≡ w
left_idle q w x h e f = ⊎_elim
    (λ (l : strip_at x <ℤ strip_of 256 q).
    let past = left_of_wall (strip_of 256 q) x l in omega (arith, ints, past, h, int_max_is w x))
    (λ (l : strip_of 256 q <ℤ strip_at x). absurd (omega (arith, ints, l, column_left q x (from_le_true (pos 256 *ℤ x) q.x e))))
    (int_eq_apart (strip_at x) (strip_of 256 q) f)

right_idle : (q : Point) (w x : ℤ) → w ≤ℤ (pos 256 *ℤ (strip_of 256 q +ℤ pos 1)) → int_lt q.x (pos 256 *ℤ x) ≡ true
    → int_eq (strip_at x) (strip_of 256 q) ≡ false → int_min w x ≡ w
right_idle q w x h e f = ⊎_elim
    (λ (l : strip_at x <ℤ strip_of 256 q).
    let low = from_lt_true q.x (pos 256 *ℤ x) e in
    let near = column_right q x (omega (arith, ints, low)) in
    absurd (omega (arith, ints, l, near)))
    (λ (l : strip_of 256 q <ℤ strip_at x).
    let past = right_of_wall (strip_of 256 q) x l in omega (arith, ints, past, h, int_min_is w x))
    (int_eq_apart (strip_at x) (strip_of 256 q) f)

module _ (vs : List Point) (q : Point) (above below : Option EdgeEnds) where
  abbrev own : ℤ
  own = strip_of 256 q

  abbrev bounds : Point → Bool
  bounds h = is_at_most above h && is_at_least below h

  -- the cell of a point has the same walls by the vertices of its strip
  cell_same : cell_between 256 (filter (lies_in_strip own) vs) q above below ≡ cell_between 256 vs q above below
  cell_same = λ i. record {
    above = above;
    below = below;
    left = same_fold own bounds int_max (λ x. int_le (pos 256 *ℤ x) q.x) (λ w. (pos 256 *ℤ own) ≤ℤ w)
        (λ w x. left_kept own w x) (left_idle q) (pos 256 *ℤ own) vs (omega (arith, ints)) i;
    right = same_fold own bounds int_min (λ x. int_lt q.x (pos 256 *ℤ x)) (λ w. w ≤ℤ (pos 256 *ℤ (own +ℤ pos 1)))
        (λ w x. right_kept own w x) (right_idle q) (pos 256 *ℤ (own +ℤ pos 1)) vs (omega (arith, ints)) i;
  }

-- ---- all of it

module _ (g : Graph) (q : Point) (ordered : All IsEdge g.edges) where
  abbrev k : ℤ
  k = strip_of 256 q

  abbrev es : List EdgeEnds
  es = filter (meets_strip k) g.edges

  on_same : edge_on es q ≡ edge_on g.edges q
  on_same = ap (least_by edge_cmp)
      (filter_both IsEdge (meets_strip k) (lies_on q) (λ e. having_meets q e) g.edges (recursion_from_All IsEdge g.edges ordered))

  above_same : edge_above es q ≡ edge_above g.edges q
  above_same = ap (least_by (upwards_cmp q))
      (filter_within (meets_strip k) (λ e. spans q e && int_lt (side_of_edge e q) (pos 0))
      (λ e h. spanning_meets q e (and_left _ _ h)) g.edges)

  below_same : edge_below es q ≡ edge_below g.edges q
  below_same = ap (least_by (downwards_cmp q))
      (filter_within (meets_strip k) (λ e. spans q e && int_lt (pos 0) (side_of_edge e q))
      (λ e h. spanning_meets q e (and_left _ _ h)) g.edges)

  vertex_same : vertex_among (filter (lies_in_strip k) g.vertices) q ≡ vertex_among g.vertices q
  vertex_same = ap (λ hs. slice_get hs 0)
      (filter_within (lies_in_strip k) (λ h. point_eq (query_point h) q) (vertex_lies q) g.vertices)

  off_same : (o : Option EdgeEnds) → place_off_vertices es q o ≡ place_off_vertices g.edges q o
  off_same (Some e) = refl
  off_same None = λ i. Between (above_same i) (below_same i)

  or_same : (v : Option Point) → place_or_vertex es q v ≡ place_or_vertex g.edges q v
  or_same (Some h) = refl
  or_same None = ap (place_off_vertices es q) on_same ∙ off_same (edge_on g.edges q)

  place_same : place_among (strip_of_graph g k).vertices es q ≡ place_among g.vertices g.edges q
  place_same = ap (place_or_vertex es q) vertex_same ∙ or_same (vertex_among g.vertices q)

  -- where q lies among what lies in its strip is where it lies among all
  pub found_in_strip : found_among (strip_of_graph g k).vertices (strip_of_graph g k).edges q ≡ found_among g.vertices g.edges q
  found_in_strip = λ i. found_at (place_same i)
      ((cell_same g.vertices q (edge_above es q) (edge_below es q)
      ∙ (λ j. cell_between 256 g.vertices q (above_same j) (below_same j))) i)
