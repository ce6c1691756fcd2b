-- The edges along a list of points: one after another, and none twice where no point stands there twice.
use Rattle.std.proofs.Common.{◌≡◌, refl, ap, sym, ◌∙◌, subst, ℕ, suc, ◌+◌, ◌-◌, ◌<◌, ◌≤◌, ◌⊎◌, inl, inr, Bool, true, false, cond, List, [], ◌∷◌, length, drop, get_or, length-drop, arith}
use Rattle.std.specs.List.{AllByRecursion, IsDistinct}
use Rattle.std.specs.Ordering.{is_lt, is_eq}
use Rattle.std.proofs.Math.Seq.{drop-cons}
use Rattle.std.proofs.lemmas.Map.Views.{tells_apart}
use Rattle.std.proofs.lemmas.Map.Keys.{apart_from_distinct}
use Rattle.grid_core.specs.declared.point.Point.{Point}
use Rattle.grid_core.specs.Vector.{point_cmp, point_eq}
use Rattle.grid_core.specs.Edge.{EdgeEnds, edge_between, edge_eq}
use Rattle.grid_core.specs.Rounding.{edges_along}
use Rattle.grid_core.proofs.Order.{point_same, edge_exact}

edges_from : (ps : List Point) (j : ℕ) (d : Point) → suc j < length ps
    → edges_along (drop j ps) ≡ edge_between (get_or ps j d) (get_or ps (suc j) d) ∷ edges_along
    (drop (suc j) ps)
edges_from ps j d lt =
    let here : j < length ps = omega arith in
    let next = drop-cons ps (suc j) d lt in
    ap edges_along (drop-cons ps j d here ∙ ap (λ (hs : List Point). get_or ps j d ∷ hs) next)
    ∙ ap (λ (hs : List Point). edge_between (get_or ps j d) (get_or ps (suc j) d)
    ∷ edges_along hs) (sym next)

-- the edge from the point before i to point i, and those behind
pub edges_next : (ps : List Point) (i : ℕ) (d : Point) → 1 ≤ i → i < length ps
    → edges_along (drop (i - 1) ps) ≡ edge_between (get_or ps (i - 1) d) (get_or ps i d)
    ∷ edges_along (drop (i + 1 - 1) ps)
edges_next ps i d low lt =
    let back : suc (i - 1) ≡ i = omega arith in
    let same : suc (i - 1) ≡ i + 1 - 1 = omega arith in
    let fits : suc (i - 1) < length ps = omega arith in
    edges_from ps (i - 1) d fits
    ∙ (λ k. edge_between (get_or ps (i - 1) d) (get_or ps (back k) d) ∷ edges_along
    (drop (same k) ps))

edges_short : (ps : List Point) → length ps ≤ 1 → edges_along ps ≡ []
edges_short [] h = refl
edges_short (u ∷ []) h = refl
edges_short (u ∷ v ∷ ps) h = absurd (omega (arith, h))

-- behind the last point is no edge
pub edges_end : (ps : List Point) (i : ℕ) → 1 ≤ i → length ps ≤ i
    → edges_along (drop (i - 1) ps) ≡ []
edges_end ps i low h = edges_short (drop (i - 1) ps) (omega (arith, length-drop (i - 1) ps))

-- one of the ends of e is u
abbrev Touches : Point → EdgeEnds → Type 0
Touches u e = (e.a ≡ u) ⊎ (e.b ≡ u)

touches_first : (u v : Point) → Touches u (edge_between u v)
touches_first u v = by (is_lt (point_cmp u v))
  where
    by : (b : Bool) → Touches u (cond b (record { a = u; b = v }) (record { a = v; b = u }))
    by true = inl refl
    by false = inr refl

touches_ends : (u v w : Point) → Touches u (edge_between v w) → (v ≡ u) ⊎ (w ≡ u)
touches_ends u v w h = by (is_lt (point_cmp v w)) h
  where
    by : (b : Bool) → Touches u (cond b (record { a = v; b = w }) (record { a = w; b = v }))
        → (v ≡ u) ⊎ (w ≡ u)
    by true h = h
    by false (inl e) = inr e
    by false (inr e) = inl e

no_equal : (u v : Point) → point_eq u v ≡ false → v ≡ u → ⊥
no_equal u v h e = cc (ap is_eq (point_same u v (sym e)))

apart_one : (u x v w : Point) → point_eq u v ≡ false → point_eq u w ≡ false → (b : Bool)
    → edge_eq (edge_between u x) (edge_between v w) ≡ b → b ≡ false
apart_one u x v w hv hw false e = refl
apart_one u x v w hv hw true e =
    let same = tells_apart edge_exact (edge_between u x) (edge_between v w) e in
    absurd (by (touches_ends u v w (subst (λ (f : EdgeEnds). Touches u f) same
    (touches_first u x))))
  where
    by : (v ≡ u) ⊎ (w ≡ u) → ⊥
    by (inl h) = no_equal u v hv h
    by (inr h) = no_equal u w hw h

-- an edge from a point that isn't in the list is none of the list's
apart : (u x : Point) (ps : List Point) → AllByRecursion (λ v. point_eq u v ≡ false) ps
    → AllByRecursion (λ e. edge_eq (edge_between u x) e ≡ false) (edges_along ps)
apart u x [] h = tt
apart u x (v ∷ []) h = tt
apart u x (v ∷ w ∷ ps) h = (
  apart_one u x v w h.0 h.1.0
      (edge_eq (edge_between u x) (edge_between v w)) refl,
  apart u x (w ∷ ps) h.1,
)

-- where no point stands in the list twice, no edge is there twice
pub edges_distinct : (ps : List Point) → IsDistinct point_eq ps
    → IsDistinct edge_eq (edges_along ps)
unfolding IsDistinct
edges_distinct [] h = tt
edges_distinct (v ∷ []) h = tt
edges_distinct (v ∷ w ∷ ps) h = (apart v w (w ∷ ps) h.0, edges_distinct (w ∷ ps) h.1)

-- where no point stands in the list twice, two neighbours differ
pub neighbours_differ : (ps : List Point) (i : ℕ) (d : Point) → IsDistinct point_eq ps → 1 ≤ i
    → i < length ps → get_or ps (i - 1) d ≡ get_or ps i d → ⊥
neighbours_differ ps i d h low lt e =
    no_equal (get_or ps (i - 1) d) (get_or ps i d)
    (apart_from_distinct point_eq ps (i - 1) i d h (omega arith) lt) (sym e)
