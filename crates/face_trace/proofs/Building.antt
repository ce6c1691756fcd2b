-- What is built is linked: the half-edges are those of the edges, and the spokes tell each its next.
use Rattle.std.proofs.Common.{◌≡◌, refl, sym, ap, subst, ◌∙◌, ℕ, ◌<◌, ◌^◌, cond}
use Rattle.std.proofs.Common.{Bool, List, [], ◌∷◌, length, map, filter, get_or, Some, Less, is_lt}
use Rattle.std.specs.Prelude.{All, slice_get}
use Rattle.std.specs.List.Sorted.{IsStrictlySortedBy}
use Rattle.std.specs.Ordering.{ordering_reverse}
use Rattle.std.proofs.lemmas.List.Elements.{All-nil, All-cons, All-head, All-tail, All-get_or}
use Rattle.std.proofs.lemmas.Option.{slice_get_within}
use Rattle.grid_core.specs.Vector.{IsWithin, point_cmp}
use Rattle.grid_core.specs.Edge.{EdgeEnds, IsEdge, edge_cmp}
use Rattle.grid_core.specs.Contours.{HalfEdge, half_edges}
use Rattle.grid_core.proofs.Order.{point_total}
use Rattle.face_trace.specs.declared.spokes.Spoke.{Spoke}
use Rattle.face_trace.specs.HalfEdge.{IsWithinReach, twin_number}
use Rattle.face_trace.specs.Links.{edges_of, AreLinked}
use Rattle.face_trace.specs.Spokes.{AreSpokes, AreNexts}
use Rattle.face_trace.proofs.HalfEdgeLists.{twin_within}
use Rattle.face_trace.proofs.Linking.{linked}
use Rattle.face_trace.proofs.SpokeLists.{nowhere}

-- the edges of the half-edges of edges are the edges
pub edges_of_half_edges : (es : List EdgeEnds) → All IsEdge es → edges_of (half_edges es) ≡ es
edges_of_half_edges [] k = refl
edges_of_half_edges (e ∷ es) k =
    let up : point_cmp e.a e.b ≡ Less = All-head IsEdge e es k in
    let down = point_total.antisymm e.b e.a ∙ ap ordering_reverse up in
    ap (λ hs. map (λ (h : HalfEdge). record { a = h.origin; b = h.target }) hs)
    ((λ i. cond (is_lt (up i)) (record { origin = e.a; target = e.b } ∷ more (is_lt (down i)) e es) (more (is_lt (down i)) e es)))
    ∙ ap (λ ds. e ∷ ds) (edges_of_half_edges es (All-tail IsEdge e es k))
  where
    more : Bool → EdgeEnds → List EdgeEnds → List HalfEdge
    more b d ds =
        cond b (record { origin = d.b; target = d.a } ∷ filter (λ h. is_lt (point_cmp h.origin h.target)) (half_edges ds))
        (filter (λ h. is_lt (point_cmp h.origin h.target)) (half_edges ds))

-- the half-edges are near where the edges' ends are
half_edges_within : (es : List EdgeEnds) → All (λ e. IsWithin (2 ^ 30) e.a) es → All (λ e. IsWithin (2 ^ 30) e.b) es
    → All IsWithinReach (half_edges es)
half_edges_within [] p q = All-nil IsWithinReach
half_edges_within (e ∷ es) p q =
    let a = All-head (λ (d : EdgeEnds). IsWithin (2 ^ 30) d.a) e es p in
    let b = All-head (λ (d : EdgeEnds). IsWithin (2 ^ 30) d.b) e es q in
    All-cons IsWithinReach (record { origin = e.a; target = e.b }) (record { origin = e.b; target = e.a } ∷ half_edges es)
    (record { origin = a; target = b })
    (All-cons IsWithinReach (record { origin = e.b; target = e.a }) (half_edges es) (record { origin = b; target = a })
    (half_edges_within es (All-tail (λ (d : EdgeEnds). IsWithin (2 ^ 30) d.a) e es p)
    (All-tail (λ (d : EdgeEnds). IsWithin (2 ^ 30) d.b) e es q)))

-- the twins of the spokes have numbers too
pub twins_within : (es : List EdgeEnds) (hs : List HalfEdge) (ss : List Spoke) → hs ≡ half_edges es → AreSpokes hs ss
    → All (λ s. twin_number s.number < length ss) ss
twins_within es hs ss e spokes k d l =
    let at = All-get_or (λ s. slice_get hs s.number ≡ Some s.half) ss k d l spokes.numbered in
    let fits = slice_get_within hs _ _ at in
    let twin = twin_within es _ (subst (λ gs. (get_or ss k d).number < length gs) e fits) in
    subst (λ n. twin_number (get_or ss k d).number < n) (sym (spokes.count ∙ ap length e)) twin

-- the edges with all their half-edges are linked
pub built : (es : List EdgeEnds) (hs : List HalfEdge) (ss : List Spoke) (nexts : List ℕ) → hs ≡ half_edges es
    → All IsEdge es → IsStrictlySortedBy edge_cmp es
    → All (λ e. IsWithin (2 ^ 30) e.a) es → All (λ e. IsWithin (2 ^ 30) e.b) es
    → AreSpokes hs ss → AreNexts ss nexts → AreLinked (edges_of hs) hs nexts
built es hs ss nexts e edges rising starts ends spokes made =
    subst (λ ds. AreLinked ds hs nexts) (sym (ap edges_of e ∙ edges_of_half_edges es edges))
    (subst (λ gs. AreLinked es gs nexts) (sym e)
    (record {
      edges = edges;
      rising = rising;
      within = half_edges_within es starts ends;
      numbered = refl;
      count = made.count ∙ spokes.count ∙ ap length e;
      linked = linked es ss (subst (λ gs. AreSpokes gs ss) e spokes) (record { half = nowhere; number = 0 }) nexts made;
    }))
