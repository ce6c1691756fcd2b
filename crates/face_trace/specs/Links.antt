-- The half-edges of a drawing by number, each with the number of its next.
use Rattle.std.specs.Prelude.{◌≡◌, ℕ, ◌<◌, ◌-◌, ◌^◌, false, if◌then◌else◌, Option, Some, option_map, MatchOption}
use Rattle.std.specs.Prelude.{List, length, map, filter, slice_get, slice_index, slice_index_or, All}
use Rattle.std.specs.List.{list_any}
use Rattle.std.specs.declared.cmp.Ordering.TheVariants.{Less}
use Rattle.std.specs.Ordering.{is_lt}
use Rattle.std.specs.List.Sorted.{IsStrictlySortedBy}
use Rattle.grid_core.specs.Vector.{point_cmp, IsWithin}
use Rattle.grid_core.specs.Edge.{EdgeEnds, IsEdge, edge_cmp}
use Rattle.grid_core.specs.Contours.{HalfEdge, half_edge_cmp, half_edge_eq, half_edges, next, walk}
use Rattle.grid_core.specs.Contours.{least_of, BoundaryWalk, boundary_of}
use Rattle.face_trace.specs.HalfEdge.{IsWithinReach}

-- the edges of half-edges: of those that run from the lesser end to the greater
abbrev pub edges_of : List HalfEdge → List EdgeEnds
edges_of hs =
    map (λ h. record { a = h.origin; b = h.target })
    (filter (λ h. is_lt (point_cmp h.origin h.target)) hs)

-- the edges rise, each once, and lie within 2 ^ 30
pub record AreEdgesInOrder (es : List EdgeEnds) : Type 0 where
  pub rising : IsStrictlySortedBy edge_cmp es
  pub starts_within : All (λ e. IsWithin (2 ^ 30) e.a) es
  pub ends_within : All (λ e. IsWithin (2 ^ 30) e.b) es

-- the edge at i lies within 2 ^ 30, and comes after the one before it
pub record IsPlaced (es : List EdgeEnds) (i : ℕ) : Type 0 where
  pub start_within : (d : EdgeEnds) → IsWithin (2 ^ 30) (slice_index_or es i d).a
  pub end_within : (d : EdgeEnds) → IsWithin (2 ^ 30) (slice_index_or es i d).b
  pub after : 0 < i
      → (d : EdgeEnds)
      → edge_cmp (slice_index_or es (i - 1) d) (slice_index_or es i d) ≡ Less

-- the edges rise and lie within 2 ^ 30, their half-edges are numbered in their order, and the link of
-- each leads to its next
pub record AreLinked (es : List EdgeEnds) (hs : List HalfEdge) (nexts : List ℕ) : Type 0 where
  pub edges : All IsEdge es
  pub rising : IsStrictlySortedBy edge_cmp es
  pub within : All IsWithinReach hs
  pub numbered : hs ≡ half_edges es
  pub count : length nexts ≡ length hs
  pub linked : (n : ℕ) → n < length hs
      → slice_get hs (slice_index nexts n) ≡ option_map (next es) (slice_get hs n)

-- the number is that of h among the half-edges; there is none where h isn't among them
abbrev pub IsNumberOf : List HalfEdge → HalfEdge → Option ℕ → Type 0
IsNumberOf hs h result =
    MatchOption result (list_any (half_edge_eq h) hs ≡ false) (λ n. slice_get hs n ≡ Some h)

-- the number is that of the lesser of the half-edges m and n
abbrev pub IsLesser : List HalfEdge → ℕ → ℕ → ℕ → Type 0
IsLesser hs m n result = (d : HalfEdge)
    → slice_get hs result
    ≡ Some (if is_lt (half_edge_cmp (slice_index_or hs m d) (slice_index_or hs n d))
    then slice_index_or hs m d
    else slice_index_or hs n d)

-- the number is that of the least half-edge of the walk from half-edge n
abbrev pub IsLeastFrom : List EdgeEnds → ℕ → ℕ → Type 0
IsLeastFrom es n result = (h : HalfEdge) → slice_get (half_edges es) n ≡ Some h
    → slice_get (half_edges es) result ≡ Some (least_of h (walk es h))

-- the contour is the walk from half-edge n
abbrev pub IsContourFrom : List EdgeEnds → ℕ → BoundaryWalk → Type 0
IsContourFrom es n c = (h : HalfEdge) → slice_get (half_edges es) n ≡ Some h
    → c ≡ boundary_of (map (λ g. g.origin) (walk es h))
