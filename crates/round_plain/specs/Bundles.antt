-- Bundles, gathered name by name.
-- A named edge is an edge of a route with the name of the route's segment.
use Rattle.std.specs.Prelude.{List, [], ◌∷◌, ◌++◌, map, filter, flat_map, unwrap_or}
use Rattle.std.specs.Map.{lookup}
use Rattle.std.specs.BTreeMap.{insert_entry, is_at}
use Rattle.grid_core.specs.Name.{Label}
use Rattle.grid_core.specs.Edge.{EdgeEnds, edge_cmp, edge_eq}
use Rattle.grid_core.specs.Rounding.{RoutedSegment, BundledEdge, edges_along}
use Rattle.grid_core.specs.RisingSet.{rising}

-- the named edges of one route, from its first edge to its last
abbrev pub named_edges_of : RoutedSegment → List (EdgeEnds × Label)
named_edges_of r = map (λ e. (e, r.ur.name)) (edges_along r.points)

-- the named edges of all routes
abbrev pub named_edges : List RoutedSegment → List (EdgeEnds × Label)
named_edges rs = flat_map named_edges_of rs

-- the names that edge e has, in order
abbrev pub names_at : List (EdgeEnds × Label) → EdgeEnds → List Label
names_at ps e = map (λ p. p.1) (filter (λ p. edge_eq e p.0) ps)

-- the edges in order, each once and with its names
abbrev pub bundles : List (EdgeEnds × Label) → List BundledEdge
bundles ps =
    map (λ e. record { edge = e; names = names_at ps e }) (rising edge_cmp (map (λ p. p.0) ps))

-- private, as the code gathers: the map from edges to names with a named edge more, whose name comes
-- to the end of its edge's names
abbrev pub with_named_edge :
    List (EdgeEnds × List Label) → EdgeEnds × Label → List (EdgeEnds × List Label)
with_named_edge es p =
    insert_entry edge_cmp es p.0 (unwrap_or (lookup (is_at (edge_cmp p.0)) es) [] ++ p.1 ∷ [])
