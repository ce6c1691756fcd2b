-- What lies in a strip, as a search by halves needs it.
use Rattle.std.specs.Prelude.{ℕ, ◌≤◌, ◌^◌, ℤ, unsigned_abs, IsTrue, Option, Some, None, IfSome, List, [], Contains}
use Rattle.std.specs.List.Sorted.{IsStrictlySortedBy}
use Rattle.grid_core.specs.declared.point.Point.{Point}
use Rattle.grid_core.specs.Vector.{point_cmp}
use Rattle.grid_core.specs.Edge.{EdgeEnds}
use Rattle.grid_core.specs.Planar.{IsEnd}
use Rattle.edge_search.specs.Search.{Searched, DontCross}
use Rattle.planar_law.specs.PlanarEdges.{Graph}
use Rattle.cell_map.specs.Strips.{lies_in_strip, strip_of_graph, IsStripWithin}

-- each end of an edge that lies in strip k is one of the vertices
abbrev pub EndsAreVertices : ℤ → Graph → Type 0
EndsAreVertices k s = (e : EdgeEnds) (h : Point)
    → Contains s.edges e
    → IsEnd e h
    → IsTrue (lies_in_strip k h)
    → Contains s.vertices h

-- what lies in strip k can be searched: edges don't cross, vertices rise, each end of an edge in the strip is
-- one of them, and k is at most 2^25 in size where an edge meets the strip
pub record IsSearchable (k : ℤ) (s : Graph) : Type 0 where
  pub apart : DontCross s.edges
  pub rising : IsStrictlySortedBy point_cmp s.vertices
  pub ends : EndsAreVertices k s
  pub number : (e : EdgeEnds) → Contains s.edges e → unsigned_abs k ≤ 2 ^ 25

-- each strip of the graph can be searched
abbrev pub HasSearchableStrips : Graph → Type 0
HasSearchableStrips g = (k : ℤ) → IsSearchable k (strip_of_graph g k)

-- the edges of a search, and none where there is no search
abbrev pub searched_edges : Option Searched → List EdgeEnds
searched_edges None = []
searched_edges (Some s) = s.edges

-- a search and vertices in order. Each end of a searched edge in the search's strip is one of the vertices. No
-- coordinate is greater than n in size
pub record IsArranged (n : ℕ) (search : Option Searched) (vs : List Point) : Type 0 where
  pub within : IsStripWithin n (record { edges = searched_edges search; vertices = vs })
  pub rising : IsStrictlySortedBy point_cmp vs
  pub ends : IfSome search (λ s. EndsAreVertices s.strip (record { edges = s.edges; vertices = vs }))
