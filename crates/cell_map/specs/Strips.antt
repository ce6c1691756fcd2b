-- Vertical strips of a graph. Strip k has the columns from 256 k up to, and without, 256 (k + 1); its
-- walls are the columns 256 k and 256 (k + 1).
use Rattle.std.specs.Prelude.{◌≡◌, ◌↔◌, ℕ, ℤ, pos, int_le, Bool, false, IsTrue, ◌&&◌, if◌then◌else◌}
use Rattle.std.specs.Prelude.{List, [], ◌∷◌, ◌++◌, filter, unwrap_or, All, Contains}
use Rattle.std.specs.Int.{int_div_euclid}
use Rattle.std.specs.List.{list_any}
use Rattle.std.specs.Ordering.{int_cmp, int_eq}
use Rattle.std.specs.Map.{lookup}
use Rattle.std.specs.BTreeMap.{is_at}
use Rattle.grid_core.specs.declared.point.Point.{Point}
use Rattle.grid_core.specs.Vector.{IsWithin}
use Rattle.grid_core.specs.Edge.{EdgeEnds}
use Rattle.place_test.specs.Reach.{IsEdgeWithin}
use Rattle.planar_law.specs.PlanarEdges.{Graph}

-- the number of the strip that has a column
abbrev pub strip_at : ℤ → ℤ
strip_at x = int_div_euclid x (pos 256)

-- the edge has a column of strip k, that of its greater end included
abbrev pub meets_strip : ℤ → EdgeEnds → Bool
meets_strip k e = int_le (strip_at e.a.x) k && int_le k (strip_at e.b.x)

-- the vertex lies in strip k
abbrev pub lies_in_strip : ℤ → Point → Bool
lies_in_strip k h = int_eq (strip_at h.x) k

-- what lies in strip k: the edges that meet it, whole, and the vertices in it
abbrev pub strip_of_graph : Graph → ℤ → Graph
strip_of_graph g k =
    record { edges = filter (meets_strip k) g.edges; vertices = filter (lies_in_strip k) g.vertices }

-- strips by their numbers, those in which nothing lies left out or not
abbrev pub Strips : Type 0
Strips = List (ℤ × Graph)

-- a strip in which nothing lies
abbrev pub empty_strip : Graph
empty_strip = record { edges = []; vertices = [] }

-- what lies in strip k
abbrev pub strip_in : Strips → ℤ → Graph
strip_in strips k = unwrap_or (lookup (is_at (int_cmp k)) strips) empty_strip

-- no coordinate of what lies in a strip is greater than n in size
pub record IsStripWithin (n : ℕ) (s : Graph) : Type 0 where
  pub edges : All (IsEdgeWithin n) s.edges
  pub vertices : All (IsWithin n) s.vertices

-- with one edge more
abbrev pub with_edge : EdgeEnds → Graph → Graph
with_edge e s = record { edges = s.edges ++ e ∷ []; vertices = s.vertices }

-- with one vertex more
abbrev pub with_vertex : Point → Graph → Graph
with_vertex h s = record { edges = s.edges; vertices = s.vertices ++ h ∷ [] }

-- the new strips have what f makes of the old where a test passes, and what the old have elsewhere
abbrev pub ChangesWhere : (ℤ → Bool) → (Graph → Graph) → Strips → Strips → Type 0
ChangesWhere p f old new = (j : ℤ) → strip_in new j ≡ (if p j then f (strip_in old j) else strip_in old j)

-- the same where one strip changes alone
abbrev pub Changes : ℤ → (Graph → Graph) → Strips → Strips → Type 0
Changes k f old new = ChangesWhere (is_at (int_cmp k)) f old new

-- the strips of a graph, each as what lies in it
abbrev pub AreStripsOf : Graph → Strips → Type 0
AreStripsOf g strips = (k : ℤ) → strip_in strips k ≡ strip_of_graph g k

-- the same lies in each strip
abbrev pub HaveSame : Strips → Strips → Type 0
HaveSame old new = (k : ℤ) → strip_in new k ≡ strip_in old k

-- the new strips have what lies in those of the graph where a number is given, and what the old have
-- elsewhere
abbrev pub AreRefreshed : Graph → List ℤ → Strips → Strips → Type 0
AreRefreshed g given old new =
    (k : ℤ) → strip_in new k ≡ (if list_any (λ j. int_eq j k) given then strip_of_graph g k else strip_in old k)

-- two graphs differ in the strips with given numbers alone: an edge that meets another strip, and a
-- vertex that lies in another, is in both or in neither
pub record DifferIn (given : List ℤ) (g h : Graph) : Type 0 where
  pub edges : (k : ℤ) (e : EdgeEnds)
      → list_any (λ j. int_eq j k) given ≡ false
      → IsTrue (meets_strip k e)
      → Contains g.edges e ↔ Contains h.edges e
  pub vertices : (k : ℤ) (v : Point)
      → list_any (λ j. int_eq j k) given ≡ false
      → IsTrue (lies_in_strip k v)
      → Contains g.vertices v ↔ Contains h.vertices v
