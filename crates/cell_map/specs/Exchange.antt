-- Strips made anew, and put in the place of those that there were.
use Rattle.std.specs.Prelude.{ℤ, if◌then◌else◌, List, map, fold, IsSome}
use Rattle.std.specs.Ordering.{int_cmp}
use Rattle.std.specs.Map.{lookup}
use Rattle.std.specs.BTreeMap.{is_at}
use Rattle.planar_law.specs.PlanarEdges.{Graph}
use Rattle.cell_map.specs.Strips.{Strips, strip_of_graph}

-- the strips of a graph with these numbers
abbrev pub numbered : Graph → List ℤ → Strips
numbered g numbers = map (λ k. (k, strip_of_graph g k)) numbers

-- what lies in strip k, once strips were put in place one after the other, where s lay there before
abbrev pub exchanged : Strips → ℤ → Graph → Graph
exchanged made k s = fold (λ s p. if is_at (int_cmp p.0) k then p.1 else s) s made

-- strip k isn't left out
abbrev pub IsKept : Strips → ℤ → Type 0
IsKept strips k = IsSome (lookup (is_at (int_cmp k)) strips)
