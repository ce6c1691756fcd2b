-- Hot pixels with their counts, from the list of the ends and the list of the crossings.
use Rattle.std.specs.Prelude.{List, ◌++◌, map, count_by}
use Rattle.grid_core.specs.declared.point.Point.{Point}
use Rattle.grid_core.specs.declared.point.Vertex.{Vertex}
use Rattle.grid_core.specs.Vector.{point_cmp, point_eq}
use Rattle.grid_core.specs.RisingSet.{rising}

-- pixel h with how often it is among the ends and how often among the crossings
abbrev pub tally : List Point → List Point → Point → Vertex
tally ends crossings h =
    record { at = h; ends = count_by (point_eq h) ends; crossings = count_by (point_eq h) crossings }

-- pixel h before anything was counted
abbrev pub no_tally : Point → Vertex
no_tally h = record { at = h; ends = 0; crossings = 0 }

-- the pixels of both lists in order, each once and with its two counts
abbrev pub tallies : List Point → List Point → List Vertex
tallies ends crossings = map (tally ends crossings) (rising point_cmp (ends ++ crossings))
