use Rattle.std.proofs.Common.{◌≡◌, [], filter, take}
use Rattle.cell_map.specs.Strips.{meets_strip, lies_in_strip}
use Rattle.cell_map.proofs.strip.Strip.of.Given as goal

-- those of the edges so far that meet the strip
abbrev pub invariant-loop-e : goal.invariant-loop-e
invariant-loop-e l = l.strip ≡ record { edges = filter (meets_strip l.k) (take l.e-index l.edges); vertices = [] }

-- the edges that meet the strip, and those of the vertices so far that lie in it
abbrev pub invariant-loop-h : goal.invariant-loop-h
invariant-loop-h l =
    l.strip
    ≡ record {
      edges = filter (meets_strip l.k) l.edges;
      vertices = filter (lies_in_strip l.k) (take l.h-index l.vertices);
    }
