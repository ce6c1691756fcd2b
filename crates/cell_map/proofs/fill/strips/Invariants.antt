use Rattle.std.proofs.Common.{◌≡◌, [], filter, take}
use Rattle.std.specs.Prelude.{ℤ}
use Rattle.cell_map.specs.Strips.{strip_in, meets_strip, lies_in_strip}
use Rattle.cell_map.proofs.fill.strips.Given as goal

-- each strip has those of the edges so far that meet it
abbrev pub invariant-loop-e : goal.invariant-loop-e
invariant-loop-e l =
    (j : ℤ) → strip_in l.strips.entries j
    ≡ record { edges = filter (meets_strip j) (take l.e-index l.edges); vertices = [] }

-- each strip has the edges that meet it, and those of the vertices so far that lie in it
abbrev pub invariant-loop-h : goal.invariant-loop-h
invariant-loop-h l =
    (j : ℤ) → strip_in l.strips.entries j
    ≡ record {
      edges = filter (meets_strip j) l.edges;
      vertices = filter (lies_in_strip j) (take l.h-index l.vertices);
    }
