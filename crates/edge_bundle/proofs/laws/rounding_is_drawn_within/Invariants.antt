use Rattle.std.proofs.Common.{◌^◌, take}
use Rattle.std.specs.List.{All}
use Rattle.grid_core.specs.Segment.{IsSegment}
use Rattle.edge_bundle.proofs.laws.rounding_is_drawn_within.Given as goal

-- the segments so far are within 2^30
abbrev pub invariant-loop-s : goal.invariant-loop-s
invariant-loop-s l = All (IsSegment (2 ^ 30)) (take l.s-index l.segments)
