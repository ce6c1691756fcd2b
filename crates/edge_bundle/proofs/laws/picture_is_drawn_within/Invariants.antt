use Rattle.std.proofs.Common.{◌^◌, map, take}
use Rattle.std.specs.List.{All}
use Rattle.grid_core.specs.Segment.{IsSegment}
use Rattle.edge_bundle.proofs.laws.picture_is_drawn_within.Given as goal

-- the segments of the routes so far are within 2^30
abbrev pub invariant-loop-routed : goal.invariant-loop-routed
invariant-loop-routed l = All (IsSegment (2 ^ 30)) (map (λ r. r.ur) (take l.routed-index l.routed-items))
