use Rattle.std.proofs.Common.{sym, subst, ◌^◌}
use Rattle.std.specs.List.{All}
use Rattle.place_test.specs.Reach.{IsEdgeWithin}
use Rattle.place_test.proofs.Joined.{joined_within}
use Rattle.cell_map.proofs.cell_map.CellMap.build.Goals as goal

pub strips-requires-clause-edges_within : goal.strips-requires-clause-edges_within
strips-requires-clause-edges_within c =
    let graph = c.edges.ensures.kept in
    subst (All (IsEdgeWithin (2 ^ 30))) (sym c.edges.ensures.value)
    (joined_within (2 ^ 30) c.args.planar.now.vertices c.args.planar.now.edges graph.within graph.joined)
