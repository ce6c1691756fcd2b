use Rattle.std.proofs.Common.{length}
use Rattle.grid_core.specs.Vector.{point_cmp}
use Rattle.pass_links.specs.Chain.{end, way}
use Rattle.pass_links.specs.Node.{across_at}
use Rattle.pass_links.specs.Positions.{node_before, IsHeadBefore}
use Rattle.pass_links.proofs.PositionLaws.{SeeksAcross}
use Rattle.pass_links.proofs.positions.position_across.Given as goal

abbrev pub invariant-loop-node : goal.invariant-loop-node
invariant-loop-node l = record {
  seeks : SeeksAcross l.nodes.slots l.pixels l.fn.pixel l.name (node_before l.position.before) l.position.at;
  head : IsHeadBefore point_cmp l.pixels l.fn.pixel l.position.before;
}

abbrev pub decreases-loop-node : goal.decreases-loop-node
decreases-loop-node l = length (way (across_at l.nodes.slots) end l.position.at)
