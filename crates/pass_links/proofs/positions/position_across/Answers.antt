use Rattle.std.proofs.Common.{rules, ◌≡◌, false, is_lt}
use Rattle.grid_core.specs.Name.{label_cmp}
use Rattle.pass_links.proofs.PositionLaws.{across_begun, across_steps, across_passed, across_ended, across_found}
use Rattle.grid_core.proofs.Comparisons.{is_lesser, not_lesser}
use Rattle.pass_links.proofs.positions.position_across.Goals as goal
use Rattle.pass_links.proofs.positions.position_across.Goals.{Then-ge}

pub loop-node-init : goal.loop-node-init
loop-node-init c = record {
  seeks =
      across_begun c.args.nodes.now.slots c.args.pixels.now c.args.pixel c.args.name c.requires.lists _ c.find-head.ensures.first c.requires.by_name;
  head = c.find-head.ensures.place;
}

pub loop-node-smaller : goal.loop-node-smaller
loop-node-smaller c =
    (across_steps c.args.nodes.now.slots c.args.pixels.now c.args.pixel c.args.name c.requires.lists c.loop-node.position.at c.in-Some.node c.in-Some.ensures
    c.loop-node.invariant.seeks.whole).shorter

pub loop-node-preserved : goal.loop-node-preserved
loop-node-preserved c = record {
  seeks =
      across_passed c.args.nodes.now.slots c.args.pixels.now c.args.pixel c.args.name c.requires.lists _ c.loop-node.position.at c.in-Some.node
      c.loop-node.invariant.seeks c.in-Some.ensures (is_lesser _ (search rules));
  head = tt;
}

least : (c : Then-ge) → is_lt (label_cmp c.in-Some.node.name c.args.name) ≡ false
least c = not_lesser _ (search rules)

pub returns-then-ge-clause-here : goal.returns-then-ge-clause-here
returns-then-ge-clause-here c =
    (across_found c.args.nodes.now.slots c.args.pixels.now c.args.pixel c.args.name c.requires.lists _ c.loop-node.position.at c.in-Some.node
    c.loop-node.invariant.seeks c.in-Some.ensures (least c)).0

pub returns-then-ge-clause-found : goal.returns-then-ge-clause-found
returns-then-ge-clause-found c =
    (across_found c.args.nodes.now.slots c.args.pixels.now c.args.pixel c.args.name c.requires.lists _ c.loop-node.position.at c.in-Some.node
    c.loop-node.invariant.seeks c.in-Some.ensures (least c)).1

pub returns-in_default-clause-here : goal.returns-in_default-clause-here
returns-in_default-clause-here c =
    (across_ended c.args.nodes.now.slots c.args.pixels.now c.args.pixel c.args.name c.requires.lists _ c.loop-node.position.at c.loop-node.invariant.seeks c.in_default.ensures).0

pub returns-in_default-clause-found : goal.returns-in_default-clause-found
returns-in_default-clause-found c =
    (across_ended c.args.nodes.now.slots c.args.pixels.now c.args.pixel c.args.name c.requires.lists _ c.loop-node.position.at c.loop-node.invariant.seeks c.in_default.ensures).1
