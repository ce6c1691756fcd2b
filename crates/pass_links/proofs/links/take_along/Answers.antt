-- The node is at a place of its segment's list, to which its link back leads; so the links of its neighbours
-- may be set, and its list has a head already.
use Rattle.std.proofs.Common.{◌≡◌, ap, sym, ◌∙◌, subst, refl, Some}
use Rattle.std.specs.Prelude.{IsSome}
use Rattle.grid_core.specs.Name.{label_eq}
use Rattle.pass_links.specs.Chain.{IsPlace, key_of}
use Rattle.pass_links.specs.Node.{along_of, back_along_of, name_of, node_at, along_at, name_at}
use Rattle.pass_links.specs.Heads.{segment_start}
use Rattle.pass_links.specs.Positions.{node_before}
use Rattle.grid_core.proofs.Comparisons.{label_decides}
use Rattle.pass_links.proofs.FamilyLaws.{next_stored}
use Rattle.pass_links.proofs.PlaceLaws.{behind_other, before_other, head_stored, head_kept}
use Rattle.pass_links.proofs.WalkLaws.{has_node, before_named, ended}
use Rattle.pass_links.proofs.BackLaws.{at_stored}
use Rattle.pass_links.proofs.NodeLaws.{takes_along}
use Rattle.pass_links.proofs.links.take_along.Goals as goal
use Rattle.pass_links.proofs.links.take_along.Goals.{After-before_by_link-before}

labelled : (c : After-before_by_link-before) → name_at c.args.nodes.now.slots c.args.key ≡ Some c.value-node.result.name
labelled c = ap name_of c.value-node.ensures

place : (c : After-before_by_link-before) → IsPlace (along_at c.args.nodes.now.slots) (segment_start c.args.segments.now.items) (name_at c.args.nodes.now.slots) c.value-node.result.name
    (node_before c.before_by_link-before.result) c.args.key
place c =
    subst (λ o. IsPlace (along_at c.args.nodes.now.slots) (segment_start c.args.segments.now.items) (name_at c.args.nodes.now.slots) c.value-node.result.name o c.args.key)
    (ap (λ o. key_of (back_along_of o)) c.value-node.ensures ∙ sym c.before_by_link-before.ensures.node)
    (c.requires.back c.args.key c.value-node.result.name (labelled c))

pub point_along-requires-clause-stored : goal.point_along-requires-clause-stored
point_along-requires-clause-stored c =
    let s = (goal.at.point_along-requires-clause-stored c).After-before_by_link-before in
    before_named c.remove.new.self.slots (along_at c.args.nodes.now.slots) (segment_start c.args.segments.now.items) (name_at c.args.nodes.now.slots) c.value-node.result.name
    (node_before c.before_by_link-before.result) c.args.key (place s)
    (λ p e. ap name_of (c.remove.ensures.changes.others p
    (before_other label_eq label_decides (along_at c.args.nodes.now.slots) (segment_start c.args.segments.now.items) (name_at c.args.nodes.now.slots) c.value-node.result.name
    (node_before c.before_by_link-before.result) c.args.key c.requires.lists (place s) p e)))

pub point_along-requires-clause-room : goal.point_along-requires-clause-room
point_along-requires-clause-room c =
    let s = (goal.at.point_along-requires-clause-room c).After-before_by_link-before in
    head_stored (along_at c.args.nodes.now.slots) (segment_start c.args.segments.now.items) (name_at c.args.nodes.now.slots) c.value-node.result.name
    (node_before c.before_by_link-before.result) c.args.key (place s) (c.requires.lists.below c.args.key c.value-node.result.name (labelled s)) _ _

pub set_back_along-requires : goal.set_back_along-requires
set_back_along-requires c =
    let s = (goal.at.set_back_along-requires c).After-before_by_link-before in
    let behind : along_at c.args.nodes.now.slots c.args.key ≡ c.value-node.result.next_of_segment = ap along_of c.value-node.ensures in
    at_stored (λ k. IsSome (node_at c.point_along.new.nodes.slots k)) c.value-node.result.next_of_segment
    (λ apart. has_node c.point_along.new.nodes.slots c.value-node.result.next_of_segment c.value-node.result.name
    (c.point_along.ensures.points.names c.value-node.result.next_of_segment
    ∙ ap name_of (c.remove.ensures.changes.others c.value-node.result.next_of_segment
    (λ e. behind_other label_eq label_decides c.value-node.result.name c.args.key c.value-node.result.next_of_segment c.requires.lists (labelled s) behind (sym e)))
    ∙ subst (λ k. name_at c.args.nodes.now.slots k ≡ Some c.value-node.result.name) behind
    (ended label_eq label_decides (along_at c.args.nodes.now.slots c.args.key) (along_at c.args.nodes.now.slots c.args.key) refl (λ e. apart (sym behind ∙ e))
    (next_stored label_eq label_decides c.value-node.result.name c.args.key c.requires.lists (labelled s)))))

pub returns-clause-takes : goal.returns-clause-takes
returns-clause-takes c =
    takes_along c.args.nodes.now.slots c.remove.new.self.slots c.point_along.new.nodes.slots c.set_back_along.new.nodes.slots c.args.key c.value-node.result
    c.remove.ensures.changes (segment_start c.args.segments.now.items) (segment_start c.point_along.new.segments.items) (node_before c.before_by_link-before.result)
    c.before_by_link-before.ensures.node c.point_along.ensures.points c.set_back_along.ensures.links

pub returns-clause-len : goal.returns-clause-len
returns-clause-len c =
    let s = (goal.at.returns-clause-len c).After-before_by_link-before in
    head_kept (along_at c.args.nodes.now.slots) (segment_start c.args.segments.now.items) (name_at c.args.nodes.now.slots) c.value-node.result.name
    (node_before c.before_by_link-before.result) c.args.key (place s) (c.requires.lists.below c.args.key c.value-node.result.name (labelled s)) _ _ c.point_along.ensures.heads
