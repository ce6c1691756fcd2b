-- The node is at a place of its pixel's list, to which its link back leads; so the links of its neighbours
-- may be set, and its list has a head already.
use Rattle.std.proofs.Common.{◌≡◌, ap, sym, ◌∙◌, subst, refl, Some}
use Rattle.std.specs.Prelude.{IsSome}
use Rattle.grid_core.specs.Vector.{point_eq}
use Rattle.pass_links.specs.Chain.{IsPlace, key_of}
use Rattle.pass_links.specs.Node.{across_of, back_across_of, pixel_of, node_at, across_at, pixel_at}
use Rattle.pass_links.specs.Heads.{pixel_start}
use Rattle.pass_links.specs.Positions.{node_before}
use Rattle.grid_core.proofs.Comparisons.{point_decides}
use Rattle.pass_links.proofs.FamilyLaws.{next_stored}
use Rattle.pass_links.proofs.PlaceLaws.{behind_other, before_other, head_stored, head_kept}
use Rattle.pass_links.proofs.WalkLaws.{has_node_at, before_placed, ended}
use Rattle.pass_links.proofs.BackLaws.{at_stored}
use Rattle.pass_links.proofs.NodeLaws.{takes_across}
use Rattle.pass_links.proofs.links.take_across.Goals as goal
use Rattle.pass_links.proofs.links.take_across.Goals.{After-before_by_link-before}

labelled : (c : After-before_by_link-before) → pixel_at c.args.nodes.now.slots c.args.key ≡ Some c.value-node.result.pixel
labelled c = ap pixel_of c.value-node.ensures

place : (c : After-before_by_link-before) → IsPlace (across_at c.args.nodes.now.slots) (pixel_start c.args.pixels.now.items) (pixel_at c.args.nodes.now.slots) c.value-node.result.pixel
    (node_before c.before_by_link-before.result) c.args.key
place c =
    subst (λ o. IsPlace (across_at c.args.nodes.now.slots) (pixel_start c.args.pixels.now.items) (pixel_at c.args.nodes.now.slots) c.value-node.result.pixel o c.args.key)
    (ap (λ o. key_of (back_across_of o)) c.value-node.ensures ∙ sym c.before_by_link-before.ensures.node)
    (c.requires.back c.args.key c.value-node.result.pixel (labelled c))

pub point_across-requires-clause-stored : goal.point_across-requires-clause-stored
point_across-requires-clause-stored c =
    let s = (goal.at.point_across-requires-clause-stored c).After-before_by_link-before in
    before_placed c.remove.new.self.slots (across_at c.args.nodes.now.slots) (pixel_start c.args.pixels.now.items) (pixel_at c.args.nodes.now.slots) c.value-node.result.pixel
    (node_before c.before_by_link-before.result) c.args.key (place s)
    (λ p e. ap pixel_of (c.remove.ensures.changes.others p
    (before_other point_eq point_decides (across_at c.args.nodes.now.slots) (pixel_start c.args.pixels.now.items) (pixel_at c.args.nodes.now.slots) c.value-node.result.pixel
    (node_before c.before_by_link-before.result) c.args.key c.requires.lists (place s) p e)))

pub point_across-requires-clause-room : goal.point_across-requires-clause-room
point_across-requires-clause-room c =
    let s = (goal.at.point_across-requires-clause-room c).After-before_by_link-before in
    head_stored (across_at c.args.nodes.now.slots) (pixel_start c.args.pixels.now.items) (pixel_at c.args.nodes.now.slots) c.value-node.result.pixel
    (node_before c.before_by_link-before.result) c.args.key (place s) (c.requires.lists.below c.args.key c.value-node.result.pixel (labelled s)) _ _

pub set_back_across-requires : goal.set_back_across-requires
set_back_across-requires c =
    let s = (goal.at.set_back_across-requires c).After-before_by_link-before in
    let behind : across_at c.args.nodes.now.slots c.args.key ≡ c.value-node.result.next_of_pixel = ap across_of c.value-node.ensures in
    at_stored (λ k. IsSome (node_at c.point_across.new.nodes.slots k)) c.value-node.result.next_of_pixel
    (λ apart. has_node_at c.point_across.new.nodes.slots c.value-node.result.next_of_pixel c.value-node.result.pixel
    (c.point_across.ensures.points.pixels c.value-node.result.next_of_pixel
    ∙ ap pixel_of (c.remove.ensures.changes.others c.value-node.result.next_of_pixel
    (λ e. behind_other point_eq point_decides c.value-node.result.pixel c.args.key c.value-node.result.next_of_pixel c.requires.lists (labelled s) behind (sym e)))
    ∙ subst (λ k. pixel_at c.args.nodes.now.slots k ≡ Some c.value-node.result.pixel) behind
    (ended point_eq point_decides (across_at c.args.nodes.now.slots c.args.key) (across_at c.args.nodes.now.slots c.args.key) refl (λ e. apart (sym behind ∙ e))
    (next_stored point_eq point_decides c.value-node.result.pixel c.args.key c.requires.lists (labelled s)))))

pub returns-clause-takes : goal.returns-clause-takes
returns-clause-takes c =
    takes_across c.args.nodes.now.slots c.remove.new.self.slots c.point_across.new.nodes.slots c.set_back_across.new.nodes.slots c.args.key c.value-node.result
    c.remove.ensures.changes (pixel_start c.args.pixels.now.items) (pixel_start c.point_across.new.pixels.items) (node_before c.before_by_link-before.result)
    c.before_by_link-before.ensures.node c.point_across.ensures.points c.set_back_across.ensures.links

pub returns-clause-len : goal.returns-clause-len
returns-clause-len c =
    let s = (goal.at.returns-clause-len c).After-before_by_link-before in
    head_kept (across_at c.args.nodes.now.slots) (pixel_start c.args.pixels.now.items) (pixel_at c.args.nodes.now.slots) c.value-node.result.pixel
    (node_before c.before_by_link-before.result) c.args.key (place s) (c.requires.lists.below c.args.key c.value-node.result.pixel (labelled s)) _ _ c.point_across.ensures.heads
