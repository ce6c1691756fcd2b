-- The node's place in the pixel's list is found, and the links before it are set in both lists: each list
-- is then as it was with the node's key at its place, and so with its value.
use Rattle.std.proofs.Common.{ap, sym, ◌∙◌, subst}
use Rattle.std.specs.Prelude.{IsSome}
use Rattle.grid_core.specs.Name.{label_eq}
use Rattle.grid_core.specs.Vector.{point_eq}
use Rattle.pass_links.specs.Passes.{has_name}
use Rattle.pass_links.specs.Chain.{IsPlace, key_of}
use Rattle.pass_links.specs.Node.{name_of, pixel_of, node_at, name_at, pixel_at, across_at}
use Rattle.pass_links.specs.Lists.{names_from}
use Rattle.pass_links.specs.Heads.{segment_start, pixel_start}
use Rattle.pass_links.specs.Positions.{node_before}
use Rattle.grid_core.proofs.Comparisons.{label_decides, point_decides}
use Rattle.pass_links.proofs.ValueLaws.{greater_at}
use Rattle.pass_links.proofs.BackLaws.{place_link, at_stored}
use Rattle.pass_links.proofs.PlaceLaws.{labelled}
use Rattle.pass_links.proofs.WalkLaws.{has_node, has_node_at, place_stored}
use Rattle.pass_links.proofs.NodeLaws.{relinks, relinks_back, has_links}
use Rattle.pass_links.proofs.FilingLaws.{filed_longer}
use Rattle.pass_links.proofs.links.link_at.Goals as goal
use Rattle.pass_links.proofs.links.link_at.Goals.{After-position_across-across}

-- the place in the pixel's list
in_pixel : (c : After-position_across-across) → IsPlace (across_at c.args.nodes.now.slots) (pixel_start c.args.pixels.now.items) (pixel_at c.args.nodes.now.slots) c.args.pixel
    (node_before c.position_across-across.result.before) c.position_across-across.result.at
in_pixel c =
    subst (λ hs. IsPlace (across_at c.args.nodes.now.slots) (pixel_start hs) (pixel_at c.args.nodes.now.slots) c.args.pixel
    (node_before c.position_across-across.result.before) c.position_across-across.result.at) c.deref.ensures.value c.position_across-across.ensures.place

pub returns-clause-lists : goal.returns-clause-lists
returns-clause-lists c =
    λ after through.
    filed_longer c.args.nodes.now.slots c.set_back_across.new.nodes.slots
    (segment_start c.args.segments.now.items) (segment_start c.point_along.new.segments.items)
    (pixel_start c.args.pixels.now.items) (pixel_start c.point_across.new.pixels.items) c.args.name c.args.pixel after c.insert-key.result
    (node_before c.args.place.before) c.args.place.at c.link.result
    (node_before c.position_across-across.result.before) c.position_across-across.result.at c.link-2.result c.requires.lists
    (record {
      low = c.insert-key.ensures.key;
      free = c.insert-key.ensures.was_vacant;
      along = c.requires.place;
      across = in_pixel (goal.at.returns-clause-lists c).After-position_across-across;
      back_along = ap key_of c.link.ensures ∙ place_link label_eq label_decides c.args.name (node_before c.args.place.before) c.args.place.at c.requires.lists.along c.requires.place;
      back_across =
          ap key_of c.link-2.ensures
          ∙ place_link point_eq point_decides c.args.pixel (node_before c.position_across-across.result.before) c.position_across-across.result.at c.requires.lists.across
          (in_pixel (goal.at.returns-clause-lists c).After-position_across-across);
      behind = through;
      lesser = c.position_across-across.ensures.lesser;
      greater =
          greater_at (name_at c.args.nodes.now.slots) c.args.name c.position_across-across.result.at
          (sym c.position_across-across.ensures.found
          ∙ ap (λ hs. has_name (names_from c.args.nodes.now.slots (pixel_start hs c.args.pixel)) c.args.name) c.deref.ensures.value
          ∙ sym (c.requires.lists.linked.agree c.args.name c.args.pixel) ∙ c.requires.fresh)
          c.position_across-across.ensures.here;
      fresh = c.requires.fresh;
    })
    (relinks c.args.nodes.now.slots c.insert-key.new.self.slots c.point_along.new.nodes.slots c.set_back_along.new.nodes.slots
    c.point_across.new.nodes.slots c.set_back_across.new.nodes.slots
    (segment_start c.args.segments.now.items) (segment_start c.point_along.new.segments.items)
    (pixel_start c.args.pixels.now.items) (pixel_start c.point_across.new.pixels.items) c.args.name c.args.pixel c.insert-key.result _
    (node_before c.args.place.before) c.insert-key.result c.args.place.at c.insert-key.result
    (node_before c.position_across-across.result.before) c.insert-key.result c.position_across-across.result.at c.insert-key.result
    c.insert-key.ensures.changes c.point_along.ensures.points c.set_back_along.ensures.links c.point_across.ensures.points c.set_back_across.ensures.links)
    (relinks_back c.args.nodes.now.slots c.insert-key.new.self.slots c.point_along.new.nodes.slots c.set_back_along.new.nodes.slots
    c.point_across.new.nodes.slots c.set_back_across.new.nodes.slots
    (segment_start c.args.segments.now.items) (segment_start c.point_along.new.segments.items)
    (pixel_start c.args.pixels.now.items) (pixel_start c.point_across.new.pixels.items) c.args.name c.args.pixel c.insert-key.result _
    (node_before c.args.place.before) c.insert-key.result c.args.place.at c.insert-key.result
    (node_before c.position_across-across.result.before) c.insert-key.result c.position_across-across.result.at c.insert-key.result
    c.insert-key.ensures.changes c.point_along.ensures.points c.set_back_along.ensures.links c.point_across.ensures.points c.set_back_across.ensures.links)
    (has_links c.args.nodes.now.slots c.insert-key.new.self.slots c.point_along.new.nodes.slots c.set_back_along.new.nodes.slots
    c.point_across.new.nodes.slots c.set_back_across.new.nodes.slots
    (segment_start c.args.segments.now.items) (segment_start c.point_along.new.segments.items)
    (pixel_start c.args.pixels.now.items) (pixel_start c.point_across.new.pixels.items) c.args.name c.args.pixel c.insert-key.result _
    (node_before c.args.place.before) c.insert-key.result c.args.place.at c.insert-key.result
    (node_before c.position_across-across.result.before) c.insert-key.result c.position_across-across.result.at c.insert-key.result
    c.insert-key.ensures.changes c.point_along.ensures.points c.set_back_along.ensures.links c.point_across.ensures.points c.set_back_across.ensures.links)

pub set_back_along-requires : goal.set_back_along-requires
set_back_along-requires c =
    at_stored (λ k. IsSome (node_at c.point_along.new.nodes.slots k)) c.args.place.at
    (λ apart. let named = place_stored label_eq label_decides c.args.name (node_before c.args.place.before) c.args.place.at c.requires.lists.along c.requires.place apart in
    has_node c.point_along.new.nodes.slots c.args.place.at c.args.name
    (c.point_along.ensures.points.names c.args.place.at
    ∙ ap name_of (c.insert-key.ensures.changes.others c.args.place.at
    (labelled label_eq label_decides (name_at c.args.nodes.now.slots) c.args.name c.args.place.at c.insert-key.result named (ap name_of c.insert-key.ensures.was_vacant)))
    ∙ named))

pub set_back_across-requires : goal.set_back_across-requires
set_back_across-requires c =
    let place = in_pixel (goal.at.set_back_across-requires c).After-position_across-across in
    at_stored (λ k. IsSome (node_at c.point_across.new.nodes.slots k)) c.position_across-across.result.at
    (λ apart. let placed = place_stored point_eq point_decides c.args.pixel (node_before c.position_across-across.result.before) c.position_across-across.result.at c.requires.lists.across place apart in
    has_node_at c.point_across.new.nodes.slots c.position_across-across.result.at c.args.pixel
    (c.point_across.ensures.points.pixels c.position_across-across.result.at
    ∙ c.set_back_along.ensures.links.pixels c.position_across-across.result.at
    ∙ c.point_along.ensures.points.pixels c.position_across-across.result.at
    ∙ ap pixel_of (c.insert-key.ensures.changes.others c.position_across-across.result.at
    (labelled point_eq point_decides (pixel_at c.args.nodes.now.slots) c.args.pixel c.position_across-across.result.at c.insert-key.result placed (ap pixel_of c.insert-key.ensures.was_vacant)))
    ∙ placed))
