-- Edge after edge, a named edge moves from what is left to the map. Two neighbours differ, since no point stands twice.
use Rattle.std.proofs.Common.{◌∙◌, ap, sym, subst, fold, map, List, rules}
use Rattle.std.specs.List.{IsDistinct}
use Rattle.grid_core.specs.declared.point.Point.{Point}
use Rattle.grid_core.specs.Vector.{point_eq}
use Rattle.grid_core.specs.Edge.{EdgeEnds}
use Rattle.grid_core.specs.Rounding.{RoutedSegment, edges_along}
use Rattle.round_plain.specs.Bundles.{named_edges_of, with_named_edge}
use Rattle.round_plain.proofs.RouteEdges.{edges_end, neighbours_differ}
use Rattle.round_plain.proofs.Counts.{origin}
use Rattle.round_plain.proofs.Gathered.{edge_added}
use Rattle.round_plain.proofs.bundles.add_route.Goals as goal

pub loop-i-init : goal.loop-i-init
loop-i-init c =
    let points = c.as_slice-points.ensures ∙ ap (λ (r : RoutedSegment). r.points) c.route.view_is in
    let name = c.name-name.ensures.value ∙ ap (λ (r : RoutedSegment). r.ur.name) c.route.view_is in
    λ k. fold with_named_edge c.args.gathered.now.entries
    (map (λ (e : EdgeEnds). (e, name k)) (edges_along (points k)))

pub unwrap-edge-requires : goal.unwrap-edge-requires
unwrap-edge-requires c =
    let points = c.as_slice-points.ensures ∙ ap (λ (r : RoutedSegment). r.points) c.route.view_is in
    let differ = neighbours_differ c.as_slice-points.result.now c.loop-i.i origin
    (subst (λ (ps : List Point). IsDistinct point_eq ps) (sym points) c.requires)
    c.loop-i.auto.i c.loop-i-test.true in
    search (rules, differ)

pub loop-i-preserved : goal.loop-i-preserved
loop-i-preserved c =
    edge_added c.loop-i.gathered.entries c.add_name.new.gathered.entries
    (fold with_named_edge c.args.gathered.now.entries (named_edges_of c.args.route.now))
    c.as_slice-points.result.now c.name-name.result c.loop-i.i origin c.unwrap-edge.result
    c.loop-i.auto.i c.loop-i-test.true
    (search rules) c.loop-i.invariant c.in_ok-add_name.ensures

pub returns : goal.returns
returns c =
    sym (ap (λ (es : List EdgeEnds). fold with_named_edge c.loop-i.gathered.entries
    (map (λ (e : EdgeEnds). (e, c.name-name.result)) es))
    (edges_end c.as_slice-points.result.now c.loop-i.i c.loop-i.auto.i c.loop-i-test.false))
    ∙ c.loop-i.invariant
