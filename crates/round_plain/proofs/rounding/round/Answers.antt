-- The parts are those of the rounding.
use Rattle.std.proofs.Common.{◌∙◌, ap, sym, subst, List}
use Rattle.std.specs.List.{All, IsDistinct}
use Rattle.grid_core.specs.declared.point.Vertex.{Vertex}
use Rattle.grid_core.specs.Vector.{point_eq}
use Rattle.grid_core.specs.Rounding.{RoutedSegment}
use Rattle.round_plain.specs.Routes.{pixels, routes_among}
use Rattle.round_plain.specs.Bundles.{named_edges, bundles}
use Rattle.round_plain.proofs.Rounded.{routes_distinct, rounded}
use Rattle.round_plain.proofs.rounding.round.Goals as goal

pub bundles-requires : goal.bundles-requires
bundles-requires c =
    subst (λ (rs : List RoutedSegment). All (λ r. IsDistinct point_eq r.points) rs)
    (sym (c.deref-2.ensures.value ∙ c.in_ok-routes.ensures))
    (routes_distinct (pixels c.deref.result.now) c.args.segments.now)

pub returns : goal.returns
returns c =
    rounded c.args.segments.now c.in_ok-vertices.vertices.items c.in_ok-routes.routes.items
    c.in_ok-edges.edges.items c.of_parts.result
    c.in_ok-vertices.ensures.value
    (c.in_ok-routes.ensures ∙ ap (λ (vs : List Vertex). routes_among
    (pixels vs) c.args.segments.now) c.deref.ensures.value)
    (c.in_ok-edges.ensures ∙ ap (λ (rs : List RoutedSegment). bundles (named_edges rs))
    c.deref-2.ensures.value)
    c.of_parts.ensures
