-- The segments of the routes of a rounding are those that it is the rounding of.
use Rattle.std.proofs.Common.{◌≡◌, ◌∙◌, ap, sym, map}
use Rattle.std.proofs.lemmas.List.{map-id}
use Rattle.std.proofs.lemmas.Simd.{map-map}
use Rattle.grid_core.specs.Segment.{Segment}
use Rattle.grid_core.specs.Rounding.{RoutedSegment, SnapRounding, rounding_of, route}
use Rattle.edge_bundle.proofs.tests.drawn.Goals as goal

pub picture_is_drawn_within-requires : goal.picture_is_drawn_within-requires
picture_is_drawn_within-requires c =
    let ss = c.args.segments.now in
    let same : map (λ (r : RoutedSegment). r.ur) (rounding_of ss).routes ≡ ss =
    map-map (λ (r : RoutedSegment). r.ur) (λ (s : Segment). record { ur = s; points = route ss s }) ss ∙ map-id ss in
    c.in_ok-picture.ensures
    ∙ ap rounding_of (sym same
    ∙ ap (λ (r : SnapRounding). map (λ (t : RoutedSegment). t.ur) r.routes) (sym c.in_ok-picture.ensures))
