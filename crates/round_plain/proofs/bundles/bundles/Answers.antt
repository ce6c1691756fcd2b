-- The map of all named edges is told edge by edge.
use Rattle.std.proofs.Common.{◌≡◌, ◌∙◌, ap, map, fold, take, List, [], rules}
use Rattle.std.proofs.lemmas.List.{take_all}
use Rattle.grid_core.specs.Rounding.{RoutedSegment}
use Rattle.round_plain.specs.Bundles.{named_edges, with_named_edge}
use Rattle.round_plain.proofs.Gathered.{bundle_of_entry, more_named_edges, entries-bundles}
use Rattle.round_plain.proofs.bundles.bundles.Goals as goal

pub returns : goal.returns
returns c =
    let all : take c.loop-route.route-index c.args.routes.now
    ≡ c.args.routes.now = search (rules, take_all) in
    let told : c.in_ok-bundles.bundles.items
    ≡ map bundle_of_entry c.loop-route.gathered.entries = search rules in
    told
    ∙ ap (map bundle_of_entry)
    (c.loop-route.invariant ∙ ap (λ (rs : List RoutedSegment). fold with_named_edge [] (named_edges rs)) all
    ∙ more_named_edges [] (named_edges c.args.routes.now))
    ∙ entries-bundles (named_edges c.args.routes.now)
