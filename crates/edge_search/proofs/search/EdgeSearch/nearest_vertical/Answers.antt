use Rattle.std.proofs.Common.{◌^◌, ◌∙◌, refl, sym, []}
use Rattle.std.proofs.lemmas.List.Elements.{All-contains}
use Rattle.place_test.specs.Reach.{IsEdgeWithin}
use Rattle.edge_search.proofs.Climbing.{seen, some_apart, verticals_alone, with_vertical, no_vertical}
use Rattle.edge_search.proofs.search.EdgeSearch.nearest_vertical.Goals as goal

pub vertical_near-requires-clause-vertical : goal.vertical_near-requires-clause-vertical
vertical_near-requires-clause-vertical c =
    let kept = seen c.self.view_is refl c.deref.ensures.value c.self.invariant in
    verticals_alone kept.verticals

pub vertical_near-requires-clause-apart : goal.vertical_near-requires-clause-apart
vertical_near-requires-clause-apart c =
    let kept = seen c.self.view_is refl c.deref.ensures.value c.self.invariant in
    some_apart (λ e h. (kept.verticals.each e h).0) kept.apart

pub vertical_near-requires-clause-at_no_end : goal.vertical_near-requires-clause-at_no_end
vertical_near-requires-clause-at_no_end c =
    let kept = seen c.self.view_is refl c.deref.ensures.value c.self.invariant in
    λ e h of_e. c.requires.at_no_end e h (kept.verticals.each e of_e).0

pub add_edge-requires-clause-edge_within : goal.add_edge-requires-clause-edge_within
add_edge-requires-clause-edge_within c =
    let kept = seen c.self.view_is refl c.deref.ensures.value c.self.invariant in
    let in_edges = (kept.verticals.each c.in-Some.e c.in-Some.ensures.member).0 in
    All-contains (IsEdgeWithin (2 ^ 30)) c.args.self.now.edges c.in-Some.e kept.within in_edges

pub returns-in-Some : goal.returns-in-Some
returns-in-Some c =
    let kept = seen c.self.view_is refl c.deref.ensures.value c.self.invariant in
    with_vertical c.in-Some.e kept.verticals c.in-Some.ensures.member
    (λ e h on. sym c.in-Some.is ∙ c.vertical_near.ensures.found e h on)
    (c.add_edge.ensures [] [] (c.of_nothing-nearest.ensures c.args.at))

pub returns-in_default : goal.returns-in_default
returns-in_default c =
    let kept = seen c.self.view_is refl c.deref.ensures.value c.self.invariant in
    no_vertical kept.verticals
    (λ e h on. sym c.in_default.is ∙ c.vertical_near.ensures.found e h on)
    (c.of_nothing-nearest.ensures c.args.at)
