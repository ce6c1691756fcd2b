use Rattle.std.proofs.Common.{◌≡◌, ap, subst, ◌∙◌, rules, filter, take}
use Rattle.std.specs.List.Sorted.{IsPermutation}
use Rattle.std.proofs.lemmas.List.{take_all}
use Rattle.edge_search.proofs.VerticalEdges.{is_vertical, verticals_are}
use Rattle.edge_search.proofs.verticals.verticals_of.Goals as goal

pub returns : goal.returns
returns c =
    let all : take c.loop-e.e-index c.args.edges.now ≡ c.args.edges.now = search (rules, take_all) in
    let vs = c.sort_unstable.new.self.items in
    let found = c.loop-e.invariant ∙ ap (filter is_vertical) all in
    verticals_are c.args.edges.now vs (subst (λ es. IsPermutation es vs) found c.sort_unstable.ensures.permutation)
    c.sort_unstable.ensures.sorted
