-- The strips that were made are those of the graph, and each is put where a strip of its number is kept.
use Rattle.std.proofs.Common.{◌≡◌, ◌∙◌, ap, sym, subst, ◌^◌}
use Rattle.std.specs.Prelude.{if◌then◌else◌}
use Rattle.std.specs.List.{All, list_any}
use Rattle.std.specs.Ordering.{int_eq}
use Rattle.place_test.specs.Reach.{IsEdgeWithin}
use Rattle.place_test.proofs.Joined.{joined_within}
use Rattle.planar_law.specs.PlanarEdges.{Graph}
use Rattle.cell_map.specs.Strips.{Strips, strip_in, strip_of_graph}
use Rattle.cell_map.specs.Exchange.{exchanged, IsKept}
use Rattle.cell_map.proofs.Exchanging.{numbered_kept, exchanged_numbered}
use Rattle.cell_map.proofs.cell_map.CellMap.refresh.Goals as goal

pub strips_of-requires-clause-edges_within : goal.strips_of-requires-clause-edges_within
strips_of-requires-clause-edges_within c =
    let graph = c.edges.ensures.kept in
    subst (All (IsEdgeWithin (2 ^ 30))) (sym c.edges.ensures.value)
    (joined_within (2 ^ 30) c.args.planar.now.vertices c.args.planar.now.edges graph.within graph.joined)

pub exchange-requires : goal.exchange-requires
exchange-requires c =
    let g : Graph = record { edges = c.edges.result.now; vertices = c.vertices.result.now } in
    let kept = c.keep_all.new.strips.entries in
    subst (λ (ps : Strips). All (λ p. IsKept kept p.0) ps) (sym c.in_ok-made.ensures)
    (numbered_kept g kept c.args.strips.now c.in_ok-keep_all.ensures.kept)

pub returns-clause-refreshed : goal.returns-clause-refreshed
returns-clause-refreshed c = λ k.
    let ks = c.args.strips.now in
    let made : Graph = record { edges = c.edges.result.now; vertices = c.vertices.result.now } in
    let graph : made ≡ c.args.planar.now =
    (λ i. record { edges = c.edges.ensures.value i; vertices = c.vertices.ensures.value i }) in
    let before = c.in_ok-keep_all.ensures.same k ∙ ap (λ m. strip_in m k) c.self.view_is in
    c.exchange.ensures k
    ∙ ap (λ (ps : Strips). exchanged ps k (strip_in c.keep_all.new.strips.entries k)) c.in_ok-made.ensures
    ∙ exchanged_numbered made ks k (strip_in c.keep_all.new.strips.entries k)
    ∙ (λ i. if list_any (λ j. int_eq j k) ks then strip_of_graph (graph i) k else before i)
