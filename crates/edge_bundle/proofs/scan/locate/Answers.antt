use Rattle.std.proofs.Common.{◌≡◌, ◌∙◌, ap, sym, List, [], ◌∷◌, ◌++◌, map, take, rules}
use Rattle.std.proofs.lemmas.List.{map_more, take_all}
use Rattle.grid_core.specs.Places.{place_among}
use Rattle.grid_core.specs.Rounding.{BundledEdge, SnapRounding}
use Rattle.round_plain.proofs.Steps.{unread}
use Rattle.place_test.specs.Nearest.{around}
use Rattle.edge_bundle.specs.Drawn.{vertices_of, edges_of}
use Rattle.edge_bundle.proofs.Drawings.{vertices_are_hot, edges_are_edges}
use Rattle.edge_bundle.proofs.scan.locate.Goals as goal
use Rattle.edge_bundle.proofs.scan.locate.Goals.{After-place}

pub loop-vertex-init : goal.loop-vertex-init
loop-vertex-init c = c.of_nothing-nearest.ensures c.args.at

pub loop-vertex-preserved : goal.loop-vertex-preserved
loop-vertex-preserved c =
    let vs = c.vertices-vertex-items.result.now in
    let i = c.loop-vertex.vertex-index in
    c.add_vertex.ensures (map (λ v. v.at) (take i vs)) [] c.loop-vertex.invariant
    ∙ ap (λ hs. around hs [] c.args.at) (sym (map_more (λ v. v.at) vs i unread c.loop-vertex-test.true))

pub loop-bundled-init : goal.loop-bundled-init
loop-bundled-init c =
    let all : take c.loop-vertex.vertex-index c.vertices-vertex-items.result.now
    ≡ c.vertices-vertex-items.result.now = search (rules, take_all) in
    c.loop-vertex.invariant
    ∙ ap (λ vs. around (map (λ v. v.at) vs) [] c.args.at) (all ∙ c.vertices-vertex-items.ensures)

pub loop-bundled-preserved : goal.loop-bundled-preserved
loop-bundled-preserved c =
    let bs = c.edges-bundled-items.result.now in
    let i = c.loop-bundled.bundled-index in
    let vs = vertices_of c.args.picture.now in
    c.add_edge.ensures vs (map (λ b. b.edge) (take i bs)) c.loop-bundled.invariant
    ∙ ap (λ es. around vs es c.args.at)
    (ap (λ (b : BundledEdge). map (λ b. b.edge) (take i bs) ++ b.edge ∷ []) (c.bundled.view_is ∙ c.bundled-item.is)
    ∙ sym (map_more (λ b. b.edge) bs i c.bundled-item.result c.loop-bundled-test.true))

among : (c : After-place) → c.place.result ≡ place_among (vertices_of c.args.picture.now) (edges_of c.args.picture.now) c.args.at
among c =
    let all : take c.loop-bundled.bundled-index c.edges-bundled-items.result.now
    ≡ c.edges-bundled-items.result.now = search (rules, take_all) in
    let vs = vertices_of c.args.picture.now in
    c.place.ensures vs (edges_of c.args.picture.now) c.args.at
    (c.loop-bundled.invariant
    ∙ ap (λ (bs : List BundledEdge). around vs (map (λ b. b.edge) bs) c.args.at) (all ∙ c.edges-bundled-items.ensures))

pub returns-clause-among : goal.returns-clause-among
returns-clause-among c = among c

pub returns-clause-place : goal.returns-clause-place
returns-clause-place c = λ ss same.
    among c
    ∙ ap (λ (r : SnapRounding). place_among (vertices_of r) (edges_of r) c.args.at) same
    ∙ (λ i. place_among (vertices_are_hot ss i) (edges_are_edges ss i) c.args.at)
