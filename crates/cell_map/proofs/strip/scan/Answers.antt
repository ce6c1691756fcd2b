use Rattle.std.proofs.Common.{◌≡◌, ◌∙◌, ap, sym, [], ◌∷◌, ◌++◌, take, rules}
use Rattle.std.proofs.lemmas.List.{take_more, take_all}
use Rattle.grid_core.specs.Edge.{EdgeEnds}
use Rattle.round_plain.proofs.Counts.{origin}
use Rattle.place_test.specs.Nearest.{around}
use Rattle.cell_map.proofs.strip.scan.Goals as goal

pub loop-h-init : goal.loop-h-init
loop-h-init c = c.of_nothing-nearest.ensures c.args.at

pub loop-h-preserved : goal.loop-h-preserved
loop-h-preserved c =
    let vs = c.args.vertices.now in
    let i = c.loop-h.h-index in
    c.add_vertex.ensures (take i vs) [] c.loop-h.invariant
    ∙ ap (λ hs. around hs [] c.args.at) (sym (take_more vs i origin c.loop-h-test.true))

pub loop-e-init : goal.loop-e-init
loop-e-init c =
    let all : take c.loop-h.h-index c.args.vertices.now ≡ c.args.vertices.now = search (rules, take_all) in
    c.loop-h.invariant ∙ ap (λ vs. around vs [] c.args.at) all

pub loop-e-preserved : goal.loop-e-preserved
loop-e-preserved c =
    let es = c.args.edges.now in
    let i = c.loop-e.e-index in
    let vs = c.args.vertices.now in
    c.add_edge.ensures vs (take i es) c.loop-e.invariant
    ∙ ap (λ fs. around vs fs c.args.at)
    (ap (λ (e : EdgeEnds). take i es ++ e ∷ []) c.e-item.is
    ∙ sym (take_more es i c.e-item.result c.loop-e-test.true))

pub returns : goal.returns
returns c =
    let all : take c.loop-e.e-index c.args.edges.now ≡ c.args.edges.now = search (rules, take_all) in
    c.loop-e.invariant ∙ ap (λ es. around c.args.vertices.now es c.args.at) all
