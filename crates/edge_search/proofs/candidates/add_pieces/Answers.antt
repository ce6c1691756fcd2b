use Rattle.std.proofs.Common.{◌≡◌, ◌∙◌, ap, List, [], ◌++◌, take, rules}
use Rattle.std.proofs.lemmas.List.{take_all}
use Rattle.grid_core.specs.Edge.{EdgeEnds}
use Rattle.place_test.specs.Nearest.{around}
use Rattle.edge_search.specs.Candidates.{edges_of}
use Rattle.edge_search.proofs.Searching.{edges_more}
use Rattle.edge_search.proofs.candidates.add_pieces.Goals as goal

pub loop-p-preserved : goal.loop-p-preserved
loop-p-preserved c =
    let ps = c.args.pieces.now in
    let i = c.loop-p.p-index in
    λ es is.
    c.add_edge.ensures [] (es ++ edges_of (take i ps)) (c.loop-p.invariant es is)
    ∙ ap (λ (l : List EdgeEnds). around [] l c.args.at) (edges_more es ps i c.p-item.result c.loop-p-test.true c.p-item.is)

pub returns : goal.returns
returns c =
    let all : take c.loop-p.p-index c.args.pieces.now ≡ c.args.pieces.now = search (rules, take_all) in
    λ es is. c.loop-p.invariant es is ∙ ap (λ ps. around [] (es ++ edges_of ps) c.args.at) all
