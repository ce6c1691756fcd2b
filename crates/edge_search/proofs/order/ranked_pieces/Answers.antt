use Rattle.std.proofs.Common.{◌∙◌, ap, sym, subst, rules, take, [], ◌∷◌, ◌++◌, w64, SFits, to_z, of_z, to_z-of_z}
use Rattle.std.proofs.lemmas.List.{take_more, take_all}
use Rattle.grid_core.specs.Edge.{EdgeEnds}
use Rattle.edge_search.specs.Ranks.{AreRanked}
use Rattle.edge_search.proofs.SortedPieces.{ranked_more}
use Rattle.edge_search.proofs.order.ranked_pieces.Goals as goal

pub loop-e-preserved : goal.loop-e-preserved
loop-e-preserved c =
    let k = to_z w64 (of_z w64 c.args.strip) in
    let es = c.args.edges.now in
    let i = c.loop-e.e-index in
    let e = c.e-item.result in
    let more = take_more es i e c.loop-e-test.true ∙ ap (λ (f : EdgeEnds). take i es ++ f ∷ []) (sym c.e-item.is) in
    subst (λ fs. AreRanked k fs c.cut.new.found.items) (sym more)
    (ranked_more k (take i es) e c.loop-e.found.items c.cut.new.found.items c.in_ok-cut.ensures c.loop-e.invariant)

pub returns : goal.returns
returns c =
    let strip : SFits w64 c.args.strip = search rules in
    subst (λ es. AreRanked c.args.strip es c.loop-e.found.items)
    (take_all c.loop-e.e-index c.args.edges.now c.loop-e-test.false) (simp to_z-of_z at c.loop-e.invariant)
