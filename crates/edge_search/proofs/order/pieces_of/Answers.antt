use Rattle.std.proofs.Common.{◌≡◌, ◌∙◌, ap, rules, is_lt, map, subst, sym, w64, SFits, to_z, of_z, to_z-of_z}
use Rattle.std.proofs.lemmas.List.MinMax.{ranks_by}
use Rattle.std.proofs.lemmas.List.Sorted.{answers_always}
use Rattle.std.proofs.lemmas.Result.{IfOk-weaker}
use Rattle.edge_search.specs.declared.rank.RankedPiece.{RankedPiece}
use Rattle.edge_search.specs.Pieces.{ArePieces}
use Rattle.edge_search.specs.Ranks.{ranked_cmp, AreRanked}
use Rattle.edge_search.proofs.SortedPieces.{ranked_total, sorted_pieces}
use Rattle.edge_search.proofs.order.pieces_of.Goals as goal

pub returns : goal.returns
returns c =
    let k = c.args.strip in
    let es = c.args.edges.now in
    let strip : SFits w64 k = search rules in
    let ranked : AreRanked (to_z w64 (of_z w64 k)) es c.in_ok-ranked.ranked.items = c.in_ok-ranked.ensures in
    let lt = λ (r s : RankedPiece). is_lt (ranked_cmp r s) in
    let in_order =
    sorted_pieces k c.requires.within c.requires.apart c.in_ok-ranked.ranked.items c.sort_unstable_by.new.self.items
    (simp to_z-of_z at ranked)
    c.sort_unstable_by.ensures.permutation
    (c.sort_unstable_by.ensures.sorted lt (ranks_by ranked_total (λ r. r))
    (answers_always _ (λ a r. is_lt r ≡ lt a.0.now a.1.0.now) _ (λ f a r g h. search rules))) in
    IfOk-weaker c.without_ranks.result _ _
    (λ ps is. subst (ArePieces k es) (sym (is ∙ ap (map (λ (r : RankedPiece). r.piece)) c.deref.ensures.value)) in_order)
    c.without_ranks.ensures
