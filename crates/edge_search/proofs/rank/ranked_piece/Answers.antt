use Rattle.std.proofs.Common.{[], ◌∷◌, rules, subst, sym, w64, SFits, to_z-of_z}
use Rattle.edge_search.specs.EdgeOrder.{IsInside}
use Rattle.edge_search.proofs.Ranks.{inside_piece}
use Rattle.edge_search.proofs.rank.ranked_piece.Goals as goal

pub rank-requires-clause-inside : goal.rank-requires-clause-inside
rank-requires-clause-inside c =
    let strip : SFits w64 c.args.strip = search rules in
    let node : SFits w64 c.args.node = search rules in
    let width : SFits w64 c.args.width = search rules in
    let e = c.args.e.now in
    subst (λ q. IsInside q e) (sym (simp to_z-of_z at c.point_inside-at.ensures))
    (inside_piece c.args.strip (e ∷ []) c.args.width (record { node = c.args.node; edge = e }) c.requires.piece)
