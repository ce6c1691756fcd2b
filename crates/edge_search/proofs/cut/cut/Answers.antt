use Rattle.std.proofs.Common.{◌-◌, ◌/◌, ◌+◌, ◌*◌, ◌∙◌, ap, sym, subst, arith, rules, List, pos}
use Rattle.std.proofs.Common.{w64, SFits, to_z, of_z, to_z-of_z}
use Rattle.grid_core.specs.declared.point.Point.{Point}
use Rattle.edge_search.specs.declared.rank.RankedPiece.{RankedPiece}
use Rattle.edge_search.specs.Ranks.{ranked_piece}
use Rattle.edge_search.specs.Cuts.{IsNearestLeaf, pushed_if}
use Rattle.edge_search.proofs.Cutting.{IsCut, cut_none, cut_more, cut_all, at_most_256, piece_over}
use Rattle.edge_search.proofs.cut.cut.Goals as goal

pub loop-first-init : goal.loop-first-init
loop-first-init c =
    let strip : SFits w64 c.args.strip = search rules in
    let first : SFits w64 c.a.result.x = search rules in
    let end : SFits w64 c.b.result.x = search rules in
    simp to_z-of_z
    (cut_none c.args.strip c.args.e.now c.args.found.now.items c.nearest_leaf-first.result c.nearest_leaf-end.result
    (subst (λ (p : Point). IsNearestLeaf c.args.strip p.x c.nearest_leaf-first.result) c.a.ensures.value
    (simp to_z-of_z at c.nearest_leaf-first.ensures))
    (subst (λ (p : Point). IsNearestLeaf c.args.strip p.x c.nearest_leaf-end.result) c.b.ensures.value
    (simp to_z-of_z at c.nearest_leaf-end.ensures)))

pub push_if-requires-clause-piece : goal.push_if-requires-clause-piece
push_if-requires-clause-piece c =
    piece_over _ _ _ _ _ _ _ c.loop-first.invariant c.loop-first.first (omega arith) c.loop-first-test.true

pub push_if-requires-in-loop-first-clause-piece : goal.push_if-requires-in-loop-first-clause-piece
push_if-requires-in-loop-first-clause-piece c =
    let some = c.loop-first-test.true in
    piece_over _ _ _ _ _ _ _ c.loop-first.invariant (c.loop-first.end - 1) (omega (arith, some)) (omega (arith, some))

pub overflow_mul-width : goal.overflow_mul-width
overflow_mul-width c =
    let small = at_most_256 _ _ _ _ _ _ _ c.loop-first.invariant c.loop-first-test.true in
    omega (arith, small)

pub loop-first-preserved : goal.loop-first-preserved
loop-first-preserved c =
    let l = c.loop-first in
    let e = c.args.e.now in
    let k = to_z w64 (of_z w64 c.args.strip) in
    let last = ranked_piece k e (pos (l.end - 1)) (pos l.width) in
    let odd_first = c.is_odd in
    let odd_end = c.is_odd-in-loop-first in
    let added =
    c.in_ok-push_if-2.ensures ∙ ap (λ (ps : List RankedPiece). pushed_if odd_end.result ps last) c.in_ok-push_if.ensures in
    subst (λ ps. IsCut k e c.args.found.now.items ps ((l.first + 1) / 2) (l.end / 2) (l.width * 2)) (sym added)
    (cut_more k e c.args.found.now.items l.found.items l.first l.end l.width odd_first.result odd_end.result
    l.invariant c.loop-first-test.true odd_first.ensures odd_end.ensures)

pub returns : goal.returns
returns c =
    let strip : SFits w64 c.args.strip = search rules in
    cut_all _ _ _ _ _ _ _ c.loop-first-test.false (simp to_z-of_z at c.loop-first.invariant)
