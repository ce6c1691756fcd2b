use Rattle.std.proofs.Common.{◌≡◌, ◌+◌, rules, is_lt, subst, sym}
use Rattle.std.proofs.lemmas.List.Sorted.{ranks_by, answers_always}
use Rattle.face_trace.specs.declared.spokes.Spoke.{Spoke}
use Rattle.face_trace.specs.HalfEdge.{spoke_cmp}
use Rattle.face_trace.proofs.AroundOrder.{spoke_total}
use Rattle.face_trace.proofs.SpokeLists.{SpokesSoFar, spokes_more, spokes_sorted}
use Rattle.face_trace.proofs.spokes.spokes_of.Goals as goal

pub loop-number-preserved : goal.loop-number-preserved
loop-number-preserved c =
    subst (λ ss. SpokesSoFar c.args.halves.now ss (c.loop-number.number + 1)) (sym c.in_ok-push.ensures.items)
    (spokes_more _ _ _ _ c.loop-number-test.true c.index-halves-number.is c.loop-number.invariant)

pub returns : goal.returns
returns c =
    let lt = λ (s t : Spoke). is_lt (spoke_cmp s.half t.half) in
    spokes_sorted _ _ _ _ c.loop-number-test.false c.requires c.loop-number.invariant
    c.sort_unstable_by.ensures.permutation
    (c.sort_unstable_by.ensures.sorted lt (ranks_by spoke_total (λ s. s.half))
    (answers_always _ (λ a r. is_lt r ≡ lt a.0.now a.1.0.now) _ (λ f a r g k. search rules)))
