use Rattle.std.proofs.Common.{◌≡◌, ◌∙◌, ap, sym, subst, ◌+◌, ◌<◌, length, set, get_or}
use Rattle.std.proofs.lemmas.List.Elements.{All-get_or}
use Rattle.face_trace.specs.declared.spokes.Spoke.{Spoke}
use Rattle.face_trace.specs.HalfEdge.{twin_number}
use Rattle.face_trace.proofs.LinksSoFar.{LinkedSoFar, linked_more}
use Rattle.face_trace.proofs.spokes.nexts_of.Goals as goal

pub loop-i-preserved : goal.loop-i-preserved
loop-i-preserved c =
    let ss = c.args.spokes.now in
    let s = c.index-spokes-i.result in
    let t = c.index-spokes-follower.result in
    let q = c.follower-follower.result in
    let nexts = c.loop-i.nexts.items in
    let first = c.first_of_start-first.result in
    let at : c.twin.result ≡ twin_number s.number =
    c.twin.ensures ∙ ap (λ (u : Spoke). twin_number u.number) (sym c.index-spokes-i.is) in
    let fits : twin_number s.number < length ss =
    subst (λ (u : Spoke). twin_number u.number < length ss) (sym c.index-spokes-i.is)
    (All-get_or (λ (u : Spoke). twin_number u.number < length ss) ss c.loop-i.i s c.loop-i-test.true c.requires) in
    subst (λ k. LinkedSoFar ss (set nexts k (get_or ss q t).number) first (c.loop-i.i + 1)) (sym at)
    (subst (λ (u : Spoke). LinkedSoFar ss (set nexts (twin_number s.number) u.number) first (c.loop-i.i + 1)) c.index-spokes-follower.is
    (linked_more ss nexts c.loop-i.first first c.loop-i.i q c.loop-i-test.true c.loop-i.invariant
    c.first_of_start-first.ensures c.follower-follower.ensures s t c.index-spokes-i.is c.index-spokes-follower.is fits))
