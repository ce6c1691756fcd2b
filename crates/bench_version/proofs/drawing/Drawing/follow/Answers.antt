use Rattle.std.proofs.Common.{rules, arith, ◌<◌, length, sym, subst, ap, ◌∙◌}
use Rattle.std.specs.Arc.{arc_value}
use Rattle.grid_core.specs.LiveList.{IsLiveList}
use Rattle.bench_version.proofs.Counts.{few_follow}
use Rattle.bench_version.proofs.drawing.Drawing.follow.Goals as goal

pub apply_in_place-requires-clause-few : goal.apply_in_place-requires-clause-few
apply_in_place-requires-clause-few c =
    few_follow (arc_value c.args.self.now.version) c.in-Some.own.now c.args.prepared c.in-Some.ensures.value c.requires.profile
    (subst (λ q. IsLiveList q.profile.bound q.live) c.deref.ensures c.count.ensures.kept)
    c.requires.stands c.change.ensures.within
    (ap length (sym (c.edits.ensures ∙ ap (λ x. x.edits) c.change.ensures.value)) ∙ search rules)
    (subst (λ q. length q.live < 4096) c.deref.ensures (omega (arith, c.count.ensures.value, c.if-count-ge-MOST_LIVE.false)))

pub apply_beside-requires-clause-few : goal.apply_beside-requires-clause-few
apply_beside-requires-clause-few c =
    few_follow (arc_value c.args.self.now.version) c.deref-in-All.result.now c.args.prepared (search) c.requires.profile
    (subst (λ q. IsLiveList q.profile.bound q.live) c.deref.ensures c.count.ensures.kept)
    c.requires.stands c.change.ensures.within
    (ap length (sym (c.edits.ensures ∙ ap (λ x. x.edits) c.change.ensures.value)) ∙ search rules)
    (subst (λ q. length q.live < 4096) c.deref.ensures (omega (arith, c.count.ensures.value, c.if-count-ge-MOST_LIVE.false)))
