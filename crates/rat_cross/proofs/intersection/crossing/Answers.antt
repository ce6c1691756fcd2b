use Rattle.std.proofs.Common.{pos, IfSome, sym, ◌∙◌, subst}
use Rattle.rat_cross.specs.CrossPoint.{IsCrossPoint}
use Rattle.rat_cross.specs.CrossProduct.{product_value}
use Rattle.rat_cross.proofs.Bounds.{crossing_within}
use Rattle.rat_cross.proofs.BoundingBoxes.{apart_none}
use Rattle.rat_cross.proofs.Signs.{way_is, crossing_left, crossing_right}
use Rattle.rat_cross.proofs.Signs.{size_left, size_right, some_left, some_right}
use Rattle.rat_cross.proofs.intersection.crossing.Goals as goal

pub returns-then-apart-clause-value : goal.returns-then-apart-clause-value
returns-then-apart-clause-value c =
    let apart = sym c.apart.ensures.value ∙ c.if-apart.true in
    sym (apart_none c.args.s.now c.args.t.now c.apart.ensures.first_kept.ordered
    c.apart.ensures.second_kept.ordered apart)

pub returns-then-is_positive-clause-value : goal.returns-then-is_positive-clause-value
returns-then-is_positive-clause-value c =
    let s = c.args.s.now in
    let t = c.args.t.now in
    let d = way_is s.p s.q c.direction_between-d.ensures.value c.p.ensures.value c.q.ensures.value in
    let e = way_is t.p t.q c.direction_between-e.ensures.value c.p-2.ensures.value c.q-2.ensures.value in
    let w = way_is s.p t.p c.direction_between.ensures.value c.p-then-is_positive.ensures.value
    c.p-then-is_positive-2.ensures.value in
    let left = sym c.is_positive.ensures ∙ c.if-is_positive.true in
    let den = size_left c.direction_between-d.result c.direction_between-e.result c.size.result c.size.ensures.value
    c.of-turn.ensures left in
    c.common_point.ensures
    ∙ crossing_left s t c.direction_between-d.result c.direction_between-e.result c.direction_between.result
    (pos c.size.result) d e w den
    (some_left (product_value c.of-turn.result) c.size.result c.size.ensures.value left)

pub returns-then-is_positive-clause-within : goal.returns-then-is_positive-clause-within
returns-then-is_positive-clause-within c n h k =
    subst (λ r. IfSome r (IsCrossPoint n)) (sym (returns-then-is_positive-clause-value c))
    (crossing_within n c.args.s.now c.args.t.now h k)

pub returns-then-is_negative-clause-value : goal.returns-then-is_negative-clause-value
returns-then-is_negative-clause-value c =
    let s = c.args.s.now in
    let t = c.args.t.now in
    let d = way_is s.p s.q c.direction_between-d.ensures.value c.p.ensures.value c.q.ensures.value in
    let e = way_is t.p t.q c.direction_between-e.ensures.value c.p-2.ensures.value c.q-2.ensures.value in
    let w = way_is t.p s.p c.direction_between-then-is_negative.ensures.value c.p-then-is_negative.ensures.value
    c.p-then-is_negative-2.ensures.value in
    let right = sym c.is_negative.ensures ∙ c.if-is_negative.true in
    let den = size_right c.direction_between-d.result c.direction_between-e.result c.size-then-is_negative.result
    c.size-then-is_negative.ensures.value c.of-turn.ensures right in
    c.common_point-then-is_negative.ensures
    ∙ crossing_right s t c.direction_between-d.result c.direction_between-e.result
    c.direction_between-then-is_negative.result (pos c.size-then-is_negative.result) d e w den
    (some_right (product_value c.of-turn.result) c.size-then-is_negative.result
    c.size-then-is_negative.ensures.value right)

pub returns-then-is_negative-clause-within : goal.returns-then-is_negative-clause-within
returns-then-is_negative-clause-within c n h k =
    subst (λ r. IfSome r (IsCrossPoint n)) (sym (returns-then-is_negative-clause-value c))
    (crossing_within n c.args.s.now c.args.t.now h k)
