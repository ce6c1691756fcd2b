use Rattle.std.proofs.Common.{◌∙◌, ◌≤◌, ◌^◌, sym, ap, subst, arith, List, fold, take, length}
use Rattle.std.specs.Prelude.{All}
use Rattle.std.specs.Ordering.{nat_cmp}
use Rattle.std.specs.List.Sorted.{IsStrictlySortedBy}
use Rattle.std.proofs.lemmas.List.{length-take}
use Rattle.hot_tile.specs.declared.spots.Spot.{Spot}
use Rattle.hot_tile.specs.Spots.{keys, counted, IsSmall}
use Rattle.hot_tile.specs.Own.{end_spot}
use Rattle.hot_tile.proofs.OwnLaws.{end_rises, end_countable, own_rises, own_countable}
use Rattle.hot_tile.proofs.PathLaws.{none_rises}
use Rattle.hot_tile.proofs.own.count_own.Goals as goal

pub count_end-requires-clause-rising : goal.count_end-requires-clause-rising
count_end-requires-clause-rising c = subst (λ (xs : List Spot). IsStrictlySortedBy nat_cmp (keys xs)) (sym c.clear.ensures.items) none_rises

pub count_end-requires-2-clause-rising : goal.count_end-requires-2-clause-rising
count_end-requires-2-clause-rising c =
    subst (λ (xs : List Spot). IsStrictlySortedBy nat_cmp (keys xs))
    (sym (c.in_ok-count_end.ensures ∙ ap (λ (xs : List Spot). fold counted xs (end_spot c.args.frame.now c.p.result)) c.clear.ensures.items))
    (end_rises c.args.frame.now c.p.result)

pub count_end-requires-2-clause-small : goal.count_end-requires-2-clause-small
count_end-requires-2-clause-small c =
    subst (λ (xs : List Spot). All (IsSmall (2 ^ 31) (2 ^ 31)) xs)
    (sym (c.in_ok-count_end.ensures ∙ ap (λ (xs : List Spot). fold counted xs (end_spot c.args.frame.now c.p.result)) c.clear.ensures.items))
    (end_countable c.args.frame.now c.p.result)

pub count_crossing-requires-clause-rising : goal.count_crossing-requires-clause-rising
count_crossing-requires-clause-rising c =
    subst (λ (xs : List Spot). IsStrictlySortedBy nat_cmp (keys xs)) (sym c.loop-t.invariant)
    (own_rises c.args.frame.now (take c.loop-t.t-index c.args.segments.now) c.args.s.now)

pub count_crossing-requires-clause-small : goal.count_crossing-requires-clause-small
count_crossing-requires-clause-small c =
    let few : length (take c.loop-t.t-index c.args.segments.now) ≤ 65536 =
    omega (arith, length-take c.loop-t.t-index c.args.segments.now, c.requires) in
    subst (λ (xs : List Spot). All (IsSmall (2 ^ 31) (2 ^ 31)) xs) (sym c.loop-t.invariant)
    (own_countable c.args.frame.now (take c.loop-t.t-index c.args.segments.now) c.args.s.now few)
