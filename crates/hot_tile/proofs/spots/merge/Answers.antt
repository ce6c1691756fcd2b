use Rattle.std.proofs.Common.{◌≡◌, ◌∙◌, sym, ap, subst, arith, ◌+◌, ◌-◌, ◌<◌, ℕ, nat_cmp, List, [], ◌∷◌, ◌++◌, get_or, length, take, drop}
use Rattle.std.specs.List.{AllByRecursion}
use Rattle.std.specs.List.Sorted.{IsStrictlySortedBy}
use Rattle.std.proofs.lemmas.List.{length-drop}
use Rattle.hot_tile.specs.declared.spots.Spot.{Spot}
use Rattle.hot_tile.specs.Spots.{keys, both}
use Rattle.hot_tile.proofs.SpotLaws.{IsMerging, takes_run, takes_own, takes_both, above_at, in_order_from, left_is, run_below, rest_above}
use Rattle.hot_tile.proofs.spots.merge.Goals as goal
use Rattle.hot_tile.proofs.spots.merge.Goals.{then-i-olds+then-olds-i+in_ok-push, else-i-olds+in_ok-push-2+in_ok-push-3, else-i-olds-via-then-i-olds+else-olds-i, else-i-olds-via-else-i-olds, In_ok-extend_from_slice}

abbrev unread : Spot
unread = record { key = 0; ends = 0; crossings = 0 }

pub index_of_key-run-requires : goal.index_of_key-run-requires
index_of_key-run-requires c =
    subst (λ (xs : List Spot). IsStrictlySortedBy nat_cmp (keys xs)) (sym (left_is c.args.olds.now c.loop-own.i))
    (in_order_from (λ (x : Spot). x.key) c.args.olds.now c.loop-own.i c.requires.rising)

-- the olds below the one of the owns are taken
taken : (c : In_ok-extend_from_slice)
    → IsMerging c.args.olds.now c.args.owns.now (c.loop-own.i + c.index_of_key-run.result) c.loop-own.own-index
    c.extend_from_slice.new.self.items c.loop-own.fresh.items
taken c =
    let i = c.loop-own.i in
    let r = c.index_of_key-run.result in
    let k = (get_or c.args.owns.now c.loop-own.own-index unread).key in
    let below =
    run_below k c.args.olds.now i r c.requires.rising c.index_of_key-run.ensures.lesser c.index_of_key-run.ensures.others in
    let same : i + r - i ≡ r = omega arith in
    subst (λ (zs : List Spot). IsMerging c.args.olds.now c.args.owns.now (i + r) c.loop-own.own-index zs c.loop-own.fresh.items)
    (sym (c.in_ok-extend_from_slice.ensures.items ∙ ap (λ n. c.loop-own.spots.items ++ take n (drop i c.args.olds.now)) same))
    (takes_run c.loop-own.invariant.so_far unread r c.loop-own-test.true below
    (above_at (λ (x : Spot). x.key) c.args.owns.now c.loop-own.own-index unread c.loop-own-test.true c.requires.own_rising))

pub loop-own-preserved : goal.loop-own-preserved
loop-own-preserved c =
    let olds = c.args.olds.now in
    let owns = c.args.owns.now in
    let j = c.loop-own.own-index in
    let at = c.loop-own.i + c.index_of_key-run.result in
    let t = taken c.before in
    let after : AllByRecursion (λ (x : Spot). (get_or owns j unread).key < x.key) (drop (j + 1) owns) =
    above_at (λ (x : Spot). x.key) owns j unread c.loop-own-test.true c.requires.own_rising in
    elim c.if-i-olds.branch [
      | then-i-olds+then-olds-i+in_ok-push w ↦
          record {
            within = omega (arith, w.i-is, w.if-i-olds.true);
            so_far =
                subst (λ (n : ℕ). IsMerging olds owns n (j + 1) c.if-i-olds.spots.items c.if-i-olds.fresh.items) (sym w.i-is)
                (subst (λ (zs : List Spot). IsMerging olds owns (at + 1) (j + 1) zs c.if-i-olds.fresh.items)
                (sym (ap (λ v. v.items) w.spots-is ∙ w.in_ok-push.ensures.items
                ∙ ap (λ (x : Spot). c.extend_from_slice.new.self.items ++ x ∷ []) w.both.ensures))
                (subst (λ (ks : List ℕ). IsMerging olds owns (at + 1) (j + 1)
                (c.extend_from_slice.new.self.items ++ both (get_or olds at unread) (get_or owns j unread) ∷ []) ks) (sym (ap (λ v. v.items) w.fresh-is))
                (takes_both t unread w.if-i-olds.true c.loop-own-test.true w.if-olds-i.true after)));
          }
      | else-i-olds+in_ok-push-2+in_ok-push-3 w ↦
          let other : at < length olds → (get_or olds at unread).key ≡ (get_or owns j unread).key → ⊥ =
          λ lt e. elim w.else-i-olds.branch [
            | else-i-olds-via-then-i-olds+else-olds-i w' ↦ w'.if-olds-i.false e
            | else-i-olds-via-else-i-olds w' ↦ omega (arith, lt, w'.if-i-olds.false)
          ] in
          let above =
          rest_above (get_or owns j unread).key olds c.loop-own.i c.index_of_key-run.result c.requires.rising c.index_of_key-run.ensures.lesser
          c.index_of_key-run.ensures.others unread other in
          record {
            within = omega (
              arith,
              w.i-is,
              c.loop-own.invariant.within,
              c.index_of_key-run.ensures.within,
              ap length (left_is olds c.loop-own.i),
              length-drop c.loop-own.i olds,
            );
            so_far =
                subst (λ (n : ℕ). IsMerging olds owns n (j + 1) c.if-i-olds.spots.items c.if-i-olds.fresh.items) (sym w.i-is)
                (subst (λ (zs : List Spot). IsMerging olds owns at (j + 1) zs c.if-i-olds.fresh.items)
                (sym (ap (λ v. v.items) w.spots-is ∙ w.in_ok-push-2.ensures.items))
                (subst (λ (ks : List ℕ). IsMerging olds owns at (j + 1)
                (c.extend_from_slice.new.self.items ++ get_or owns j unread ∷ []) ks) (sym (ap (λ v. v.items) w.fresh-is ∙ w.in_ok-push-3.ensures.items))
                (takes_own t unread c.loop-own-test.true above after)));
          }
    ]
