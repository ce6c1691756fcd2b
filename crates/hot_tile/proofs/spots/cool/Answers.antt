use Rattle.std.proofs.Common.{◌≡◌, ◌∙◌, sym, ap, subst, arith, ◌+◌, ◌-◌, ◌<◌, ℕ, nat_cmp, false, List, [], ◌∷◌, ◌++◌, get_or, length, take, drop, cond}
use Rattle.std.specs.List.{AllByRecursion}
use Rattle.std.specs.List.Sorted.{IsStrictlySortedBy}
use Rattle.std.proofs.lemmas.List.{length-drop}
use Rattle.std.proofs.lemmas.List.Elements.{All-take, All-drop, recursion_from_All}
use Rattle.hot_tile.specs.declared.spots.Spot.{Spot}
use Rattle.hot_tile.specs.Spots.{keys, is_cold, cooled, cold_keys}
use Rattle.hot_tile.proofs.SpotLaws.{above_at, in_order_from, left_is, run_below, rest_above}
use Rattle.hot_tile.proofs.CoolLaws.{IsCooling, leaves_run, leaves_both, leaves_rest, passes_own}
use Rattle.hot_tile.proofs.spots.cool.Goals as goal
use Rattle.hot_tile.proofs.spots.cool.Goals.{then-i-olds+then-olds-i+in_ok-push_left, else-i-olds, else-i-olds-via-then-i-olds+else-olds-i, else-i-olds-via-else-i-olds, In_ok-extend_from_slice, In_ok-extend_from_slice-2}

abbrev unread : Spot
unread = record { key = 0; ends = 0; crossings = 0 }

pub index_of_key-run-requires : goal.index_of_key-run-requires
index_of_key-run-requires c =
    subst (λ (xs : List Spot). IsStrictlySortedBy nat_cmp (keys xs)) (sym (left_is c.args.olds.now c.loop-own.i))
    (in_order_from (λ (x : Spot). x.key) c.args.olds.now c.loop-own.i c.requires.rising)

-- the olds below the one of the owns stay
stayed : (c : In_ok-extend_from_slice)
    → IsCooling c.args.olds.now c.args.owns.now (c.loop-own.i + c.index_of_key-run.result) c.loop-own.own-index
    c.extend_from_slice.new.self.items c.loop-own.cold.items
stayed c =
    let i = c.loop-own.i in
    let r = c.index_of_key-run.result in
    let k = (get_or c.args.owns.now c.loop-own.own-index unread).key in
    let below =
    run_below k c.args.olds.now i r c.requires.rising c.index_of_key-run.ensures.lesser c.index_of_key-run.ensures.others in
    let P = λ (x : Spot). is_cold x ≡ false in
    let warm =
    recursion_from_All P (take r (drop i c.args.olds.now)) (All-take P r (drop i c.args.olds.now) (All-drop P i c.args.olds.now c.requires.warm)) in
    let same : i + r - i ≡ r = omega arith in
    subst (λ (zs : List Spot). IsCooling c.args.olds.now c.args.owns.now (i + r) c.loop-own.own-index zs c.loop-own.cold.items)
    (sym (c.in_ok-extend_from_slice.ensures.items ∙ ap (λ n. c.loop-own.spots.items ++ take n (drop i c.args.olds.now)) same))
    (leaves_run c.loop-own.invariant.so_far unread r c.loop-own-test.true warm below
    (above_at (λ (x : Spot). x.key) c.args.owns.now c.loop-own.own-index unread c.loop-own-test.true c.requires.own_rising))

pub loop-own-preserved : goal.loop-own-preserved
loop-own-preserved c =
    let olds = c.args.olds.now in
    let owns = c.args.owns.now in
    let j = c.loop-own.own-index in
    let at = c.loop-own.i + c.index_of_key-run.result in
    let t = stayed c.before in
    let after : AllByRecursion (λ (x : Spot). (get_or owns j unread).key < x.key) (drop (j + 1) owns) =
    above_at (λ (x : Spot). x.key) owns j unread c.loop-own-test.true c.requires.own_rising in
    elim c.if-i-olds.branch [
      | then-i-olds+then-olds-i+in_ok-push_left w ↦
          let above : AllByRecursion (λ (x : Spot). (get_or owns j unread).key < x.key) (drop (at + 1) olds) =
          subst (λ (n : ℕ). AllByRecursion (λ (x : Spot). n < x.key) (drop (at + 1) olds)) w.if-olds-i.true
          (above_at (λ (x : Spot). x.key) olds at unread w.if-i-olds.true c.requires.rising) in
          let left : Spot =
          record {
            key = (get_or olds at unread).key;
            ends = (get_or olds at unread).ends - (get_or owns j unread).ends;
            crossings = (get_or olds at unread).crossings - (get_or owns j unread).crossings;
          } in
          let told : w.less.result ≡ left = w.less.ensures in
          record {
            within = omega (arith, w.i-is, w.if-i-olds.true);
            so_far =
                subst (λ (n : ℕ). IsCooling olds owns n (j + 1) c.if-i-olds.spots.items c.if-i-olds.cold.items) (sym w.i-is)
                (subst (λ (zs : List Spot). IsCooling olds owns (at + 1) (j + 1) zs c.if-i-olds.cold.items)
                (sym (ap (λ v. v.items) w.spots-is ∙ w.in_ok-push_left.ensures.spots
                ∙ ap (λ (x : Spot). c.extend_from_slice.new.self.items ++ cond (is_cold x) [] (x ∷ [])) told))
                (subst (λ (ks : List ℕ). IsCooling olds owns (at + 1) (j + 1) (c.extend_from_slice.new.self.items ++ cond (is_cold left) [] (left ∷ [])) ks)
                (sym (ap (λ v. v.items) w.cold-is ∙ w.in_ok-push_left.ensures.cold
                ∙ ap (λ (x : Spot). c.loop-own.cold.items ++ cond (is_cold x) (x.key ∷ []) []) told))
                (leaves_both t unread w.if-i-olds.true c.loop-own-test.true (sym w.if-olds-i.true) above after)));
          }
      | else-i-olds w ↦
          let other : at < length olds → (get_or olds at unread).key ≡ (get_or owns j unread).key → ⊥ =
          λ lt e. elim w.else-i-olds.branch [
            | else-i-olds-via-then-i-olds+else-olds-i w' ↦ w'.if-olds-i.false e
            | else-i-olds-via-else-i-olds w' ↦ omega (arith, lt, w'.if-i-olds.false)
          ] in
          let above =
          rest_above (get_or owns j unread).key olds c.loop-own.i c.index_of_key-run.result c.requires.rising c.index_of_key-run.ensures.lesser
          c.index_of_key-run.ensures.others unread other in
          record {
            within = omega (
              arith,
              w.i-is,
              c.loop-own.invariant.within,
              c.index_of_key-run.ensures.within,
              ap length (left_is olds c.loop-own.i),
              length-drop c.loop-own.i olds,
            );
            so_far =
                subst (λ (n : ℕ). IsCooling olds owns n (j + 1) c.if-i-olds.spots.items c.if-i-olds.cold.items) (sym w.i-is)
                (subst (λ (zs : List Spot). IsCooling olds owns at (j + 1) zs c.if-i-olds.cold.items) (sym (ap (λ v. v.items) w.spots-is))
                (subst (λ (ks : List ℕ). IsCooling olds owns at (j + 1) c.extend_from_slice.new.self.items ks) (sym (ap (λ v. v.items) w.cold-is))
                (passes_own t unread c.loop-own-test.true above)));
          }
    ]

-- all that is left stays
rested : (c : In_ok-extend_from_slice-2)
    → (c.loop-own.spots.items ++ drop c.loop-own.i c.args.olds.now ≡ cooled c.args.olds.now c.args.owns.now)
    × (c.loop-own.cold.items ≡ cold_keys c.args.olds.now c.args.owns.now)
rested c =
    let P = λ (x : Spot). is_cold x ≡ false in
    leaves_rest c.loop-own.invariant.so_far unread (omega (arith, c.loop-own-test.false))
    (recursion_from_All P (drop c.loop-own.i c.args.olds.now) (All-drop P c.loop-own.i c.args.olds.now c.requires.warm))

pub returns-clause-spots : goal.returns-clause-spots
returns-clause-spots c =
    c.in_ok-extend_from_slice-2.ensures.items ∙ ap (λ (zs : List Spot). c.loop-own.spots.items ++ zs) (left_is c.args.olds.now c.loop-own.i)
    ∙ (rested c).0

pub returns-clause-cold : goal.returns-clause-cold
returns-clause-cold c = (rested c).1
