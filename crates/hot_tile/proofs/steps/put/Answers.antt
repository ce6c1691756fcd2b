use Rattle.std.proofs.Common.{◌≡◌, ◌∙◌, sym, subst, arith, is_lt, ℕ, ◌<◌, List, length, get_or, take, drop}
use Rattle.std.specs.Prelude.{not}
use Rattle.std.specs.List.{filter}
use Rattle.std.specs.Ordering.{nat_cmp}
use Rattle.std.proofs.lemmas.List.{get_or_default}
use Rattle.hot_tile.proofs.SpotLaws.{put_in_place, put_there}
use Rattle.hot_tile.proofs.steps.put.Goals as goal
use Rattle.hot_tile.proofs.steps.put.Goals.{else-at-len-via-then-at-len+else-index-step, else-at-len-via-else-at-len}

pub returns-then-index-step : goal.returns-then-index-step
returns-then-index-step c =
    let lt : c.index_of_step-at.result < length c.args.row.now.items = omega (arith, c.if-at-len.true, c.len.ensures) in
    let lesser =
    subst (λ (ks : List ℕ). take c.index_of_step-at.result ks ≡ filter (λ k. is_lt (nat_cmp k c.args.step)) ks) c.deref.ensures.value
    c.index_of_step-at.ensures.lesser in
    let others =
    subst (λ (ks : List ℕ). drop c.index_of_step-at.result ks ≡ filter (λ k. not (is_lt (nat_cmp k c.args.step))) ks) c.deref.ensures.value
    c.index_of_step-at.ensures.others in
    put_there c.args.row.now.items c.args.step c.index_of_step-at.result c.requires lesser others lt
    (sym (c.index.ensures ∙ get_or_default c.args.row.now.items c.index_of_step-at.result c.index.result.now 0 lt) ∙ c.if-index-step.true)

pub returns : goal.returns
returns c =
    let lesser =
    subst (λ (ks : List ℕ). take c.index_of_step-at.result ks ≡ filter (λ k. is_lt (nat_cmp k c.args.step)) ks) c.deref.ensures.value
    c.index_of_step-at.ensures.lesser in
    let others =
    subst (λ (ks : List ℕ). drop c.index_of_step-at.result ks ≡ filter (λ k. not (is_lt (nat_cmp k c.args.step))) ks) c.deref.ensures.value
    c.index_of_step-at.ensures.others in
    let other : c.index_of_step-at.result < length c.args.row.now.items → get_or c.args.row.now.items c.index_of_step-at.result 0 ≡ c.args.step → ⊥ =
    λ lt same. elim c.else-at-len.branch [
      | else-at-len-via-then-at-len+else-index-step w ↦
          w.if-index-step.false
          (w.index.ensures ∙ get_or_default c.args.row.now.items c.index_of_step-at.result w.index.result.now 0 lt ∙ same)
      | else-at-len-via-else-at-len w ↦ omega (arith, lt, w.if-at-len.false, c.len.ensures)
    ] in
    c.in_ok-insert.ensures.items
    ∙ put_in_place c.args.row.now.items c.args.step c.index_of_step-at.result c.requires lesser others other
