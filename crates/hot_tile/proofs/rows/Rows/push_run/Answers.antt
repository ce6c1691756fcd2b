use Rattle.std.proofs.Common.{rules, ◌≡◌, ◌∙◌, sym, ap, subst, arith, ℕ, ◌+◌, ◌-◌, ◌<◌, ◌≤◌, ◌^◌, List, ◌++◌, map, length, take, drop}
use Rattle.std.specs.Prelude.{All}
use Rattle.std.proofs.lemmas.List.{length-take, length-drop}
use Rattle.hot_tile.specs.Rows.{cut, AreEnds, start_at}
use Rattle.hot_tile.proofs.RowLaws.{length-cut}
use Rattle.hot_tile.proofs.RunLaws.{IsRun, rises, behind, fits, put_behind, ends_put_behind}
use Rattle.hot_tile.proofs.rows.Rows.push_run.Goals as goal
use Rattle.hot_tile.proofs.rows.Rows.push_run.Goals.{After-deref-3, After-push_ends}

pub start_of-start-requires : goal.start_of-start-requires
start_of-start-requires c =
    let n = ap length (sym c.others.view_is) ∙ length-cut 0 c.others.inside.ends.items c.others.inside.steps.items in
    omega (arith, n, c.requires.order, c.requires.within, c.deref.ensures.len)

pub start_of-stop-requires : goal.start_of-stop-requires
start_of-stop-requires c =
    let n = ap length (sym c.others.view_is) ∙ length-cut 0 c.others.inside.ends.items c.others.inside.steps.items in
    omega (arith, n, c.requires.within, c.deref-2.ensures.len)

run : (c : After-deref-3)
    → IsRun c.others.inside.ends.items c.others.inside.steps.items c.args.from c.args.to c.start_of-start.result c.start_of-stop.result
run c =
    let n = ap length (sym c.others.view_is) ∙ length-cut 0 c.others.inside.ends.items c.others.inside.steps.items in
    record {
      others = c.others.invariant;
      order = c.requires.order;
      within = omega (arith, n, c.requires.within);
      starts = c.start_of-start.ensures ∙ ap (λ (es : List ℕ). start_at 0 es c.args.from) c.deref.ensures.value;
      stops = c.start_of-stop.ensures ∙ ap (λ (es : List ℕ). start_at 0 es c.args.to) c.deref-2.ensures.value;
    }

pub offset_bounds-deref-start : goal.offset_bounds-deref-start
offset_bounds-deref-start c =
    let r = rises (run c) in
    let low = r.0 in
    let high = r.1 in
    let start : c.start_of-start.result ≤ length c.deref-3.result.now = omega (arith, low, high, c.deref-3.ensures.len) in
    search rules

pub slice_bounds-extend_from_slice-count : goal.slice_bounds-extend_from_slice-count
slice_bounds-extend_from_slice-count c = (rises (run c)).0

pub slice_bounds-extend_from_slice-start : goal.slice_bounds-extend_from_slice-start
slice_bounds-extend_from_slice-start c =
    let r = rises (run c) in
    let low = r.0 in
    let high = r.1 in
    let start : c.start_of-start.result ≤ length c.deref-3.result.now = omega (arith, low, high, c.deref-3.ensures.len) in
    search rules

pub slice_bounds-extend_from_slice-end : goal.slice_bounds-extend_from_slice-end
slice_bounds-extend_from_slice-end c =
    let r = rises (run c) in
    let high = r.1 in
    let stop : c.start_of-stop.result ≤ length c.deref-3.result.now = omega (arith, high, c.deref-3.ensures.len) in
    search rules

pub offset_bounds-deref-from : goal.offset_bounds-deref-from
offset_bounds-deref-from c =
    let n = ap length (sym c.others.view_is) ∙ length-cut 0 c.others.inside.ends.items c.others.inside.steps.items in
    let from : c.args.from ≤ length c.deref-4.result.now = omega (arith, n, c.requires.order, c.requires.within, c.deref-4.ensures.len) in
    search rules

pub slice_bounds-push_ends-end : goal.slice_bounds-push_ends-end
slice_bounds-push_ends-end c =
    let n = ap length (sym c.others.view_is) ∙ length-cut 0 c.others.inside.ends.items c.others.inside.steps.items in
    let to : c.args.to ≤ length c.deref-4.result.now = omega (arith, n, c.requires.within, c.deref-4.ensures.len) in
    search rules

pub push_ends-requires-clause-behind : goal.push_ends-requires-clause-behind
push_ends-requires-clause-behind c =
    subst (λ (es : List ℕ). All (λ e. c.start_of-start.result ≤ e) (take (c.args.to - c.args.from) (drop c.args.from es))) (sym c.deref-4.ensures.value)
    (behind (run (goal.at.push_ends-requires-clause-behind c).After-deref-3))

base_is : (c : After-deref-3) → c.len-base.result ≡ length c.self.inside.steps.items
base_is c = search rules

pub push_ends-requires-clause-fits : goal.push_ends-requires-clause-fits
push_ends-requires-clause-fits c =
    let r = rises (run (goal.at.push_ends-requires-clause-fits c).After-deref-3) in
    let low = r.0 in
    let high = r.1 in
    let fit : c.len-base.result + (c.start_of-stop.result - c.start_of-start.result) < 2 ^ 64 =
    omega (
      arith,
      c.len-base.ensures,
      c.in_ok-extend_from_slice.ensures.len,
      c.extend_from_slice.new.self.ok,
      c.extend_from_slice.new.self.small,
      length-take (c.start_of-stop.result - c.start_of-start.result) (drop c.start_of-start.result c.deref-3.result.now),
      length-drop c.start_of-start.result c.deref-3.result.now,
      c.deref-3.ensures.len,
      low,
      high,
    ) in
    subst (λ (es : List ℕ). All (λ e. c.len-base.result + (e - c.start_of-start.result) < 2 ^ 64) (take (c.args.to - c.args.from) (drop c.args.from es)))
    (sym c.deref-4.ensures.value)
    (fits (run (goal.at.push_ends-requires-clause-fits c).After-deref-3) c.len-base.result (2 ^ 64) fit)

steps_now : (c : After-push_ends)
    → c.extend_from_slice.new.self.items
    ≡ c.self.inside.steps.items ++ take (c.start_of-stop.result - c.start_of-start.result) (drop c.start_of-start.result c.others.inside.steps.items)
steps_now c =
    c.in_ok-extend_from_slice.ensures.items
    ∙ ap (λ (ws : List ℕ). c.self.inside.steps.items ++ take (c.start_of-stop.result - c.start_of-start.result) (drop c.start_of-start.result ws))
    c.deref-3.ensures.value

ends_now : (c : After-push_ends) → c.len-base.result ≡ length c.self.inside.steps.items
    → c.push_ends.new.ends.items
    ≡ c.self.inside.ends.items
    ++ map (λ e. length c.self.inside.steps.items + (e - c.start_of-start.result)) (take (c.args.to - c.args.from) (drop c.args.from c.others.inside.ends.items))
ends_now c base =
    c.push_ends.ensures
    ∙ (λ k. c.reserve.ensures.items k
    ++ map (λ e. base k + (e - c.start_of-start.result)) (take (c.args.to - c.args.from) (drop c.args.from (c.deref-4.ensures.value k))))

pub invariant_of-self-2 : goal.invariant_of-self-2
invariant_of-self-2 c =
    let before = (goal.at.invariant_of-self-2 c).After-deref-3 in
    subst (λ (es : List ℕ). AreEnds 0 es (length c.extend_from_slice.new.self.items)) (sym (ends_now c (base_is before)))
    (subst (λ (ws : List ℕ). AreEnds 0 (c.self.inside.ends.items
    ++ map (λ e. length c.self.inside.steps.items + (e - c.start_of-start.result)) (take (c.args.to - c.args.from) (drop c.args.from c.others.inside.ends.items)))
    (length ws)) (sym (steps_now c))
    (ends_put_behind (run before) c.self.inside.ends.items c.self.inside.steps.items c.self.invariant))

pub returns : goal.returns
returns c =
    let before = (goal.at.returns c).After-deref-3 in
    ap (λ (es : List ℕ). cut 0 es c.extend_from_slice.new.self.items) (ends_now c (base_is before))
    ∙ ap (cut 0 (c.self.inside.ends.items
    ++ map (λ e. length c.self.inside.steps.items + (e - c.start_of-start.result)) (take (c.args.to - c.args.from) (drop c.args.from c.others.inside.ends.items))))
    (steps_now c)
    ∙ put_behind (run before) c.self.inside.ends.items c.self.inside.steps.items c.self.invariant
    ∙ (λ k. c.self.view_is k ++ take (c.args.to - c.args.from) (drop c.args.from (c.others.view_is k)))
