use Rattle.std.proofs.Common.{rules, ◌≡◌, ◌∙◌, sym, ap, ℕ, List, [], ◌-◌, ◌<◌, ◌≤◌, ◌⊎◌, inl, inr, arith, length, get_or, take, drop}
use Rattle.std.proofs.lemmas.List.{get_or_default}
use Rattle.hot_tile.specs.Rows.{cut}
use Rattle.hot_tile.proofs.RowLaws.{length-cut, row_is}
use Rattle.hot_tile.proofs.rows.Rows.row.Goals as goal
use Rattle.hot_tile.proofs.rows.Rows.row.Goals.{Else-i-eq0, After-deref, After-row_known-3-1, then-i-eq0, else-i-eq0}

pub index-requires : goal.index-requires
index-requires c =
    let n : length c.args.self.now ≡ length c.self.inside.ends.items =
    ap length (sym c.self.view_is) ∙ length-cut 0 c.self.inside.ends.items c.self.inside.steps.items in
    omega (arith, n, c.requires, c.if-i-eq0.false)

pub index-requires-2 : goal.index-requires-2
index-requires-2 c =
    let n : length c.args.self.now ≡ length c.self.inside.ends.items =
    ap length (sym c.self.view_is) ∙ length-cut 0 c.self.inside.ends.items c.self.inside.steps.items in
    omega (arith, n, c.requires)

ends_there : (c : After-row_known-3-1) → c.args.i < length c.self.inside.ends.items
ends_there c =
    let n : length c.args.self.now ≡ length c.self.inside.ends.items =
    ap length (sym c.self.view_is) ∙ length-cut 0 c.self.inside.ends.items c.self.inside.steps.items in
    omega (arith, n, c.requires)

starts : (c : After-row_known-3-1)
    → ((c.args.i ≡ 0) × (c.if-i-eq0.start ≡ 0))
    ⊎ ((c.args.i ≡ 0 → ⊥) × (c.if-i-eq0.start ≡ get_or c.self.inside.ends.items (c.args.i - 1) 0))
starts c =
    let there = ends_there c in
    elim c.if-i-eq0.branch [
      | then-i-eq0 w ↦ inl (w.if-i-eq0.true, w.start-is)
      | else-i-eq0 w ↦ inr (
        w.if-i-eq0.false,
        w.start-is ∙ w.index.ensures ∙ get_or_default c.self.inside.ends.items (c.args.i - 1) w.index.result.now 0 (omega (arith, there)),
      )
    ]

parts : (c : After-row_known-3-1)
    → (c.if-i-eq0.start ≤ c.index-2.result.now) × (c.index-2.result.now ≤ length c.self.inside.steps.items)
    × (take (c.index-2.result.now - c.if-i-eq0.start) (drop c.if-i-eq0.start c.self.inside.steps.items)
    ≡ get_or (cut 0 c.self.inside.ends.items c.self.inside.steps.items) c.args.i [])
parts c =
    row_is c.self.inside.ends.items c.self.inside.steps.items c.args.i c.if-i-eq0.start c.index-2.result.now c.self.invariant
    (ends_there c) (starts c)
    (c.index-2.ensures ∙ get_or_default c.self.inside.ends.items c.args.i c.index-2.result.now 0 (ends_there c))

pub offset_bounds-deref-start : goal.offset_bounds-deref-start
offset_bounds-deref-start c =
    let p = parts c in
    let low = p.0 in
    let high = p.1 in
    let start : c.if-i-eq0.start ≤ length c.deref.result.now = omega (arith, low, high, c.deref.ensures.len) in
    search rules

pub slice_bounds-result-count : goal.slice_bounds-result-count
slice_bounds-result-count c = (parts c).0

pub slice_bounds-result-start : goal.slice_bounds-result-start
slice_bounds-result-start c =
    let p = parts c in
    let low = p.0 in
    let high = p.1 in
    let start : c.if-i-eq0.start ≤ length c.deref.result.now = omega (arith, low, high, c.deref.ensures.len) in
    search rules

pub slice_bounds-result-end : goal.slice_bounds-result-end
slice_bounds-result-end c =
    let p = parts c in
    let low = p.0 in
    let high = p.1 in
    let stop : c.index-2.result.now ≤ length c.deref.result.now = omega (arith, high, c.deref.ensures.len) in
    search rules

pub returns : goal.returns
returns c =
    ap (λ (ws : List ℕ). take (c.index-2.result.now - c.if-i-eq0.start) (drop c.if-i-eq0.start ws)) c.deref.ensures.value
    ∙ (parts (goal.at.returns c).After-row_known-3-1).2 ∙ ap (λ (rows : List (List ℕ)). get_or rows c.args.i []) c.self.view_is
