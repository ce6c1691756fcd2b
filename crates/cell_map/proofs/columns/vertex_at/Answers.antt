use Rattle.std.proofs.Common.{◌≡◌, ◌∙◌, ap, sym, rules, ◌<◌, ◌≤◌, length, get_or, Some}
use Rattle.cell_map.proofs.VertexInOrder.{is_here, vertex_past, vertex_here, vertex_elsewhere}
use Rattle.cell_map.proofs.columns.vertex_at.Goals as goal

pub returns-in_err-h : goal.returns-in_err-h
returns-in_err-h c =
    let vs = c.args.vertices.now in
    let n = c.count_before.result in
    let all : length vs ≤ n = search rules in
    c.from_residual.ensures
    ∙ vertex_past c.args.at c.floor_of.result c.floor_of.ensures.value vs n c.requires.order c.count_before.ensures all

pub returns-then-is_at : goal.returns-then-is_at
returns-then-is_at c =
    let vs = c.args.vertices.now in
    let n = c.count_before.result in
    let some : n < length vs = search rules in
    let there : get_or vs n c.args.at ≡ c.in_ok-h.field-0.now = search rules in
    ap Some (sym there)
    ∙ vertex_here c.args.at c.floor_of.result c.floor_of.ensures.value vs n c.requires.order c.count_before.ensures some
    (ap (is_here c.args.at) there ∙ sym c.is_at.ensures ∙ c.if-is_at.true)

pub returns-else-is_at : goal.returns-else-is_at
returns-else-is_at c =
    let vs = c.args.vertices.now in
    let n = c.count_before.result in
    let some : n < length vs = search rules in
    let there : get_or vs n c.args.at ≡ c.in_ok-h.field-0.now = search rules in
    vertex_elsewhere c.args.at c.floor_of.result c.floor_of.ensures.value vs n c.requires.order c.count_before.ensures some
    (ap (is_here c.args.at) there ∙ sym c.is_at.ensures ∙ c.if-is_at.false)
