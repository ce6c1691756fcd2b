use Rattle.std.proofs.Common.{◌≡◌, ◌∙◌, ap, sym, rules, w64, SFits, to_z-of_z}
use Rattle.std.specs.Prelude.{if◌then◌else◌}
use Rattle.cell_map.specs.Found.{narrowed}
use Rattle.cell_map.proofs.CellColumns.{with_right, with_left, narrowed_right, narrowed_left}
use Rattle.cell_map.proofs.cell.narrow.Goals as goal

pub returns-then-ends : goal.returns-then-ends
returns-then-ends c =
    let cell = c.args.cell.now in
    let fits : SFits w64 c.args.h.x = search rules in
    let ended : with_right cell c.args.h.x ≡ narrowed c.args.at cell c.args.h =
    ap (λ t. with_right cell (if t then c.args.h.x else cell.right)) (sym c.if-ends.true)
    ∙ narrowed_right c.args.at c.args.h cell _ c.ends.ensures (sym c.is_right_of.ensures ∙ c.if-is_right_of.true) in
    simp to_z-of_z ended

pub returns-else-ends : goal.returns-else-ends
returns-else-ends c =
    let cell = c.args.cell.now in
    ap (λ t. with_right cell (if t then c.args.h.x else cell.right)) (sym c.if-ends.false)
    ∙ narrowed_right c.args.at c.args.h cell _ c.ends.ensures (sym c.is_right_of.ensures ∙ c.if-is_right_of.true)

pub returns-then-begins : goal.returns-then-begins
returns-then-begins c =
    let cell = c.args.cell.now in
    let fits : SFits w64 c.args.h.x = search rules in
    let begun : with_left cell c.args.h.x ≡ narrowed c.args.at cell c.args.h =
    ap (λ t. with_left cell (if t then c.args.h.x else cell.left)) (sym c.if-begins.true)
    ∙ narrowed_left c.args.at c.args.h cell _ c.begins.ensures (sym c.is_right_of.ensures ∙ c.if-is_right_of.false) in
    simp to_z-of_z begun

pub returns-else-begins : goal.returns-else-begins
returns-else-begins c =
    let cell = c.args.cell.now in
    ap (λ t. with_left cell (if t then c.args.h.x else cell.left)) (sym c.if-begins.false)
    ∙ narrowed_left c.args.at c.args.h cell _ c.begins.ensures (sym c.is_right_of.ensures ∙ c.if-is_right_of.false)
