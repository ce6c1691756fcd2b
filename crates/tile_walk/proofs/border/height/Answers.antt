use Rattle.std.proofs.Common.{rules, arith, to_z-of_z, SFits, w64, ◌^◌, ◌+◌}
use Rattle.std.specs.Prelude.{pos, ◌+ℤ◌, ◌*ℤ◌}
use Rattle.grid_core.proofs.Signed.{fits_by_size, sum_within}
use Rattle.tile_walk.proofs.Products.{height_is}
use Rattle.tile_walk.proofs.border.height.Goals as goal

pub returns-clause-value : goal.returns-clause-value
returns-clause-value c =
    let column : SFits w64 c.args.column = c.ranges.column in
    let dx : SFits w64 c.args.d.x = search rules in
    let dy : SFits w64 c.args.d.y = search rules in
    let x : SFits w64 c.args.p.x = search rules in
    let y : SFits w64 c.args.p.y = search rules in
    let way : SFits w64 c.way_to.result = search rules in
    let twice : SFits w64 c.twice_less_one.result = search rules in
    let more : SFits w64 c.twice_more_one.result = search rules in
    let risen : SFits w64 c.widened-risen.result = search rules in
    let start : SFits w64 c.product-start.result = search rules in
    let size = sum_within c.widened-risen.result c.product-start.result (2 ^ 48 + 2 ^ 31) (2 ^ 62 + 2 ^ 31)
    c.widened-risen.ensures.small c.product-start.ensures.small in
    let sum : SFits w64 (c.widened-risen.result +ℤ c.product-start.result) =
    fits_by_size w64 (c.widened-risen.result +ℤ c.product-start.result) (omega arith) in
    let value = height_is c.args.d.x c.args.d.y c.args.p.x c.args.p.y (pos c.args.profile.now.side *ℤ c.args.column)
    (simp to_z-of_z at c.way_to.ensures.value)
    (simp to_z-of_z at c.twice_less_one.ensures.value) (simp to_z-of_z at c.twice_more_one.ensures.value)
    (simp to_z-of_z at c.widened-risen.ensures.value) (simp to_z-of_z at c.product-start.ensures.value) in
    simp to_z-of_z value
