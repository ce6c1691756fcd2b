use Rattle.std.proofs.Common.{◌≡◌, arith, ap, true, false, SFits, w32, to_z-of_z}
use Rattle.tile_walk.specs.Columns.{rows_from}
use Rattle.tile_walk.proofs.walk.push_column.Goals as goal

pub push_down-requires : goal.push_down-requires
push_down-requires c =
    let from : SFits w32 c.args.from = c.ranges.from in
    let to : SFits w32 c.args.to = c.ranges.to in
    let same : rows_from c.args.falls c.args.from c.args.to ≡ rows_from true c.args.from c.args.to =
    ap (λ b. rows_from b c.args.from c.args.to) c.if-falls.true in
    simp to_z-of_z (omega (arith, c.requires, same))

pub push_up-requires : goal.push_up-requires
push_up-requires c =
    let from : SFits w32 c.args.from = c.ranges.from in
    let to : SFits w32 c.args.to = c.ranges.to in
    let same : rows_from c.args.falls c.args.from c.args.to ≡ rows_from false c.args.from c.args.to =
    ap (λ b. rows_from b c.args.from c.args.to) c.if-falls.false in
    simp to_z-of_z (omega (arith, c.requires, same))
