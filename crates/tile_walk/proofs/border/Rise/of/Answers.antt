use Rattle.std.proofs.Common.{rules, ◌≡◌, ap, arith, to_z-of_z, SFits, w64}
use Rattle.std.specs.Prelude.{◌-ℤ◌}
use Rattle.grid_core.proofs.Signed.{signed}
use Rattle.tile_walk.proofs.Products.{height_positive}
use Rattle.tile_walk.proofs.border.Rise.of.Goals as goal

pub split-rows-requires-clause-positive : goal.split-rows-requires-clause-positive
split-rows-requires-clause-positive c =
    let d = c.direction_of-d.result in
    let tile : SFits w64 c.sides-tile.result = search rules in
    let dx : SFits w64 d.x = search rules in
    let value = simp to_z-of_z at c.sides-tile.ensures.value in
    let right : d.x ≡ c.args.s.now.q.x -ℤ c.args.s.now.p.x = ap (λ e. e.x) c.direction_of-d.ensures.value in
    let over = height_positive c.args.profile.now.side d.x c.sides-tile.ensures.kept.some_side
    (omega (arith, signed, right, c.requires)) in
    simp to_z-of_z (omega (arith, signed, value, over))
