use Rattle.std.proofs.Common.{arith, rules, w64, SFits, to_z-of_z}
use Rattle.std.specs.Prelude.{pos, ◌+ℤ◌}
use Rattle.grid_core.proofs.Signed.{signed, fits_by_size}
use Rattle.edge_search.proofs.Cutting.{nearest}
use Rattle.edge_search.proofs.cut.nearest_leaf.Goals as goal

pub returns : goal.returns
returns c =
    let strip : SFits w64 c.args.strip = search rules in
    let x : SFits w64 c.args.x = search rules in
    let far : SFits w64 c.distance.result = search rules in
    let near : SFits w64 c.clamp.result = search rules in
    let low = c.clamp.ensures.lower_bound in
    let high = c.clamp.ensures.upper_bound in
    let leaf : SFits w64 (pos 256 +ℤ c.clamp.result) =
    fits_by_size w64 (pos 256 +ℤ c.clamp.result) (omega (arith, signed, low, high)) in
    simp to_z-of_z
    (nearest c.args.strip c.args.x c.distance.result c.clamp.result (simp to_z-of_z at c.distance.ensures)
    (simp to_z-of_z at c.clamp.ensures.value))
