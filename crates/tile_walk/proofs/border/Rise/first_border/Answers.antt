use Rattle.std.proofs.Common.{rules, ◌≡◌, ◌∙◌, to_z-of_z, SFits, w64}
use Rattle.std.specs.Prelude.{pos, ◌+ℤ◌, ◌-ℤ◌, ◌*ℤ◌}
use Rattle.tile_walk.specs.Borders.{height_at}
use Rattle.tile_walk.proofs.Floors.{same_split}
use Rattle.tile_walk.proofs.border.Rise.first_border.Goals as goal

pub returns : goal.returns
returns c =
    let tile : SFits w64 c.args.self.tile = search rules in
    let height : SFits w64 c.height.result = search rules in
    let column : SFits w64 c.args.column = c.ranges.column in
    let row : SFits w64 c.split-row.result.0 = search rules in
    let above : SFits w64 c.split-row.result.1 = search rules in
    let split = simp to_z-of_z at c.split-row.ensures.value in
    let value = simp to_z-of_z at c.height.ensures.value in
    let d = c.direction_of-d.ensures.value in
    let p = c.p.ensures.value in
    let number : c.height.result ≡ height_at c.args.profile.now c.args.s.now c.args.column =
    value
    ∙ (λ i.
    (d i).y *ℤ (pos 2 *ℤ (pos c.args.profile.now.side *ℤ c.args.column -ℤ (p i).x) -ℤ pos 1)
    +ℤ (d i).x *ℤ (pos 2 *ℤ (p i).y +ℤ pos 1)) in
    simp to_z-of_z (same_split c.requires.rise.tile_is number split)
