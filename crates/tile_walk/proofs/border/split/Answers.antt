use Rattle.std.proofs.Common.{rules, to_z-of_z, SFits, w64}
use Rattle.tile_walk.proofs.Products.{split_made}
use Rattle.tile_walk.proofs.border.split.Goals as goal

pub returns-clause-value : goal.returns-clause-value
returns-clause-value c =
    let number : SFits w64 c.args.number = search rules in
    let part : SFits w64 c.args.part = search rules in
    let whole : SFits w64 c.div_euclid-whole.result = search rules in
    split_made c.args.part c.args.number c.div_euclid-whole.result part number whole
    (simp to_z-of_z at c.div_euclid-whole.ensures)
    c.requires.positive c.requires.small_part c.requires.small_number
