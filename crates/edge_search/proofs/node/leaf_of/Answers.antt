use Rattle.std.proofs.Common.{◌≡◌, rules, arith, w64, SFits, to_z-of_z}
use Rattle.std.specs.Prelude.{pos}
use Rattle.std.specs.Int.{int_div_euclid}
use Rattle.grid_core.proofs.Signed.{signed}
use Rattle.edge_search.proofs.Nodes.{part_is, leaf_is}
use Rattle.edge_search.proofs.node.leaf_of.Goals as goal

pub returns : goal.returns
returns c =
    let fits_x : SFits w64 c.args.at.x = search rules in
    let floor : c.floor.result ≡ int_div_euclid c.args.at.x (pos 256) = simp to_z-of_z at c.floor.ensures in
    let part = part_is c.args.strip c.args.at c.requires.at_within c.requires.strip in
    leaf_is c.args.strip c.args.at _ part (omega (arith, signed, floor, part.from, part.to, part.low, part.high))
