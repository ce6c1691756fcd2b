use Rattle.std.proofs.Common.{arith}
use Rattle.tile_walk.proofs.Products.{made, product_size}
use Rattle.tile_walk.proofs.border.product.Goals as goal

pub returns-clause-value : goal.returns-clause-value
returns-clause-value c =
    let small = product_size c.args.a c.args.b c.requires.left c.requires.right in
    made c.args.a c.args.b c.ranges.a c.ranges.b (omega arith)

pub returns-clause-small : goal.returns-clause-small
returns-clause-small c =
    let small = product_size c.args.a c.args.b c.requires.left c.requires.right in
    rw (made c.args.a c.args.b c.ranges.a c.ranges.b (omega arith)) small
