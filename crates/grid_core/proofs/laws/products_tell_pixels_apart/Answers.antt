use Rattle.grid_core.proofs.AlongSegments.{one_product}
use Rattle.grid_core.proofs.laws.products_tell_pixels_apart.Goals as goal

pub returns : goal.returns
returns c = one_product c.args.s.now
