use Rattle.std.proofs.Common.{arith, ◌<◌, length}
use Rattle.hot_tile.proofs.SpotLaws.{steps_tell}
use Rattle.hot_tile.proofs.steps.order.Goals as goal

pub returns : goal.returns
returns c =
    let own : c.args.j < length c.args.gone.now = omega (arith, c.if-j-gone.false, c.requires.gone_within) in
    steps_tell c.args.old.now c.args.gone.now c.args.i c.args.j c.requires.rising c.requires.gone_rising c.requires.within own c.cmp.result
    c.cmp.ensures
