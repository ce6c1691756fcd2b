use Rattle.std.proofs.Common.{◌∙◌, arith}
use Rattle.tile_walk.proofs.Columns.{made_more}
use Rattle.tile_walk.proofs.walk.push_up.Goals as goal

pub loop-k-preserved : goal.loop-k-preserved
loop-k-preserved c =
    let done = c.loop-k.invariant in
    record {
      items = made_more _ _ _ _ _ _ done.items c.tile_above.ensures c.push_reserved.ensures.items;
      len = omega (arith, c.push_reserved.ensures.len, done.len);
      capacity = c.push_reserved.ensures.capacity ∙ done.capacity;
      end = done.end;
    }
