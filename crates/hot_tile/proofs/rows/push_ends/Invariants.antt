use Rattle.std.proofs.Common.{◌≡◌, ◌≤◌, ◌+◌, ◌-◌, ◌++◌, length, map, take}
use Rattle.std.specs.Vec.{vec_capacity}
use Rattle.hot_tile.proofs.rows.push_ends.Given as goal

abbrev pub invariant-loop-end : goal.invariant-loop-end
invariant-loop-end l =
    record {
      items : l.ends.items ≡ l.fn.ends.items ++ map (λ e. l.base + (e - l.start)) (take l.end-index l.more);
      room : length l.fn.ends.items + length l.more ≤ vec_capacity l.ends;
    }
