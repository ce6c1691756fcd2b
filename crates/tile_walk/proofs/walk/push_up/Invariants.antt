use Rattle.std.proofs.Common.{◌≡◌, ◌+◌, ◌++◌, map, vec_len, vec_capacity}
use Rattle.std.specs.Prelude.{pos, ◌+ℤ◌}
use Rattle.std.specs.Int.{int_gap}
use Rattle.std.specs.List.{range_with_len}
use Rattle.tile_walk.proofs.walk.push_up.Given as goal

-- so many rows are done
abbrev pub invariant-loop-k : goal.invariant-loop-k
invariant-loop-k l =
    record {
      items : l.out.items
          ≡ l.fn.out.items ++ map (λ k. record { i = l.fn.column; j = l.fn.low +ℤ pos k }) (range_with_len 0 l.k);
      len : vec_len l.out ≡ vec_len l.fn.out + l.k;
      capacity : vec_capacity l.out ≡ vec_capacity l.fn.out;
      end : l.k-end ≡ int_gap l.fn.low (l.fn.high +ℤ pos 1);
    }
