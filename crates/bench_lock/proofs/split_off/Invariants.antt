use Rattle.std.proofs.Common.{ℕ, ◌+◌, ◌<◌, ◌≤◌, vec_len, slice_index_or}
use Rattle.turn_lock.specs.Pass.{known, IsReady}
use Rattle.turn_lock.specs.Turn.{turn_id}
use Rattle.bench_lock.proofs.split_off.Given as goal

abbrev pub invariant-loop-split : goal.invariant-loop-split
invariant-loop-split l = record {
  ready : IsReady l.first.seat (turn_id l.turn);
  room : l.count ≤ (known l.first.seat).room + l._split;
  each : (i : ℕ) (d : _) → i < vec_len l.passes
      → IsReady (slice_index_or l.passes.items i d).seat (turn_id l.turn);
}
