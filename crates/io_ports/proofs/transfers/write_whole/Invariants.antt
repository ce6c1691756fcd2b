-- What was written so far is the front of the bytes, and each write has opened the sink.
use Rattle.std.proofs.Common.{◌≡◌, ◌-◌, ◌<◌, ◌≤◌, false, length, take}
use Rattle.std.specs.Io.KnownBytes.{Appends}
use Rattle.io_ports.proofs.transfers.write_whole.Given as goal

abbrev pub invariant-loop-done : goal.invariant-loop-done
invariant-loop-done g l = record {
  within : l.done ≤ length l.bytes;
  written : Appends (g.K.Sink.written l.fn.sink) (g.K.Sink.written l.sink) (take l.done l.bytes);
  no_fault : g.K.Sink.faults l.sink ≡ g.K.Sink.faults l.fn.sink;
  is_open : 0 < l.done → g.K.Sink.shut l.sink ≡ false;
  untouched : l.done ≡ 0 → l.sink ≡ l.fn.sink;
}

abbrev pub decreases-loop-done : goal.decreases-loop-done
decreases-loop-done g l = length l.bytes - l.done
