-- A write grows the front of the bytes that is written, and takes at least one byte.
use Rattle.std.proofs.Common.{◌∙◌, arith, rules}
use Rattle.io_ports.proofs.Pieces.{front_more, some_left}
use Rattle.io_ports.proofs.transfers.write_whole.Goals as goal

pub loop-done-preserved : goal.loop-done-preserved
loop-done-preserved g c =
    let some = c.in_ok-done.ensures.some (some_left _ _ c.loop-done-test.true) in
    record {
      within = search rules;
      written = front_more _ _ _ _ _ _ c.loop-done.invariant.written c.in_ok-done.ensures.bytes;
      no_fault = c.in_ok-done.ensures.no_fault ∙ c.loop-done.invariant.no_fault;
      is_open = λ _. c.write.ensures.open;
      untouched = λ none. absurd (omega arith);
    }
