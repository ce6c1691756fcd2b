use Rattle.std.proofs.Common.{All, take}
use Rattle.cell_map.specs.Strips.{HaveSame}
use Rattle.cell_map.specs.Exchange.{IsKept}
use Rattle.cell_map.proofs.exchange.keep_all.Given as goal

-- the strips of the numbers so far are kept, and the same lies in each
abbrev pub invariant-loop-k : goal.invariant-loop-k
invariant-loop-k l = record {
  same : HaveSame l.fn.strips.entries l.strips.entries;
  kept : All (IsKept l.strips.entries) (take l.k-index l.numbers);
}
