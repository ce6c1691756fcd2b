use Rattle.std.proofs.Common.{◌≡◌, take}
use Rattle.cell_map.specs.Exchange.{numbered}
use Rattle.cell_map.proofs.exchange.strips_of.Given as goal

-- the strips of the numbers so far
abbrev pub invariant-loop-k : goal.invariant-loop-k
invariant-loop-k l =
    l.made.items ≡ numbered (record { edges = l.edges; vertices = l.vertices }) (take l.k-index l.numbers)
