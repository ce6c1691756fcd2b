use Rattle.std.proofs.Common.{◌≡◌, All}
use Rattle.std.specs.Prelude.{ℤ}
use Rattle.cell_map.specs.Strips.{strip_in}
use Rattle.cell_map.specs.Exchange.{exchanged, IsKept}
use Rattle.cell_map.proofs.exchange.exchange.Given as goal

-- what is still to be put in place makes of the strips so far what all makes of the old ones
abbrev pub invariant-loop-k : goal.invariant-loop-k
invariant-loop-k l = record {
  ready : All (λ p. IsKept l.strips.entries p.0) l.k-iterator.rest.items;
  done : (j : ℤ) → exchanged l.k-iterator.rest.items j (strip_in l.strips.entries j)
      ≡ exchanged l.fn.made.items j (strip_in l.fn.strips.entries j);
}
