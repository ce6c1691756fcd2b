use Rattle.std.proofs.Common.{◌≡◌, All}
use Rattle.std.specs.Prelude.{ℤ}
use Rattle.cell_map.specs.Strips.{strip_in}
use Rattle.cell_map.specs.Arranged.{IsSearchable}
use Rattle.cell_map.specs.Exchange.{exchanged}
use Rattle.cell_map.proofs.arranged.arrange_all.Given as goal

-- what is still to be put in place makes of the strips so far all that there were
abbrev pub invariant-loop-k : goal.invariant-loop-k
invariant-loop-k l = record {
  searchable : All (λ p. IsSearchable p.0 p.1) l.k-iterator;
  done : (j : ℤ) → exchanged l.k-iterator j (strip_in l.strips.entries j) ≡ strip_in l.fn.filled.entries j;
}
