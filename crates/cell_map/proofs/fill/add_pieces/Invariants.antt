use Rattle.std.proofs.Common.{◌≡◌}
use Rattle.std.specs.Prelude.{pos, ◌+ℤ◌, ◌≤ℤ◌, ◌⊎◌}
use Rattle.cell_map.specs.Strips.{ChangesWhere, with_edge}
use Rattle.cell_map.proofs.Filling.{reached}
use Rattle.cell_map.proofs.fill.add_pieces.Given as goal

-- the strips from the first on up to k have the edge
abbrev pub invariant-loop-k : goal.invariant-loop-k
invariant-loop-k l = record {
  low : l.fn.first ≤ℤ l.k;
  high : (l.k ≤ℤ (l.fn.last +ℤ pos 1)) ⊎ (l.k ≡ l.fn.first);
  done : ChangesWhere (reached l.fn.first l.k) (with_edge l.e) l.fn.strips.entries l.strips.entries;
}
