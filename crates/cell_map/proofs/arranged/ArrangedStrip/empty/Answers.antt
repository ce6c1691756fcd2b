use Rattle.std.proofs.Common.{sym, subst, ◌^◌, None}
use Rattle.cell_map.specs.Arranged.{IsArranged}
use Rattle.cell_map.proofs.Arranging.{nothing_arranged}
use Rattle.cell_map.proofs.arranged.ArrangedStrip.empty.Goals as goal

pub invariant_of-result : goal.invariant_of-result
invariant_of-result c = subst (IsArranged (2 ^ 30) None) (sym c.new.ensures.items) (nothing_arranged (2 ^ 30))
