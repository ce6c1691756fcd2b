use Rattle.std.proofs.Common.{ap, ◌∙◌}
use Rattle.std.proofs.Math.Nat.{mod-eq_of_lt}
use Rattle.radix_map.specs.Levels.{root_entries}
use Rattle.radix_map.specs.Entries.{entries_from}
use Rattle.radix_map.proofs.Walks.{raised_zero}
use Rattle.radix_map.proofs.entries.TreeEntries.of.Goals as goal

pub returns : goal.returns
returns g c =
    let es = root_entries c.args.root.now in
    c.begin.ensures.left ∙ raised_zero _ ∙ ap (λ k. entries_from k es) (mod-eq_of_lt c.ranges.from.fits)
