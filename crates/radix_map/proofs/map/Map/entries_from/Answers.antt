use Rattle.std.proofs.Common.{subst}
use Rattle.radix_map.specs.Entries.{Rises, keys_end}
use Rattle.radix_map.proofs.Roots.{noted_rise}
use Rattle.radix_map.proofs.map.Map.entries_from.Goals as goal

pub returns-clause-kept : goal.returns-clause-kept
returns-clause-kept g c =
    let m = c.self.inside in
    subst (Rises 0 keys_end) c.self.view_is (noted_rise m.root m.pending c.self.invariant.rise)
