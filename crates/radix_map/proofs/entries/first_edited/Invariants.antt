use Rattle.std.proofs.Common.{◌≡◌, length}
use Rattle.radix_map.specs.Entries.{edited_all, Rises, keys_end}
use Rattle.radix_map.proofs.entries.first_edited.Given as goal

abbrev pub invariant-loop-edit : goal.invariant-loop-edit
invariant-loop-edit g l =
    (edited_all l.tree l.pending.now ≡ edited_all l.initial.tree l.initial.pending.now) × Rises 0 keys_end l.tree × Rises 0 keys_end l.pending.now

abbrev pub decreases-loop-edit : goal.decreases-loop-edit
decreases-loop-edit g l = length l.pending.now
