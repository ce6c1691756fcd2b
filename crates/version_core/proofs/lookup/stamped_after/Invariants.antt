use Rattle.std.proofs.Common.{◌≡◌, ◌++◌}
use Rattle.version_core.specs.Entries.{stamps_in}
use Rattle.version_core.specs.Version.{stamped_after}
use Rattle.version_core.proofs.lookup.stamped_after.Given as goal

abbrev pub invariant-loop-entry : goal.invariant-loop-entry
invariant-loop-entry l =
    l.ids.items ++ stamped_after (stamps_in l.entry-iterator) l.number ≡ stamped_after (stamps_in l.entries) l.number
