use Rattle.std.proofs.Common.{◌≡◌, ◌++◌}
use Rattle.radix_map.specs.Entries.{entries_from}
use Rattle.version_core.specs.Entries.{live_in}
use Rattle.tile_keys.specs.Keys.{first_name_key}
use Rattle.version_core.proofs.lookup.live_list.Given as goal

abbrev pub invariant-loop-entry : goal.invariant-loop-entry
invariant-loop-entry l = l.live.items ++ live_in l.entry-iterator ≡ live_in (entries_from first_name_key l.entries)
