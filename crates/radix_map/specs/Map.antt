-- A map as the list of its entries by rising key: what its tree holds, and over it the noted edits.
use Rattle.std.specs.Prelude.{◌≡◌, ℕ, List, length, Option}
use Rattle.std.specs.declared.sync.Arc.{Arc}
use Rattle.radix_map.specs.Entries.{edited_all, Rises, keys_end}
use Rattle.radix_map.specs.Levels.{Root, root_entries}

-- a map keeps the number of its entries, where noted edits count over its root, and their keys rise
pub record IsKept {V Z : Type 0} (len : ℕ) (root : Root V) (noted : List (ℕ × Option (Arc V Z))) : Type 0 where
  pub counted : len ≡ length (edited_all (root_entries root) noted)
  pub rise : Rises 0 keys_end noted
