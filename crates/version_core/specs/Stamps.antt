-- Stamps put into entries of a map.
use Rattle.std.specs.Prelude.{ℕ, Option, option_map}
use Rattle.version_core.specs.declared.entry.Entry.{Entry}
use Rattle.version_core.specs.declared.entry.Entry.TheVariants.{Live, Touched}

-- the entry with this stamp, if it is a tile's
abbrev pub stamped : ℕ → Entry → Entry
stamped n (Live s) = Live s
stamped n (Touched x) = Touched (record x { stamp = n })

-- a map edit whose entry has this stamp
abbrev pub stamped_edit : ℕ → ℕ × Option Entry → ℕ × Option Entry
stamped_edit n e = (e.0, option_map (stamped n) e.1)
