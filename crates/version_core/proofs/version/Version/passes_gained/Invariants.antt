use Rattle.std.proofs.Common.{map}
use Rattle.version_core.specs.Replaced.{plain_tile}
use Rattle.version_core.proofs.Replacing.{PassesGained}
use Rattle.version_core.proofs.version.Version.passes_gained.Given as goal

abbrev pub invariant-loop-tile : goal.invariant-loop-tile
invariant-loop-tile l = PassesGained l.self.profile l.self.live l.gain l.tile-index (map plain_tile l.tiles)
