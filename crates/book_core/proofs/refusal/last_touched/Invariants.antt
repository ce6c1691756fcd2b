use Rattle.std.proofs.Common.{take}
use Rattle.version_core.specs.Version.{stamp_of}
use Rattle.book_core.proofs.Clashes.{AreRead}
use Rattle.book_core.proofs.refusal.last_touched.Given as goal

abbrev pub invariant-loop-tile : goal.invariant-loop-tile
invariant-loop-tile l = AreRead (stamp_of l.version.stamps) l.base (take l.tile-index l.tiles) l.last l.found
