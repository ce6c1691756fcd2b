use Rattle.seg_edit.specs.Contents.{grown, found_contents}
use Rattle.seg_edit.proofs.Moving.{Moves}
use Rattle.seg_edit.proofs.tiles.grow_tiles.Given as goal

abbrev pub invariant-loop-tile : goal.invariant-loop-tile
invariant-loop-tile l = Moves (grown l.profile l.s) (found_contents l.found) l.tile-index l.new l.gain
