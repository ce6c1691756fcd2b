use Rattle.seg_edit.specs.Contents.{thinned, found_contents}
use Rattle.seg_edit.proofs.Moving.{Moves}
use Rattle.seg_edit.proofs.tiles.thin_tiles.Given as goal

abbrev pub invariant-loop-tile : goal.invariant-loop-tile
invariant-loop-tile l = Moves (thinned l.profile l.name) (found_contents l.found) l.tile-index l.new l.gain
