use Rattle.std.proofs.Common.{◌≡◌, map, take}
use Rattle.version_core.specs.Replaced.{plain_tile}
use Rattle.version_core.specs.Stands.{content_of}
use Rattle.seg_edit.proofs.tests.replaced.given_tiles.Given as goal

abbrev pub invariant-loop-id : goal.invariant-loop-id
invariant-loop-id l = record {
  brand : l.looked.brand ≡ l.fn.looked.brand;
  tiles : map plain_tile l.given.items
      ≡ map (λ t. (t, content_of l.version.profile t l.version.live)) (take l.id-index l.ids);
}
