use Rattle.std.proofs.Common.{◌∙◌, ap, map}
use Rattle.version_core.specs.Replaced.{plain_tile}
use Rattle.version_core.specs.Stands.{content_of}
use Rattle.seg_edit.proofs.GivenTiles.{given_more}
use Rattle.seg_edit.proofs.tests.replaced.given_tiles.Goals as goal

pub loop-id-preserved : goal.loop-id-preserved
loop-id-preserved c =
    let v = c.args.version.now in
    record {
      brand = c.in_ok-given_content.ensures.brand ∙ c.loop-id.invariant.brand;
      tiles =
          ap (map plain_tile) c.in_ok-push.ensures.items
          ∙ given_more (λ t. content_of v.profile t v.live) c.args.ids.now c.loop-id.id-index _ c.loop-id.given.items _
          c.loop-id-test.true c.in_ok-given_content.ensures.content c.loop-id.invariant.tiles;
    }
