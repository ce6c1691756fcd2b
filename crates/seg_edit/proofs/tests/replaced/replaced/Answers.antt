use Rattle.std.proofs.Common.{◌∙◌, ap, sym, subst, map}
use Rattle.version_core.specs.Replaced.{plain_tile, contents_after}
use Rattle.version_core.specs.Stands.{content_of}
use Rattle.version_core.specs.Version.{MayFollow}
use Rattle.seg_edit.proofs.GivenTiles.{given_after, waiting_may_follow}
use Rattle.seg_edit.proofs.tests.replaced.replaced.Goals as goal

pub replace-requires-clause-follows : goal.replace-requires-clause-follows
replace-requires-clause-follows g c =
    subst (MayFollow c.args.base.now) (sym c.change.ensures.value)
    (waiting_may_follow c.args.base.now c.args.prepared.now
    (record { profile = c.requires.waiting.profile; stands = c.requires.waiting.stands }) c.change.ensures.within c.see_room.ensures.numbered
    c.see_room.ensures.few)

pub replace-requires-clause-tiles : goal.replace-requires-clause-tiles
replace-requires-clause-tiles g c =
    let v = c.args.base.now in
    let w = c.args.next.now in
    ap (map plain_tile) c.deref.ensures.value
    ∙ given_after v w c.args.prepared.now
    (record { profile = c.requires.waiting.profile; stands = c.requires.waiting.stands }) c.requires.next
    (map plain_tile c.in_ok-given.given.items)
    (c.in_ok-given.ensures.tiles ∙ ap (map (λ t. (t, content_of w.profile t w.live))) c.tiles.ensures)
    ∙ ap (λ x. contents_after v.profile v.live x.edits) (sym c.change.ensures.value)
