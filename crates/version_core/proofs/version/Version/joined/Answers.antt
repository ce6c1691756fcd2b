use Rattle.std.proofs.Common.{◌∙◌, ap, subst, sym, flat_map, List}
use Rattle.grid_core.specs.declared.point.Point.{Point}
use Rattle.grid_core.specs.declared.tile.TileId.{TileId}
use Rattle.std.proofs.lemmas.List.{take_all}
use Rattle.grid_core.specs.LiveList.{IsLiveList}
use Rattle.grid_core.specs.Profile.{IsProfile}
use Rattle.grid_core.specs.Tiles.{part_of, along}
use Rattle.tile_law.specs.Parts.{route_in}
use Rattle.version_core.proofs.Pieces.{whole_route}
use Rattle.version_core.proofs.version.Version.joined.Goals as goal

-- src/read.rt
pub returns : goal.returns
returns c =
    let v = c.args.self.now in
    let pieces : List TileId → List Point = λ ts. flat_map (λ t. route_in (part_of v.profile t v.live) c.args.s.now.name) ts in
    let kept = subst (λ w. IsProfile w.profile × IsLiveList w.profile.bound w.live) c.self.view_is (c.self.invariant.sizes, c.self.invariant.live) in
    c.loop-id.invariant
    ∙ ap pieces (take_all _ _ c.loop-id-test.false)
    ∙ ap pieces (c.deref-id-items.ensures.value ∙ c.in_ok-ids.ensures ∙ ap (λ w. along w.profile c.args.s.now) c.self.view_is)
    ∙ sym (whole_route v.profile v.live kept c.args.s.now c.requires)
