use Rattle.std.proofs.Common.{◌≡◌, ◌∙◌, sym, ap, subst}
use Rattle.grid_core.specs.Tiles.{passes_in}
use Rattle.hot_tile.specs.Tile.{TileContent, part_in}
use Rattle.hot_tile.specs.HotPart.{part_rows}
use Rattle.hot_tile.proofs.TileLaws.{none_passes}
use Rattle.hot_tile.proofs.tile.Tile.passes.Goals as goal

pub returns-in-None : goal.returns-in-None
returns-in-None c =
    subst (λ (t : TileContent). 0 ≡ passes_in (part_in t)) c.self.view_is
    (none_passes (record { profile = c.self.inside.profile; id = c.self.inside.id; segments = c.self.inside.listed }) (sym (ap (part_rows c.self.inside.listed) c.in-None.is) ∙ c.self.invariant.rows))
