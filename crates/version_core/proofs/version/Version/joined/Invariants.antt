use Rattle.std.proofs.Common.{◌≡◌, flat_map, take}
use Rattle.grid_core.specs.Tiles.{part_of}
use Rattle.tile_law.specs.Parts.{route_in}
use Rattle.version_core.proofs.version.Version.joined.Given as goal

abbrev pub invariant-loop-id : goal.invariant-loop-id
invariant-loop-id l =
    l.points.items ≡ flat_map (λ t. route_in (part_of l.self.profile t l.self.live) l.s.name) (take l.id-index l.id-items)
