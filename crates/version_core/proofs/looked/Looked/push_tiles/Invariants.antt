use Rattle.std.proofs.Common.{◌≡◌, ◌++◌, map, take, drop, length, ◌+◌, ◌≤◌, vec_len, vec_capacity}
use Rattle.version_core.specs.Looks.{tile_look}
use Rattle.version_core.proofs.looked.Looked.push_tiles.Given as goal

abbrev pub invariant-loop-id : goal.invariant-loop-id
invariant-loop-id l =
    (l.self-inside.looks.items ≡ l.fn.self.looks ++ map tile_look (take l.id-index l.ids))
    × (vec_len l.self-inside.looks + length (drop l.id-index l.ids) ≤ vec_capacity l.self-inside.looks)
    × (l.self-inside.epoch ≡ l.fn.self.epoch)
    × (l.self-inside.brand ≡ l.fn.self.brand)
