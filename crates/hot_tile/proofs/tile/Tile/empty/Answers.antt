use Rattle.std.proofs.Common.{sym, subst, List, [], map}
use Rattle.grid_core.specs.Segment.{Segment}
use Rattle.hot_tile.specs.Tile.{IsTile}
use Rattle.hot_tile.proofs.TileLaws.{empty_is_tile}
use Rattle.hot_tile.proofs.tile.Tile.empty.Goals as goal

pub invariant_of-result : goal.invariant_of-result
invariant_of-result c =
    let P : List Segment → Type 0 =
    λ ss. IsTile (record { profile = c.args.profile; id = c.args.id; segments = ss }) [] (map (λ s. []) ss) in
    subst P (sym c.empty.ensures) (empty_is_tile c.args.profile c.args.id c.side.ensures.kept)
