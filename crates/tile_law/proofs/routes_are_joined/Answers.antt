use Rattle.tile_law.proofs.RouteTiles.{route_is_joined}
use Rattle.tile_law.proofs.routes_are_joined.Goals as goal

pub returns : goal.returns
returns c =
    route_is_joined c.args.profile.now c.side.ensures.kept.some_side c.args.segments.now c.args.s.now c.p.ensures.kept.ordered
