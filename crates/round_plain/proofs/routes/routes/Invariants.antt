use Rattle.std.proofs.Common.{◌≡◌, take}
use Rattle.round_plain.specs.Routes.{pixels, routes_among}
use Rattle.round_plain.proofs.routes.routes.Given as goal

-- the routes so far
abbrev pub invariant-loop-s : goal.invariant-loop-s
invariant-loop-s l = l.routes.items ≡ routes_among (pixels l.vertices) (take l.s-index l.segments)
