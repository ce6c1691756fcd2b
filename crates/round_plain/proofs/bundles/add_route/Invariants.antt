use Rattle.std.proofs.Common.{◌≡◌, ◌-◌, fold, map, drop}
use Rattle.grid_core.specs.Edge.{EdgeEnds}
use Rattle.grid_core.specs.Rounding.{edges_along}
use Rattle.round_plain.specs.Bundles.{named_edges_of, with_named_edge}
use Rattle.round_plain.proofs.bundles.add_route.Given as goal

-- the named edges so far and those of the points that are left are all
abbrev pub invariant-loop-i : goal.invariant-loop-i
invariant-loop-i l =
    fold with_named_edge l.gathered.entries (map (λ (e : EdgeEnds). (e, l.name))
    (edges_along (drop (l.i - 1) l.points)))
    ≡ fold with_named_edge l.fn.gathered.entries (named_edges_of l.route)
