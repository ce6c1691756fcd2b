use Rattle.std.proofs.Common.{◌≡◌, [], fold, take}
use Rattle.round_plain.specs.Bundles.{named_edges, with_named_edge}
use Rattle.round_plain.proofs.bundles.bundles.Given as goal

-- the named edges of the routes so far
abbrev pub invariant-loop-route : goal.invariant-loop-route
invariant-loop-route l = l.gathered.entries
    ≡ fold with_named_edge [] (named_edges (take l.route-index l.routes))
