use Rattle.std.proofs.Common.{◌≡◌}
use Rattle.hot_tile.proofs.tests.edits.Given as goal

abbrev pub invariant-loop : goal.invariant-loop
invariant-loop g l = (l.tile.profile ≡ l.profile) × (l.tile.id ≡ l.fn.id)
