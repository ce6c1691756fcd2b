use Rattle.std.specs.Prelude.{◌≡◌, replicate}
use Rattle.session_core.specs.World.{new_seat}
use Rattle.session_core.proofs.world.first_seats.Given as goal

abbrev pub invariant-loop : goal.invariant-loop
invariant-loop l = l.seats.items ≡ replicate l.counter new_seat
