use Rattle.std.proofs.Common.{sym, subst}
use Rattle.turn_lock.specs.Turn.{HasAll}
use Rattle.turn_lock.proofs.Passes.{both_joined}
use Rattle.turn_lock.proofs.tests.rows.lock_join.Goals as goal

pub close-tally-requires-clause-all : goal.close-tally-requires-clause-all
close-tally-requires-clause-all g c =
    let split = c.in_ok-turn.field-0 in
    let numbers = c.in_ok-turn.ensures.numbers in
    subst HasAll (sym c.join.ensures.joined)
    (both_joined split.first.seat.me.0 split.second.seat.me.0 numbers.0 numbers.1
    c.in_ok-turn.ensures.seats)
