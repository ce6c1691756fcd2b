use Rattle.std.proofs.Common.{rules, sym, subst}
use Rattle.turn_lock.specs.Turn.{HasAll}
use Rattle.turn_lock.proofs.Passes.{both_joined}
use Rattle.turn_lock.proofs.tests.threads.two_threads_add_a_thousand_each.Goals as goal

pub close-tally-requires-clause-all : goal.close-tally-requires-clause-all
close-tally-requires-clause-all g c =
    let back = c.join-one.result in
    subst HasAll (sym c.join.ensures.joined) (both_joined back.0.seat.me.0 back.1.seat.me.0
    (search rules) (search rules) (search rules))
