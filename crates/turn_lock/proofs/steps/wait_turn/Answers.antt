use Rattle.std.proofs.Common.{rules, ap}
use Rattle.turn_lock.proofs.Tickets.{draws, looks}
use Rattle.turn_lock.proofs.steps.wait_turn.Goals as goal

pub fetch_add-ticket-requires : goal.fetch_add-ticket-requires
fetch_add-ticket-requires g c = (
  search rules,
  search rules,
  draws g.B.Counted.history g.B.Counted.author g.B.Counted.label _ _ _ _ _ c.requires.ready.1.0,
)

pub load-requires : goal.load-requires
load-requires g c =
    let waits = c.loop.invariant.waits in (
      search rules,
      search rules,
      looks g.B.Counted.history g.B.Counted.author g.B.Counted.label _ _
          _ _ _ waits.0 (ap (λ m. m.0.stage) waits.2),
    )
