use Rattle.session_core.proofs.SeatLists.{FirstShare}
use Rattle.session_core.proofs.seat.keep_all.Given as goal

abbrev pub invariant-loop-seat : goal.invariant-loop-seat
invariant-loop-seat l = FirstShare l.book l.seat-index l.fn.seats l.seats
