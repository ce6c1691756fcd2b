use Rattle.session_core.proofs.SeatLists.{own_alike, ok_there, on_err}
use Rattle.session_core.proofs.world.append.Goals as goal

-- src/world.rt
pub returns-clause-alike : goal.returns-clause-alike
returns-clause-alike c =
    on_err c.append.result
    (own_alike c.args.book.now c.args.at c.args.seats.now c.keep_all.new.seats c.index-seats-at.result c.requires.at c.requires.newest
    (ok_there c.keep_all.result c.if-is_err.ensures.value c.keep_all.ensures.kept))
