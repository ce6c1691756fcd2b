use Rattle.std.proofs.Common.{sym, ap, Err}
use Rattle.session_core.proofs.Seats.{deleted, delete_unknown}
use Rattle.session_core.proofs.seat.Seat.delete.Goals as goal

-- src/act.rt
pub returns-in-Ok-clause-did : goal.returns-in-Ok-clause-did
returns-in-Ok-clause-did c =
    deleted c.args.book.now c.args.editor c.args.self.now c.args.name c.requires.seat (sym c.if-is_some.ensures)
    c.version-base.result.now c.version-base.ensures c.in-Ok.ensures.known c.in-Ok.prepared c.in-Ok.ensures.change c.in-Ok.ensures.prepared

pub returns-in-Err-Unknown-clause-did : goal.returns-in-Err-Unknown-clause-did
returns-in-Err-Unknown-clause-did c =
    delete_unknown c.args.book.now c.args.editor c.args.self.now c.args.name c.requires.seat (sym c.if-is_some.ensures)
    c.version-base.result.now c.version-base.ensures (c.in-Err-Unknown.ensures.unknown (ap Err c.in-Err-Unknown.field-0-is))
