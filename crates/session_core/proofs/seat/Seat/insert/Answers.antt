use Rattle.std.proofs.Common.{sym, ap, ◌∙◌}
use Rattle.grid_core.specs.Name.{Label}
use Rattle.session_core.proofs.Seats.{not_live, inserted}
use Rattle.session_core.proofs.seat.Seat.insert.Goals as goal

-- src/act.rt
pub prepare_insert_in-requires-clause-new : goal.prepare_insert_in-requires-clause-new
prepare_insert_in-requires-clause-new c =
    not_live c.args.book.now c.args.editor c.args.self.now c.requires.seat c.version-base.result.now c.version-base.ensures
    c.in-Ok.ur c.args.a c.args.b c.in-Ok.ensures.value

pub returns-clause-did : goal.returns-clause-did
returns-clause-did c =
    inserted c.args.book.now c.args.editor c.args.self.now c.args.a c.args.b c.requires.seat (sym c.if-is_some.ensures)
    c.version-base.result.now c.version-base.ensures c.profile.result c.profile.ensures.value c.in-Ok.ensures.drawn
    c.in-Ok.ur c.in-Ok.ensures.value c.in_ok-prepared.prepared c.in_ok-prepared.ensures.change c.in_ok-prepared.ensures.prepared
    c.name-2.result c.name-2.ensures.value c.serial-self.result (c.serial-self.ensures.value ∙ ap (λ (n : Label). n.serial) c.name.ensures.value)
