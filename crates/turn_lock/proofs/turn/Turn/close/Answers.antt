use Rattle.std.proofs.Common.{◌≡◌, ap, ◌∙◌, sym, subst, is_some, Some}
use Rattle.turn_lock.specs.Turn.{IsLast}
use Rattle.turn_lock.proofs.Passes.{ends_with}
use Rattle.turn_lock.proofs.turn.Turn.close.Goals as goal

pub unwrap-requires : goal.unwrap-requires
unwrap-requires g c =
    let last =
    ends_with g.B.Counted.history g.B.Counted.author g.B.Counted.label _ _ _ _ _ _
    c.take-book.result c.close_with-closed.ensures.values.2 c.take-book.ensures.value
    c.requires.ready.1.0 c.requires.all in
    ap is_some last.1

pub returns : goal.returns
returns g c =
    let last =
    ends_with g.B.Counted.history g.B.Counted.author g.B.Counted.label _ _ _ _ _ _
    c.take-book.result c.close_with-closed.ensures.values.2 c.take-book.ensures.value
    c.requires.ready.1.0 c.requires.all in
    let given : Some last.0 ≡ Some c.unwrap.result = sym last.1 ∙ c.unwrap.ensures in
    let same : last.0 ≡ c.unwrap.result = cc in
    subst (IsLast g.B.Counted.history g.B.Counted.author g.B.Counted.label c.args.pass.seat.me.0) same last.2
