use Rattle.std.proofs.Common.{rules, ◌∷◌, sym, ap, ◌∙◌, Some}
use Rattle.atomic_table.specs.Table.{rest}
use Rattle.turn_lock.proofs.Turns.{takes_book}
use Rattle.turn_lock.proofs.steps.take_book.Goals as goal

pub load-requires : goal.load-requires
load-requires g c = (
  search rules,
  search rules,
  takes_book g.B.Counted.history g.B.Counted.author g.B.Counted.label _ _ _ _ _
      c.requires.served.0 c.requires.served.1,
)

pub exchange-requires : goal.exchange-requires
exchange-requires g c =
    let took = c.load.ensures.2 c.requires.served.0 c.requires.served.1 in
    let carried = ap (λ m. m.1) took.1 in
    (search rules, (Some took.0, carried ∙ ap (λ cs. (0, Some took.0) ∷ rest cs) (sym carried)))
