use Rattle.std.proofs.Common.{rules, ◌∷◌, sym, ap, ◌∙◌, Some}
use Rattle.atomic_table.specs.Table.{rest}
use Rattle.turn_lock.proofs.Tickets.{passes_on}
use Rattle.turn_lock.proofs.Turns.{gives_back}
use Rattle.turn_lock.proofs.steps.give_back.Goals as goal

pub load-requires : goal.load-requires
load-requires g c =
    let put = c.exchange.ensures.3 in (
      search rules,
      search rules,
      gives_back g.B.Counted.history g.B.Counted.author g.B.Counted.label _ _ _ _ _ c.requires.holds.0 c.args.book
          (ap (λ m. m.0.stage) put ∙ c.requires.holds.1)
          (ap (λ m. m.1) put ∙ ap (λ cs. (0, Some c.args.book) ∷ rest cs) c.requires.holds.2)
          (sym (ap (λ m. m.0.journal) put ∙ c.requires.holds.3))
          (c.requires.label ∙ sym (ap (λ m. m.0.label) put)),
    )

pub fetch_add-requires : goal.fetch_add-requires
fetch_add-requires g c =
    let put = c.exchange.ensures.3 in
    let gave = c.load.ensures.2 c.requires.holds.0 (ap (λ m. m.0.stage) put ∙ c.requires.holds.1) in (
      search rules,
      search rules,
      passes_on g.B.Counted.history g.B.Counted.author g.B.Counted.label
          _ _ _ _ _ c.requires.holds.0 (ap (λ m. m.0.stage) gave),
    )
