use Rattle.std.proofs.Common.{rules, ap, ◌∙◌}
use Rattle.turn_lock.specs.Stage.{is_live}
use Rattle.turn_lock.proofs.Passes.{joins, meets}
use Rattle.turn_lock.proofs.steps.unite.Goals as goal

pub join_seat-requires : goal.join_seat-requires
join_seat-requires g c = (
  search rules,
  search rules,
  search rules,
  search rules,
  joins g.B.Counted.history g.B.Counted.author g.B.Counted.label _ _ _ _ _ _
      c.requires.ready.1.0 c.requires.other.1.0,
)

pub load-requires : goal.load-requires
load-requires g c = (
  search rules,
  search rules,
  meets g.B.Counted.history g.B.Counted.author g.B.Counted.label _ _
      _ _ _ (ap (λ m. is_live m.0.stage) c.join_seat.ensures.2 ∙ ap is_live c.requires.ready.1.0),
)
