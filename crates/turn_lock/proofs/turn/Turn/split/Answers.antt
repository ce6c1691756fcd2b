use Rattle.std.proofs.Common.{rules}
use Rattle.turn_lock.proofs.Passes.{splits}
use Rattle.turn_lock.proofs.turn.Turn.split.Goals as goal

pub split_seat-seat-requires : goal.split_seat-seat-requires
split_seat-seat-requires g c = (
  search rules,
  search rules,
  splits g.B.Counted.history g.B.Counted.author g.B.Counted.label _ _ _ _ c.args.pass.now.live
      c.requires.room,
)
