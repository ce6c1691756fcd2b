use Rattle.std.proofs.Common.{rules, ◌≡◌, [], ◌∷◌, sym, ap, Some}
use Rattle.turn_lock.proofs.Passes.{opens}
use Rattle.turn_lock.proofs.turn.Turn.open.Goals as goal

pub new-requires : goal.new-requires
new-requires g c =
    let filled : c.push.new.self.items ≡ Some c.args.book ∷ [] = search rules in
    opens g.B.Counted.history g.B.Counted.author g.B.Counted.label _ _ c.args.book _ filled
    c.requires.seats (search rules) c.requires.empty (ap g.B.Counted.label (sym c.of.ensures))
