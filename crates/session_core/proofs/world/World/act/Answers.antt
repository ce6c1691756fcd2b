use Rattle.std.proofs.Common.{subst, ◌-◌, set}
use Rattle.session_core.specs.World.{DidAt, world_of}
use Rattle.session_core.proofs.Worlds.{IsAt, seat_at, set_world, acted, seat_after, if_ok}
use Rattle.session_core.proofs.world.World.act.Goals as goal
use Rattle.session_core.proofs.world.World.act.Goals.{After-index_mut}

at : (c : After-index_mut)
    → IsAt c.self.inside.tools.looked.brand c.self.inside.book c.self.inside.seats.items c.args.editor c.from-at.result c.index_mut.result.now
at c =
    record {
      world = c.self.invariant;
      some = c.requires.first;
      few = c.requires.last;
      same = c.from-at.ensures;
      there = c.index_mut.ensures.value;
    }

-- src/world.rt
pub act-requires-clause-seat : goal.act-requires-clause-seat
act-requires-clause-seat c = seat_at _ c.self.inside.book c.self.inside.seats.items c.args.editor _ _ (at (goal.at.act-requires-clause-seat c).After-index_mut)

pub invariant_of-self : goal.invariant_of-self
invariant_of-self c =
    set_world _ c.self.inside.book c.self.inside.seats.items c.args.editor _ _ (at (goal.at.invariant_of-self c).After-index_mut) c.act.new.tools.looked.brand
    c.act.ensures.brand c.act.new.self
    (seat_after c.self.inside.book c.args.editor c.args.act.now c.index_mut.result.now c.act.new.self c.act.result c.act.ensures.did c.act.ensures.memory
    (seat_at _ c.self.inside.book c.self.inside.seats.items c.args.editor _ _ (at (goal.at.invariant_of-self c).After-index_mut)))

pub returns-clause-did : goal.returns-clause-did
returns-clause-did c =
    if_ok c.act.result
    (λ said did. subst (λ w. DidAt c.args.editor c.args.act.now w
    (world_of c.self.inside.book (set c.self.inside.seats.items (c.from-at.result - 1) c.act.new.self)) said) c.self.view_is
    (acted _ c.self.inside.book c.self.inside.seats.items c.args.editor _ _ (at (goal.at.returns-clause-did c).After-index_mut) c.args.act.now c.act.new.self said did))
    c.act.ensures.did
