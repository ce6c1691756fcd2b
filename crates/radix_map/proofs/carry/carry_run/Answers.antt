use Rattle.std.proofs.Common.{◌+◌, ◌^◌}
use Rattle.radix_map.specs.Entries.{entries_of, block}
use Rattle.radix_map.proofs.Carried.{at_err}
use Rattle.radix_map.proofs.Carrying.{carried_nothing}
use Rattle.radix_map.proofs.carry.carry_run.Goals as goal

pub returns-in_err-open_slot-clause-err : goal.returns-in_err-open_slot-clause-err
returns-in_err-open_slot-clause-err g c =
    let step = 2 ^ (g.L.Level.bits + 4) in
    at_err c.from_residual.result (carried_nothing (block (g.L.Level.bits + 4)) (entries_of g.L.Level.entries step c.args.slots.now) (entries_of g.L.Level.entries step c.open_slot.new.slots) c.args.count c.args.note.now c.in_err-open_slot.ensures.same)
