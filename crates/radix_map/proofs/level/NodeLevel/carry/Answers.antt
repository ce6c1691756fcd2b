use Rattle.std.proofs.Common.{◌+◌, ◌-◌, ◌*◌, ◌^◌, arith, length-take}
use Rattle.radix_map.specs.Entries.{entries_of}
use Rattle.radix_map.proofs.Carried.{at_err}
use Rattle.radix_map.proofs.Carrying.{carrying_none, carrying_more, carrying_part}
use Rattle.radix_map.proofs.level.NodeLevel.carry.Goals as goal

pub loop-done-init : goal.loop-done-init
loop-done-init g c =
    let step = 2 ^ (g.L.Level.bits + 4) in
    (carrying_none (16 * step) (entries_of g.L.Level.entries step c.args.self.now.slots) c.args.note.now, omega arith)

pub loop-done-preserved : goal.loop-done-preserved
loop-done-preserved g c =
    let step = 2 ^ (g.L.Level.bits + 4) in
    let f = g.L.Level.entries in
    let n = c.first_run-at.result.1 in
    let t = c.loop-done.tally in
    let one = c.in_ok-one.one in
    let did = c.in_ok-one.ensures in
    let size = length-take (c.args.count - c.loop-done.done) c.rest.result.now in
    let few = c.first_run-at.ensures.few in
    let within = c.loop-done.invariant.1 in
    (carrying_more (16 * step) (entries_of f step c.args.self.now.slots) (entries_of f step c.loop-done.self.slots) (entries_of f step c.carry_run.new.slots) c.args.note.now c.loop-done.note c.carry_run.new.note c.loop-done.done t.added t.removed n one.added one.removed c.loop-done.invariant.0 did.ok did.rest did.counted did.few.0 did.few.1, omega arith)

pub returns-in_err-one-clause-err : goal.returns-in_err-one-clause-err
returns-in_err-one-clause-err g c =
    let step = 2 ^ (g.L.Level.bits + 4) in
    let f = g.L.Level.entries in
    let n = c.first_run-at.result.1 in
    let t = c.loop-done.tally in
    let size = length-take (c.args.count - c.loop-done.done) c.rest.result.now in
    let few = c.first_run-at.ensures.few in
    let within = c.loop-done.invariant.1 in
    at_err c.from_residual.result (carrying_part (16 * step) (entries_of f step c.args.self.now.slots) (entries_of f step c.loop-done.self.slots) (entries_of f step c.carry_run.new.slots) c.args.count c.args.note.now c.loop-done.note c.carry_run.new.note c.loop-done.done t.added t.removed n c.loop-done.invariant.0 c.in_err-one.ensures.err (omega arith))
