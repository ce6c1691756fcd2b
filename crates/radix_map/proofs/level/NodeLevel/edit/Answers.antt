use Rattle.std.proofs.Common.{◌+◌, ◌*◌, ◌^◌}
use Rattle.radix_map.specs.Entries.{entries_of}
use Rattle.radix_map.proofs.Carried.{carried_none, carried_more, carried_alone, at_err}
use Rattle.radix_map.proofs.level.NodeLevel.edit.Goals as goal

pub loop-run-init : goal.loop-run-init
loop-run-init g c =
    let step = 2 ^ (g.L.Level.bits + 4) in
    carried_none (16 * step) (entries_of g.L.Level.entries step c.args.self.now.slots) c.args.edits.now

pub loop-run-preserved : goal.loop-run-preserved
loop-run-preserved g c =
    let step = 2 ^ (g.L.Level.bits + 4) in
    let f = g.L.Level.entries in
    let first = c.in-Some.ensures.some in
    carried_more (16 * step) (entries_of f step c.args.self.now.slots) (entries_of f step c.loop-run.self.slots) (entries_of f step c.edit_run.new.slots) c.args.edits.now c.loop-run.rest.now c.in-Some.run'.edits.now c.in-Some.run'.rest.now c.loop-run.tally.added c.loop-run.tally.removed c.in_ok-one-in-Some.one.added c.in_ok-one-in-Some.one.removed c.loop-run.invariant first.all first.fit c.in_ok-one-in-Some.ensures.ok

pub returns-in_err-one-in-Some-clause-alone : goal.returns-in_err-one-in-Some-clause-alone
returns-in_err-one-in-Some-clause-alone g c = λ n.
    let f = g.L.Level.entries in
    let step = 2 ^ (g.L.Level.bits + 4) in
    let first = c.in-Some.ensures.some in
    at_err c.from_residual.result (carried_alone (16 * step) (entries_of f step c.args.self.now.slots) (entries_of f step c.loop-run.self.slots) (entries_of f step c.edit_run.new.slots) c.args.edits.now c.loop-run.rest.now c.in-Some.run'.edits.now c.in-Some.run'.rest.now c.loop-run.tally.added c.loop-run.tally.removed c.loop-run.invariant first.all first.some c.in_err-one-in-Some.ensures.alone n)
