use Rattle.std.specs.Arc.{arc_value}
use Rattle.radix_map.specs.Entries.{block}
use Rattle.radix_map.proofs.Carrying.{stopped_before}
use Rattle.radix_map.proofs.carry.carry_shared.Goals as goal

pub returns-in_err-copy-in-None-clause-err : goal.returns-in_err-copy-in-None-clause-err
returns-in_err-copy-in-None-clause-err g c =
    stopped_before c.from_residual.result (block g.L.Level.bits) (g.L.Level.entries (arc_value c.args.node.now)) c.args.count c.args.note.now

pub returns-in_err-tally-in-None-clause-err : goal.returns-in_err-tally-in-None-clause-err
returns-in_err-tally-in-None-clause-err g c =
    stopped_before c.from_residual-in_err-tally-in-None.result (block g.L.Level.bits) (g.L.Level.entries (arc_value c.args.node.now)) c.args.count c.args.note.now

pub returns-in_err-node-in-None-clause-err : goal.returns-in_err-node-in-None-clause-err
returns-in_err-node-in-None-clause-err g c =
    stopped_before c.from_residual-in_err-node-in-None.result (block g.L.Level.bits) (g.L.Level.entries (arc_value c.args.node.now)) c.args.count c.args.note.now
