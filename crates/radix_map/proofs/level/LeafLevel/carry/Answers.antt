use Rattle.radix_map.specs.Entries.{entries_of, single}
use Rattle.radix_map.proofs.Carrying.{carrying_none, carrying_more}
use Rattle.radix_map.proofs.level.LeafLevel.carry.Goals as goal

pub loop-done-init : goal.loop-done-init
loop-done-init g c = carrying_none 16 (entries_of single 1 c.args.self.now.slots) c.args.note.now

pub loop-done-preserved : goal.loop-done-preserved
loop-done-preserved g c =
    let t = c.loop-done.tally in
    let one = c.in_ok-one.one in
    let did = c.in_ok-one.ensures in
    carrying_more 16 (entries_of single 1 c.args.self.now.slots) (entries_of single 1 c.loop-done.self.slots) (entries_of single 1 c.carry_first.new.slots) c.args.note.now c.loop-done.note c.carry_first.new.self c.loop-done._done t.added t.removed 1 one.added one.removed c.loop-done.invariant did.ok did.rest did.counted did.few.0 did.few.1
