use Rattle.std.proofs.Common.{◌≡◌, ap, sym, ◌∙◌, Some, None, option_copied}
use Rattle.radix_map.specs.Slots.{item_at}
use Rattle.radix_map.proofs.Trees.{node_value}
use Rattle.radix_map.proofs.level.NodeLevel.get.Goals as goal

pub returns-in-Some : goal.returns-in-Some
returns-in-Some g c =
    let o : Some c.in-Some.child.now ≡ item_at c.args.self.now.slots c.slot.result = ap option_copied (sym c.in-Some.is) ∙ c.get.ensures.value in
    c.get-in-Some.ensures ∙ sym (node_value g.L.Level.entries g.L.Level.bits g.met.L.Level.rises c.args.self.now.slots c.args.key c.args.shift c.slot.result (Some c.in-Some.child.now) c.requires.level c.slot.ensures.value o)

pub returns-in-None : goal.returns-in-None
returns-in-None g c =
    let o : None ≡ item_at c.args.self.now.slots c.slot.result = ap option_copied (sym c.in-None.is) ∙ c.get.ensures.value in
    sym (node_value g.L.Level.entries g.L.Level.bits g.met.L.Level.rises c.args.self.now.slots c.args.key c.args.shift c.slot.result None c.requires.level c.slot.ensures.value o)
