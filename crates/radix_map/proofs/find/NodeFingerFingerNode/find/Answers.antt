use Rattle.std.proofs.Common.{◌≡◌, ◌*◌, ◌^◌, ◌%◌, ◌/◌, ap, sym, ◌∙◌, subst, Some, None, option_copied, refl}
use Rattle.radix_map.specs.Slots.{item_at}
use Rattle.radix_map.specs.Inner.{IsFingerOf, IsLeafOf}
use Rattle.radix_map.proofs.Leaves.{node_leaf, no_leaf}
use Rattle.radix_map.proofs.find.NodeFingerFingerNode.find.Goals as goal

pub returns-in-Some-clause-leaf : goal.returns-in-Some-clause-leaf
returns-in-Some-clause-leaf g c =
    let f = g.L.Level.entries in
    let s = g.L.Level.bits in
    let w = c.args.self.now in
    let xs = w.node.now.slots in
    let h : IsFingerOf g.F.Finger.sound g.F.Finger.found f xs w.at (Some c.in-Some.inner) = subst (IsFingerOf g.F.Finger.sound g.F.Finger.found f xs w.at) c.in-Some.is c.requires.sound in
    let at : w.at ≡ c.args.key / 2 ^ c.args.shift % 16 = sym c.if-at-self.true ∙ c.slot-at.ensures.value in
    let leaf = option_copied c.find.result in
    node_leaf f s g.met.L.Level.rises xs c.args.key c.args.shift w.at (item_at xs w.at) leaf c.requires.level at refl (subst (λ es. IsLeafOf (16 * 2 ^ s) es (c.args.key / 16) leaf) h.1 c.find.ensures.leaf)

pub returns-in-Some-get-clause-leaf : goal.returns-in-Some-get-clause-leaf
returns-in-Some-get-clause-leaf g c =
    let f = g.L.Level.entries in
    let s = g.L.Level.bits in
    let xs = c.args.self.now.node.now.slots in
    let o : Some c.in-Some-get.child.now ≡ item_at xs c.slot-at.result = ap option_copied (sym c.in-Some-get.is) ∙ c.get.ensures.value in
    let leaf = option_copied c.find-found.result in
    node_leaf f s g.met.L.Level.rises xs c.args.key c.args.shift c.slot-at.result (Some c.in-Some-get.child.now) leaf c.requires.level c.slot-at.ensures.value o (subst (λ es. IsLeafOf (16 * 2 ^ s) es (c.args.key / 16) leaf) c.begin-inner.ensures.found c.find-found.ensures.leaf)

pub returns-in-None-get-clause-leaf : goal.returns-in-None-get-clause-leaf
returns-in-None-get-clause-leaf g c =
    let s = g.L.Level.bits in
    let xs = c.args.self.now.node.now.slots in
    let o : None ≡ item_at xs c.slot-at.result = ap option_copied (sym c.in-None-get.is) ∙ c.get.ensures.value in
    node_leaf g.L.Level.entries s g.met.L.Level.rises xs c.args.key c.args.shift c.slot-at.result None None c.requires.level c.slot-at.ensures.value o (no_leaf (16 * 2 ^ s) (c.args.key / 16))
