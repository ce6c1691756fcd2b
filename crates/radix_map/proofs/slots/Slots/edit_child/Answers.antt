use Rattle.std.proofs.Common.{◌≡◌, ◌+◌, ◌^◌, sym, ◌∙◌, subst, arith, length, map, IsSome}
use Rattle.std.proofs.lemmas.List.{length-map}
use Rattle.std.specs.Arc.{arc_value}
use Rattle.radix_map.specs.Slots.{item_at, taken}
use Rattle.radix_map.proofs.Edits.{item_changed, change_edited, change_err, taken_digit}
use Rattle.radix_map.proofs.slots.Slots.edit_child.Goals as goal

pub index_mut-requires : goal.index_mut-requires
index_mut-requires g c =
    let p = c.self.inside in
    let xs = map arc_value p.items.items in
    let size = length-map p.items.items arc_value ∙ c.self.invariant in
    let one = taken_digit c.args.at p.digits xs c.requires.at size (subst (λ t. IsSome (item_at t c.args.at)) (sym c.self.view_is) c.requires.taken) in
    let e = c.rank-low.ensures.within in
    let i : length p.items.items ≡ taken 16 p.digits = c.self.invariant in
    let ok = p.items.ok in
    omega arith

pub returns-clause-ok : goal.returns-clause-ok
returns-clause-ok g c =
    let p = c.self.inside in
    let old = c.index_mut.result.now in
    let new = c.edit_shared.new.node in
    let change = item_changed arc_value c.args.at p.digits c.rank-low.result p.items.items old new c.args.self.now c.self.view_is c.self.invariant c.requires.at c.requires.taken c.rank-low.ensures.value c.index_mut.ensures.value in
    change_edited c.edit_shared.result (λ t. t.added) (λ t. t.removed) g.T.Level.entries g.T.Level.bits g.met.T.Level.rises c.args.self.now _ c.args.shift c.args.at (arc_value old) (arc_value new) c.args.run.now c.requires.level c.requires.at c.requires.run change c.edit_shared.ensures.ok

pub returns-clause-alone : goal.returns-clause-alone
returns-clause-alone g c = λ n.
    let p = c.self.inside in
    let old = c.index_mut.result.now in
    let new = c.edit_shared.new.node in
    let change = item_changed arc_value c.args.at p.digits c.rank-low.result p.items.items old new c.args.self.now c.self.view_is c.self.invariant c.requires.at c.requires.taken c.rank-low.ensures.value c.index_mut.ensures.value in
    change_err c.edit_shared.result g.T.Level.entries (2 ^ (g.T.Level.bits + 4)) c.args.self.now _ c.args.at (arc_value old) (arc_value new) c.requires.at change (c.edit_shared.ensures.alone n)
