use Rattle.std.proofs.Common.{◌≡◌, Some, ap, sym, ◌∙◌, arith, set, insert}
use Rattle.std.proofs.lemmas.List.{length-map}
use Rattle.std.specs.Arc.{arc_value}
use Rattle.std.specs.Int.{bit_at}
use Rattle.std.proofs.lemmas.Nat.Bits.{bit_at-lt}
use Rattle.radix_map.proofs.Copied.{filled, refilled}
use Rattle.radix_map.proofs.slots.Slots.fill.Goals as goal

pub invariant_of-self-then-digit-eq0 : goal.invariant_of-self-then-digit-eq0
invariant_of-self-then-digit-eq0 g c =
    let p = c.self.inside in
    let free : bit_at p.digits c.args.at ≡ 0 = sym c.digit.ensures ∙ c.if-digit-eq0.true in
    let put : c.insert.new.self.items ≡ insert p.items.items c.rank-low.result c.args.item = c.in_ok-insert.ensures.items in
    let f = filled arc_value c.args.at p.digits c.marked-self-inside.result p.items.items c.insert.new.self.items c.args.item c.requires c.self.invariant free c.marked-self-inside.ensures (put ∙ ap (λ r. insert p.items.items r c.args.item) c.rank-low.ensures.value) in
    sym (length-map c.insert.new.self.items arc_value) ∙ f.counted

pub returns-then-digit-eq0-clause-ok : goal.returns-then-digit-eq0-clause-ok
returns-then-digit-eq0-clause-ok g c =
    let p = c.self.inside in
    let free : bit_at p.digits c.args.at ≡ 0 = sym c.digit.ensures ∙ c.if-digit-eq0.true in
    let put : c.insert.new.self.items ≡ insert p.items.items c.rank-low.result c.args.item = c.in_ok-insert.ensures.items in
    let f = filled arc_value c.args.at p.digits c.marked-self-inside.result p.items.items c.insert.new.self.items c.args.item c.requires c.self.invariant free c.marked-self-inside.ensures (put ∙ ap (λ r. insert p.items.items r c.args.item) c.rank-low.ensures.value) in
    f.slotd ∙ ap (λ t. set t c.args.at (Some (arc_value c.args.item))) c.self.view_is

pub returns-clause-ok : goal.returns-clause-ok
returns-clause-ok g c =
    let p = c.self.inside in
    let low = bit_at-lt p.digits c.args.at in
    let one : bit_at p.digits c.args.at ≡ 1 = omega (arith, c.digit.ensures, c.if-digit-eq0.false) in
    let e = refilled arc_value c.args.at p.digits p.items.items (set p.items.items c.rank-low.result c.args.item) c.args.item c.requires c.self.invariant one (ap (λ r. set p.items.items r c.args.item) c.rank-low.ensures.value) in
    e.slotd ∙ ap (λ t. set t c.args.at (Some (arc_value c.args.item))) c.self.view_is
