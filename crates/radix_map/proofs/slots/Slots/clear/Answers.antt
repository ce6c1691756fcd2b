use Rattle.std.proofs.Common.{◌≡◌, None, ap, sym, ◌∙◌, arith, map, set, remove, subst}
use Rattle.std.proofs.lemmas.List.{length-map}
use Rattle.std.specs.Arc.{arc_value}
use Rattle.std.specs.Int.{bit_at}
use Rattle.std.proofs.lemmas.Nat.Bits.{bit_at-lt}
use Rattle.radix_map.proofs.Copied.{freed, stays_free}
use Rattle.radix_map.proofs.slots.Slots.clear.Goals as goal

pub returns-then-digit-eq0 : goal.returns-then-digit-eq0
returns-then-digit-eq0 g c =
    let p = c.self.inside in
    let free : bit_at p.digits c.args.at ≡ 0 = sym c.digit.ensures ∙ c.if-digit-eq0.true in
    let e = stays_free c.args.at p.digits (map arc_value p.items.items) c.requires (length-map p.items.items arc_value ∙ c.self.invariant) free in
    subst (λ t. t ≡ set t c.args.at None) c.self.view_is e

pub invariant_of-self : goal.invariant_of-self
invariant_of-self g c =
    let p = c.self.inside in
    let low = bit_at-lt p.digits c.args.at in
    let one : bit_at p.digits c.args.at ≡ 1 = omega (arith, c.digit.ensures, c.if-digit-eq0.false) in
    let f = freed arc_value c.args.at p.digits c.marked-self-inside.result p.items.items c.remove.new.self.items c.requires c.self.invariant one c.marked-self-inside.ensures (c.remove.ensures.items ∙ ap (remove p.items.items) c.rank-low.ensures.value) in
    sym (length-map c.remove.new.self.items arc_value) ∙ f.counted

pub returns : goal.returns
returns g c =
    let p = c.self.inside in
    let low = bit_at-lt p.digits c.args.at in
    let one : bit_at p.digits c.args.at ≡ 1 = omega (arith, c.digit.ensures, c.if-digit-eq0.false) in
    let f = freed arc_value c.args.at p.digits c.marked-self-inside.result p.items.items c.remove.new.self.items c.requires c.self.invariant one c.marked-self-inside.ensures (c.remove.ensures.items ∙ ap (remove p.items.items) c.rank-low.ensures.value) in
    f.slotd ∙ ap (λ t. set t c.args.at None) c.self.view_is
