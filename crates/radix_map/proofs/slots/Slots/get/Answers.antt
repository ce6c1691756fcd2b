use Rattle.std.proofs.Common.{◌≡◌, ap, sym, ◌∙◌, arith, map, get_or, Some, length}
use Rattle.std.proofs.Math.ListN.{get_or-map}
use Rattle.std.proofs.lemmas.List.{length-map}
use Rattle.std.specs.Arc.{arc_value}
use Rattle.std.specs.Int.{bit_at}
use Rattle.std.proofs.lemmas.Nat.Bits.{bit_at-lt}
use Rattle.radix_map.specs.Slots.{item_at, taken}
use Rattle.radix_map.proofs.Digits.{free_slot, taken_slot, slots-length}
use Rattle.radix_map.proofs.slots.Slots.get.Goals as goal

pub returns-then-digit-eq0-clause-value : goal.returns-then-digit-eq0-clause-value
returns-then-digit-eq0-clause-value g c =
    let p = c.self.inside in
    let free : bit_at p.digits c.args.at ≡ 0 = sym c.digit.ensures ∙ c.if-digit-eq0.true in
    sym (ap (λ xs. item_at xs c.args.at) (sym c.self.view_is) ∙ free_slot 16 c.args.at p.digits (map arc_value p.items.items) c.requires (length-map p.items.items arc_value ∙ c.self.invariant) free)

pub index-requires : goal.index-requires
index-requires g c =
    let p = c.self.inside in
    let one = bit_at-lt p.digits c.args.at in
    let e = c.rank.ensures in
    let i : length p.items.items ≡ taken 16 p.digits = c.self.invariant in
    let ok = p.items.ok in
    omega (arith, c.digit.ensures, c.if-digit-eq0.false)

pub returns-clause-value : goal.returns-clause-value
returns-clause-value g c =
    let p = c.self.inside in
    let a = c.index.result.now in
    let low = bit_at-lt p.digits c.args.at in
    let one : bit_at p.digits c.args.at ≡ 1 = omega (arith, c.digit.ensures, c.if-digit-eq0.false) in
    let read : arc_value a ≡ get_or (map arc_value p.items.items) (taken c.args.at p.digits) (arc_value a) =
    ap arc_value (c.index.ensures ∙ ap (λ k. get_or p.items.items k a) c.rank.ensures.value) ∙ sym (get_or-map arc_value p.items.items (taken c.args.at p.digits) a) in
    ap Some c.deref-item.ensures ∙ sym (ap (λ xs. item_at xs c.args.at) (sym c.self.view_is) ∙ taken_slot 16 c.args.at p.digits (arc_value a) (map arc_value p.items.items) c.requires (length-map p.items.items arc_value ∙ c.self.invariant) one read)

pub returns-then-digit-eq0-clause-wide : goal.returns-then-digit-eq0-clause-wide
returns-then-digit-eq0-clause-wide g c = ap length (sym c.self.view_is) ∙ slots-length 16 c.self.inside.digits _

pub returns-clause-wide : goal.returns-clause-wide
returns-clause-wide g c = ap length (sym c.self.view_is) ∙ slots-length 16 c.self.inside.digits _
