use Rattle.std.proofs.Common.{◌≡◌, ap, sym, ◌∙◌, arith, length, map, get_or, Some}
use Rattle.std.proofs.Math.ListN.{get_or-map}
use Rattle.std.proofs.lemmas.List.{length-map}
use Rattle.std.specs.Arc.{arc_value}
use Rattle.radix_map.specs.Slots.{item_at, taken}
use Rattle.radix_map.proofs.Digits.{no_digit, free_slot, taken_slot, slots-length}
use Rattle.radix_map.proofs.slots.Slots.next.Goals as goal

pub returns-in-None-clause-none : goal.returns-in-None-clause-none
returns-in-None-clause-none g c = λ k l n.
    let p = c.self.inside in
    let xs = map arc_value p.items.items in
    ap (λ t. item_at t k) (sym c.self.view_is) ∙ free_slot 16 k p.digits xs n (length-map p.items.items arc_value ∙ c.self.invariant) (no_digit p.digits c.args.at k c.in-None.ensures.none l)

pub returns-in-None-clause-wide : goal.returns-in-None-clause-wide
returns-in-None-clause-wide g c = ap length (sym c.self.view_is) ∙ slots-length 16 c.self.inside.digits _

pub returns-in-Some-clause-wide : goal.returns-in-Some-clause-wide
returns-in-Some-clause-wide g c = ap length (sym c.self.view_is) ∙ slots-length 16 c.self.inside.digits _

pub index-requires : goal.index-requires
index-requires g c =
    let p = c.self.inside in
    let h = c.in-Some.ensures.some.here in
    let e = c.rank.ensures.within in
    let i : length p.items.items ≡ taken 16 p.digits = c.self.invariant in
    let ok = p.items.ok in
    omega arith

pub returns-in-Some-clause-some : goal.returns-in-Some-clause-some
returns-in-Some-clause-some g c =
    let p = c.self.inside in
    let n = c.in-Some.n in
    let h = c.in-Some.ensures.some in
    let a = c.index.result.now in
    let xs = map arc_value p.items.items in
    let size = length-map p.items.items arc_value ∙ c.self.invariant in
    let read : arc_value a ≡ get_or xs (taken n p.digits) (arc_value a) =
    ap arc_value (c.index.ensures ∙ ap (λ k. get_or p.items.items k a) c.rank.ensures.value) ∙ sym (get_or-map arc_value p.items.items (taken n p.digits) a) in
    record {
      behind = h.behind;
      below = h.below;
      free = λ k l m. ap (λ t. item_at t k) (sym c.self.view_is) ∙ free_slot 16 k p.digits xs (let b = h.below in omega arith) size (h.free k l m);
      here = ap (λ t. item_at t n) (sym c.self.view_is) ∙ taken_slot 16 n p.digits (arc_value a) xs h.below size h.here read ∙ ap Some (sym c.deref-item.ensures);
    }
