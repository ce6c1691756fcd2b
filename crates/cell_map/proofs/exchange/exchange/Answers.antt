-- What is put in place is the first of what is left.
use Rattle.std.proofs.Common.{◌≡◌, ◌∙◌, ap, sym, subst, All, ◌∷◌, rules, w64, SFits, to_z-of_z}
use Rattle.std.proofs.lemmas.List.Elements.{All-weaker, All-from_recursion, recursion_from_All}
use Rattle.cell_map.specs.Strips.{Strips, strip_in}
use Rattle.cell_map.specs.Exchange.{exchanged, IsKept}
use Rattle.cell_map.proofs.exchange.exchange.Goals as goal

pub loop-k-init : goal.loop-k-init
loop-k-init c =
    let old = c.args.strips.now.entries in
    let all : c.into_iter-k-iterator.result.rest.items ≡ c.args.made.items = c.into_iter-k-iterator.ensures.into_iter_gives.0 in
    record {
      ready = subst (λ (ps : Strips). All (λ p. IsKept old p.0) ps) (sym all) c.requires;
      done = λ j. ap (λ (ps : Strips). exchanged ps j (strip_in old j)) all;
    }

pub put_in_place-requires : goal.put_in_place-requires
put_in_place-requires c =
    let old = c.loop-k.strips.entries in
    let k : SFits w64 c.in-Some.k = search rules in
    let left : Strips = (c.in-Some.k, c.in-Some.strip) ∷ c.next.new.self.rest.items in
    let ready : All (λ p. IsKept old p.0) left = subst (λ (ps : Strips). All (λ p. IsKept old p.0) ps)
    c.in-Some.ensures.steps.0 c.loop-k.invariant.ready in
    let first = (recursion_from_All (λ p. IsKept old p.0) left ready).0 in
    simp to_z-of_z first

pub loop-k-preserved : goal.loop-k-preserved
loop-k-preserved c =
    let old = c.loop-k.strips.entries in
    let new = c.put_in_place.new.strips.entries in
    let rest = c.next.new.self.rest.items in
    let steps = c.in-Some.ensures.steps.0 in
    let k : SFits w64 c.in-Some.k = search rules in
    let changes = simp to_z-of_z at c.put_in_place.ensures.changes in
    let left : Strips = (c.in-Some.k, c.in-Some.strip) ∷ rest in
    let ready : All (λ p. IsKept old p.0) left =
    subst (λ (ps : Strips). All (λ p. IsKept old p.0) ps) steps c.loop-k.invariant.ready in
    let others = All-from_recursion (λ p. IsKept old p.0) rest (recursion_from_All (λ p. IsKept old p.0) left ready).1 in
    record {
      ready = All-weaker (λ p. IsKept old p.0) (λ p. IsKept new p.0) (λ p. c.put_in_place.ensures.others p.0) rest others;
      done = λ j. ap (exchanged rest j) (changes j)
          ∙ sym (ap (λ (ps : Strips). exchanged ps j (strip_in old j)) steps) ∙ c.loop-k.invariant.done j;
    }
