-- Where no edge meets the strip, there is nothing to search; or else its number is within the bound.
use Rattle.std.proofs.Common.{◌∙◌, ap, sym, subst, ◌^◌, SFits, w64, rules, to_z-of_z, Some, Option, true≢false}
use Rattle.std.specs.Prelude.{◌==◌}
use Rattle.edge_search.specs.Search.{Searched}
use Rattle.cell_map.specs.Arranged.{IsArranged}
use Rattle.cell_map.proofs.Arranging.{number_within, arranged_without, arranged_with}
use Rattle.cell_map.proofs.arranged.ArrangedStrip.of.Goals as goal
use Rattle.cell_map.proofs.arranged.ArrangedStrip.of.Goals.{then-is_empty, else-is_empty+in_ok-of}

pub of-requires-clause-strip_within : goal.of-requires-clause-strip_within
of-requires-clause-strip_within c =
    let k : SFits w64 c.args.k = search rules in
    simp to_z-of_z
    (number_within c.requires.searchable
    (λ e. true≢false (sym (c.is_empty.ensures ∙ ap (λ n. n == 0) (c.args.edges.ok.0 ∙ e)) ∙ c.if-is_empty.false)))

pub invariant_of-result : goal.invariant_of-result
invariant_of-result c = elim c.if-is_empty.branch [
  | then-is_empty w ↦
      subst (λ (o : Option Searched). IsArranged (2 ^ 30) o c.args.vertices.items) (sym w.search-is)
      (arranged_without (2 ^ 30) c.args.vertices.items c.requires.within.vertices c.requires.searchable.rising)
  | else-is_empty+in_ok-of w ↦
      let k : SFits w64 c.args.k = search rules in
      let is = simp to_z-of_z at w.in_ok-of.ensures in
      subst (λ (o : Option Searched). IsArranged (2 ^ 30) o c.args.vertices.items) (sym (w.search-is ∙ ap Some is))
      (arranged_with (2 ^ 30) c.args.k c.args.edges.items c.args.vertices.items c.requires.within c.requires.searchable)
]
