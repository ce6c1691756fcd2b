-- What is put in place is the first of what is left, arranged.
use Rattle.std.proofs.Common.{◌≡◌, ◌∙◌, ap, sym, subst, All, ◌∷◌, rules, w64, SFits, to_z-of_z}
use Rattle.std.specs.Prelude.{if◌then◌else◌}
use Rattle.std.specs.BTreeMap.{is_at}
use Rattle.std.specs.Ordering.{int_cmp}
use Rattle.std.proofs.lemmas.List.Elements.{All-from_recursion, recursion_from_All}
use Rattle.planar_law.specs.PlanarEdges.{Graph}
use Rattle.cell_map.specs.Strips.{Strips, strip_in, empty_strip}
use Rattle.cell_map.specs.Arranged.{IsSearchable}
use Rattle.cell_map.specs.Exchange.{exchanged}
use Rattle.cell_map.proofs.InTurn.{exchanged_all, all_searchable}
use Rattle.cell_map.proofs.arranged.arrange_all.Goals as goal

pub loop-k-init : goal.loop-k-init
loop-k-init c =
    let entries = c.args.filled.entries in
    let all : c.into_iter-k-iterator.result ≡ entries = c.into_iter-k-iterator.ensures.into_iter_gives.0 in
    let rises = c.into_iter-k-iterator.ensures.into_iter_gives.5 in
    record {
      searchable = subst (λ (ps : Strips). All (λ p. IsSearchable p.0 p.1) ps) (sym all)
          (all_searchable entries rises c.requires);
      done = λ j. ap (λ (ps : Strips). exchanged ps j (strip_in c.new-strips.result.entries j)) all
          ∙ ap (λ (ps : Strips). exchanged entries j (strip_in ps j)) c.new-strips.ensures.empty
          ∙ exchanged_all entries j empty_strip rises;
    }

pub arrange-requires : goal.arrange-requires
arrange-requires c =
    let k : SFits w64 c.in-Some.k = search rules in
    let left : Strips = (c.in-Some.k, c.in-Some.strip) ∷ c.next.new.self in
    let ready : All (λ p. IsSearchable p.0 p.1) left =
    subst (λ (ps : Strips). All (λ p. IsSearchable p.0 p.1) ps) c.in-Some.ensures.steps c.loop-k.invariant.searchable in
    let first = (recursion_from_All (λ p. IsSearchable p.0 p.1) left ready).0 in
    simp to_z-of_z first

pub loop-k-preserved : goal.loop-k-preserved
loop-k-preserved c =
    let old = c.loop-k.strips.entries in
    let rest = c.next.new.self in
    let k : SFits w64 c.in-Some.k = search rules in
    let changes = simp to_z-of_z at c.in_ok-put.ensures in
    let left : Strips = (c.in-Some.k, c.in-Some.strip) ∷ rest in
    let ready : All (λ p. IsSearchable p.0 p.1) left =
    subst (λ (ps : Strips). All (λ p. IsSearchable p.0 p.1) ps) c.in-Some.ensures.steps c.loop-k.invariant.searchable in
    record {
      searchable = All-from_recursion (λ p. IsSearchable p.0 p.1) rest
          (recursion_from_All (λ p. IsSearchable p.0 p.1) left ready).1;
      done = λ j. ap (exchanged rest j)
          (changes j ∙ ap (λ (s : Graph). if is_at (int_cmp c.in-Some.k) j then s else strip_in old j) c.in_ok-arrange.ensures)
          ∙ sym (ap (λ (ps : Strips). exchanged ps j (strip_in old j)) c.in-Some.ensures.steps)
          ∙ c.loop-k.invariant.done j;
    }
