-- The cell keeps its edges, and a vertex more may bring its ends nearer.
use Rattle.std.proofs.Common.{◌≡◌, ◌∙◌, ap, sym, subst, ◌^◌, take, get_or, rules, IfSome}
use Rattle.std.proofs.lemmas.List.{take_more, take_all}
use Rattle.grid_core.specs.declared.place.Cell.{Cell}
use Rattle.grid_core.specs.Places.{cell_between}
use Rattle.round_plain.proofs.Counts.{origin}
use Rattle.place_test.specs.Reach.{IsEdgeWithin}
use Rattle.cell_map.specs.Found.{narrowed}
use Rattle.cell_map.proofs.CellColumns.{cell_more}
use Rattle.cell_map.proofs.cell.cell.Goals as goal

pub narrow-requires-clause-above_within : goal.narrow-requires-clause-above_within
narrow-requires-clause-above_within c =
    subst (λ o. IfSome o (IsEdgeWithin (2 ^ 30))) (sym (ap (λ (d : Cell). d.above) c.loop-h.invariant))
    c.requires.above_within

pub narrow-requires-clause-below_within : goal.narrow-requires-clause-below_within
narrow-requires-clause-below_within c =
    subst (λ o. IfSome o (IsEdgeWithin (2 ^ 30))) (sym (ap (λ (d : Cell). d.below) c.loop-h.invariant))
    c.requires.below_within

pub loop-h-preserved : goal.loop-h-preserved
loop-h-preserved c =
    let vs = c.args.vertices.now in
    let i = c.loop-h.h-index in
    let h = get_or vs i origin in
    c.narrow.ensures
    ∙ ap (λ (d : Cell). narrowed c.args.at d h) c.loop-h.invariant
    ∙ cell_more c.args.at c.args.above c.args.below (take i vs) h
    ∙ ap (λ hs. cell_between 256 hs c.args.at c.args.above c.args.below)
    (sym (take_more vs i origin c.loop-h-test.true))

pub returns : goal.returns
returns c =
    let all : take c.loop-h.h-index c.args.vertices.now ≡ c.args.vertices.now = search (rules, take_all) in
    c.loop-h.invariant ∙ ap (λ hs. cell_between 256 hs c.args.at c.args.above c.args.below) all
