use Rattle.std.proofs.Common.{◌&&◌, sym, ◌∙◌}
use Rattle.pixel_test.specs.Corners.{straddles_of}
use Rattle.pixel_test.proofs.CornerTest.{corner_test}
use Rattle.pixel_test.proofs.corners.meets.Goals as goal

pub returns-then-overlaps : goal.returns-then-overlaps
returns-then-overlaps c =
    let s = c.args.s.now in
    let area = c.args.area.now in
    let overlap = sym c.if-overlaps.true ∙ c.overlaps.ensures.value in
    c.straddles.ensures ∙ (λ i. overlap i && straddles_of s area)
    ∙ corner_test s area c.overlaps.ensures.kept.ordered c.requires.wide c.requires.high

pub returns-else-overlaps : goal.returns-else-overlaps
returns-else-overlaps c =
    let s = c.args.s.now in
    let area = c.args.area.now in
    let overlap = sym c.if-overlaps.false ∙ c.overlaps.ensures.value in
    c.if-overlaps.false ∙ (λ i. overlap i && straddles_of s area)
    ∙ corner_test s area c.overlaps.ensures.kept.ordered c.requires.wide c.requires.high
