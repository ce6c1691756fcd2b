use Rattle.std.proofs.Common.{◌∙◌, sym, ap}
use Rattle.grid_core.specs.Meets.{box_of}
use Rattle.pixel_test.specs.Corners.{overlaps_of}
use Rattle.hot_tile.proofs.ColumnLaws.{unmet}
use Rattle.hot_tile.proofs.steps.meets_key.Goals as goal

pub returns-else-spans : goal.returns-else-spans
returns-else-spans c =
    c.if-spans.false
    ∙ sym (unmet c.args.frame.now c.args.u.now c.spans.ensures.kept.ordered c.args.key
    (ap (λ h. overlaps_of c.args.u.now (box_of h)) (sym c.pixel_at-h.ensures.value) ∙ sym c.spans.ensures.value ∙ c.if-spans.false))
