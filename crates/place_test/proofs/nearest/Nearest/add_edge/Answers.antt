use Rattle.std.proofs.Common.{◌∙◌, sym}
use Rattle.place_test.proofs.Scans.{around_edge, around_outside}
use Rattle.place_test.proofs.nearest.Nearest.add_edge.Goals as goal

pub returns-then-is_in_columns : goal.returns-then-is_in_columns
returns-then-is_in_columns c = λ vs es e.
    around_edge vs es c.args.at c.args.e.now
    c.keep_least_on.ensures c.keep_first_above.ensures.value c.keep_first_below.ensures.value (c.self.view_is ∙ e)

pub returns-else-is_in_columns : goal.returns-else-is_in_columns
returns-else-is_in_columns c = λ vs es e.
    around_outside vs es c.args.at c.args.e.now (sym c.is_in_columns.ensures ∙ c.if-is_in_columns.false) e
