use Rattle.std.proofs.Common.{rules, ◌≡◌, ◌∙◌, sym, ap, ℕ, List, length}
use Rattle.std.specs.Prelude.{sum_by}
use Rattle.hot_tile.proofs.RowLaws.{total_length}
use Rattle.hot_tile.proofs.rows.Rows.total.Goals as goal

pub returns : goal.returns
returns c =
    let len : c.len.result ≡ length c.self.inside.steps.items = search rules in
    len ∙ sym (total_length c.self.inside.ends.items c.self.inside.steps.items c.self.invariant)
    ∙ ap (λ (rows : List (List ℕ)). sum_by length rows) c.self.view_is
