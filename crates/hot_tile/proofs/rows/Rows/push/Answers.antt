use Rattle.std.proofs.Common.{rules, ◌≡◌, ◌∙◌, sym, ap, subst, ℕ, List, [], ◌∷◌, ◌++◌, length}
use Rattle.hot_tile.specs.Rows.{cut, AreEnds}
use Rattle.hot_tile.proofs.RowLaws.{pushed, pushed_ends}
use Rattle.hot_tile.proofs.rows.Rows.push.Goals as goal
use Rattle.hot_tile.proofs.rows.Rows.push.Goals.{Else-prove}

steps_now : (c : Else-prove) → c.extend_from_slice.new.self.items ≡ c.self.inside.steps.items ++ c.args.row.now
steps_now c = search rules

ends_now : (c : Else-prove)
    → c.push-put.new.self.items ≡ c.self.inside.ends.items ++ length c.extend_from_slice.new.self.items ∷ []
ends_now c = search rules

pub invariant_of-self-2 : goal.invariant_of-self-2
invariant_of-self-2 c =
    subst (λ (es : List ℕ). AreEnds 0 es (length c.extend_from_slice.new.self.items)) (sym (ends_now c))
    (subst (λ (ws : List ℕ). AreEnds 0 (c.self.inside.ends.items ++ length ws ∷ []) (length ws)) (sym (steps_now c))
    (pushed_ends c.self.inside.ends.items c.self.inside.steps.items c.args.row.now c.self.invariant))

pub returns : goal.returns
returns c =
    ap (λ (es : List ℕ). cut 0 es c.extend_from_slice.new.self.items) (ends_now c)
    ∙ ap (λ (ws : List ℕ). cut 0 (c.self.inside.ends.items ++ length ws ∷ []) ws) (steps_now c)
    ∙ pushed c.self.inside.ends.items c.self.inside.steps.items c.args.row.now c.self.invariant
    ∙ ap (λ (rows : List (List ℕ)). rows ++ c.args.row.now ∷ []) c.self.view_is
