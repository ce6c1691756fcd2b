use Rattle.std.proofs.Common.{◌∙◌, sym, subst, arith, ◌+◌, ◌≤◌, ◌⊎◌, inl, inr, ℕ, List, length}
use Rattle.hot_tile.proofs.CoolLaws.{IsThinning, keeps_step, passes_gone, drops_step, keeps_rest}
use Rattle.hot_tile.proofs.steps.thin_row.Goals as goal
use Rattle.hot_tile.proofs.steps.thin_row.Goals.{then-steps-test+else-j-gone, else-steps-test}

pub steps-preserved-in-Less : goal.steps-preserved-in-Less
steps-preserved-in-Less c =
    record {
      within = omega (arith, c.steps-test.true);
      gone_within = c.steps.invariant.gone_within;
      so_far =
          subst (λ (ks : List ℕ). IsThinning c.args.old.now c.args.gone.now (c.steps.i + 1) c.steps.j ks) (sym c.in_ok-push-in-Less.ensures.items)
          (keeps_step c.steps.invariant.so_far 0 c.steps-test.true c.in-Less.ensures);
    }

pub steps-preserved-in-Equal : goal.steps-preserved-in-Equal
steps-preserved-in-Equal c =
    let t = c.in-Equal.ensures in
    record {
      within = omega (arith, c.steps-test.true);
      gone_within = omega (arith, t.within);
      so_far = drops_step c.steps.invariant.so_far 0 c.steps-test.true t.within t.same t.rest;
    }

pub steps-smaller : goal.steps-smaller
steps-smaller c = let gone = c.in-Greater.ensures.within in omega (arith, gone)

pub steps-preserved : goal.steps-preserved
steps-preserved c =
    let t = c.in-Greater.ensures in
    record {
      within = c.steps.invariant.within;
      gone_within = omega (arith, t.within);
      so_far = passes_gone c.steps.invariant.so_far 0 t.within t.first;
    }

pub returns : goal.returns
returns c =
    let ended : (length c.args.old.now ≤ c.steps.i) ⊎ (length c.args.gone.now ≤ c.steps.j) =
    elim c.steps-test.branch [
      | then-steps-test+else-j-gone w ↦ inr (omega (arith, w.if-j-gone.false))
      | else-steps-test w ↦ inl (omega (arith, w.steps-test.false))
    ] in
    c.in_ok-extend_from_slice.ensures.items ∙ keeps_rest c.steps.invariant.so_far ended
