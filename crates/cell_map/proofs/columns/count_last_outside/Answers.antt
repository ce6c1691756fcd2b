use Rattle.std.proofs.Common.{◌<◌, ◌-◌, ◌*◌, ◌∙◌, sym, arith, length}
use Rattle.cell_map.proofs.ColumnOrder.{alike, last_outside}
use Rattle.cell_map.proofs.columns.count_last_outside.Goals as goal

pub loop-count-preserved : goal.loop-count-preserved
loop-count-preserved c =
    let vs = c.args.vertices.now in
    let n = c.loop-count.count in
    let some = c.loop-count.invariant.some in
    let there : length vs - n * 2 < length vs = omega (arith, some, c.loop-count-test.true) in
    let tested = sym c.lies_with.ensures ∙ c.if-lies_with.true in
    record {
      some = omega (arith, some);
      within = omega (arith, c.loop-count-test.true);
      alike = alike c.args.above.now c.args.below.now vs c.in-Some.side _ (length vs - n * 2) there tested;
    }

pub returns-else-lies_with-clause-outside : goal.returns-else-lies_with-clause-outside
returns-else-lies_with-clause-outside c =
    let is = c.loop-count.invariant in
    last_outside c.requires.order c.loop-count.count is.some is.within c.in-Some.ensures.some is.alike

pub returns-after-loop-count-clause-outside : goal.returns-after-loop-count-clause-outside
returns-after-loop-count-clause-outside c =
    let is = c.loop-count.invariant in
    last_outside c.requires.order c.loop-count.count is.some is.within c.in-Some.ensures.some is.alike
