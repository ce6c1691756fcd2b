-- One strip more, and all of them at the end.
use Rattle.std.proofs.Common.{rules, w64, SFits, to_z, to_z-of_z, ◌∙◌, ap, arith, Bool, inl}
use Rattle.std.proofs.lemmas.Int.{ints}
use Rattle.std.specs.Prelude.{ℤ, pos, ◌+ℤ◌, if◌then◌else◌}
use Rattle.grid_core.proofs.Signed.{from_lt_false}
use Rattle.cell_map.specs.Strips.{with_edge, strip_in}
use Rattle.cell_map.proofs.Filling.{reaches_more, reached_all}
use Rattle.cell_map.proofs.fill.add_pieces.Goals as goal

pub loop-k-preserved : goal.loop-k-preserved
loop-k-preserved c =
    let one : SFits w64 (to_z w64 c.loop-k.k-bits +ℤ pos 1) = search rules in
    let first : SFits w64 c.args.first = search rules in
    let last : SFits w64 c.args.last = search rules in
    let end : SFits w64 (c.args.last +ℤ pos 1) = search rules in
    let before = simp to_z-of_z at c.loop-k.invariant in
    let less = simp to_z-of_z at c.loop-k-test.true in
    simp to_z-of_z
    (record {
      low = omega (arith, ints, before.low);
      high = inl (omega (arith, ints, less));
      done = reaches_more (with_edge c.args.e.now) c.args.first (to_z w64 c.loop-k.k-bits) c.args.strips.now.entries
          c.loop-k.strips.entries c.put_edge.new.strips.entries before.low before.done c.in_ok-put_edge.ensures;
    })

pub returns : goal.returns
returns c =
    let first : SFits w64 c.args.first = search rules in
    let last : SFits w64 c.args.last = search rules in
    let end : SFits w64 (c.args.last +ℤ pos 1) = search rules in
    let before = simp to_z-of_z at c.loop-k.invariant in
    let test = simp to_z-of_z at c.loop-k-test.false in
    let past = from_lt_false (to_z w64 c.loop-k.k-bits) (c.args.last +ℤ pos 1) test in
    let strips = c.args.strips.now.entries in
    (λ (j : ℤ). before.done j
    ∙ ap (λ (t : Bool). if t then with_edge c.args.e.now (strip_in strips j) else strip_in strips j)
    (reached_all c.args.first c.args.last (to_z w64 c.loop-k.k-bits) j past before.high))
