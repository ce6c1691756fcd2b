-- Each pixel's counts are read, raised by one and written back.
use Rattle.std.proofs.Common.{◌≡◌, ◌∙◌, ap, sym, subst, ◌^◌, List, [], take, get_or, rules, arith}
use Rattle.std.specs.Map.{values_of}
use Rattle.std.specs.BTreeMap.{values}
use Rattle.std.proofs.lemmas.List.{length-take, take_all}
use Rattle.grid_core.specs.declared.point.Vertex.{Vertex}
use Rattle.std.specs.List.{All}
use Rattle.grid_core.specs.Vector.{IsWithin}
use Rattle.round_plain.specs.HotPixels.{tallies}
use Rattle.round_plain.proofs.Counts.{counts, origin, read-counts, ends-few, crossings-few, end_counted, crossing_counted, values_of-counts, All-tallies}
use Rattle.round_plain.proofs.hot_pixels.tallies.Goals as goal

pub overflow_add-tally : goal.overflow_add-tally
overflow_add-tally c =
    let read = read-counts c.loop-end.counted.entries
    (take c.loop-end.end-index c.args.ends.now) []
    (get_or c.args.ends.now c.loop-end.end-index origin)
    c.tally_at-tally.result c.loop-end.invariant c.tally_at-tally.ensures in
    let few = ends-few (take c.loop-end.end-index c.args.ends.now) []
    (get_or c.args.ends.now c.loop-end.end-index origin) c.tally_at-tally.result read in
    omega (arith, few, length-take c.loop-end.end-index c.args.ends.now)

pub loop-end-preserved : goal.loop-end-preserved
loop-end-preserved c =
    end_counted c.loop-end.counted.entries c.insert.new.self.entries c.args.ends.now
    c.loop-end.end-index c.tally_at-tally.result c.loop-end-test.true c.loop-end.invariant
    (read-counts c.loop-end.counted.entries (take c.loop-end.end-index c.args.ends.now) []
    (get_or c.args.ends.now c.loop-end.end-index origin)
    c.tally_at-tally.result c.loop-end.invariant c.tally_at-tally.ensures)
    c.in_ok-insert.ensures.entries

pub overflow_add-tally-in-loop-crossing : goal.overflow_add-tally-in-loop-crossing
overflow_add-tally-in-loop-crossing c =
    let read = read-counts c.loop-crossing.counted.entries c.args.ends.now
    (take c.loop-crossing.crossing-index c.args.crossings.now)
    (get_or c.args.crossings.now c.loop-crossing.crossing-index origin)
    c.tally_at-tally-in-loop-crossing.result c.loop-crossing.invariant
    c.tally_at-tally-in-loop-crossing.ensures in
    let few = crossings-few c.args.ends.now
    (take c.loop-crossing.crossing-index c.args.crossings.now)
    (get_or c.args.crossings.now c.loop-crossing.crossing-index origin)
    c.tally_at-tally-in-loop-crossing.result read in
    omega (arith, few, length-take c.loop-crossing.crossing-index c.args.crossings.now)

pub loop-crossing-preserved : goal.loop-crossing-preserved
loop-crossing-preserved c =
    crossing_counted c.loop-crossing.counted.entries c.insert-in-loop-crossing.new.self.entries
    c.args.ends.now c.args.crossings.now c.loop-crossing.crossing-index
    c.tally_at-tally-in-loop-crossing.result c.loop-crossing-test.true c.loop-crossing.invariant
    (read-counts c.loop-crossing.counted.entries c.args.ends.now
    (take c.loop-crossing.crossing-index c.args.crossings.now)
    (get_or c.args.crossings.now c.loop-crossing.crossing-index origin)
    c.tally_at-tally-in-loop-crossing.result c.loop-crossing.invariant
    c.tally_at-tally-in-loop-crossing.ensures)
    c.in_ok-insert-2.ensures.entries

collected : (c : goal.In_ok-collect) → c.in_ok-collect.field-0.items
    ≡ tallies c.args.ends.now c.args.crossings.now
collected c =
    let all : take c.loop-crossing.crossing-index c.args.crossings.now
    ≡ c.args.crossings.now = search (rules, take_all) in
    let e : c.in_ok-collect.field-0.items ≡ values c.loop-crossing.counted = search rules in
    e ∙ ap values_of (c.loop-crossing.invariant ∙ ap (counts c.args.ends.now) all)
    ∙ values_of-counts c.args.ends.now c.args.crossings.now

pub returns-clause-value : goal.returns-clause-value
returns-clause-value c = collected c

pub returns-clause-within : goal.returns-clause-within
returns-clause-within c =
    subst (λ (vs : List Vertex). All (λ v. IsWithin (2 ^ 30) v.at) vs) (sym (collected c))
    (All-tallies (IsWithin (2 ^ 30)) c.args.ends.now c.args.crossings.now c.requires.ends_within
    c.requires.crossings_within)
