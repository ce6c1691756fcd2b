-- Segment after segment, the crossings with those behind it move from what is left to what is found.
use Rattle.std.proofs.Common.{◌∙◌, ap, sym, subst, ◌++◌, List, drop, ◌+◌, ◌-◌, ◌^◌, length}
use Rattle.std.specs.Prelude.{filter_map}
use Rattle.std.proofs.lemmas.List.Elements.{All-take, All-drop}
use Rattle.grid_core.specs.declared.point.Point.{Point}
use Rattle.grid_core.specs.Segment.{Segment, IsSegment}
use Rattle.grid_core.specs.Rounding.{crossing_pixel, crossing_pixels}
use Rattle.grid_core.proofs.ListSteps.{drop_whole}
use Rattle.round_plain.proofs.Pairs.{crossings_more, crossings_done}
use Rattle.round_plain.proofs.hot_pixels.crossing_pixels.Goals as goal

pub push_crossings-requires-clause-first : goal.push_crossings-requires-clause-first
push_crossings-requires-clause-first c =
    subst (λ (s : Segment). IsSegment (2 ^ 30) s) (sym c.index-segments-i.is)
    (c.requires c.loop-i.i c.index-segments-i.result c.loop-i-test.true)

pub push_crossings-requires-clause-others : goal.push_crossings-requires-clause-others
push_crossings-requires-clause-others c =
    All-take (IsSegment (2 ^ 30)) (length c.args.segments.now - (c.loop-i.i + 1))
    (drop (c.loop-i.i + 1) c.args.segments.now)
    (All-drop (IsSegment (2 ^ 30)) (c.loop-i.i + 1) c.args.segments.now c.requires)

pub loop-i-preserved : goal.loop-i-preserved
loop-i-preserved c = record {
  value =
      ap (λ (xs : List Point). xs ++ crossing_pixels (drop (c.loop-i.i + 1) c.args.segments.now))
      (c.in_ok-push_crossings.ensures.value
      ∙ ap (λ (ts : List Segment). c.loop-i.found.items ++ filter_map
      (crossing_pixel c.index-segments-i.result) ts)
      (drop_whole (c.loop-i.i + 1) c.args.segments.now))
      ∙ crossings_more c.loop-i.found.items
      (crossing_pixels c.args.segments.now) c.args.segments.now c.loop-i.i
      c.index-segments-i.result c.loop-i-test.true c.index-segments-i.is
      c.loop-i.invariant.value;
  within = c.in_ok-push_crossings.ensures.within;
}

pub returns-clause-value : goal.returns-clause-value
returns-clause-value c =
    crossings_done c.loop-i.found.items (crossing_pixels c.args.segments.now) c.args.segments.now
    c.loop-i.i c.loop-i-test.false c.loop-i.invariant.value
