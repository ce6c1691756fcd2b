-- The nodes of the segment's list are taken out one after the other, and its head at the end.
use Rattle.std.proofs.Common.{◌≡◌, ◌∙◌, sym, ap, refl, arith, rules, []}
use Rattle.grid_core.specs.Name.{Label}
use Rattle.grid_core.specs.declared.point.Point.{Point}
use Rattle.pass_links.specs.Chain.{end, listed}
use Rattle.pass_links.specs.Node.{along_at, pixel_at}
use Rattle.pass_links.specs.Lists.{pixels_from, names_from}
use Rattle.pass_links.specs.Heads.{segment_start, pixel_start}
use Rattle.pass_links.specs.Passes.{PassLists, pixels_of, names_at}
use Rattle.pass_links.proofs.ChainLaws.{way_end}
use Rattle.pass_links.proofs.SeenLaws.{seen, seen_pixels, seen_names, seen_linked}
use Rattle.pass_links.proofs.UnlinkLaws.{IsWithoutSegment, segment_begun, segment_first_stored, segment_more, segment_fewer, segment_done, segment_none}
use Rattle.pass_links.proofs.passes.Passes.unlink_segment.Goals as goal
use Rattle.pass_links.proofs.passes.Passes.unlink_segment.Goals.{After-find-head, After-set_first}

-- where the list begins
begins : (c : After-find-head) → c.find-head.result.first ≡ segment_start c.self.inside.segments.items c.args.name
begins c = c.find-head.ensures.first ∙ ap (λ hs. segment_start hs c.args.name) c.deref.ensures.value

-- the segment has no list
empty : (c : After-find-head) → c.find-head.result.first ≡ end → pixels_of c.args.self.now c.args.name ≡ []
empty c none =
    seen_pixels c.self.inside.nodes.slots c.self.inside.segments.items c.self.inside.pixels.items c.args.self.now _ c.self.view_is c.args.name
    ∙ ap (pixels_from c.self.inside.nodes.slots) (sym (begins c) ∙ none)
    ∙ ap (listed (pixel_at c.self.inside.nodes.slots)) (way_end (along_at c.self.inside.nodes.slots) end)

pub returns-then-head-clause-pixels : goal.returns-then-head-clause-pixels
returns-then-head-clause-pixels c =
    segment_none c.args.name c.args.self.now (seen_linked c.self.inside.nodes.slots c.self.inside.segments.items c.self.inside.pixels.items c.args.self.now _ c.self.view_is c.self.invariant.lists)
    (empty (goal.at.returns-then-head-clause-pixels c).After-find-head c.if-head.true)

pub returns-then-head-clause-segment : goal.returns-then-head-clause-segment
returns-then-head-clause-segment c = empty (goal.at.returns-then-head-clause-segment c).After-find-head c.if-head.true

pub loop-at-init : goal.loop-at-init
loop-at-init c =
    let first = begins (goal.at.loop-at-init c).After-find-head in
    record {
      lists =
          segment_begun c.args.name c.args.self.now c.self.inside.nodes.slots (segment_start c.self.inside.segments.items) (pixel_start c.self.inside.pixels.items)
          c.find-head.result.first c.self.invariant.lists first
          (seen_pixels c.self.inside.nodes.slots c.self.inside.segments.items c.self.inside.pixels.items c.args.self.now _ c.self.view_is)
          (seen_names c.self.inside.nodes.slots c.self.inside.segments.items c.self.inside.pixels.items c.args.self.now _ c.self.view_is);
      by_name = c.self.invariant.by_name;
      by_pixel = c.self.invariant.by_pixel;
      head = search rules;
      some = λ e. c.if-head.false (first ∙ e);
      room = omega (arith, c.self.invariant.fits, ap (λ (v : PassLists). v.spare) c.self.view_is);
    }

pub take_across-node-requires-clause-stored : goal.take_across-node-requires-clause-stored
take_across-node-requires-clause-stored c =
    segment_first_stored c.args.name c.args.self.now c.loop-at.self-inside.nodes.slots (segment_start c.loop-at.self-inside.segments.items) (pixel_start c.loop-at.self-inside.pixels.items) c.loop-at.at c.loop-at.invariant.lists c.loop-at-test.true

pub loop-at-smaller : goal.loop-at-smaller
loop-at-smaller c =
    segment_fewer c.args.name c.args.self.now c.loop-at.self-inside.nodes.slots c.take_across-node.new.nodes.slots (segment_start c.loop-at.self-inside.segments.items) (pixel_start c.loop-at.self-inside.pixels.items) (pixel_start c.take_across-node.new.pixels.items) c.loop-at.at c.take_across-node.result
    c.loop-at.invariant.lists c.loop-at-test.true c.take_across-node.ensures.node c.take_across-node.ensures.takes

pub loop-at-preserved : goal.loop-at-preserved
loop-at-preserved c = record {
  lists =
      segment_more c.args.name c.args.self.now c.loop-at.self-inside.nodes.slots c.take_across-node.new.nodes.slots (segment_start c.loop-at.self-inside.segments.items) (pixel_start c.loop-at.self-inside.pixels.items) (pixel_start c.take_across-node.new.pixels.items) c.loop-at.at c.take_across-node.result
      c.loop-at.invariant.lists c.loop-at-test.true c.take_across-node.ensures.node c.take_across-node.ensures.takes;
  by_pixel = c.take_across-node.ensures.by_pixel;
  by_name = c.loop-at.invariant.by_name;
  head = c.loop-at.invariant.head;
  some = c.loop-at.invariant.some;
  room = omega (arith, c.loop-at.invariant.room, c.take_across-node.ensures.room, c.take_across-node.ensures.len, c.take_across-node.ensures.capacity);
}

-- the lists without those passes
without : (c : After-set_first) → IsWithoutSegment c.args.name c.args.self.now c.loop-at.self-inside.nodes.slots (segment_start c.set_first.new.heads.items) (pixel_start c.loop-at.self-inside.pixels.items)
without c = segment_done c.args.name c.args.self.now c.loop-at.self-inside.nodes.slots (segment_start c.loop-at.self-inside.segments.items) (segment_start c.set_first.new.heads.items) (pixel_start c.loop-at.self-inside.pixels.items) c.loop-at.at c.loop-at.invariant.lists c.loop-at-test.false c.set_first.ensures.first

pub invariant_of-self : goal.invariant_of-self
invariant_of-self c = record {
  lists = (without (goal.at.invariant_of-self c).After-set_first).lists;
  by_pixel = c.loop-at.invariant.by_pixel;
  by_name = c.set_first.ensures.rise;
  fits = omega (arith, c.room_left-self-inside.ensures);
}

-- what contracts see
lists : (c : After-set_first) (n : Label) → pixels_of (seen c.loop-at.self-inside.nodes.slots c.set_first.new.heads.items c.loop-at.self-inside.pixels.items 0) n ≡ pixels_from c.loop-at.self-inside.nodes.slots (segment_start c.set_first.new.heads.items n)
lists c = seen_pixels c.loop-at.self-inside.nodes.slots c.set_first.new.heads.items c.loop-at.self-inside.pixels.items (seen c.loop-at.self-inside.nodes.slots c.set_first.new.heads.items c.loop-at.self-inside.pixels.items 0) 0 refl

names : (c : After-set_first) (p : Point) → names_at (seen c.loop-at.self-inside.nodes.slots c.set_first.new.heads.items c.loop-at.self-inside.pixels.items 0) p ≡ names_from c.loop-at.self-inside.nodes.slots (pixel_start c.loop-at.self-inside.pixels.items p)
names c = seen_names c.loop-at.self-inside.nodes.slots c.set_first.new.heads.items c.loop-at.self-inside.pixels.items (seen c.loop-at.self-inside.nodes.slots c.set_first.new.heads.items c.loop-at.self-inside.pixels.items 0) 0 refl

pub returns-clause-pixels : goal.returns-clause-pixels
returns-clause-pixels c =
    let t = (goal.at.returns-clause-pixels c).After-set_first in
    λ x. names t x ∙ (without t).pixels x

pub returns-clause-segment : goal.returns-clause-segment
returns-clause-segment c =
    let t = (goal.at.returns-clause-segment c).After-set_first in
    lists t c.args.name ∙ (without t).none

pub returns-clause-segments : goal.returns-clause-segments
returns-clause-segments c =
    let t = (goal.at.returns-clause-segments c).After-set_first in
    λ x apart. lists t x ∙ (without t).segments x apart
