-- The nodes of the pixel's list are taken out one after the other, and its head at the end.
use Rattle.std.proofs.Common.{◌≡◌, ◌∙◌, sym, ap, refl, arith, rules, []}
use Rattle.grid_core.specs.Name.{Label}
use Rattle.grid_core.specs.declared.point.Point.{Point}
use Rattle.pass_links.specs.Chain.{end, listed}
use Rattle.pass_links.specs.Node.{across_at, name_at}
use Rattle.pass_links.specs.Lists.{pixels_from, names_from}
use Rattle.pass_links.specs.Heads.{segment_start, pixel_start}
use Rattle.pass_links.specs.Passes.{PassLists, pixels_of, names_at}
use Rattle.pass_links.proofs.ChainLaws.{way_end}
use Rattle.pass_links.proofs.SeenLaws.{seen, seen_pixels, seen_names, seen_linked}
use Rattle.pass_links.proofs.UnlinkLaws.{IsWithoutPixel, pixel_begun, pixel_first_stored, pixel_more, pixel_fewer, pixel_done, pixel_none}
use Rattle.pass_links.proofs.passes.Passes.unlink_pixel.Goals as goal
use Rattle.pass_links.proofs.passes.Passes.unlink_pixel.Goals.{After-find-head, After-set_first}

-- where the list begins
begins : (c : After-find-head) → c.find-head.result.first ≡ pixel_start c.self.inside.pixels.items c.args.pixel
begins c = c.find-head.ensures.first ∙ ap (λ hs. pixel_start hs c.args.pixel) c.deref.ensures.value

-- the pixel has no list
empty : (c : After-find-head) → c.find-head.result.first ≡ end → names_at c.args.self.now c.args.pixel ≡ []
empty c none =
    seen_names c.self.inside.nodes.slots c.self.inside.segments.items c.self.inside.pixels.items c.args.self.now _ c.self.view_is c.args.pixel
    ∙ ap (names_from c.self.inside.nodes.slots) (sym (begins c) ∙ none)
    ∙ ap (listed (name_at c.self.inside.nodes.slots)) (way_end (across_at c.self.inside.nodes.slots) end)

pub returns-then-head-clause-segments : goal.returns-then-head-clause-segments
returns-then-head-clause-segments c =
    pixel_none c.args.pixel c.args.self.now (seen_linked c.self.inside.nodes.slots c.self.inside.segments.items c.self.inside.pixels.items c.args.self.now _ c.self.view_is c.self.invariant.lists)
    (empty (goal.at.returns-then-head-clause-segments c).After-find-head c.if-head.true)

pub returns-then-head-clause-pixel : goal.returns-then-head-clause-pixel
returns-then-head-clause-pixel c = empty (goal.at.returns-then-head-clause-pixel c).After-find-head c.if-head.true

pub loop-at-init : goal.loop-at-init
loop-at-init c =
    let first = begins (goal.at.loop-at-init c).After-find-head in
    record {
      lists =
          pixel_begun c.args.pixel c.args.self.now c.self.inside.nodes.slots (segment_start c.self.inside.segments.items) (pixel_start c.self.inside.pixels.items)
          c.find-head.result.first c.self.invariant.lists first
          (seen_pixels c.self.inside.nodes.slots c.self.inside.segments.items c.self.inside.pixels.items c.args.self.now _ c.self.view_is)
          (seen_names c.self.inside.nodes.slots c.self.inside.segments.items c.self.inside.pixels.items c.args.self.now _ c.self.view_is);
      by_name = c.self.invariant.by_name;
      by_pixel = c.self.invariant.by_pixel;
      head = search rules;
      some = λ e. c.if-head.false (first ∙ e);
      room = omega (arith, c.self.invariant.fits, ap (λ (v : PassLists). v.spare) c.self.view_is);
    }

pub take_along-node-requires-clause-stored : goal.take_along-node-requires-clause-stored
take_along-node-requires-clause-stored c =
    pixel_first_stored c.args.pixel c.args.self.now c.loop-at.self-inside.nodes.slots (segment_start c.loop-at.self-inside.segments.items) (pixel_start c.loop-at.self-inside.pixels.items) c.loop-at.at c.loop-at.invariant.lists c.loop-at-test.true

pub loop-at-smaller : goal.loop-at-smaller
loop-at-smaller c =
    pixel_fewer c.args.pixel c.args.self.now c.loop-at.self-inside.nodes.slots c.take_along-node.new.nodes.slots (segment_start c.loop-at.self-inside.segments.items) (segment_start c.take_along-node.new.segments.items) (pixel_start c.loop-at.self-inside.pixels.items) c.loop-at.at c.take_along-node.result
    c.loop-at.invariant.lists c.loop-at-test.true c.take_along-node.ensures.node c.take_along-node.ensures.takes

pub loop-at-preserved : goal.loop-at-preserved
loop-at-preserved c = record {
  lists =
      pixel_more c.args.pixel c.args.self.now c.loop-at.self-inside.nodes.slots c.take_along-node.new.nodes.slots (segment_start c.loop-at.self-inside.segments.items) (segment_start c.take_along-node.new.segments.items) (pixel_start c.loop-at.self-inside.pixels.items) c.loop-at.at c.take_along-node.result
      c.loop-at.invariant.lists c.loop-at-test.true c.take_along-node.ensures.node c.take_along-node.ensures.takes;
  by_name = c.take_along-node.ensures.by_name;
  by_pixel = c.loop-at.invariant.by_pixel;
  head = c.loop-at.invariant.head;
  some = c.loop-at.invariant.some;
  room = omega (arith, c.loop-at.invariant.room, c.take_along-node.ensures.room, c.take_along-node.ensures.len, c.take_along-node.ensures.capacity);
}

-- the lists without those passes
without : (c : After-set_first) → IsWithoutPixel c.args.pixel c.args.self.now c.loop-at.self-inside.nodes.slots (segment_start c.loop-at.self-inside.segments.items) (pixel_start c.set_first.new.heads.items)
without c = pixel_done c.args.pixel c.args.self.now c.loop-at.self-inside.nodes.slots (segment_start c.loop-at.self-inside.segments.items) (pixel_start c.loop-at.self-inside.pixels.items) (pixel_start c.set_first.new.heads.items) c.loop-at.at c.loop-at.invariant.lists c.loop-at-test.false c.set_first.ensures.first

pub invariant_of-self : goal.invariant_of-self
invariant_of-self c = record {
  lists = (without (goal.at.invariant_of-self c).After-set_first).lists;
  by_name = c.loop-at.invariant.by_name;
  by_pixel = c.set_first.ensures.rise;
  fits = omega (arith, c.room_left-self-inside.ensures);
}

-- what contracts see
lists : (c : After-set_first) (n : Label) → pixels_of (seen c.loop-at.self-inside.nodes.slots c.loop-at.self-inside.segments.items c.set_first.new.heads.items 0) n ≡ pixels_from c.loop-at.self-inside.nodes.slots (segment_start c.loop-at.self-inside.segments.items n)
lists c = seen_pixels c.loop-at.self-inside.nodes.slots c.loop-at.self-inside.segments.items c.set_first.new.heads.items (seen c.loop-at.self-inside.nodes.slots c.loop-at.self-inside.segments.items c.set_first.new.heads.items 0) 0 refl

names : (c : After-set_first) (p : Point) → names_at (seen c.loop-at.self-inside.nodes.slots c.loop-at.self-inside.segments.items c.set_first.new.heads.items 0) p ≡ names_from c.loop-at.self-inside.nodes.slots (pixel_start c.set_first.new.heads.items p)
names c = seen_names c.loop-at.self-inside.nodes.slots c.loop-at.self-inside.segments.items c.set_first.new.heads.items (seen c.loop-at.self-inside.nodes.slots c.loop-at.self-inside.segments.items c.set_first.new.heads.items 0) 0 refl

pub returns-clause-segments : goal.returns-clause-segments
returns-clause-segments c =
    let t = (goal.at.returns-clause-segments c).After-set_first in
    λ x. lists t x ∙ (without t).segments x

pub returns-clause-pixel : goal.returns-clause-pixel
returns-clause-pixel c =
    let t = (goal.at.returns-clause-pixel c).After-set_first in
    names t c.args.pixel ∙ (without t).none

pub returns-clause-pixels : goal.returns-clause-pixels
returns-clause-pixels c =
    let t = (goal.at.returns-clause-pixels c).After-set_first in
    λ x apart. names t x ∙ (without t).pixels x apart
