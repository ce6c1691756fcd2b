-- What is linked among the nodes is what contracts see linked.
use Rattle.std.proofs.Common.{◌≡◌, ap, sym, ◌∙◌, subst, refl, arith, true}
use Rattle.std.specs.Prelude.{IfSome}
use Rattle.grid_core.specs.Name.{Label}
use Rattle.grid_core.specs.declared.point.Point.{Point}
use Rattle.pass_links.specs.Passes.{PassLists, pixels_of, names_at, has_pixel, linked_behind, with_name}
use Rattle.pass_links.specs.Chain.{IsPlace}
use Rattle.pass_links.specs.Node.{name_at, along_at}
use Rattle.pass_links.specs.Heads.{segment_start, pixel_start}
use Rattle.pass_links.specs.Lists.{pixels_from, names_from}
use Rattle.pass_links.specs.Positions.{node_before}
use Rattle.pass_links.specs.Filing.{AreLonger}
use Rattle.pass_links.proofs.SeenLaws.{seen, seen_pixels, seen_names}
use Rattle.pass_links.proofs.passes.Passes.link_between.Goals as goal
use Rattle.pass_links.proofs.passes.Passes.link_between.Goals.{After-link_at}

pub position_behind-place-requires-clause-behind : goal.position_behind-place-requires-clause-behind
position_behind-place-requires-clause-behind c =
    subst (λ ps. IfSome c.args.after (λ a. has_pixel ps a ≡ true))
    (seen_pixels c.self.inside.nodes.slots c.self.inside.segments.items c.self.inside.pixels.items c.args.self.now _ c.self.view_is c.args.name
    ∙ ap (λ hs. pixels_from c.self.inside.nodes.slots (segment_start hs c.args.name)) (sym c.deref.ensures.value))
    c.requires.behind

pub link_at-requires-clause-place : goal.link_at-requires-clause-place
link_at-requires-clause-place c =
    subst (λ hs. IsPlace (along_at c.self.inside.nodes.slots) (segment_start hs) (name_at c.self.inside.nodes.slots) c.args.name
    (node_before c.position_behind-place.result.before) c.position_behind-place.result.at) c.deref.ensures.value c.position_behind-place.ensures.place

pub link_at-requires-clause-fresh : goal.link_at-requires-clause-fresh
link_at-requires-clause-fresh c =
    ap (λ ps. has_pixel ps c.args.pixel)
    (sym (seen_pixels c.self.inside.nodes.slots c.self.inside.segments.items c.self.inside.pixels.items c.args.self.now _ c.self.view_is c.args.name))
    ∙ c.requires.fresh

-- the lists with the pass
longer : (c : After-link_at) → AreLonger c.self.inside.nodes.slots c.link_at.new.nodes.slots
    (segment_start c.self.inside.segments.items) (segment_start c.link_at.new.segments.items)
    (pixel_start c.self.inside.pixels.items) (pixel_start c.link_at.new.pixels.items) c.args.name c.args.pixel c.args.after
longer c = c.link_at.ensures.lists c.args.after c.position_behind-place.ensures.through

-- the lists that were there
was : (c : After-link_at) (n : Label) → pixels_of c.args.self.now n ≡ pixels_from c.self.inside.nodes.slots (segment_start c.self.inside.segments.items n)
was c = seen_pixels c.self.inside.nodes.slots c.self.inside.segments.items c.self.inside.pixels.items c.args.self.now _ c.self.view_is

had : (c : After-link_at) (p : Point) → names_at c.args.self.now p ≡ names_from c.self.inside.nodes.slots (pixel_start c.self.inside.pixels.items p)
had c = seen_names c.self.inside.nodes.slots c.self.inside.segments.items c.self.inside.pixels.items c.args.self.now _ c.self.view_is

-- those that are there now
abbrev now : After-link_at → PassLists
now c = seen c.link_at.new.nodes.slots c.link_at.new.segments.items c.link_at.new.pixels.items 0

is : (c : After-link_at) (n : Label) → pixels_of (now c) n ≡ pixels_from c.link_at.new.nodes.slots (segment_start c.link_at.new.segments.items n)
is c = seen_pixels c.link_at.new.nodes.slots c.link_at.new.segments.items c.link_at.new.pixels.items (now c) 0 refl

has : (c : After-link_at) (p : Point) → names_at (now c) p ≡ names_from c.link_at.new.nodes.slots (pixel_start c.link_at.new.pixels.items p)
has c = seen_names c.link_at.new.nodes.slots c.link_at.new.segments.items c.link_at.new.pixels.items (now c) 0 refl

pub invariant_of-self : goal.invariant_of-self
invariant_of-self c = record {
  lists = (longer (goal.at.invariant_of-self c).After-link_at).filed;
  by_name = c.link_at.ensures.by_name;
  by_pixel = c.link_at.ensures.by_pixel;
  fits = omega arith;
}

pub returns-clause-segment : goal.returns-clause-segment
returns-clause-segment c =
    let t = (goal.at.returns-clause-segment c).After-link_at in
    is t c.args.name ∙ (longer t).segment ∙ ap (linked_behind c.args.after c.args.pixel) (sym (was t c.args.name))

pub returns-clause-pixel : goal.returns-clause-pixel
returns-clause-pixel c =
    let t = (goal.at.returns-clause-pixel c).After-link_at in
    has t c.args.pixel ∙ (longer t).here ∙ ap (with_name c.args.name) (sym (had t c.args.pixel))

pub returns-clause-segments : goal.returns-clause-segments
returns-clause-segments c =
    let t = (goal.at.returns-clause-segments c).After-link_at in
    λ n apart. is t n ∙ (longer t).segments n apart ∙ sym (was t n)

pub returns-clause-pixels : goal.returns-clause-pixels
returns-clause-pixels c =
    let t = (goal.at.returns-clause-pixels c).After-link_at in
    λ p apart. has t p ∙ (longer t).pixels p apart ∙ sym (had t p)
