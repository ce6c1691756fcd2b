-- One pixel of the run is linked after the other, each behind the node of the one before.
use Rattle.std.proofs.Common.{◌≡◌, ap, sym, ◌∙◌, subst, refl, arith, true, get_or}
use Rattle.std.specs.Prelude.{IfSome, pos}
use Rattle.std.proofs.lemmas.List.{take_more, drop_more, take_all, drop_all}
use Rattle.grid_core.specs.Name.{label_cmp}
use Rattle.pass_links.specs.Passes.{PassLists, has_pixel}
use Rattle.pass_links.specs.Chain.{IsPlace}
use Rattle.pass_links.specs.Node.{name_at, along_at}
use Rattle.pass_links.specs.Heads.{segment_start, pixel_start}
use Rattle.pass_links.specs.Lists.{pixels_from}
use Rattle.pass_links.specs.Positions.{IsHeadBefore, node_before}
use Rattle.pass_links.proofs.SeenLaws.{seen, seen_pixels, seen_names}
use Rattle.pass_links.proofs.RunLaws.{run_begun, run_more, run_linked}
use Rattle.pass_links.proofs.passes.Passes.link_run.Goals as goal

pub position_behind-place-requires-clause-behind : goal.position_behind-place-requires-clause-behind
position_behind-place-requires-clause-behind c =
    subst (λ ps. IfSome c.args.after (λ a. has_pixel ps a ≡ true))
    (seen_pixels c.self.inside.nodes.slots c.self.inside.segments.items c.self.inside.pixels.items c.args.self.now _ c.self.view_is c.args.name
    ∙ ap (λ hs. pixels_from c.self.inside.nodes.slots (segment_start hs c.args.name)) (sym c.deref.ensures.value))
    c.requires.behind

pub loop-pixel-init : goal.loop-pixel-init
loop-pixel-init c = record {
  lists =
      run_begun c.args.name c.args.after c.args.run.now c.args.self.now c.self.inside.nodes.slots
      (segment_start c.self.inside.segments.items) (pixel_start c.self.inside.pixels.items) (node_before c.position_behind-place.result.before) c.position_behind-place.result.at
      c.self.invariant.lists
      (subst (λ hs. IsPlace (along_at c.self.inside.nodes.slots) (segment_start hs) (name_at c.self.inside.nodes.slots) c.args.name
      (node_before c.position_behind-place.result.before) c.position_behind-place.result.at) c.deref.ensures.value c.position_behind-place.ensures.place)
      c.position_behind-place.ensures.through
      (seen_pixels c.self.inside.nodes.slots c.self.inside.segments.items c.self.inside.pixels.items c.args.self.now _ c.self.view_is)
      (seen_names c.self.inside.nodes.slots c.self.inside.segments.items c.self.inside.pixels.items c.args.self.now _ c.self.view_is)
      c.requires.fresh;
  head = subst (λ hs. IsHeadBefore label_cmp hs c.args.name c.position_behind-place.result.before) c.deref.ensures.value c.position_behind-place.ensures.head;
  by_name = c.self.invariant.by_name;
  by_pixel = c.self.invariant.by_pixel;
  spare = ap (λ (v : PassLists). v.spare) c.self.view_is;
  room = omega arith;
}

pub loop-pixel-preserved : goal.loop-pixel-preserved
loop-pixel-preserved c = record {
  lists =
      run_more c.args.name c.args.after c.args.run.now c.args.self.now (get_or c.args.run.now c.loop-pixel.pixel-index (record { x = pos 0; y = pos 0 })) c.link_at-key.result
      c.loop-pixel.invariant.lists
      (drop_more c.args.run.now c.loop-pixel.pixel-index (record { x = pos 0; y = pos 0 }) c.loop-pixel-test.true)
      (take_more c.args.run.now c.loop-pixel.pixel-index (record { x = pos 0; y = pos 0 }) c.loop-pixel-test.true)
      c.link_at-key.ensures.lists c.link_at-key.ensures.next c.link_at-key.ensures.through;
  head = tt;
  by_name = c.link_at-key.ensures.by_name;
  by_pixel = c.link_at-key.ensures.by_pixel;
  spare = c.loop-pixel.invariant.spare;
  room = omega arith;
}

pub returns-clause-segment : goal.returns-clause-segment
returns-clause-segment c =
    seen_pixels c.loop-pixel.self-inside.nodes.slots c.loop-pixel.self-inside.segments.items c.loop-pixel.self-inside.pixels.items
    (seen c.loop-pixel.self-inside.nodes.slots c.loop-pixel.self-inside.segments.items c.loop-pixel.self-inside.pixels.items 0) 0 refl c.args.name
    ∙ run_linked c.args.name c.args.after c.args.run.now c.args.self.now c.loop-pixel.invariant.lists (drop_all c.loop-pixel.pixel-index c.args.run.now c.loop-pixel-test.false)

pub returns-clause-segments : goal.returns-clause-segments
returns-clause-segments c =
    λ n apart.
    seen_pixels c.loop-pixel.self-inside.nodes.slots c.loop-pixel.self-inside.segments.items c.loop-pixel.self-inside.pixels.items
    (seen c.loop-pixel.self-inside.nodes.slots c.loop-pixel.self-inside.segments.items c.loop-pixel.self-inside.pixels.items 0) 0 refl n
    ∙ c.loop-pixel.invariant.lists.segments n apart

pub returns-clause-run : goal.returns-clause-run
returns-clause-run c =
    λ p in_run.
    seen_names c.loop-pixel.self-inside.nodes.slots c.loop-pixel.self-inside.segments.items c.loop-pixel.self-inside.pixels.items
    (seen c.loop-pixel.self-inside.nodes.slots c.loop-pixel.self-inside.segments.items c.loop-pixel.self-inside.pixels.items 0) 0 refl p
    ∙ c.loop-pixel.invariant.lists.here p (ap (λ ps. has_pixel ps p) (take_all c.loop-pixel.pixel-index c.args.run.now c.loop-pixel-test.false) ∙ in_run)

pub returns-clause-pixels : goal.returns-clause-pixels
returns-clause-pixels c =
    λ p apart.
    seen_names c.loop-pixel.self-inside.nodes.slots c.loop-pixel.self-inside.segments.items c.loop-pixel.self-inside.pixels.items
    (seen c.loop-pixel.self-inside.nodes.slots c.loop-pixel.self-inside.segments.items c.loop-pixel.self-inside.pixels.items 0) 0 refl p
    ∙ c.loop-pixel.invariant.lists.others p (ap (λ ps. has_pixel ps p) (take_all c.loop-pixel.pixel-index c.args.run.now c.loop-pixel-test.false) ∙ apart)
