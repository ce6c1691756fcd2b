use Rattle.std.proofs.Common.{◌≡◌, ◌≤◌, ◌+◌, ◌-◌, min}
use Rattle.std.specs.Vec.{vec_len, vec_capacity}
use Rattle.grid_core.specs.Name.{label_cmp}
use Rattle.grid_core.specs.Vector.{point_cmp}
use Rattle.pass_links.specs.Heads.{Rise, segment_start, pixel_start}
use Rattle.pass_links.specs.Positions.{node_before, IsHeadBefore}
use Rattle.pass_links.proofs.RunLaws.{LinksRun}
use Rattle.pass_links.proofs.passes.Passes.link_run.Given as goal

abbrev pub invariant-loop-pixel : goal.invariant-loop-pixel
invariant-loop-pixel l = record {
  lists : LinksRun l.name l.fn.after l.run l.fn.self l.pixel-index l.self-inside.nodes.slots (segment_start l.self-inside.segments.items)
      (pixel_start l.self-inside.pixels.items) (node_before l.place.before) l.place.at;
  head : IsHeadBefore label_cmp l.self-inside.segments.items l.name l.place.before;
  by_name : Rise label_cmp l.self-inside.segments.items;
  by_pixel : Rise point_cmp l.self-inside.pixels.items;
  spare : l.self-inside.spare ≡ l.fn.self.spare;
  room : l.self-inside.spare ≤ min l.self-inside.nodes.room
      (min (vec_capacity l.self-inside.segments - vec_len l.self-inside.segments) (vec_capacity l.self-inside.pixels - vec_len l.self-inside.pixels)) + l.pixel-index;
}
