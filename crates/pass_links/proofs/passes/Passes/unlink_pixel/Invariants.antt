use Rattle.std.proofs.Common.{◌≢◌, ◌≤◌, ◌-◌, min, length}
use Rattle.std.specs.Vec.{vec_len, vec_capacity}
use Rattle.grid_core.specs.Name.{label_cmp}
use Rattle.grid_core.specs.Vector.{point_cmp}
use Rattle.pass_links.specs.Chain.{end}
use Rattle.pass_links.specs.Lists.{names_from}
use Rattle.pass_links.specs.Heads.{Rise, IsHeadPlace, segment_start, pixel_start}
use Rattle.pass_links.proofs.UnlinkLaws.{UnlinksPixel}
use Rattle.pass_links.proofs.passes.Passes.unlink_pixel.Given as goal

abbrev pub invariant-loop-at : goal.invariant-loop-at
invariant-loop-at l = record {
  lists : UnlinksPixel l.pixel l.fn.self l.self-inside.nodes.slots (segment_start l.self-inside.segments.items) (pixel_start l.self-inside.pixels.items) l.at;
  by_name : Rise label_cmp l.self-inside.segments.items;
  by_pixel : Rise point_cmp l.self-inside.pixels.items;
  head : IsHeadPlace point_cmp l.self-inside.pixels.items l.pixel l.head.place;
  some : pixel_start l.self-inside.pixels.items l.pixel ≢ end;
  room : l.fn.self.spare ≤ min l.self-inside.nodes.room
      (min (vec_capacity l.self-inside.segments - vec_len l.self-inside.segments) (vec_capacity l.self-inside.pixels - vec_len l.self-inside.pixels));
}

abbrev pub decreases-loop-at : goal.decreases-loop-at
decreases-loop-at l = length (names_from l.self-inside.nodes.slots l.at)
