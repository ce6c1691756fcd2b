use Rattle.std.proofs.Common.{◌≡◌, ◌≤◌, ◌+◌, ap, ◌∙◌, length, take, is_some, count_by, arith}
use Rattle.slab.specs.Slab.{Slab, slab_len}
use Rattle.pass_links.specs.declared.nodes.Links.{Links}
use Rattle.pass_links.specs.Nodes.{Slots}
use Rattle.pass_links.proofs.StoredLaws.{nodes_of_same, begins_when_filled}
use Rattle.pass_links.proofs.nodes.Nodes.reserve.Goals as goal

pub returns-clause-slots : goal.returns-clause-slots
returns-clause-slots c =
    let links = c.self.inside.links in
    let pixels = c.self.inside.pixels.items in
    let same : c.reserve.new.self.slots ≡ links.slots = ap (λ (s : Slab Links). s.slots) c.in_ok-reserve.ensures.rest_kept ∙ c.in_ok-links.ensures in
    let as_many : slab_len c.reserve.new.self ≡ slab_len links = ap (count_by is_some) same in
    let room : slab_len c.reserve.new.self + c.args.more ≤ c.reserve.new.self.capacity = c.in_ok-reserve.ensures.room in
    let seen = ap (λ (s : Slots). s.room) c.self.view_is in
    let more : length pixels ≤ c.in_ok-keys.keys =
    omega (arith, as_many, room, c.room.ensures, seen, c.in_ok-keys.ensures.all, c.self.invariant.pixel_count, c.if-more-room.false) in
    nodes_of_same links.slots c.reserve.new.self.slots pixels c.resize.new.self.items (length pixels) c.in_ok-keys.keys same
    (ap (take (length pixels)) c.in_ok-resize.ensures.items ∙ begins_when_filled pixels _ c.in_ok-keys.keys more)
    c.self.invariant.slot_count (omega (arith, c.self.invariant.slot_count, more))
    ∙ ap (λ (s : Slots). s.slots) c.self.view_is
