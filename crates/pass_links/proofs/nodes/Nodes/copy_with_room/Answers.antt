use Rattle.std.proofs.Common.{◌≡◌, ap, ◌∙◌, length, arith}
use Rattle.slab.specs.Slab.{Slab}
use Rattle.pass_links.specs.declared.nodes.Links.{Links}
use Rattle.pass_links.specs.Nodes.{Slots}
use Rattle.pass_links.proofs.StoredLaws.{nodes_of_same}
use Rattle.pass_links.proofs.nodes.Nodes.copy_with_room.Goals as goal

pub returns-clause-slots : goal.returns-clause-slots
returns-clause-slots c =
    let pixels = c.self.inside.pixels.items in
    let same : c.reserve_exact.new.self.slots ≡ c.self.inside.links.slots = ap (λ (s : Slab Links). s.slots) c.in_ok-reserve_exact.ensures.rest_kept ∙ c.in_ok-links.ensures in
    nodes_of_same c.self.inside.links.slots c.reserve_exact.new.self.slots pixels c.in_ok-pixels.pixels.items (length pixels) c.in_ok-keys.keys same
    c.in_ok-pixels.ensures.same c.self.invariant.slot_count (omega (arith, c.in_ok-keys.ensures.slots, ap length same))
    ∙ ap (λ (s : Slots). s.slots) c.self.view_is
