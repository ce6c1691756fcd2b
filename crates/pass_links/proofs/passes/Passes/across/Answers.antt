use Rattle.std.proofs.Common.{◌≡◌, ap, sym, ◌∙◌, subst}
use Rattle.pass_links.specs.Lists.{names_from, IsWalkAcross}
use Rattle.pass_links.specs.Heads.{segment_start, pixel_start}
use Rattle.pass_links.proofs.PositionLaws.{free_of}
use Rattle.pass_links.proofs.SeenLaws.{seen_names, seen_linked}
use Rattle.pass_links.proofs.passes.Passes.across.Goals as goal
use Rattle.pass_links.proofs.passes.Passes.across.Goals.{After-find}

begins : (c : After-find) → c.find.result.first ≡ pixel_start c.self.inside.pixels.items c.args.pixel
begins c = c.find.ensures.first ∙ ap (λ l. pixel_start l c.args.pixel) c.deref.ensures.value

pub invariant_of-result : goal.invariant_of-result
invariant_of-result c =
    subst (IsWalkAcross c.self.inside.nodes.slots) (sym (begins c))
    (record {
      free = free_of c.self.inside.nodes.slots (segment_start c.self.inside.segments.items) c.self.invariant.lists.along;
      whole = c.self.invariant.lists.across.whole c.args.pixel;
    })

pub returns-clause-list : goal.returns-clause-list
returns-clause-list c =
    ap (names_from c.self.inside.nodes.slots) (begins c)
    ∙ sym (seen_names c.self.inside.nodes.slots c.self.inside.segments.items c.self.inside.pixels.items c.args.self.now _ c.self.view_is c.args.pixel)

pub returns-clause-kept : goal.returns-clause-kept
returns-clause-kept c =
    seen_linked c.self.inside.nodes.slots c.self.inside.segments.items c.self.inside.pixels.items c.args.self.now _ c.self.view_is c.self.invariant.lists
