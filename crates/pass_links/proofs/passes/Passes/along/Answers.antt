use Rattle.std.proofs.Common.{◌≡◌, ap, sym, ◌∙◌, subst}
use Rattle.pass_links.specs.Lists.{pixels_from, IsWalkAlong}
use Rattle.pass_links.specs.Heads.{segment_start}
use Rattle.pass_links.proofs.PositionLaws.{free_of}
use Rattle.pass_links.proofs.SeenLaws.{seen_pixels, seen_linked}
use Rattle.pass_links.proofs.passes.Passes.along.Goals as goal
use Rattle.pass_links.proofs.passes.Passes.along.Goals.{After-find}

begins : (c : After-find) → c.find.result.first ≡ segment_start c.self.inside.segments.items c.args.name
begins c = c.find.ensures.first ∙ ap (λ l. segment_start l c.args.name) c.deref.ensures.value

pub invariant_of-result : goal.invariant_of-result
invariant_of-result c =
    subst (IsWalkAlong c.self.inside.nodes.slots) (sym (begins c))
    (record {
      free = free_of c.self.inside.nodes.slots (segment_start c.self.inside.segments.items) c.self.invariant.lists.along;
      whole = c.self.invariant.lists.along.whole c.args.name;
    })

pub returns-clause-list : goal.returns-clause-list
returns-clause-list c =
    ap (pixels_from c.self.inside.nodes.slots) (begins c)
    ∙ sym (seen_pixels c.self.inside.nodes.slots c.self.inside.segments.items c.self.inside.pixels.items c.args.self.now _ c.self.view_is c.args.name)

pub returns-clause-kept : goal.returns-clause-kept
returns-clause-kept c =
    seen_linked c.self.inside.nodes.slots c.self.inside.segments.items c.self.inside.pixels.items c.args.self.now _ c.self.view_is c.self.invariant.lists
