use Rattle.std.proofs.Common.{ap, sym, ◌∙◌}
use Rattle.std.proofs.lemmas.Cmp.{eq_by_cmp_equiv}
use Rattle.grid_core.specs.Name.{label_eq}
use Rattle.grid_core.proofs.Order.{label_total}
use Rattle.pass_links.specs.Chain.{is_of}
use Rattle.pass_links.specs.Node.{name_of}
use Rattle.grid_core.proofs.Comparisons.{name_test}
use Rattle.pass_links.proofs.SeenLaws.{seen_has}
use Rattle.pass_links.proofs.passes.Passes.has.Goals as goal

pub returns-in-Some : goal.returns-in-Some
returns-in-Some c =
    c.eq.ensures ∙ name_test c.in-Some.node.name c.args.name ∙ (eq_by_cmp_equiv label_total).symm c.in-Some.node.name c.args.name
    ∙ ap (λ o. is_of label_eq c.args.name (name_of o)) c.in-Some.ensures ∙ sym c.position_across-place.ensures.found
    ∙ sym (seen_has c.self.inside.nodes.slots c.self.inside.segments.items c.self.inside.pixels.items c.args.self.now _ c.self.view_is c.self.invariant.lists
    c.deref.result.now c.deref.ensures.value c.args.name c.args.pixel)

pub returns-in-None : goal.returns-in-None
returns-in-None c =
    ap (λ o. is_of label_eq c.args.name (name_of o)) c.in-None.ensures ∙ sym c.position_across-place.ensures.found
    ∙ sym (seen_has c.self.inside.nodes.slots c.self.inside.segments.items c.self.inside.pixels.items c.args.self.now _ c.self.view_is c.self.invariant.lists
    c.deref.result.now c.deref.ensures.value c.args.name c.args.pixel)
