use Rattle.std.proofs.Common.{rules, refl, sym, ◌∙◌, Some, subst}
use Rattle.pass_links.specs.Node.{pixel_at}
use Rattle.pass_links.specs.Heads.{pixel_start}
use Rattle.pass_links.specs.Positions.{IsThrough}
use Rattle.pass_links.proofs.PositionLaws.{found_pixel}
use Rattle.pass_links.proofs.positions.position_behind.Goals as goal

pub returns-in-Some-clause-through : goal.returns-in-Some-clause-through
returns-in-Some-clause-through c =
    subst (λ after. IsThrough (pixel_at c.args.nodes.now.slots) after (Some c.position_across-before.result.at)) (sym c.in-Some.is) (
      c.position_across-before.result.at,
      refl,
      found_pixel c.args.nodes.now.slots (pixel_start c.args.pixels.now) c.in-Some.after c.args.name _ c.position_across-before.result.at c.requires.lists.across
          c.position_across-before.ensures.place
          (sym c.position_across-before.ensures.found ∙ sym (c.requires.lists.linked.agree c.args.name c.in-Some.after) ∙ search rules),
    )
