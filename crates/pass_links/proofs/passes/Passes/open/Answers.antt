use Rattle.pass_links.proofs.SeenLaws.{filed_empty, pixels_empty, names_empty}
use Rattle.pass_links.proofs.passes.Passes.open.Goals as goal

pub invariant_of-result : goal.invariant_of-result
invariant_of-result c =
    filed_empty c.new.result.slots c.new-2.result.items c.new-3.result.items c.new.ensures.slots c.new-2.ensures.items c.new-3.ensures.items _

pub returns-clause-segments : goal.returns-clause-segments
returns-clause-segments c =
    pixels_empty c.new.result.slots c.new-2.result.items c.new-3.result.items c.new.ensures.slots c.new-2.ensures.items c.new-3.ensures.items

pub returns-clause-pixels : goal.returns-clause-pixels
returns-clause-pixels c =
    names_empty c.new.result.slots c.new-2.result.items c.new-3.result.items c.new.ensures.slots c.new-2.ensures.items c.new-3.ensures.items
