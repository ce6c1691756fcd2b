use Rattle.std.proofs.Common.{rules, sym, ◌∙◌}
use Rattle.pass_links.specs.Lists.{pixels_from}
use Rattle.pass_links.proofs.WalkLaws.{Steps, along_step, along_done}
use Rattle.pass_links.specs.Node.{along_at}
use Rattle.pass_links.proofs.lists.AlongIterator.next.Goals as goal
use Rattle.pass_links.proofs.lists.AlongIterator.next.Goals.{In_ok-node}

passed : (c : In_ok-node) → Steps (along_at c.self.inside.nodes.now.slots) (pixels_from c.self.inside.nodes.now.slots) c.self.inside.at c.in_ok-node.node.next_of_segment c.in_ok-node.node.pixel
passed c =
    along_step c.self.inside.nodes.now.slots c.self.invariant.free c.self.inside.at c.in_ok-node.node (sym c.in_ok-node.ensures) c.self.invariant.whole

pub returns-in_err-node-clause-steps : goal.returns-in_err-node-clause-steps
returns-in_err-node-clause-steps c =
    let none = sym c.self.view_is ∙ along_done c.self.inside.nodes.now.slots c.self.inside.at (sym c.in_err-node.ensures) c.self.invariant.whole in search rules

pub invariant_of-self : goal.invariant_of-self
invariant_of-self c = record { free = c.self.invariant.free; whole = (passed (goal.at.invariant_of-self c).In_ok-node).whole }

pub returns-clause-steps : goal.returns-clause-steps
returns-clause-steps c = sym c.self.view_is ∙ (passed (goal.at.returns-clause-steps c).In_ok-node).first

pub returns-clause-goes : goal.returns-clause-goes
returns-clause-goes c =
    let first = sym c.self.view_is ∙ (passed (goal.at.returns-clause-goes c).In_ok-node).first in search rules
