use Rattle.std.proofs.Common.{rules, sym, ◌∙◌}
use Rattle.pass_links.specs.Lists.{names_from}
use Rattle.pass_links.proofs.WalkLaws.{Steps, across_step, across_done}
use Rattle.pass_links.specs.Node.{across_at}
use Rattle.pass_links.proofs.lists.AcrossIterator.next.Goals as goal
use Rattle.pass_links.proofs.lists.AcrossIterator.next.Goals.{In_ok-node}

passed : (c : In_ok-node) → Steps (across_at c.self.inside.nodes.now.slots) (names_from c.self.inside.nodes.now.slots) c.self.inside.at c.in_ok-node.node.next_of_pixel c.in_ok-node.node.name
passed c =
    across_step c.self.inside.nodes.now.slots c.self.invariant.free c.self.inside.at c.in_ok-node.node (sym c.in_ok-node.ensures) c.self.invariant.whole

pub returns-in_err-node-clause-steps : goal.returns-in_err-node-clause-steps
returns-in_err-node-clause-steps c =
    let none = sym c.self.view_is ∙ across_done c.self.inside.nodes.now.slots c.self.inside.at (sym c.in_err-node.ensures) c.self.invariant.whole in search rules

pub invariant_of-self : goal.invariant_of-self
invariant_of-self c = record { free = c.self.invariant.free; whole = (passed (goal.at.invariant_of-self c).In_ok-node).whole }

pub returns-clause-steps : goal.returns-clause-steps
returns-clause-steps c = sym c.self.view_is ∙ (passed (goal.at.returns-clause-steps c).In_ok-node).first

pub returns-clause-goes : goal.returns-clause-goes
returns-clause-goes c =
    let first = sym c.self.view_is ∙ (passed (goal.at.returns-clause-goes c).In_ok-node).first in search rules
