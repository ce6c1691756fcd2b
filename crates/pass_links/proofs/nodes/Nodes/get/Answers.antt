use Rattle.std.proofs.Common.{ap, sym, ◌∙◌, Some}
use Rattle.pass_links.proofs.StoredLaws.{none_seen, some_seen}
use Rattle.pass_links.proofs.nodes.Nodes.get.Goals as goal

pub returns-in_err-links : goal.returns-in_err-links
returns-in_err-links c =
    c.from_residual.ensures ∙ sym (none_seen _ _ _ c.self.invariant c.self.view_is c.args.key (sym c.in_err-links.ensures))

pub returns : goal.returns
returns c =
    ap Some c.with_pixel.ensures
    ∙ sym (some_seen _ _ _ c.self.invariant c.self.view_is c.args.key c.in_ok-links.links.now c.index.result.now (sym c.in_ok-links.ensures) c.index.ensures)
