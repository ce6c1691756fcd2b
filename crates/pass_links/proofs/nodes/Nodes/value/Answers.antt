use Rattle.std.proofs.Common.{ap, sym, ◌∙◌, Some}
use Rattle.pass_links.proofs.StoredLaws.{has_links, some_seen}
use Rattle.pass_links.proofs.nodes.Nodes.value.Goals as goal

pub index-requires : goal.index-requires
index-requires c = has_links _ _ _ c.self.invariant c.self.view_is c.args.key c.requires

pub returns : goal.returns
returns c =
    some_seen _ _ _ c.self.invariant c.self.view_is c.args.key c.index.result.now c.index-2.result.now c.index.ensures c.index-2.ensures
    ∙ ap Some (sym c.with_pixel.ensures)
