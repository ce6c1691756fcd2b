use Rattle.std.proofs.Common.{inl, ◌≤◌, length, ◌∙◌, subst, sym, arith}
use Rattle.std.proofs.lemmas.Iterator.Consumers.{count_from_yields_List, YieldsList-from_first}
use Rattle.radix_map.specs.Levels.{root_entries}
use Rattle.radix_map.specs.Entries.{edited_all, keys_end}
use Rattle.radix_map.proofs.Cuts.{from_zero}
use Rattle.radix_map.proofs.Roots.{edited_size}
use Rattle.radix_map.proofs.map.count.Goals as goal

pub count-requires-clause-fits : goal.count-requires-clause-fits
count-requires-clause-fits g c =
    let all = c.of.ensures ∙ from_zero _ in
    let small : length c.of.result ≤ keys_end = subst (λ (es : _). length es ≤ keys_end) (sym all) (edited_size c.args.root.now c.args.edits.now c.requires) in
    inl (omega arith)

pub returns : goal.returns
returns g c =
    count_from_yields_List c.of.result c.count.result c.count.ensures.ran
    (YieldsList-from_first (λ (p : _). (p.0, p.1.now)) (λ s. s) (edited_all (root_entries c.args.root.now) c.args.edits.now) (c.of.ensures ∙ from_zero _))
