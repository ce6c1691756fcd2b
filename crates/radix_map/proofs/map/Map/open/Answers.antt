use Rattle.std.proofs.Common.{length, ap, sym, ◌∙◌}
use Rattle.radix_map.specs.Levels.{root_entries}
use Rattle.radix_map.proofs.Roots.{no_edits, none_rise}
use Rattle.radix_map.proofs.map.Map.open.Goals as goal

pub invariant_of-result : goal.invariant_of-result
invariant_of-result g c = record {
  counted = ap length (sym (no_edits (root_entries c.empty.result) c.empty-2.result c.empty-2.ensures ∙ c.empty.ensures));
  rise = none_rise c.empty-2.result c.empty-2.ensures;
}

pub returns : goal.returns
returns g c = no_edits (root_entries c.empty.result) c.empty-2.result c.empty-2.ensures ∙ c.empty.ensures
