use Rattle.std.proofs.Common.{◌≡◌, option_copied, ap, subst, ◌∙◌, rules}
use Rattle.radix_map.specs.Levels.{root_entries}
use Rattle.radix_map.specs.Entries.{value_at, Rises, keys_end}
use Rattle.radix_map.proofs.Roots.{found_set, found_below, root_rises, noted_rise}
use Rattle.radix_map.proofs.map.Map.get.Goals as goal

pub returns-in-Some-clause-value : goal.returns-in-Some-clause-value
returns-in-Some-clause-value g c =
    let m = c.self.inside in
    let key = c.args.key in
    found_set (root_entries m.root) key m.pending c.in-Some.value.now (option_copied c.set_value.result) (root_rises m.root) c.self.invariant.rise (c.in-Some.ensures ∙ ap (value_at key) c.rest.ensures) c.set_value.ensures ∙ ap (value_at key) c.self.view_is

pub returns-in-None-clause-value : goal.returns-in-None-clause-value
returns-in-None-clause-value g c =
    let m = c.self.inside in
    let key = c.args.key in
    let tree : option_copied c.get.result ≡ value_at key (root_entries m.root) = search rules in
    found_below (root_entries m.root) key m.pending (option_copied c.get.result) (root_rises m.root) c.self.invariant.rise (c.in-None.ensures ∙ ap (value_at key) c.rest.ensures) tree ∙ ap (value_at key) c.self.view_is

pub returns-in-Some-clause-kept : goal.returns-in-Some-clause-kept
returns-in-Some-clause-kept g c =
    let m = c.self.inside in
    subst (Rises 0 keys_end) c.self.view_is (noted_rise m.root m.pending c.self.invariant.rise)

pub returns-in-None-clause-kept : goal.returns-in-None-clause-kept
returns-in-None-clause-kept g c =
    let m = c.self.inside in
    subst (Rises 0 keys_end) c.self.view_is (noted_rise m.root m.pending c.self.invariant.rise)
