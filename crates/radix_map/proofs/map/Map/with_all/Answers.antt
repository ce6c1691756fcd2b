use Rattle.std.proofs.Common.{length, ap, ◌∙◌, refl, arith}
use Rattle.radix_map.specs.Levels.{root_entries}
use Rattle.radix_map.specs.Entries.{edited_all}
use Rattle.radix_map.proofs.Roots.{root_size, root_edited, no_edits, none_rise, noted_rise}
use Rattle.radix_map.proofs.map.Map.with_all.Goals as goal

pub overflow_add-result : goal.overflow_add-result
overflow_add-result g c =
    let m = c.self.inside in
    let before = ap length (root_edited c.in_ok-root.root c.edit.new.self m.root c.rest.result.now m.pending c.rest.ensures c.in_ok-edit.ensures.fit c.in_ok-root.ensures c.in_ok-edit.ensures.ok.made) in
    let size = root_size c.edit.new.self in
    omega (arith, c.self.invariant.counted, c.in_ok-tally.ensures.ok.few_added)

pub overflow_sub-result : goal.overflow_sub-result
overflow_sub-result g c =
    let m = c.self.inside in
    let before = ap length (root_edited c.in_ok-root.root c.edit.new.self m.root c.rest.result.now m.pending c.rest.ensures c.in_ok-edit.ensures.fit c.in_ok-root.ensures c.in_ok-edit.ensures.ok.made) in
    omega (arith, c.self.invariant.counted, c.in_ok-tally.ensures.ok.counted)

pub invariant_of-result : goal.invariant_of-result
invariant_of-result g c =
    let m = c.self.inside in
    let before = ap length (root_edited c.in_ok-root.root c.edit.new.self m.root c.rest.result.now m.pending c.rest.ensures c.in_ok-edit.ensures.fit c.in_ok-root.ensures c.in_ok-edit.ensures.ok.made) in
    let after = ap length (no_edits (root_entries c.edit-2.new.self) c.empty.result c.empty.ensures) in
    record {
      counted = omega (arith, c.self.invariant.counted, c.in_ok-tally.ensures.ok.counted);
      rise = none_rise c.empty.result c.empty.ensures;
    }

pub returns-clause-value : goal.returns-clause-value
returns-clause-value g c =
    let m = c.self.inside in
    let edits = c.args.edits.now in
    let before = root_edited c.in_ok-root.root c.edit.new.self m.root c.rest.result.now m.pending c.rest.ensures c.in_ok-edit.ensures.fit c.in_ok-root.ensures c.in_ok-edit.ensures.ok.made in
    no_edits (root_entries c.edit-2.new.self) c.empty.result c.empty.ensures ∙ root_edited c.edit.new.self c.edit-2.new.self c.edit.new.self edits edits refl c.in_ok-tally.ensures.fit refl c.in_ok-tally.ensures.ok.made ∙ ap (λ es. edited_all es edits) (before ∙ c.self.view_is)

pub returns-clause-kept : goal.returns-clause-kept
returns-clause-kept g c = noted_rise c.edit-2.new.self c.empty.result (none_rise c.empty.result c.empty.ensures)
