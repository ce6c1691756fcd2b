use Rattle.std.proofs.Common.{length, ap, sym, ◌∙◌, refl, arith}
use Rattle.radix_map.specs.Levels.{root_entries}
use Rattle.radix_map.specs.Entries.{edited_all}
use Rattle.radix_map.proofs.Roots.{root_size, root_edited, no_edits}
use Rattle.radix_map.proofs.map.Map.edit_alone.Goals as goal

pub overflow_add-self : goal.overflow_add-self
overflow_add-self g c =
    let m = c.self.inside in
    let before = ap length (no_edits (root_entries m.root) m.pending (c.is_empty.ensures c.if-not-is_empty.false)) in
    let size = root_size m.root in
    omega (arith, c.self.invariant.counted, c.in_ok-tally.ensures.ok.few_added)

pub overflow_sub-self : goal.overflow_sub-self
overflow_sub-self g c =
    let m = c.self.inside in
    let before = ap length (no_edits (root_entries m.root) m.pending (c.is_empty.ensures c.if-not-is_empty.false)) in
    omega (arith, c.self.invariant.counted, c.in_ok-tally.ensures.ok.counted)

pub invariant_of-self-2 : goal.invariant_of-self-2
invariant_of-self-2 g c =
    let m = c.self.inside in
    let none = c.is_empty.ensures c.if-not-is_empty.false in
    let before = ap length (no_edits (root_entries m.root) m.pending none) in
    let after = ap length (no_edits (root_entries c.edit.new.self) m.pending none) in
    record {
      counted = omega (arith, c.self.invariant.counted, c.in_ok-tally.ensures.ok.counted);
      rise = c.self.invariant.rise;
    }

pub returns-clause-ok : goal.returns-clause-ok
returns-clause-ok g c =
    let m = c.self.inside in
    let edit = c.args.edit.now in
    let none = c.is_empty.ensures c.if-not-is_empty.false in
    no_edits (root_entries c.edit.new.self) m.pending none ∙ root_edited m.root c.edit.new.self m.root edit edit refl c.in_ok-tally.ensures.fit refl c.in_ok-tally.ensures.ok.made ∙ ap (λ es. edited_all es edit) (sym (no_edits (root_entries m.root) m.pending none) ∙ c.self.view_is)
