use Rattle.std.proofs.Common.{length, ap, sym, ◌∙◌, subst, arith}
use Rattle.radix_map.specs.Levels.{root_entries}
use Rattle.radix_map.specs.Entries.{Rises, edited_all, keys_end}
use Rattle.radix_map.specs.Rising.{rises-length}
use Rattle.radix_map.proofs.Noted.{edited_plainly, rises_plainly}
use Rattle.radix_map.proofs.Roots.{root_size, root_carried, root_part, part_rises, no_edits, none_rise}
use Rattle.radix_map.proofs.map.Map.edit_noted.Goals as goal

pub overflow_add-self : goal.overflow_add-self
overflow_add-self g c =
    let m = c.self.inside in
    let noted = c.note.new.self in
    let before = ap length (no_edits (root_entries m.root) m.pending (c.is_empty.ensures c.if-not-is_empty.false)) in
    let rise = rises_plainly 0 keys_end noted c.args.edits.now c.in_ok-note.ensures.ok (c.rise.ensures c.if-not-rise.false) in
    let few = rises-length 0 keys_end noted rise in
    let count = ap length c.rest-noted.ensures in
    let size = root_size m.root in
    omega (arith, c.self.invariant.counted, c.in-Ok.ensures.few)

pub overflow_sub-self : goal.overflow_sub-self
overflow_sub-self g c =
    let m = c.self.inside in
    let before = ap length (no_edits (root_entries m.root) m.pending (c.is_empty.ensures c.if-not-is_empty.false)) in
    omega (arith, c.self.invariant.counted, c.in-Ok.ensures.counted)

pub invariant_of-self-in-Ok : goal.invariant_of-self-in-Ok
invariant_of-self-in-Ok g c =
    let m = c.self.inside in
    let before = ap length (no_edits (root_entries m.root) m.pending (c.is_empty.ensures c.if-not-is_empty.false)) in
    let after = ap length (no_edits (root_entries c.carry-carried.new.self) c.clear.new.self c.clear.ensures) in
    record {
      counted = omega (arith, c.self.invariant.counted, c.in-Ok.ensures.counted);
      rise = none_rise c.clear.new.self c.clear.ensures;
    }

pub returns-in-Ok-clause-ok : goal.returns-in-Ok-clause-ok
returns-in-Ok-clause-ok g c =
    let m = c.self.inside in
    let edits = c.args.edits.now in
    let noted = c.note.new.self in
    let x = c.carry-carried.new.self in
    let none = c.is_empty.ensures c.if-not-is_empty.false in
    let rise = rises_plainly 0 keys_end noted edits c.in_ok-note.ensures.ok (c.rise.ensures c.if-not-rise.false) in
    let count = ap length c.rest-noted.ensures in
    no_edits (root_entries x) c.clear.new.self c.clear.ensures ∙ root_carried m.root x noted (length c.rest-noted.result.now) (omega arith) rise c.in-Ok.ensures.ok ∙ edited_plainly (root_entries m.root) noted edits c.in_ok-note.ensures.ok ∙ ap (λ es. edited_all es edits) (sym (no_edits (root_entries m.root) m.pending none) ∙ c.self.view_is)

pub count-self-inside-requires : goal.count-self-inside-requires
count-self-inside-requires g c =
    let noted = c.note.new.self in
    let rise = rises_plainly 0 keys_end noted c.args.edits.now c.in_ok-note.ensures.ok (c.rise.ensures c.if-not-rise.false) in
    subst (Rises 0 keys_end) (sym c.rest.ensures) (part_rises c.self.inside.root c.carry-carried.new.self noted c.carry-carried.new.note (length c.rest-noted.result.now) rise c.in-Err.ensures.err)

pub invariant_of-self-in-Err : goal.invariant_of-self-in-Err
invariant_of-self-in-Err g c =
    let noted = c.note.new.self in
    let rise = rises_plainly 0 keys_end noted c.args.edits.now c.in_ok-note.ensures.ok (c.rise.ensures c.if-not-rise.false) in
    record {
      counted = c.count-self-inside.ensures ∙ ap (λ (ps : _). length (edited_all (root_entries c.carry-carried.new.self) ps)) c.rest.ensures;
      rise = part_rises c.self.inside.root c.carry-carried.new.self noted c.carry-carried.new.note (length c.rest-noted.result.now) rise c.in-Err.ensures.err;
    }

pub returns-in-Err-clause-ok : goal.returns-in-Err-clause-ok
returns-in-Err-clause-ok g c =
    let m = c.self.inside in
    let edits = c.args.edits.now in
    let noted = c.note.new.self in
    let none = c.is_empty.ensures c.if-not-is_empty.false in
    let rise = rises_plainly 0 keys_end noted edits c.in_ok-note.ensures.ok (c.rise.ensures c.if-not-rise.false) in
    root_part m.root c.carry-carried.new.self noted c.carry-carried.new.note (length c.rest-noted.result.now) rise c.in-Err.ensures.err ∙ edited_plainly (root_entries m.root) noted edits c.in_ok-note.ensures.ok ∙ ap (λ es. edited_all es edits) (sym (no_edits (root_entries m.root) m.pending none) ∙ c.self.view_is)
