use Rattle.std.proofs.Common.{length, ap, sym, ◌∙◌, arith}
use Rattle.radix_map.specs.Levels.{root_entries}
use Rattle.radix_map.proofs.Roots.{root_carried, root_part, part_rises, no_edits, none_rise}
use Rattle.radix_map.proofs.map.Map.carry_noted.Goals as goal

pub invariant_of-self : goal.invariant_of-self
invariant_of-self g c =
    let m = c.self.inside in
    let x = c.carry-carried.new.self in
    let size = ap length c.rest-noted.ensures in
    let whole = root_carried m.root x m.pending (length c.rest-noted.result.now) (omega arith) c.self.invariant.rise c.in-Ok.ensures.ok in
    record {
      counted = c.self.invariant.counted ∙ ap length (sym (no_edits (root_entries x) c.clear.new.self c.clear.ensures ∙ whole));
      rise = none_rise c.clear.new.self c.clear.ensures;
    }

pub returns-in-Ok : goal.returns-in-Ok
returns-in-Ok g c =
    let m = c.self.inside in
    let x = c.carry-carried.new.self in
    let size = ap length c.rest-noted.ensures in
    no_edits (root_entries x) c.clear.new.self c.clear.ensures ∙ root_carried m.root x m.pending (length c.rest-noted.result.now) (omega arith) c.self.invariant.rise c.in-Ok.ensures.ok ∙ c.self.view_is

pub invariant_of-self-in-Err : goal.invariant_of-self-in-Err
invariant_of-self-in-Err g c =
    let m = c.self.inside in
    let x = c.carry-carried.new.self in
    let n = length c.rest-noted.result.now in
    let left = c.carry-carried.new.note in
    record {
      counted = c.self.invariant.counted ∙ ap length (sym (root_part m.root x m.pending left n c.self.invariant.rise c.in-Err.ensures.err));
      rise = part_rises m.root x m.pending left n c.self.invariant.rise c.in-Err.ensures.err;
    }

pub returns-in-Err : goal.returns-in-Err
returns-in-Err g c =
    let m = c.self.inside in
    root_part m.root c.carry-carried.new.self m.pending c.carry-carried.new.note (length c.rest-noted.result.now) c.self.invariant.rise c.in-Err.ensures.err ∙ c.self.view_is
