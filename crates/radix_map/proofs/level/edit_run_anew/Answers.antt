use Rattle.std.proofs.Common.{◌+◌, ◌*◌, ◌^◌, ap, sym, ◌∙◌, subst, length, option_map, None}
use Rattle.std.specs.Arc.{arc_value}
use Rattle.radix_map.specs.Entries.{entries_of, edited_within, Counts}
use Rattle.radix_map.proofs.Trees.{node_edited, node_counted}
use Rattle.radix_map.proofs.level.edit_run_anew.Goals as goal

pub returns-clause-ok : goal.returns-clause-ok
returns-clause-ok g c =
    let f = g.L.Level.entries in
    let s = g.L.Level.bits in
    let step = 2 ^ (s + 4) in
    let xs = c.args.slots.now in
    let w = option_map arc_value c.in_ok-item.item in
    let t = c.in_ok-tally.tally in
    let did = c.in_ok-tally.ensures.ok in
    let none = c.in_ok-child.ensures ∙ c.empty.ensures in
    let counted : Counts 0 (length (f c.edit.new.self)) t.added t.removed = subst (λ es. Counts (length es) (length (f c.edit.new.self)) t.added t.removed) none did.counted in
    record {
      made = ap (entries_of f step) c.in_ok-put.ensures.ok ∙ node_edited f s g.met.L.Level.rises xs c.args.shift c.args.at None w c.args.run.now c.requires.level c.requires.at c.requires.wide c.requires.run (sym c.requires.free) (c.in_ok-item.ensures ∙ did.made ∙ ap (λ es. edited_within (16 * 2 ^ s) es c.args.run.now) none);
      counted = subst (λ ys. Counts (length (entries_of f step xs)) (length (entries_of f step ys)) t.added t.removed) (sym c.in_ok-put.ensures.ok) (node_counted f step xs c.args.at None w (f c.edit.new.self) t.added t.removed c.requires.at c.requires.wide (sym c.requires.free) c.in_ok-item.ensures counted);
      few_added = did.few_added;
      few_removed = did.few_removed;
    }
