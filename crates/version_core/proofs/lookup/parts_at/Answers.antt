use Rattle.std.proofs.Common.{◌∙◌, ap, map}
use Rattle.radix_map.specs.Entries.{value_at}
use Rattle.version_core.specs.Parts.{copied_part}
use Rattle.version_core.proofs.PartsFound.{values_begun, value_next, part_pushed}
use Rattle.version_core.proofs.lookup.parts_at.Goals as goal

-- src/lookup.rt
pub loop-p-init : goal.loop-p-init
loop-p-init c = (
  c.find_all-values.ensures
      ∙ ap (map (λ k. value_at k c.args.entries.now)) (c.deref.ensures.value ∙ c.in_ok-keys.ensures)
      ∙ values_begun c.args.entries.now c.args.placed.now,
  ap (map copied_part) c.in_ok-found.ensures.items,
)

pub loop-p-preserved : goal.loop-p-preserved
loop-p-preserved c =
    let es = c.args.entries.now in
    let ps = c.args.placed.now in
    let next = c.next_part-part.ensures _ _ (c.loop-p.invariant.0 ∙ value_next es ps c.loop-p.p-index _ c.loop-p-test.true) in (
      next.1,
      ap (map copied_part) c.in_ok-push.ensures.items
          ∙ part_pushed es ps c.loop-p.p-index _ c.loop-p-test.true c.loop-p.found.items c.next_part-part.result c.loop-p.invariant.1 next.0,
    )
