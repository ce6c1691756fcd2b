use Rattle.std.proofs.Common.{sym, subst, ap, ◌∙◌, arith}
use Rattle.radix_map.specs.Entries.{Rises, entries_from, edited_all, keys_end}
use Rattle.radix_map.specs.Levels.{root_entries}
use Rattle.radix_map.proofs.Cuts.{from_keeps}
use Rattle.radix_map.proofs.Laws.{from_edited_all}
use Rattle.radix_map.proofs.Noted.{fit_from_rises}
use Rattle.radix_map.proofs.Roots.{root_rises}
use Rattle.radix_map.proofs.entries.Entries.of.Goals as goal

pub invariant_of-result : goal.invariant_of-result
invariant_of-result g c =
    let from = c.args.from in
    let es = root_entries c.args.root.now in
    let edits = c.args.pending.now in (
      subst (Rises 0 keys_end) (sym c.of.ensures) (from_keeps from 0 keys_end es (root_rises c.args.root.now)),
      subst (Rises 0 keys_end) (sym c.edits_from.ensures) (from_keeps from 0 keys_end edits c.requires),
    )

pub returns : goal.returns
returns g c =
    let from = c.args.from in
    let es = root_entries c.args.root.now in
    let edits = c.args.pending.now in
    ap (λ t. edited_all t c.edits_from.result.now) c.of.ensures ∙ ap (edited_all (entries_from from es)) c.edits_from.ensures
    ∙ sym (from_edited_all from es edits (omega (arith, c.ranges.from.fits)) (root_rises c.args.root.now) (fit_from_rises 0 edits c.requires))
