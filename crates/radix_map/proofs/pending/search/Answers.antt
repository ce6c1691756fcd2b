use Rattle.std.proofs.Common.{option_copied, sym, ap, subst, ◌∙◌, arith}
use Rattle.radix_map.specs.Entries.{Rises, value_at, keys_end}
use Rattle.radix_map.proofs.Cuts.{value_from, from_rises, first_has, first_lacks, none_lacks}
use Rattle.radix_map.proofs.pending.search.Goals as goal

pub returns-in_err-edit : goal.returns-in_err-edit
returns-in_err-edit g c =
    let key = c.args.key in
    let rest = c.edits_from.result.now in
    ap option_copied c.from_residual.ensures ∙ none_lacks key rest c.in_err-edit.ensures.value
    ∙ ap (value_at key) c.edits_from.ensures ∙ value_from key key keys_end c.args.edits.now c.requires (omega arith)

pub returns-then-edit-key : goal.returns-then-edit-key
returns-then-edit-key g c =
    let key = c.args.key in
    first_has key c.edits_from.result.now c.in_ok-edit.edit.now c.in_ok-edit.ensures.value c.if-edit-key.true
    ∙ ap (value_at key) c.edits_from.ensures ∙ value_from key key keys_end c.args.edits.now c.requires (omega arith)

pub returns-else-edit-key : goal.returns-else-edit-key
returns-else-edit-key g c =
    let key = c.args.key in
    let rest = c.edits_from.result.now in
    let high = subst (Rises key keys_end) (sym c.edits_from.ensures) (from_rises key 0 keys_end c.args.edits.now c.requires (omega (arith, c.ranges.key.fits))) in
    first_lacks key keys_end rest c.in_ok-edit.edit.now high c.in_ok-edit.ensures.value c.if-edit-key.false
    ∙ ap (value_at key) c.edits_from.ensures ∙ value_from key key keys_end c.args.edits.now c.requires (omega arith)
