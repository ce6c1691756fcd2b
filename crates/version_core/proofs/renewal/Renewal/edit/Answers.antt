use Rattle.std.proofs.Common.{◌∙◌, ap, map}
use Rattle.radix_map.specs.Entries.{edited_all}
use Rattle.version_core.specs.Entries.{map_edits, after_map_edits}
use Rattle.version_core.specs.Renewal.{Renewed, plain_edit}
use Rattle.version_core.proofs.MapEdits.{edits_alike, entries_after, renewed_alike, at_ok}
use Rattle.version_core.proofs.renewal.Renewal.edit.Goals as goal

pub invariant_of-self : goal.invariant_of-self
invariant_of-self c =
    edits_alike c.self.inside.tiles c.self.inside.change.edits (map plain_edit c.self.inside.edits.items)
    (map plain_edit c.stamp_edits.new.edits.items) c.self.invariant c.stamp_edits.ensures.always

pub returns-in_err-stamp_edits-clause-same : goal.returns-in_err-stamp_edits-clause-same
returns-in_err-stamp_edits-clause-same c =
    renewed_alike c.self.inside.change c.self.inside.gain c.self.inside.span_gain (map plain_edit c.self.inside.edits.items)
    (map plain_edit c.stamp_edits.new.edits.items) c.stamp_edits.ensures.always
    ∙ c.self.view_is

pub invariant_of-self-2 : goal.invariant_of-self-2
invariant_of-self-2 c =
    edits_alike c.self.inside.tiles c.self.inside.change.edits (map plain_edit c.self.inside.edits.items)
    (map plain_edit c.stamp_edits.new.edits.items) c.self.invariant c.stamp_edits.ensures.always

pub returns-clause-ok : goal.returns-clause-ok
returns-clause-ok c =
    at_ok c.edit_all.result c.edit_all.new.self
    (edited_all c.args.entries.now c.deref.result.now)
    (after_map_edits c.args.entries.now (map_edits c.args.number c.args.self.now.contents c.args.self.now.change.edits))
    c.edit_all.ensures.ok
    (ap (edited_all c.args.entries.now) c.deref.ensures.value
    ∙ entries_after c.args.number c.self.inside.tiles c.self.inside.change.edits c.args.entries.now c.self.inside.edits.items
    c.stamp_edits.new.edits.items c.self.invariant c.in_ok-stamp_edits.ensures.ok
    ∙ ap (λ (r : Renewed). after_map_edits c.args.entries.now (map_edits c.args.number r.contents r.change.edits)) c.self.view_is)

pub returns-clause-same : goal.returns-clause-same
returns-clause-same c =
    renewed_alike c.self.inside.change c.self.inside.gain c.self.inside.span_gain (map plain_edit c.self.inside.edits.items)
    (map plain_edit c.stamp_edits.new.edits.items) c.stamp_edits.ensures.always
    ∙ c.self.view_is
