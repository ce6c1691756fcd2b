use Rattle.std.proofs.Common.{◌∙◌, ap, ◌++◌, ◌∷◌, [], map}
use Rattle.std.specs.Prelude.{Some}
use Rattle.version_core.specs.Renewal.{plain_edit, contents_put}
use Rattle.version_core.proofs.MapEdits.{contents_pushed}
use Rattle.version_core.proofs.renewal.NewTiles.push.Goals as goal

pub returns-clause-ok : goal.returns-clause-ok
returns-clause-ok c =
    ap (λ es. contents_put (map plain_edit es)) c.in_ok-push.ensures.items
    ∙ contents_pushed c.self.inside.edits.items (c.tile_key.result, Some c.in_ok-entry.entry)
    (record { id = c.args.id; stamp = 0; tile = c.args.tile }) (ap Some c.in_ok-entry.ensures.ok)
    ∙ ap (λ cs. cs ++ (c.args.id, c.args.tile) ∷ []) c.self.view_is
