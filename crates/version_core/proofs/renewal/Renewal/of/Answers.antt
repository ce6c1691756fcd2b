use Rattle.std.proofs.Common.{rules, ◌∙◌, ap, map, w64, SFits, to_z-of_z}
use Rattle.version_core.specs.Renewal.{plain_edit, contents_put}
use Rattle.version_core.proofs.MapEdits.{contents_with_names}
use Rattle.version_core.proofs.renewal.Renewal.of.Goals as goal

pub returns : goal.returns
returns c =
    let contents =
    ap contents_put c.in_ok-push_names.ensures
    ∙ contents_with_names (map plain_edit c.tiles.inside.edits.items) c.edits.result.now ∙ c.tiles.view_is in
    let fits : SFits w64 c.args.gain = search rules in
    let span_fits : SFits w64 c.args.span_gain = search rules in
    let gain = to_z-of_z {w = w64} fits in
    let span_gain = to_z-of_z {w = w64} span_fits in
    λ i. record { change = c.args.change; contents = contents i; gain = gain i; span_gain = span_gain i }
