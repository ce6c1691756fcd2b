use mir.Syntax.{w128}
use Rattle.std.proofs.Common.{rules, ap, sym, subst, ◌∙◌, ◌<◌, map, SFits, to_z, of_z, to_z-of_z}
use Rattle.std.specs.Prelude.{◌+ℤ◌, ◌-ℤ◌, pos}
use Rattle.std.proofs.lemmas.List.{get_or-map, length-map}
use Rattle.version_core.specs.Replaced.{plain_tile}
use Rattle.version_core.proofs.Replacing.{passes_more}
use Rattle.version_core.proofs.version.Version.passes_gained.Goals as goal

-- src/replace.rt
pub loop-tile-preserved : goal.loop-tile-preserved
loop-tile-preserved c =
    let own : SFits w128 c.difference-gain.result = search rules in
    let sum : SFits w128 (to_z w128 c.loop-tile.gain-bits +ℤ to_z w128 (of_z w128 c.difference-gain.result)) = search rules in
    let tiles = c.args.tiles.now in
    let at = c.loop-tile.tile-index in
    let item = c.tile-item.result in
    let here = ap plain_tile c.tile-item.is ∙ sym (get_or-map plain_tile tiles at item (plain_tile item) c.loop-tile-test.true) in
    let moved = c.difference-gain.ensures.value ∙ (λ k. pos (c.passes_of.ensures k) -ℤ pos (c.passes_in.ensures k)) in
    passes_more c.args.self.now.profile c.args.self.now.live (map plain_tile tiles) (plain_tile item)
    (subst (λ n. at < n) (sym (length-map tiles plain_tile)) c.loop-tile-test.true)
    here c.loop-tile.invariant c.difference-gain.result moved c.difference-gain.ensures.small _
    (to_z-of_z sum ∙ ap (λ x. to_z w128 c.loop-tile.gain-bits +ℤ x) (to_z-of_z own))
