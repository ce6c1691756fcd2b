use Rattle.std.proofs.Common.{ap, sym, subst, ◌∙◌, arith, map, SFits, rules}
use Rattle.std.specs.Prelude.{pos, ◌-ℤ◌, option_copied}
use Rattle.std.specs.Int.{w128}
use Rattle.std.proofs.Math.Facts.{to_z-of_z}
use Rattle.version_core.specs.Stands.{content_passes}
use Rattle.seg_edit.specs.Contents.{MayShrink, thinned, found_contents, passes_together}
use Rattle.seg_edit.proofs.Moving.{Moves, moves_none, moves_next, next_found, all_found}
use Rattle.seg_edit.proofs.tiles.thin_tiles.Goals as goal

pub loop-tile-init : goal.loop-tile-init
loop-tile-init c =
    subst (λ new. Moves (thinned c.args.profile c.args.name) (found_contents c.args.found.now) 0 new _) (sym c.in_ok-new.ensures)
    (moves_none (thinned c.args.profile c.args.name) (found_contents c.args.found.now))

pub thin_tile-requires : goal.thin_tile-requires
thin_tile-requires c =
    record {
      ready = subst (λ e. MayShrink c.args.profile c.args.name (e.0, option_copied e.1)) (sym c.tile-item.is)
          (c.requires.ready c.loop-tile.tile-index c.tile-item.result c.loop-tile-test.true);
    }

pub moved-gain-requires : goal.moved-gain-requires
moved-gain-requires c =
    omega (arith, c.requires.few, c.loop-tile.auto.tile-index-end, c.loop-tile.invariant.small)

pub push-requires : goal.push-requires
push-requires c =
    (subst (λ e. MayShrink c.args.profile c.args.name (e.0, option_copied e.1)) (sym c.tile-item.is)
    (c.requires.ready c.loop-tile.tile-index c.tile-item.result c.loop-tile-test.true)).reach

pub loop-tile-preserved : goal.loop-tile-preserved
loop-tile-preserved c =
    let fits : SFits w128 c.moved-gain.result = search rules in
    moves_next (c.tile-item.result.0, option_copied c.tile-item.result.1) (c.tile-item.result.0, c.in_ok-after.after)
    c.passes.result c.passes-in-loop-tile.result c.loop-tile.invariant
    (next_found c.args.found.now c.loop-tile.tile-index c.tile-item.result c.tile-item.is c.loop-tile-test.true)
    c.in_ok-after.ensures c.passes.ensures
    (c.passes-in-loop-tile.ensures ∙ ap content_passes c.as_ref.ensures.value) c.passes.type_inv c.passes-in-loop-tile.type_inv
    c.in_ok-push.ensures.ok (to_z-of_z fits) c.moved-gain.ensures

pub returns-clause-contents : goal.returns-clause-contents
returns-clause-contents c =
    c.loop-tile.invariant.made
    ∙ ap (map (thinned c.args.profile c.args.name)) (all_found c.args.found.now c.loop-tile.tile-index (omega (arith, c.loop-tile-test.false)))

pub returns-clause-gain : goal.returns-clause-gain
returns-clause-gain c =
    c.loop-tile.invariant.gained
    ∙ ap (λ cs. pos (passes_together c.loop-tile.new) -ℤ pos (passes_together cs))
    (all_found c.args.found.now c.loop-tile.tile-index (omega (arith, c.loop-tile-test.false)))
