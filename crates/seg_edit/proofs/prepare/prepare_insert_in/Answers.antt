use Rattle.std.proofs.Common.{refl, ap, sym, subst, ◌∙◌, map}
use Rattle.std.specs.List.{AllByRecursion}
use Rattle.grid_core.specs.Tiles.{along}
use Rattle.tile_law.specs.Laws.{IsTileInReach}
use Rattle.version_core.specs.Looks.{with_looks, tile_look}
use Rattle.seg_edit.proofs.Ready.{along_in_reach}
use Rattle.seg_edit.proofs.Reading.{on_err, grew_by_none, grew_by_all}
use Rattle.seg_edit.proofs.prepare.prepare_insert_in.Goals as goal

pub returns-in_err-tiles-clause-memory : goal.returns-in_err-tiles-clause-memory
returns-in_err-tiles-clause-memory c = on_err c.from_residual.result _ (grew_by_none _ c.args.looked.now _ refl)

pub tiles-requires-2-clause-reach : goal.tiles-requires-2-clause-reach
tiles-requires-2-clause-reach c =
    let own = c.deref.ensures.value ∙ c.in_ok-tiles.ensures ∙ ap (λ q. along q c.args.ur) c.profile.ensures.value in
    subst (AllByRecursion IsTileInReach) (sym own)
    (along_in_reach c.args.base.now.profile c.profile.ensures.kept c.args.ur c.requires.within)

pub returns-in_err-found-clause-memory : goal.returns-in_err-found-clause-memory
returns-in_err-found-clause-memory c =
    on_err c.from_residual-in_err-found.result _ (grew_by_none _ c.args.looked.now _ c.in_err-found.ensures.memory)

pub returns-clause-memory : goal.returns-clause-memory
returns-clause-memory c =
    let own = c.deref.ensures.value ∙ c.in_ok-tiles.ensures ∙ ap (λ q. along q c.args.ur) c.profile.ensures.value in
    on_err c.insertion.result _
    (grew_by_all _ c.args.looked.now _
    (c.in_ok-found.ensures.looked ∙ ap (λ ts. with_looks c.args.looked.now (map tile_look ts)) own))
