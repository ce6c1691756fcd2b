-- How looks grow: by none of a list, or by all of it.
use Rattle.std.proofs.Common.{◌≡◌, suc, sym, ap, ◌∙◌, List, [], ◌∷◌, map, take, length, arith, append_assoc, Some}
use Rattle.std.specs.declared.result.Result.{Result}
use Rattle.std.specs.declared.result.Result.TheVariants.{Ok, Err}
use Rattle.std.specs.Prelude.{OnErr}
use Rattle.std.proofs.lemmas.List.{append-nil, take_all}
use Rattle.version_core.specs.declared.looked.Look.{Look}
use Rattle.grid_core.specs.Name.{Label}
use Rattle.grid_core.specs.Segment.{Segment}
use Rattle.grid_core.specs.Tiles.{along}
use Rattle.hot_tile.specs.Tile.{segment_in}
use Rattle.version_core.specs.Looks.{Looks, with_looks, tile_look, name_look}
use Rattle.version_core.specs.Version.{VersionState}
use Rattle.seg_edit.specs.Looks.{GrewByPrefix, looks_at, looks_along}

pub on_err : {A E : Type 0} (r : Result A E) (P : Type 0) → P → OnErr r P
on_err (Ok a) P p = tt
on_err (Err e) P p = p

pub grew_by_none : (more : List Look) (l new : Looks) → new ≡ l → GrewByPrefix more l new
grew_by_none more l new same = (0, same ∙ (λ i. record l { looks = sym (append-nil l.looks) i }))

pub grew_by_all : (more : List Look) (l new : Looks) → new ≡ with_looks l more → GrewByPrefix more l new
grew_by_all more l new grown = (length more, grown ∙ ap (with_looks l) (sym (take_all (length more) more (omega arith))))

-- the looks at a name and then by the first of its segment's tiles
pub grew_behind_name : (v : VersionState) (name : Label) (s : Segment) → segment_in v.live name ≡ Some s
    → (old mid new : Looks) → mid ≡ with_looks old (name_look name ∷ [])
    → GrewByPrefix (map tile_look (along v.profile s)) mid new → GrewByPrefix (looks_at v name) old new
grew_behind_name v name s found old mid new named grown =
    let more = map tile_look (along v.profile s) in (
      suc grown.0,
      grown.1
          ∙ ap (λ l. with_looks l (take grown.0 more)) named
          ∙ (λ i. record old { looks = append_assoc old.looks (name_look name ∷ []) (take grown.0 more) i })
          ∙ ap (λ o. with_looks old (name_look name ∷ take grown.0 (looks_along v.profile o))) (sym found),
    )
