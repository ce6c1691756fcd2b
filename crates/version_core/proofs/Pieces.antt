-- The route of a live segment from what the tiles have of it: a tile's own segments are those of the
-- live list that meet it, and its part is made by them alone.
use Rattle.std.proofs.Common.{◌≡◌, refl, ap, sym, ◌∙◌, ◌<◌, List, [], ◌∷◌, flat_map}
use Rattle.std.specs.Prelude.{Option, Some, None, Contains}
use Rattle.std.proofs.lemmas.List.Elements.{All-contains}
use Rattle.grid_core.specs.declared.point.Point.{Point}
use Rattle.grid_core.specs.declared.tile.TileId.{TileId}
use Rattle.grid_core.specs.Name.{Label}
use Rattle.grid_core.specs.LiveList.{IsLiveList}
use Rattle.grid_core.specs.Profile.{Sizes, IsProfile}
use Rattle.grid_core.specs.Rounding.{route}
use Rattle.grid_core.specs.Segment.{Segment, IsSegment}
use Rattle.grid_core.specs.Tiles.{near, along, part_of}
use Rattle.tile_law.specs.Parts.{route_in}
use Rattle.tile_law.proofs.Locality.{parts_are_local}
use Rattle.tile_law.proofs.RouteTiles.{route_is_joined}
use Rattle.hot_tile.specs.Tile.{TileContent, part_in}
use Rattle.version_core.specs.Stands.{tile_with, content_of}

-- what a tile has of the route of a name, nothing where there is no tile
abbrev pub piece_of : Option TileContent → Label → List Point
piece_of None name = []
piece_of (Some c) name = route_in (part_in c) name

of_own : (pr : Sizes) (t : TileId) (us : List Segment) (name : Label)
    → piece_of (tile_with pr t us) name ≡ route_in (part_of pr t us) name
of_own pr t [] name = refl
of_own pr t (u ∷ us) name = refl

-- what a tile has of a route is what the rounding of the live list has of it there
pub piece_there : (pr : Sizes) → 0 < pr.side → (t : TileId) (ss : List Segment) (name : Label) (o : Option TileContent)
    → o ≡ content_of pr t ss → piece_of o name ≡ route_in (part_of pr t ss) name
piece_there pr some t ss name o e =
    ap (λ c. piece_of c name) e ∙ of_own pr t (near pr t ss) name
    ∙ ap (λ p. route_in p name) (sym ((parts_are_local pr some ss).by_near t))

-- the route of a live segment is what the rounding has of it in the tiles along it, joined
pub whole_route : (pr : Sizes) (ss : List Segment) → IsProfile pr × IsLiveList pr.bound ss → (s : Segment) → Contains ss s
    → route ss s ≡ flat_map (λ t. route_in (part_of pr t ss) s.name) (along pr s)
whole_route pr ss are s c =
    let within = All-contains (IsSegment pr.bound) ss s are.1.within c in
    (route_is_joined pr are.0.some_side ss s within.ordered).of_parts are.1.rising c
