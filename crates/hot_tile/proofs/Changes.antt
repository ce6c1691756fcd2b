-- A tile with a segment more, and with one less, from what the code makes: the hot pixels merged or cooled,
-- and the passes through what is fresh or cold.
use Rattle.std.proofs.Common.{◌≡◌, ap, sym, ◌∙◌, subst, ℕ, suc, ◌+◌, ◌<◌, ◌^◌, Less, List, [], ◌∷◌, ◌++◌, length, get_or, take, drop, Option, is_lt}
use Rattle.std.specs.Prelude.{Contains, Box, not}
use Rattle.std.specs.Global.{Global}
use Rattle.std.specs.List.{AllByRecursion, filter}
use Rattle.std.specs.List.Sorted.{IsStrictlySortedBy}
use Rattle.std.proofs.lemmas.List.Elements.{recursion_from_All, All-contains}
use Rattle.grid_core.specs.Vector.{point_cmp, IsWithin}
use Rattle.grid_core.specs.Name.{Label, label_cmp}
use Rattle.grid_core.specs.Segment.{Segment, IsSegment}
use Rattle.grid_core.specs.LiveList.{names, with_segment, without_name}
use Rattle.grid_core.specs.Tiles.{meets_tile}
use Rattle.grid_core.proofs.ListMembers.{contains_filter}
use Rattle.grid_core.proofs.LiveLists.{with_segment_is_live, without_name_is_live}
use Rattle.tile_law.proofs.OneMore.{near_all_with}
use Rattle.tile_law.proofs.OneMoreCounts.{new_from_none}
use Rattle.tile_law.proofs.OneLess.{near_all_without}
use Rattle.hot_tile.specs.declared.spots.Spot.{Spot}
use Rattle.hot_tile.specs.declared.tile.HotPart.{HotPart}
use Rattle.hot_tile.specs.Frame.{lowest}
use Rattle.hot_tile.specs.Spots.{keys, merged, fresh_keys, cooled, cold_keys}
use Rattle.hot_tile.specs.Own.{own_spots}
use Rattle.hot_tile.specs.Steps.{grown_row}
use Rattle.hot_tile.specs.Tile.{TileContent, IsTileContent, IsTile, frame_of, spots_in, path_in}
use Rattle.hot_tile.specs.Paths.{grown_path, grown_paths, thinned_path, thinned_paths}
use Rattle.hot_tile.specs.HotPart.{IsHotPart, part_spots, part_rows}
use Rattle.hot_tile.proofs.InTile.{near_bound}
use Rattle.hot_tile.proofs.GrownSpots.{grown_spots}
use Rattle.hot_tile.proofs.GrownRows.{path_grows, path_made, path_none, rows_are_paths}
use Rattle.hot_tile.proofs.ShrunkSpots.{shrunk_spots}
use Rattle.hot_tile.proofs.ShrunkRows.{path_shrinks}
use Rattle.hot_tile.proofs.Removal.{found, named, taken_out}
use Rattle.hot_tile.proofs.Assembly.{IsComing, more, grown_is_tile, fewer, shrunk_is_tile}

-- what holds of each segment whose ends are ordered holds of all of a live list
all_segments : (P : Segment → Type 0) (n : ℕ) → ((u : Segment) → point_cmp u.p u.q ≡ Less → P u) → (ss : List Segment)
    → AllByRecursion (IsSegment n) ss → AllByRecursion P ss
all_segments P n f [] h = tt
all_segments P n f (s ∷ ss) h = (f s h.0.ordered, all_segments P n f ss h.1)

-- the tile with a segment more
pub grown : (t : TileContent) (s : Segment) (hot : List Spot) (paths : List (List ℕ)) → IsTile t hot paths → (at : ℕ) → IsComing t s at
    → (now : List Spot) (fresh : List ℕ) (d : Option (Box HotPart Global))
    → now ≡ merged (spots_in t) (own_spots (frame_of t) t.segments s)
    → fresh ≡ fresh_keys (spots_in t) (own_spots (frame_of t) t.segments s)
    → IsHotPart d now (grown_paths t at s (keys now) fresh)
    → IsTile (more t s) (part_spots d) (part_rows (with_segment t.segments s) d)
grown t s hot paths inv at c now fresh d made found hot_part =
    let sizes = inv.content.sizes in
    let live = inv.content.live in
    let new = new_from_none t.segments s.name c.new in
    let spots : now ≡ spots_in (more t s) = made ∙ sym (grown_spots t s sizes live.rising new) in
    let after = with_segment_is_live t.profile.bound t.segments s live c.within in
    grown_is_tile inv c fresh now d hot_part spots
    (rows_are_paths (more t s) (near_all_with t.profile t.id t.segments s inv.content.meet c.met))
    (all_segments (λ u. grown_path t fresh u ≡ path_in (more t s) u) t.profile.bound
    (λ u ordered. ap (λ (ks : List ℕ). grown_path t ks u) found ∙ sym (path_grows t s sizes live.rising new u ordered))
    t.segments (recursion_from_All (IsSegment t.profile.bound) t.segments live.within))
    (ap (λ (xs : List Spot). grown_row (frame_of t) s [] (keys xs)) spots ∙ sym (path_made (more t s) sizes s c.within.ordered))
    (λ none. all_segments (λ u. path_in (more t s) u ≡ []) t.profile.bound (λ u ordered. path_none (more t s) sizes u ordered none)
    (with_segment t.segments s) (recursion_from_All (IsSegment t.profile.bound) (with_segment t.segments s) after.within))

-- the tile with a segment less
pub shrunk : (t : TileContent) (s : Segment) (hot : List Spot) (paths : List (List ℕ)) → IsTile t hot paths → Contains t.segments s
    → (at : ℕ) → take at t.segments ++ drop (suc at) t.segments ≡ without_name t.segments s.name
    → (now : List Spot) (cold : List ℕ) (d : Option (Box HotPart Global))
    → now ≡ cooled (spots_in t) (own_spots (frame_of t) t.segments s)
    → cold ≡ cold_keys (spots_in t) (own_spots (frame_of t) t.segments s)
    → IsHotPart d now (thinned_paths t at cold)
    → IsTile (fewer t s.name) (part_spots d) (part_rows (without_name t.segments s.name) d)
shrunk t s hot paths inv there at out now cold d made found hot_part =
    let sizes = inv.content.sizes in
    let live = inv.content.live in
    let after = without_name_is_live t.profile.bound t.segments s.name live in
    shrunk_is_tile inv s.name at cold out now d hot_part (made ∙ sym (shrunk_spots t s sizes live.rising there))
    (rows_are_paths (fewer t s.name) (near_all_without t.profile t.id t.segments s.name inv.content.meet))
    (all_segments (λ u. thinned_path t cold u ≡ path_in (fewer t s.name) u) t.profile.bound
    (λ u ordered. ap (λ (ks : List ℕ). thinned_path t ks u) found ∙ sym (path_shrinks t s sizes live.rising there u ordered))
    t.segments (recursion_from_All (IsSegment t.profile.bound) t.segments live.within))
    (λ none. all_segments (λ u. path_in (fewer t s.name) u ≡ []) t.profile.bound (λ u ordered. path_none (fewer t s.name) sizes u ordered none)
    (without_name t.segments s.name) (recursion_from_All (IsSegment t.profile.bound) (without_name t.segments s.name) after.within))

-- ---- where the segment of a name stands

-- what a search for a name that the tile has tells
pub record IsGoing (t : TileContent) (us : List Segment) (name : Label) (at : ℕ) : Type 0 where
  pub same : us ≡ t.segments
  pub order : IsStrictlySortedBy label_cmp (names t.segments)
  pub lesser : take at us ≡ filter (λ u. is_lt (label_cmp u.name name)) us
  pub others : drop at us ≡ filter (λ u. not (is_lt (label_cmp u.name name))) us
  pub there : Contains (names t.segments) name

module _ {t : TileContent} {us : List Segment} {name : Label} {at : ℕ} (g : IsGoing t us name at) where
  lesser_of : take at t.segments ≡ filter (λ u. is_lt (label_cmp u.name name)) t.segments
  lesser_of = subst (λ (xs : List Segment). take at xs ≡ filter (λ u. is_lt (label_cmp u.name name)) xs) g.same g.lesser

  others_of : drop at t.segments ≡ filter (λ u. not (is_lt (label_cmp u.name name))) t.segments
  others_of = subst (λ (xs : List Segment). drop at xs ≡ filter (λ u. not (is_lt (label_cmp u.name name))) xs) g.same g.others

  pub goes_within : at < length t.segments
  goes_within = found t.segments name at g.order lesser_of others_of g.there

  pub goes_inside : at < length us
  goes_inside = subst (λ (xs : List Segment). at < length xs) (sym g.same) goes_within

  pub goes_named : (d : Segment) → (get_or t.segments at d).name ≡ name
  goes_named d = named t.segments name at g.order lesser_of others_of g.there d

  pub goes_out : take at t.segments ++ drop (suc at) t.segments ≡ without_name t.segments name
  goes_out = taken_out t.segments name at g.order lesser_of others_of g.there

-- a tile with a segment isn't far from where the bound is
pub near_all : {t : TileContent} (s : Segment) → IsTileContent t → Contains t.segments s → IsWithin (2 ^ 30 + 2 ^ 16) (lowest (frame_of t))
near_all {t} s content there =
    near_bound (frame_of t) s content.sizes (All-contains (IsSegment t.profile.bound) t.segments s content.live.within there)
    ((contains_filter (meets_tile t.profile t.id) t.segments s).0 (subst (λ (us : List Segment). Contains us s) (sym content.meet) there)).1
