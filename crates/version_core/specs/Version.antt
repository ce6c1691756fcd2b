-- Versions: a number, the live segments, and for each tile the number of the last change that
-- touched it. A version keeps the tiles one by one, and each has its part of the rounding of the
-- live list.
use Rattle.std.specs.Prelude.{◌≡◌, ℕ, ◌+◌, ◌<◌, ◌≤◌, ◌^◌, List, [], map, filter, length}
use Rattle.std.specs.Prelude.{slice_get, unwrap_or, true, false}
use Rattle.std.specs.List.{AllByRecursion}
use Rattle.std.specs.Ordering.{nat_cmp, is_lt}
use Rattle.grid_core.specs.declared.tile.TileId.{TileId}
use Rattle.grid_core.specs.Profile.{Sizes, IsProfile}
use Rattle.grid_core.specs.Segment.{Segment}
use Rattle.grid_core.specs.LiveList.{IsLiveList}
use Rattle.grid_core.specs.RisingSet.{rising}
use Rattle.grid_core.specs.Tiles.{tile_cmp, tile_eq}
use Rattle.tile_law.specs.Laws.{IsTileInReach}
use Rattle.tile_law.specs.Parts.{passes_of}
use Rattle.radix_map.specs.Entries.{Rises, keys_end}
use Rattle.version_core.specs.declared.entry.Entry.{Entry}
use Rattle.version_core.specs.Edits.{Changes, after_edits, FitEdits}
use Rattle.version_core.specs.History.{touches}
use Rattle.version_core.specs.Laws.{AreSegments}
use Rattle.version_core.specs.Stands.{content_of, spans_of}
use Rattle.version_core.specs.Entries.{IsKeyed, content_at, live_in, stamps_in}

-- a version as contracts see it; a tile that no change touched has no stamp
pub record VersionState : Type 0 where
  pub number : ℕ
  pub profile : Sizes
  pub brand : ℕ
  pub live : List Segment
  pub stamps : List (TileId × ℕ)

-- at most so many segments are live
abbrev pub most_segments : ℕ
most_segments = 4096

-- the stamp of tile t, 0 for one that no change touched
abbrev pub stamp_of : List (TileId × ℕ) → TileId → ℕ
stamp_of stamps t = unwrap_or (slice_get (map (λ e. e.1) (filter (λ e. tile_eq e.0 t) stamps)) 0) 0

-- the tiles whose stamp is above n, in the order of the stamps
abbrev pub stamped_after : List (TileId × ℕ) → ℕ → List TileId
stamped_after stamps n = map (λ e. e.0) (filter (λ e. is_lt (nat_cmp n e.1)) stamps)

-- the same tiles by column and then row
abbrev pub tiles_stamped_after : List (TileId × ℕ) → ℕ → List TileId
tiles_stamped_after stamps n = rising tile_cmp (stamped_after stamps n)

-- the version with this number and so on whose map has these entries
abbrev pub version_of : ℕ → Sizes → ℕ → List (ℕ × Entry) → VersionState
version_of number profile brand es =
    record {
      number = number;
      profile = profile;
      brand = brand;
      live = live_in es;
      stamps = stamps_in es;
    }

-- the entries are those of a version: each stands under its key, the live segments are a live list,
-- and each tile has what the rounding of the live list has there; the three sums are those of the
-- live list
pub record IsVersion (pr : Sizes) (es : List (ℕ × Entry)) (count spans passes : ℕ) : Type 0 where
  pub sizes : IsProfile pr
  pub rising : Rises 0 keys_end es
  pub keyed : AllByRecursion (λ e. IsKeyed e.0 e.1) es
  pub live : IsLiveList pr.bound (live_in es)
  pub few : length (live_in es) ≤ most_segments
  pub contents : (t : TileId) → IsTileInReach t → content_at es t ≡ content_of pr t (live_in es)
  pub counted : count ≡ length (live_in es)
  pub spanned : spans ≡ spans_of pr (live_in es)
  pub passed : passes ≡ passes_of (live_in es)

-- the change may be made of the version: it fits the live list, and what comes of it is a version
pub record MayFollow (v : VersionState) (x : Changes) : Type 0 where
  pub numbered : v.number + 1 < 2 ^ 32
  pub fits : FitEdits x.editor [] v.live x.edits
  pub within : AreSegments v.profile.bound x.edits
  pub few : length (after_edits v.live x.edits) ≤ most_segments

-- the version after the change: the next number, the new live list, and the new number as the stamp
-- of the change's tiles; all else is as before
pub record IsNext (v : VersionState) (x : Changes) (w : VersionState) : Type 0 where
  pub number : w.number ≡ v.number + 1
  pub profile : w.profile ≡ v.profile
  pub brand : w.brand ≡ v.brand
  pub live : w.live ≡ after_edits v.live x.edits
  pub touched : (t : TileId) → touches v.profile t x ≡ true → stamp_of w.stamps t ≡ w.number
  pub others : (t : TileId) → touches v.profile t x ≡ false → stamp_of w.stamps t ≡ stamp_of v.stamps t
