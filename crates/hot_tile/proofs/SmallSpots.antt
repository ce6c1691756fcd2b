-- The counts of a tile's spots: each counts something, and with at most 65,536 segments neither count
-- is above 2 ^ 31: there are two ends a segment, and at most one crossing a pair.
use Rattle.std.proofs.Common.{◌≡◌, ◌≤◌, arith, false, List, [], ◌∷◌, map, length}
use Rattle.std.specs.Prelude.{◌^◌, All}
use Rattle.std.specs.List.{AllByRecursion}
use Rattle.std.proofs.lemmas.Bool.Decides.{nat_tests}
use Rattle.std.proofs.lemmas.List.Elements.{All-from_recursion}
use Rattle.std.proofs.lemmas.List.Sums.{count_by-le-length}
use Rattle.std.proofs.lemmas.Nat.{mul-le}
use Rattle.grid_core.specs.declared.point.Point.{Point}
use Rattle.grid_core.specs.Vector.{point_eq}
use Rattle.grid_core.specs.Profile.{IsProfile}
use Rattle.grid_core.specs.Rounding.{end_points, crossing_pixels, vertex_at}
use Rattle.round_plain.proofs.Pairs.{length-end_points, length-crossing_pixels}
use Rattle.tile_law.specs.Parts.{hot_in}
use Rattle.tile_law.proofs.JoinedLists.{all_of, all_mapped}
use Rattle.hot_tile.specs.declared.spots.Spot.{Spot}
use Rattle.hot_tile.specs.Spots.{IsSmall, is_cold}
use Rattle.hot_tile.specs.Tile.{TileContent, frame_of, spot_of, spots_in}
use Rattle.hot_tile.proofs.PartCounts.{spots_are_spots}
use Rattle.hot_tile.proofs.SpotCounts.{IsHot}

hot_is_warm : (xs : List Spot) → AllByRecursion IsHot xs → AllByRecursion (λ x. is_cold x ≡ false) xs
hot_is_warm [] h = tt
hot_is_warm (x ∷ xs) h = ((let some = h.0 in grind (arith, nat_tests)), hot_is_warm xs h.1)

-- no spot of a tile is cold
pub spots_warm : (t : TileContent) → IsProfile t.profile → All (λ x. is_cold x ≡ false) (spots_in t)
spots_warm t profile =
    All-from_recursion (λ x. is_cold x ≡ false) (spots_in t) (hot_is_warm (spots_in t) (spots_are_spots t profile).hot)

-- their counts are small
pub spots_small : (t : TileContent) → length t.segments ≤ 65536 → All (IsSmall (2 ^ 31) (2 ^ 31)) (spots_in t)
spots_small t few =
    All-from_recursion (IsSmall (2 ^ 31) (2 ^ 31)) (spots_in t)
    (all_mapped (spot_of (frame_of t)) (IsSmall (2 ^ 31) (2 ^ 31)) (map (vertex_at t.segments) hot_here)
    (all_mapped (vertex_at t.segments) (λ v. IsSmall (2 ^ 31) (2 ^ 31) (spot_of (frame_of t) v)) hot_here
    (all_of (λ h. IsSmall (2 ^ 31) (2 ^ 31) (spot_of (frame_of t) (vertex_at t.segments h))) small hot_here)))
  where
    hot_here : List Point
    hot_here = hot_in t.profile t.id t.segments

    small : (h : Point) → IsSmall (2 ^ 31) (2 ^ 31) (spot_of (frame_of t) (vertex_at t.segments h))
    small h =
        record {
          ends = omega (arith, few, count_by-le-length (point_eq h) (end_points t.segments), length-end_points t.segments);
          crossings = omega (
            arith,
            mul-le (length t.segments) (length t.segments) 65536 65536 few few,
            count_by-le-length (point_eq h) (crossing_pixels t.segments),
            length-crossing_pixels t.segments,
          );
        }
