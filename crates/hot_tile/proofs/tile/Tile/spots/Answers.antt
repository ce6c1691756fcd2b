use Rattle.std.proofs.Common.{rules, ◌≡◌, ◌≤◌, sym, subst, false, ◌^◌, List, length}
use Rattle.grid_core.specs.Profile.{IsProfile}
use Rattle.std.specs.Prelude.{All}
use Rattle.std.specs.Ordering.{nat_cmp}
use Rattle.std.specs.List.Sorted.{IsStrictlySortedBy}
use Rattle.hot_tile.specs.declared.spots.Spot.{Spot}
use Rattle.hot_tile.specs.Spots.{keys, is_cold, IsSmall}
use Rattle.hot_tile.specs.Tile.{TileContent, spots_in}
use Rattle.hot_tile.proofs.PartCounts.{spots_are_spots}
use Rattle.hot_tile.proofs.PathLaws.{none_rises}
use Rattle.hot_tile.proofs.SmallSpots.{spots_warm, spots_small}
use Rattle.hot_tile.proofs.tile.Tile.spots.Goals as goal

-- what holds of the hot pixels of each tile holds of those that this one keeps
pub returns-in-Some : goal.returns-in-Some
returns-in-Some c =
    let value : c.as_slice.result.now ≡ spots_in c.args.self.now = search rules in
    let sizes = subst (λ (t : TileContent). IsProfile t.profile) c.self.view_is c.self.invariant.content.sizes in
    let few = subst (λ (t : TileContent). length t.segments ≤ 65536) c.self.view_is c.self.invariant.content.few in
    record {
      value = value;
      rising = subst (λ (xs : List Spot). IsStrictlySortedBy nat_cmp (keys xs)) (sym value) (spots_are_spots c.args.self.now sizes).in_order;
      warm = subst (λ (xs : List Spot). All (λ x. is_cold x ≡ false) xs) (sym value) (spots_warm c.args.self.now sizes);
      small = subst (λ (xs : List Spot). All (IsSmall (2 ^ 31) (2 ^ 31)) xs) (sym value) (spots_small c.args.self.now few);
    }

pub returns-in-None-clause-rising : goal.returns-in-None-clause-rising
returns-in-None-clause-rising c = none_rises
