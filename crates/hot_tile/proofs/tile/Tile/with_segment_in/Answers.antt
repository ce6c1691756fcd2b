-- What the steps of the code made is what the tile with the segment keeps.
use Rattle.std.proofs.Common.{◌≡◌, ◌∙◌, ◌≤◌, ◌^◌, sym, ap, subst, is_lt, List, ◌∷◌, ◌++◌, length, take, drop}
use Rattle.std.specs.Prelude.{not, All}
use Rattle.std.specs.List.{filter}
use Rattle.std.specs.Ordering.{nat_cmp}
use Rattle.std.specs.List.Sorted.{IsStrictlySortedBy}
use Rattle.std.proofs.lemmas.List.Elements.{All-from_recursion}
use Rattle.grid_core.specs.Name.{Label, label_cmp}
use Rattle.grid_core.specs.Segment.{Segment}
use Rattle.grid_core.specs.LiveList.{with_segment}
use Rattle.hot_tile.specs.declared.spots.Spot.{Spot}
use Rattle.hot_tile.specs.Frame.{TileFrame}
use Rattle.hot_tile.specs.Spots.{keys, merged, fresh_keys, IsSmall}
use Rattle.hot_tile.specs.Own.{own_spots}
use Rattle.hot_tile.specs.Tile.{TileContent, IsTile, frame_of, spots_in}
use Rattle.hot_tile.specs.HotPart.{part_spots, part_rows}
use Rattle.hot_tile.proofs.InTile.{near_bound}
use Rattle.hot_tile.proofs.OwnLaws.{counted_rises, own_rises, own_small}
use Rattle.hot_tile.proofs.Assembly.{IsComing, put_in}
use Rattle.hot_tile.proofs.Changes.{grown}
use Rattle.hot_tile.proofs.tile.Tile.with_segment_in.Goals as goal
use Rattle.hot_tile.proofs.tile.Tile.with_segment_in.Goals.{After-merge-arg-2-1, After-result-3-1}

pub merge-requires-clause-own_rising : goal.merge-requires-clause-own_rising
merge-requires-clause-own_rising c =
    subst (λ (xs : List Spot). IsStrictlySortedBy nat_cmp (keys xs)) (sym (c.deref.ensures.value ∙ c.in_ok-count_own.ensures))
    (own_rises c.frame.result c.segments-segments.result.now c.args.s.now)

pub merge-requires-clause-own_small : goal.merge-requires-clause-own_small
merge-requires-clause-own_small c =
    subst (λ (xs : List Spot). All (IsSmall (2 ^ 30) (2 ^ 30)) xs) (sym (c.deref.ensures.value ∙ c.in_ok-count_own.ensures))
    (All-from_recursion (IsSmall (2 ^ 30) (2 ^ 30)) (own_spots c.frame.result c.segments-segments.result.now c.args.s.now)
    (own_small c.frame.result c.segments-segments.result.now c.args.s.now
    (subst (λ (us : List Segment). length us ≤ 65536) (sym c.segments-segments.ensures.value) c.segments-segments.ensures.few)))

pub hot_part_with-requires-clause-rising : goal.hot_part_with-requires-clause-rising
hot_part_with-requires-clause-rising c =
    subst (λ (xs : List Spot). IsStrictlySortedBy nat_cmp (keys xs)) (sym (c.deref-2.ensures.value ∙ c.in_ok-merge.ensures.spots))
    (counted_rises c.spots.result.now c.deref.result.now c.spots.ensures.rising)

pub hot_part_with-requires-clause-near : goal.hot_part_with-requires-clause-near
hot_part_with-requires-clause-near c =
    near_bound (frame_of c.args.self.now) c.args.s.now c.frame.ensures.kept c.requires.within c.requires.met

coming : (c : After-result-3-1) → IsComing c.args.self.now c.args.s.now c.index_of-at.result
coming c =
    record {
      within = c.requires.within;
      met = c.requires.met;
      new = c.requires.new;
      few = c.requires.few;
      place = subst (λ (us : List Segment). c.index_of-at.result ≤ length us) c.segments-segments.ensures.value c.index_of-at.ensures.within;
      lesser =
          subst (λ (n : Label). take c.index_of-at.result c.args.self.now.segments ≡ filter (λ u. is_lt (label_cmp u.name n)) c.args.self.now.segments)
          c.name.ensures.value
          (subst (λ (us : List Segment). take c.index_of-at.result us ≡ filter (λ u. is_lt (label_cmp u.name c.name.result)) us)
          c.segments-segments.ensures.value c.index_of-at.ensures.lesser);
      others =
          subst (λ (n : Label). drop c.index_of-at.result c.args.self.now.segments ≡ filter (λ u. not (is_lt (label_cmp u.name n))) c.args.self.now.segments)
          c.name.ensures.value
          (subst (λ (us : List Segment). drop c.index_of-at.result us ≡ filter (λ u. not (is_lt (label_cmp u.name c.name.result))) us)
          c.segments-segments.ensures.value c.index_of-at.ensures.others);
    }

listed_is : (c : After-result-3-1) → c.in_ok-listed.listed ≡ with_segment c.args.self.now.segments c.args.s.now
listed_is c =
    let k = coming c in
    c.in_ok-listed.ensures
    ∙ ap (λ (t : TileContent). take c.index_of-at.result t.segments ++ c.args.s.now ∷ drop c.index_of-at.result t.segments) c.self.view_is
    ∙ put_in c.args.self.now.segments c.args.s.now c.index_of-at.result k.lesser k.others k.new

own_is : (c : After-result-3-1)
    → c.deref.result.now ≡ own_spots (frame_of c.args.self.now) c.args.self.now.segments c.args.s.now
own_is c =
    c.deref.ensures.value ∙ c.in_ok-count_own.ensures
    ∙ ap (λ (f : TileFrame). own_spots f c.segments-segments.result.now c.args.s.now) c.frame.ensures.value
    ∙ ap (λ (us : List Segment). own_spots (frame_of c.args.self.now) us c.args.s.now) c.segments-segments.ensures.value

pub invariant_of-result : goal.invariant_of-result
invariant_of-result c =
    let inv =
    subst (λ (t : TileContent). IsTile t (part_spots c.self.inside.hot_part) (part_rows t.segments c.self.inside.hot_part)) c.self.view_is c.self.invariant in
    let made : c.deref-2.result.now
    ≡ merged (spots_in c.args.self.now) (own_spots (frame_of c.args.self.now) c.args.self.now.segments c.args.s.now) =
    c.deref-2.ensures.value ∙ c.in_ok-merge.ensures.spots
    ∙ ap (λ (xs : List Spot). merged xs c.deref.result.now) c.spots.ensures.value
    ∙ ap (λ (ys : List Spot). merged (spots_in c.args.self.now) ys) (own_is c) in
    let found : c.deref-3.result.now
    ≡ fresh_keys (spots_in c.args.self.now) (own_spots (frame_of c.args.self.now) c.args.self.now.segments c.args.s.now) =
    c.deref-3.ensures.value ∙ c.in_ok-merge.ensures.fresh
    ∙ ap (λ (xs : List Spot). fresh_keys xs c.deref.result.now) c.spots.ensures.value
    ∙ ap (λ (ys : List Spot). fresh_keys (spots_in c.args.self.now) ys) (own_is c) in
    let tile =
    grown c.args.self.now c.args.s.now (part_spots c.self.inside.hot_part) (part_rows c.args.self.now.segments c.self.inside.hot_part) inv
    c.index_of-at.result (coming c) c.deref-2.result.now c.deref-3.result.now c.in_ok-hot_part.hot_part made found c.in_ok-hot_part.ensures in
    subst (λ (t : TileContent). IsTile (record { profile = t.profile; id = t.id; segments = c.in_ok-listed.listed })
    (part_spots c.in_ok-hot_part.hot_part) (part_rows c.in_ok-listed.listed c.in_ok-hot_part.hot_part)) (sym c.self.view_is)
    (subst (λ (us : List Segment). IsTile (record { profile = c.args.self.now.profile; id = c.args.self.now.id; segments = us })
    (part_spots c.in_ok-hot_part.hot_part) (part_rows us c.in_ok-hot_part.hot_part)) (sym (listed_is c)) tile)

pub returns : goal.returns
returns c =
    λ i. record {
      profile = (c.self.view_is i).profile;
      id = (c.self.view_is i).id;
      segments = listed_is c i;
    }
