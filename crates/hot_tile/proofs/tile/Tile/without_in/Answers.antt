-- What the steps of the code made is what the tile without the segment keeps.
use Rattle.std.proofs.Common.{rules, ◌≡◌, ◌∙◌, ◌<◌, sym, ap, subst, suc, List, ◌++◌, length, get_or, take, drop}
use Rattle.std.specs.Prelude.{Contains}
use Rattle.std.specs.Ordering.{nat_cmp}
use Rattle.std.specs.List.Sorted.{IsStrictlySortedBy}
use Rattle.std.proofs.lemmas.List.Elements.{Contains-get_or}
use Rattle.grid_core.specs.Name.{Label}
use Rattle.grid_core.specs.Segment.{Segment}
use Rattle.grid_core.specs.LiveList.{without_name}
use Rattle.hot_tile.specs.declared.spots.Spot.{Spot}
use Rattle.hot_tile.specs.Frame.{TileFrame}
use Rattle.hot_tile.specs.Spots.{keys, cooled, cold_keys}
use Rattle.hot_tile.specs.Own.{own_spots}
use Rattle.hot_tile.specs.Tile.{TileContent, IsTileContent, IsTile, frame_of, spots_in}
use Rattle.hot_tile.specs.HotPart.{part_spots, part_rows}
use Rattle.hot_tile.proofs.OwnLaws.{own_rises}
use Rattle.hot_tile.proofs.Removal.{alone}
use Rattle.hot_tile.proofs.Changes.{shrunk, near_all, IsGoing, goes_within, goes_inside, goes_named, goes_out}
use Rattle.hot_tile.proofs.tile.Tile.without_in.Goals as goal
use Rattle.hot_tile.proofs.tile.Tile.without_in.Goals.{After-result-3-1}

pub returns-then-segments-eq1 : goal.returns-then-segments-eq1
returns-then-segments-eq1 c =
    let one : length c.args.self.now.segments ≡ 1 =
    subst (λ (us : List Segment). length us ≡ 1) c.segments-segments.ensures.value c.if-segments-eq1.true in
    c.empty.ensures
    ∙ (λ i. record {
      profile = (c.self.view_is i).profile;
      id = (c.self.view_is i).id;
      segments = alone c.args.self.now.segments c.args.name one c.requires i;
    })

pub offset_bounds-segments-at : goal.offset_bounds-segments-at
offset_bounds-segments-at c =
    let g : IsGoing c.args.self.now c.segments-segments.result.now c.args.name c.index_of-at.result =
    record {
      same = c.segments-segments.ensures.value;
      order = c.segments-segments.ensures.kept.rising;
      lesser = c.index_of-at.ensures.lesser;
      others = c.index_of-at.ensures.others;
      there = c.requires;
    } in
    let lt : c.index_of-at.result < length c.segments-segments.result.now = goes_inside g in
    search rules

pub bounds-segments-at : goal.bounds-segments-at
bounds-segments-at c =
    let g : IsGoing c.args.self.now c.segments-segments.result.now c.args.name c.index_of-at.result =
    record {
      same = c.segments-segments.ensures.value;
      order = c.segments-segments.ensures.kept.rising;
      lesser = c.index_of-at.ensures.lesser;
      others = c.index_of-at.ensures.others;
      there = c.requires;
    } in
    goes_inside g

pub cool-requires-clause-own_rising : goal.cool-requires-clause-own_rising
cool-requires-clause-own_rising c =
    subst (λ (xs : List Spot). IsStrictlySortedBy nat_cmp (keys xs)) (sym (c.deref.ensures.value ∙ c.in_ok-count_own.ensures))
    (own_rises c.frame.result c.segments-segments.result.now c.index-segments-at.result)

pub without-requires : goal.without-requires
without-requires c =
    let g : IsGoing c.args.self.now c.segments-segments.result.now c.args.name c.index_of-at.result =
    record {
      same = c.segments-segments.ensures.value;
      order = c.segments-segments.ensures.kept.rising;
      lesser = c.index_of-at.ensures.lesser;
      others = c.index_of-at.ensures.others;
      there = c.requires;
    } in
    subst (λ (t : TileContent). c.index_of-at.result < length t.segments) (sym c.self.view_is) (goes_within g)

pub hot_part_without-requires-clause-within : goal.hot_part_without-requires-clause-within
hot_part_without-requires-clause-within c =
    let g : IsGoing c.args.self.now c.segments-segments.result.now c.args.name c.index_of-at.result =
    record {
      same = c.segments-segments.ensures.value;
      order = c.segments-segments.ensures.kept.rising;
      lesser = c.index_of-at.ensures.lesser;
      others = c.index_of-at.ensures.others;
      there = c.requires;
    } in
    goes_within g

pub hot_part_without-requires-clause-near : goal.hot_part_without-requires-clause-near
hot_part_without-requires-clause-near c =
    let g : IsGoing c.args.self.now c.segments-segments.result.now c.args.name c.index_of-at.result =
    record {
      same = c.segments-segments.ensures.value;
      order = c.segments-segments.ensures.kept.rising;
      lesser = c.index_of-at.ensures.lesser;
      others = c.index_of-at.ensures.others;
      there = c.requires;
    } in
    let content : IsTileContent c.args.self.now = subst IsTileContent c.self.view_is c.self.invariant.content in
    near_all (get_or c.args.self.now.segments c.index_of-at.result c.index-segments-at.result) content
    (Contains-get_or c.args.self.now.segments c.index_of-at.result c.index-segments-at.result (goes_within g))

listed_is : (c : After-result-3-1) → c.in_ok-listed.listed ≡ without_name c.args.self.now.segments c.args.name
listed_is c =
    let g : IsGoing c.args.self.now c.segments-segments.result.now c.args.name c.index_of-at.result =
    record {
      same = c.segments-segments.ensures.value;
      order = c.segments-segments.ensures.kept.rising;
      lesser = c.index_of-at.ensures.lesser;
      others = c.index_of-at.ensures.others;
      there = c.requires;
    } in
    c.in_ok-listed.ensures
    ∙ ap (λ (t : TileContent). take c.index_of-at.result t.segments ++ drop (suc c.index_of-at.result) t.segments) c.self.view_is
    ∙ goes_out g

own_is : (c : After-result-3-1)
    → c.deref.result.now ≡ own_spots (frame_of c.args.self.now) c.args.self.now.segments c.index-segments-at.result
own_is c =
    c.deref.ensures.value ∙ c.in_ok-count_own.ensures
    ∙ ap (λ (f : TileFrame). own_spots f c.segments-segments.result.now c.index-segments-at.result) c.frame.ensures.value
    ∙ ap (λ (us : List Segment). own_spots (frame_of c.args.self.now) us c.index-segments-at.result) c.segments-segments.ensures.value

pub invariant_of-result : goal.invariant_of-result
invariant_of-result c =
    let g : IsGoing c.args.self.now c.segments-segments.result.now c.args.name c.index_of-at.result =
    record {
      same = c.segments-segments.ensures.value;
      order = c.segments-segments.ensures.kept.rising;
      lesser = c.index_of-at.ensures.lesser;
      others = c.index_of-at.ensures.others;
      there = c.requires;
    } in
    let inv =
    subst (λ (t : TileContent). IsTile t (part_spots c.self.inside.hot_part) (part_rows t.segments c.self.inside.hot_part)) c.self.view_is c.self.invariant in
    let read : c.index-segments-at.result ≡ get_or c.args.self.now.segments c.index_of-at.result c.index-segments-at.result =
    c.index-segments-at.is
    ∙ ap (λ (us : List Segment). get_or us c.index_of-at.result c.index-segments-at.result) c.segments-segments.ensures.value in
    let name : c.index-segments-at.result.name ≡ c.args.name =
    ap (λ (s : Segment). s.name) read ∙ goes_named g c.index-segments-at.result in
    let live : Contains c.args.self.now.segments c.index-segments-at.result =
    subst (Contains c.args.self.now.segments) (sym read)
    (Contains-get_or c.args.self.now.segments c.index_of-at.result c.index-segments-at.result (goes_within g)) in
    let out =
    subst (λ (n : Label). take c.index_of-at.result c.args.self.now.segments ++ drop (suc c.index_of-at.result) c.args.self.now.segments
    ≡ without_name c.args.self.now.segments n) (sym name) (goes_out g) in
    let made : c.deref-2.result.now
    ≡ cooled (spots_in c.args.self.now) (own_spots (frame_of c.args.self.now) c.args.self.now.segments c.index-segments-at.result) =
    c.deref-2.ensures.value ∙ c.in_ok-cool.ensures.spots
    ∙ ap (λ (xs : List Spot). cooled xs c.deref.result.now) c.spots.ensures.value
    ∙ ap (λ (ys : List Spot). cooled (spots_in c.args.self.now) ys) (own_is c) in
    let cold : c.deref-3.result.now
    ≡ cold_keys (spots_in c.args.self.now) (own_spots (frame_of c.args.self.now) c.args.self.now.segments c.index-segments-at.result) =
    c.deref-3.ensures.value ∙ c.in_ok-cool.ensures.cold
    ∙ ap (λ (xs : List Spot). cold_keys xs c.deref.result.now) c.spots.ensures.value
    ∙ ap (λ (ys : List Spot). cold_keys (spots_in c.args.self.now) ys) (own_is c) in
    let tile =
    shrunk c.args.self.now c.index-segments-at.result (part_spots c.self.inside.hot_part) (part_rows c.args.self.now.segments c.self.inside.hot_part) inv
    live c.index_of-at.result out c.deref-2.result.now c.deref-3.result.now c.in_ok-hot_part.hot_part made cold c.in_ok-hot_part.ensures in
    let tile_named =
    subst (λ (n : Label). IsTile (record { profile = c.args.self.now.profile; id = c.args.self.now.id; segments = without_name c.args.self.now.segments n })
    (part_spots c.in_ok-hot_part.hot_part) (part_rows (without_name c.args.self.now.segments n) c.in_ok-hot_part.hot_part)) name tile in
    subst (λ (t : TileContent). IsTile (record { profile = t.profile; id = t.id; segments = c.in_ok-listed.listed })
    (part_spots c.in_ok-hot_part.hot_part) (part_rows c.in_ok-listed.listed c.in_ok-hot_part.hot_part)) (sym c.self.view_is)
    (subst (λ (us : List Segment). IsTile (record { profile = c.args.self.now.profile; id = c.args.self.now.id; segments = us })
    (part_spots c.in_ok-hot_part.hot_part) (part_rows us c.in_ok-hot_part.hot_part)) (sym (listed_is c)) tile_named)

pub returns : goal.returns
returns c =
    λ i. record {
      profile = (c.self.view_is i).profile;
      id = (c.self.view_is i).id;
      segments = listed_is c i;
    }
