-- A tile with a segment more, or less, is a tile: what was made for it is what it has to keep.
use Rattle.std.proofs.Common.{◌≡◌, refl, ap, sym, ◌∙◌, ℕ, zero, suc, ◌+◌, ◌<◌, ◌≤◌, arith, false, Ordering, Less, Equal, Greater, is_lt, is_eq, List, [], ◌∷◌, ◌++◌, map, length, take, drop, Option, Some, None, length-append, add-one}
use Rattle.std.specs.Prelude.{not, Contains, IsTrue, Box}
use Rattle.std.specs.Global.{Global}
use Rattle.std.specs.List.{filter, AllByRecursion}
use Rattle.std.specs.Ordering.{ordering_reverse}
use Rattle.std.proofs.lemmas.List.{map-append, take-append-drop}
use Rattle.grid_core.specs.Name.{Label, label_cmp, label_eq}
use Rattle.grid_core.specs.Segment.{Segment, IsSegment}
use Rattle.grid_core.specs.LiveList.{names, with_segment, without_name}
use Rattle.grid_core.specs.Tiles.{meets_tile}
use Rattle.grid_core.proofs.Order.{label_total}
use Rattle.grid_core.proofs.Filters.{same_kept, filter_length}
use Rattle.grid_core.proofs.LiveLists.{with_segment_is_live, without_name_is_live}
use Rattle.tile_law.proofs.OneMore.{near_all_with}
use Rattle.tile_law.proofs.OneMoreCounts.{new_from_none}
use Rattle.tile_law.proofs.OneLess.{near_all_without}
use Rattle.hot_tile.specs.declared.spots.Spot.{Spot}
use Rattle.hot_tile.specs.declared.tile.HotPart.{HotPart}
use Rattle.hot_tile.specs.Spots.{keys}
use Rattle.hot_tile.specs.Steps.{grown_row}
use Rattle.hot_tile.specs.Tile.{TileContent, IsTile, frame_of, spots_in, rows_in, path_in}
use Rattle.hot_tile.specs.Paths.{grown_path, grown_paths, thinned_path, thinned_paths}
use Rattle.hot_tile.specs.HotPart.{IsHotPart, part_spots, part_rows}

-- ---- the list with a segment more

-- of a name that isn't there, what isn't before is behind
behind_is_after : (name : Label) (ss : List Segment) → AllByRecursion (λ (u : Segment). label_eq u.name name ≡ false) ss
    → AllByRecursion (λ (t : Segment). not (is_lt (label_cmp t.name name)) ≡ is_lt (label_cmp name t.name)) ss
behind_is_after name [] h = tt
behind_is_after name (t ∷ ss) h =
    (by (label_cmp t.name name) (label_cmp name t.name) (label_total.antisymm name t.name) h.0, behind_is_after name ss h.1)
  where
    by : (r q : Ordering) → q ≡ ordering_reverse r → is_eq r ≡ false → not (is_lt r) ≡ is_lt q
    by Less q e h = sym (ap is_lt e)
    by Equal q e h = cc
    by Greater q e h = sym (ap is_lt e)

module _ (ss : List Segment) (s : Segment) (at : ℕ)
    (lesser : take at ss ≡ filter (λ t. is_lt (label_cmp t.name s.name)) ss)
    (others : drop at ss ≡ filter (λ t. not (is_lt (label_cmp t.name s.name))) ss)
    (new : Contains (names ss) s.name → ⊥) where
  behind : drop at ss ≡ filter (λ t. is_lt (label_cmp s.name t.name)) ss
  behind =
      others
      ∙ same_kept (λ t. not (is_lt (label_cmp t.name s.name))) (λ t. is_lt (label_cmp s.name t.name)) ss
      (behind_is_after s.name ss (new_from_none ss s.name new))

  -- put in where its name would stand, it is in its place
  pub put_in : take at ss ++ s ∷ drop at ss ≡ with_segment ss s
  put_in = λ i. lesser i ++ s ∷ behind i

  pub length_put_in : at ≤ length ss → length (with_segment ss s) ≡ length ss + 1
  length_put_in le =
      ap length (sym put_in)
      ∙ omega (
        arith,
        length-append (take at ss) (s ∷ drop at ss),
        ap length (take-append-drop at ss),
        length-append (take at ss) (drop at ss),
      )

-- ---- what was made

none_made : (ss : List Segment) (f : Segment → List ℕ) → AllByRecursion (λ u. f u ≡ []) ss → map (λ s. []) ss ≡ map f ss
none_made [] f h = refl
none_made (s ∷ ss) f h = λ i. sym h.0 i ∷ none_made ss f h.1 i

-- what was made is what the tile has to keep
part_is : (t : TileContent) (d : Option (Box HotPart Global)) (hot : List Spot) (paths : List (List ℕ))
    → IsHotPart d hot paths → hot ≡ spots_in t → rows_in t ≡ map (path_in t) t.segments → paths ≡ map (path_in t) t.segments
    → (spots_in t ≡ [] → AllByRecursion (λ u. path_in t u ≡ []) t.segments)
    → (part_spots d ≡ spots_in t) × (part_rows t.segments d ≡ rows_in t)
part_is t None hot paths none spots rows hot_part empty =
    (sym none ∙ spots, none_made t.segments (path_in t) (empty (sym spots ∙ none)) ∙ sym rows)
part_is t (Some d) hot paths both spots rows hot_part empty = (both.0 ∙ spots, both.1 ∙ hot_part ∙ sym rows)

map_alike : (f g : Segment → List ℕ) (ss : List Segment) → AllByRecursion (λ u. f u ≡ g u) ss → map f ss ≡ map g ss
map_alike f g [] h = refl
map_alike f g (s ∷ ss) h = λ i. h.0 i ∷ map_alike f g ss h.1 i

all_front : (P : Segment → Type 0) (i : ℕ) (ss : List Segment) → AllByRecursion P ss → AllByRecursion P (take i ss) × AllByRecursion P (drop i ss)
all_front P zero ss h = (tt, h)
all_front P (suc i) [] h = (tt, tt)
all_front P (suc i) (s ∷ ss) h = let rest = all_front P i ss h.1 in ((h.0, rest.0), rest.1)

-- ---- a segment more

-- what is known where a segment comes: the tile, and where the segment's name stands
pub record IsComing (t : TileContent) (s : Segment) (at : ℕ) : Type 0 where
  pub within : IsSegment t.profile.bound s
  pub met : IsTrue (meets_tile t.profile t.id s)
  pub new : Contains (names t.segments) s.name → ⊥
  pub few : length t.segments < 65536
  pub place : at ≤ length t.segments
  pub lesser : take at t.segments ≡ filter (λ u. is_lt (label_cmp u.name s.name)) t.segments
  pub others : drop at t.segments ≡ filter (λ u. not (is_lt (label_cmp u.name s.name))) t.segments

-- the tile with the segment
abbrev pub more : TileContent → Segment → TileContent
more t s = record { profile = t.profile; id = t.id; segments = with_segment t.segments s }

module _ {t : TileContent} {s : Segment} {at : ℕ} {hot : List Spot} {paths : List (List ℕ)} (inv : IsTile t hot paths) (c : IsComing t s at)
    (fresh : List ℕ) where
  grown_paths_are : (ks : List ℕ) → AllByRecursion (λ u. grown_path t fresh u ≡ path_in (more t s) u) t.segments
      → grown_row (frame_of t) s [] ks ≡ path_in (more t s) s
      → grown_paths t at s ks fresh ≡ map (path_in (more t s)) (with_segment t.segments s)
  grown_paths_are ks old own =
      let two = all_front (λ u. grown_path t fresh u ≡ path_in (more t s) u) at t.segments old in
      (λ i. map_alike (grown_path t fresh) (path_in (more t s)) (take at t.segments) two.0 i
      ++ own i ∷ map_alike (grown_path t fresh) (path_in (more t s)) (drop at t.segments) two.1 i)
      ∙ sym (map-append (path_in (more t s)) (take at t.segments) (s ∷ drop at t.segments))
      ∙ ap (map (path_in (more t s))) (put_in t.segments s at c.lesser c.others c.new)

  -- what was made with the segment is what the tile with the segment has to keep
  pub grown_is_tile : (now : List Spot) (d : Option (Box HotPart Global)) → IsHotPart d now (grown_paths t at s (keys now) fresh)
      → now ≡ spots_in (more t s)
      → rows_in (more t s) ≡ map (path_in (more t s)) (with_segment t.segments s)
      → AllByRecursion (λ u. grown_path t fresh u ≡ path_in (more t s) u) t.segments
      → grown_row (frame_of t) s [] (keys now) ≡ path_in (more t s) s
      → (spots_in (more t s) ≡ [] → AllByRecursion (λ u. path_in (more t s) u ≡ []) (with_segment t.segments s))
      → IsTile (more t s) (part_spots d) (part_rows (with_segment t.segments s) d)
  grown_is_tile now d hot_part spots rows old own empty =
      let kept = part_is (more t s) d now (grown_paths t at s (keys now) fresh) hot_part spots rows (grown_paths_are (keys now) old own) empty in
      record {
        content =
            record {
              sizes = inv.content.sizes;
              live = with_segment_is_live t.profile.bound t.segments s inv.content.live c.within;
              few = omega (arith, c.few, length_put_in t.segments s at c.lesser c.others c.new c.place);
              meet = near_all_with t.profile t.id t.segments s inv.content.meet c.met;
            };
        spots = kept.0;
        rows = kept.1;
      }

-- ---- a segment less

-- the tile without the segment of a name
abbrev pub fewer : TileContent → Label → TileContent
fewer t name = record { profile = t.profile; id = t.id; segments = without_name t.segments name }

module _ {t : TileContent} {hot : List Spot} {paths : List (List ℕ)} (inv : IsTile t hot paths) (name : Label) (at : ℕ) (cold : List ℕ)
    (out : take at t.segments ++ drop (suc at) t.segments ≡ without_name t.segments name) where
  thinned_paths_are : AllByRecursion (λ u. thinned_path t cold u ≡ path_in (fewer t name) u) t.segments
      → thinned_paths t at cold ≡ map (path_in (fewer t name)) (without_name t.segments name)
  thinned_paths_are old =
      let front = (all_front (λ u. thinned_path t cold u ≡ path_in (fewer t name) u) at t.segments old).0 in
      let back = (all_front (λ u. thinned_path t cold u ≡ path_in (fewer t name) u) (at + 1) t.segments old).1 in
      (λ i. map_alike (thinned_path t cold) (path_in (fewer t name)) (take at t.segments) front i
      ++ map_alike (thinned_path t cold) (path_in (fewer t name)) (drop (at + 1) t.segments) back i)
      ∙ sym (map-append (path_in (fewer t name)) (take at t.segments) (drop (at + 1) t.segments))
      ∙ ap (λ n. map (path_in (fewer t name)) (take at t.segments ++ drop n t.segments)) (add-one at)
      ∙ ap (map (path_in (fewer t name))) out

  -- what was made without the segment is what the tile without it has to keep
  pub shrunk_is_tile : (now : List Spot) (d : Option (Box HotPart Global)) → IsHotPart d now (thinned_paths t at cold)
      → now ≡ spots_in (fewer t name)
      → rows_in (fewer t name) ≡ map (path_in (fewer t name)) (without_name t.segments name)
      → AllByRecursion (λ u. thinned_path t cold u ≡ path_in (fewer t name) u) t.segments
      → (spots_in (fewer t name) ≡ [] → AllByRecursion (λ u. path_in (fewer t name) u ≡ []) (without_name t.segments name))
      → IsTile (fewer t name) (part_spots d) (part_rows (without_name t.segments name) d)
  shrunk_is_tile now d hot_part spots rows old empty =
      let kept = part_is (fewer t name) d now (thinned_paths t at cold) hot_part spots rows (thinned_paths_are old) empty in
      record {
        content =
            record {
              sizes = inv.content.sizes;
              live = without_name_is_live t.profile.bound t.segments name inv.content.live;
              few = omega (arith, inv.content.few, filter_length (λ u. not (label_eq u.name name)) t.segments);
              meet = near_all_without t.profile t.id t.segments name inv.content.meet;
            };
        spots = kept.0;
        rows = kept.1;
      }
