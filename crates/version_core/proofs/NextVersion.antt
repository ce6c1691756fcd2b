-- A change gives a version again. Its map edits put the new contents of its tiles, and then put in and
-- take out segments by name: the first leave the live list, and the second all tiles. A tile that the
-- change doesn't touch is far from each of its edits, so it has what it had; and a tile out of reach
-- is in no map, and is touched by no change.
use Rattle.std.proofs.Common.{◌≡◌, refl, ap, sym, subst, ◌∙◌, ℕ, ◌+◌, ◌<◌, ◌≤◌, ◌⊎◌, inl, inr, arith}
use Rattle.std.proofs.Common.{Bool, true, false, true≢false, List, [], ◌∷◌, map, length, Contains}
use Rattle.std.specs.Prelude.{flat_map, unsigned_abs, Option, Some}
use Rattle.std.specs.declared.cmp.Ordering.{Ordering}
use Rattle.std.specs.declared.cmp.Ordering.TheVariants.{Less, Equal, Greater}
use Rattle.std.specs.Cmp.{ranks}
use Rattle.std.specs.List.{AllByRecursion}
use Rattle.std.specs.Ordering.{MatchOrdering, nat_cmp}
use Rattle.std.proofs.lemmas.List.Elements.{Contains-append_cases}
use Rattle.std.proofs.lemmas.List.Sums.{fold-append}
use Rattle.grid_core.specs.declared.tile.TileId.{TileId}
use Rattle.grid_core.specs.LiveList.{IsLiveList}
use Rattle.grid_core.specs.Profile.{Sizes, IsProfile}
use Rattle.grid_core.specs.Tiles.{tiles}
use Rattle.grid_core.proofs.ListMembers.{contains_first, contains_later}
use Rattle.grid_core.proofs.RisingMembers.{contains_rising, any_iff}
use Rattle.grid_core.proofs.TileOrder.{tile_total, tile_exact}
use Rattle.radix_map.specs.Entries.{value_at, with_key, without_key, edited, keys_end}
use Rattle.tile_law.specs.Laws.{IsTileInReach}
use Rattle.tile_law.specs.Parts.{passes_of}
use Rattle.tile_law.proofs.MetTiles.{tiles_are_met}
use Rattle.tile_law.proofs.Reach.{met_tiles_are_in_reach}
use Rattle.hot_tile.specs.Tile.{TileContent}
use Rattle.version_core.specs.declared.entry.Entry.{Entry}
use Rattle.version_core.specs.declared.entry.Entry.TheVariants.{Live}
use Rattle.version_core.specs.declared.change.Edit.{Edit}
use Rattle.version_core.specs.declared.change.Edit.TheVariants.{Insert, Delete}
use Rattle.version_core.specs.Edits.{after_edits, edited_segment, tiles_of_edits}
use Rattle.version_core.specs.Entries.{content_at, content_found, live_in, stamps_in, put_tile, put_name, map_edits, after_map_edits}
use Rattle.version_core.specs.History.{touches}
use Rattle.tile_keys.specs.Keys.{tile_key, name_key}
use Rattle.version_core.specs.Laws.{AreSegments}
use Rattle.version_core.specs.Renewal.{Renewed, Renews}
use Rattle.version_core.specs.Stands.{content_of, tile_with, spans_of}
use Rattle.version_core.specs.Version.{IsVersion, most_segments, MayFollow, IsNext, version_of, stamp_of}
use Rattle.tile_keys.proofs.ToldApart.{name_fits, tile_then_name}
use Rattle.version_core.proofs.Apart.{live_after, near_after_far}
use Rattle.version_core.proofs.LiveEntries.{live_with, live_without}
use Rattle.version_core.proofs.Rebasing.{edits_covered, far_from}
use Rattle.version_core.proofs.TouchedEntries.{AreEntries, AreInReach, entries_with, entries_without, value_set_above, value_removed_above}
use Rattle.version_core.proofs.TouchedEntries.{tiles_are_entries, tiles_leave_live, touched_by, put_here, put_elsewhere}
use Rattle.version_core.proofs.TouchedEntries.{stamp_at, stamp_found, stamp_out_of_reach}

-- ---- segments put in and taken out by name

names_are_entries : (bound : ℕ) (es : List (ℕ × Entry)) (edits : List Edit) → AreSegments bound edits → AreEntries es
    → AreEntries (after_map_edits es (map put_name edits))
names_are_entries bound es [] fits are = are
names_are_entries bound es (Insert s ∷ edits) fits are =
    names_are_entries bound (with_key es (name_key s.name) (Live s)) edits fits.1
    (entries_with es (name_key s.name) (Live s) are (name_fits s.name fits.0.named) (refl, fits.0.named))
names_are_entries bound es (Delete s ∷ edits) fits are =
    names_are_entries bound (without_key es (name_key s.name)) edits fits.1
    (entries_without es (name_key s.name) are (name_fits s.name fits.0.named))

-- they make the live list what the edits make it
names_live : (bound : ℕ) (es : List (ℕ × Entry)) (edits : List Edit) → AreSegments bound edits → AreEntries es
    → live_in (after_map_edits es (map put_name edits)) ≡ after_edits (live_in es) edits
names_live bound es [] fits are = refl
names_live bound es (Insert s ∷ edits) fits are =
    names_live bound (with_key es (name_key s.name) (Live s)) edits fits.1
    (entries_with es (name_key s.name) (Live s) are (name_fits s.name fits.0.named) (refl, fits.0.named))
    ∙ ap (λ us. after_edits us edits) (live_with 0 keys_end es s are.rising are.keyed fits.0.named)
names_live bound es (Delete s ∷ edits) fits are =
    names_live bound (without_key es (name_key s.name)) edits fits.1
    (entries_without es (name_key s.name) are (name_fits s.name fits.0.named))
    ∙ ap (λ us. after_edits us edits) (live_without 0 keys_end es s.name are.rising are.keyed fits.0.named)

-- they leave all tiles
names_leave_tiles : (bound : ℕ) (es : List (ℕ × Entry)) (edits : List Edit) → AreSegments bound edits → AreEntries es
    → (t : TileId) → IsTileInReach t
    → value_at (tile_key t) (after_map_edits es (map put_name edits)) ≡ value_at (tile_key t) es
names_leave_tiles bound es [] fits are t is = refl
names_leave_tiles bound es (Insert s ∷ edits) fits are t is =
    names_leave_tiles bound (with_key es (name_key s.name) (Live s)) edits fits.1
    (entries_with es (name_key s.name) (Live s) are (name_fits s.name fits.0.named) (refl, fits.0.named)) t is
    ∙ value_set_above (tile_key t) (name_key s.name) (Live s) es are.rising (tile_then_name t s.name is)
names_leave_tiles bound es (Delete s ∷ edits) fits are t is =
    names_leave_tiles bound (without_key es (name_key s.name)) edits fits.1
    (entries_without es (name_key s.name) are (name_fits s.name fits.0.named)) t is
    ∙ value_removed_above (tile_key t) (name_key s.name) es are.rising (tile_then_name t s.name is)

-- ---- the tiles of a change

-- they are in reach
all_in_reach : (pr : Sizes) → IsProfile pr → (edits : List Edit) → AreSegments pr.bound edits → (t : TileId)
    → Contains (flat_map (λ e. tiles pr (edited_segment e)) edits) t → IsTileInReach t
all_in_reach pr sizes [] fits t h = absurd (omega (arith, h.1))
all_in_reach pr sizes (e ∷ edits) fits t h =
    elim (Contains-append_cases (tiles pr (edited_segment e)) (flat_map (λ e. tiles pr (edited_segment e)) edits) t h) [
      | inl first ↦ met_tiles_are_in_reach pr sizes (edited_segment e) fits.0 t
          (((tiles_are_met pr sizes.some_side (edited_segment e) fits.0.ordered).met t).0 first)
      | inr later ↦ all_in_reach pr sizes edits fits.1 t later
    ]

pub edits_in_reach : (pr : Sizes) → IsProfile pr → (edits : List Edit) → AreSegments pr.bound edits → (t : TileId)
    → Contains (tiles_of_edits pr edits) t → IsTileInReach t
edits_in_reach pr sizes edits fits t h =
    all_in_reach pr sizes edits fits t
    ((contains_rising tile_total tile_exact (flat_map (λ e. tiles pr (edited_segment e)) edits) t).0 h)

-- what holds of each tile of the contents holds of all
all_contents : (P : TileId → Type 0) (cs : List (TileId × Option TileContent))
    → ((t : TileId) → Contains (map (λ c. c.0) cs) t → P t) → AllByRecursion (λ c. P c.0) cs
all_contents P [] h = tt
all_contents P (c ∷ cs) h = (
  h c.0 (contains_first c.0 (map (λ c. c.0) cs)),
  all_contents P cs (λ t k. h t (contains_later c.0 (map (λ c. c.0) cs) t k)),
)

-- a tile is in reach or not
within_or_not : (k : ℕ) → (k ≤ 16384) ⊎ (16384 < k)
within_or_not k = by (nat_cmp k 16384) (ranks k 16384)
  where
    by : (r : Ordering) → MatchOrdering r (k < 16384) (k ≡ 16384) (16384 < k) → (k ≤ 16384) ⊎ (16384 < k)
    by Less h = inl (omega (arith, h))
    by Equal h = inl (omega (arith, h))
    by Greater h = inr h

reach_or_not : (t : TileId) → IsTileInReach t ⊎ (IsTileInReach t → ⊥)
reach_or_not t = by (within_or_not (unsigned_abs t.i)) (within_or_not (unsigned_abs t.j))
  where
    by : (unsigned_abs t.i ≤ 16384) ⊎ (16384 < unsigned_abs t.i) → (unsigned_abs t.j ≤ 16384) ⊎ (16384 < unsigned_abs t.j)
        → IsTileInReach t ⊎ (IsTileInReach t → ⊥)
    by (inl column) (inl row) = inl (record { column = column; row = row })
    by (inl column) (inr far) = inr (λ is. let near = is.row in omega (arith, near, far))
    by (inr far) row = inr (λ is. let near = is.column in omega (arith, near, far))

-- ---- a version, a change, and what the change makes of the version's live list

module _ (pr : Sizes) (es : List (ℕ × Entry)) (count spans passes : ℕ) (is : IsVersion pr es count spans passes) (n brand : ℕ)
    (x : Renewed) (follow : MayFollow (version_of n pr brand es) x.change) (renews : Renews pr (live_in es) x) where
  -- the entries before, with the tiles' new contents, and with the names' edits too
  old : AreEntries es
  old = record { rising = is.rising; keyed = is.keyed }

  abbrev edits : List Edit
  edits = x.change.edits

  abbrev with_tiles : List (ℕ × Entry)
  with_tiles = after_map_edits es (map (put_tile (n + 1)) x.contents)

  abbrev next_entries : List (ℕ × Entry)
  next_entries = after_map_edits es (map_edits (n + 1) x.contents x.change.edits)

  in_turn : next_entries ≡ after_map_edits with_tiles (map put_name edits)
  in_turn = fold-append (λ us (e : ℕ × Option Entry). edited us e.0 e.1) es (map (put_tile (n + 1)) x.contents) (map put_name edits)

  reach : AreInReach x.contents
  reach =
      all_contents IsTileInReach x.contents
      (λ t h. edits_in_reach pr is.sizes edits follow.within t ((renews.tiles t).0 h))

  tiles_put : AreEntries with_tiles
  tiles_put = tiles_are_entries (n + 1) es x.contents old reach

  next_are_entries : AreEntries next_entries
  next_are_entries = subst AreEntries (sym in_turn) (names_are_entries pr.bound with_tiles edits follow.within tiles_put)

  -- the live list is the old one after the edits
  next_live : live_in next_entries ≡ after_edits (live_in es) edits
  next_live =
      ap live_in in_turn
      ∙ names_live pr.bound with_tiles edits follow.within tiles_put
      ∙ ap (λ us. after_edits us edits) (tiles_leave_live (n + 1) es x.contents old reach)

  -- what stands under the key of a tile in reach is what the contents put there
  at_tile : (t : TileId) → IsTileInReach t → value_at (tile_key t) next_entries ≡ value_at (tile_key t) with_tiles
  at_tile t near =
      ap (value_at (tile_key t)) in_turn ∙ names_leave_tiles pr.bound with_tiles edits follow.within tiles_put t near

  touched_value : (t : TileId) → IsTileInReach t → Contains (tiles_of_edits pr edits) t
      → value_at (tile_key t) next_entries ≡ Some (touched_by (n + 1) t (content_of pr t (after_edits (live_in es) edits)))
  touched_value t near here =
      at_tile t near
      ∙ put_here (n + 1) (λ u. content_of pr u (after_edits (live_in es) edits)) t near es x.contents old reach renews.contents
      (inr ((renews.tiles t).1 here))

  other_value : (t : TileId) → IsTileInReach t → (Contains (tiles_of_edits pr edits) t → ⊥)
      → value_at (tile_key t) next_entries ≡ value_at (tile_key t) es
  other_value t near out =
      at_tile t near ∙ put_elsewhere (n + 1) t near es x.contents old reach (λ h. out ((renews.tiles t).0 h))

  -- ---- contents

  -- the change touches the tile where it is one of its tiles
  is_touched : (t : TileId) → touches pr t x.change ≡ true → Contains (tiles_of_edits pr edits) t
  is_touched t h = (any_iff tile_total tile_exact t (tiles_of_edits pr edits)).0 h

  is_other : (t : TileId) → touches pr t x.change ≡ false → Contains (tiles_of_edits pr edits) t → ⊥
  is_other t h here = true≢false (sym ((any_iff tile_total tile_exact t (tiles_of_edits pr edits)).1 here) ∙ h)

  -- a tile that isn't touched has what it had of the live list
  other_content : (t : TileId) → touches pr t x.change ≡ false
      → content_of pr t (live_in es) ≡ content_of pr t (after_edits (live_in es) edits)
  other_content t h =
      ap (tile_with pr t)
      (sym (near_after_far pr.bound pr t x.change.editor [] (live_in es) edits is.live follow.within
      (far_from pr (tiles_of_edits pr edits) t h edits (edits_covered pr.bound pr is.sizes.some_side edits follow.within))
      follow.fits))

  next_content : (t : TileId) → IsTileInReach t → (b : Bool) → touches pr t x.change ≡ b
      → content_at next_entries t ≡ content_of pr t (after_edits (live_in es) edits)
  next_content t near true h = ap content_found (touched_value t near (is_touched t h))
  next_content t near false h =
      ap content_found (other_value t near (is_other t h)) ∙ is.contents t near ∙ other_content t h

  -- ---- the next version

  -- the entries after the change are those of a version, with the three sums of the new live list
  pub next_is_version : (c s p : ℕ) → c ≡ length (after_edits (live_in es) edits)
      → s ≡ spans_of pr (after_edits (live_in es) edits) → p ≡ passes_of (after_edits (live_in es) edits)
      → IsVersion pr next_entries c s p
  next_is_version c s p counted spanned passed =
      record {
        sizes = is.sizes;
        rising = next_are_entries.rising;
        keyed = next_are_entries.keyed;
        live = subst (IsLiveList pr.bound) (sym next_live)
            (live_after pr.bound x.change.editor [] (live_in es) edits is.live follow.within);
        few = subst (λ us. length us ≤ most_segments) (sym next_live) follow.few;
        contents = λ t near. next_content t near (touches pr t x.change) refl ∙ ap (content_of pr t) (sym next_live);
        counted = counted ∙ ap length (sym next_live);
        spanned = spanned ∙ ap (spans_of pr) (sym next_live);
        passed = passed ∙ ap passes_of (sym next_live);
      }

  next_stamp : (t : TileId) → touches pr t x.change ≡ true → stamp_of (stamps_in next_entries) t ≡ n + 1
  next_stamp t h =
      let here = is_touched t h in
      let near = edits_in_reach pr is.sizes edits follow.within t here in
      stamp_at t near next_entries next_are_entries.keyed ∙ ap stamp_found (touched_value t near here)

  other_stamp : (t : TileId) → touches pr t x.change ≡ false
      → stamp_of (stamps_in next_entries) t ≡ stamp_of (stamps_in es) t
  other_stamp t h =
      elim (reach_or_not t) [
        | inl near ↦ stamp_at t near next_entries next_are_entries.keyed
            ∙ ap stamp_found (other_value t near (is_other t h)) ∙ sym (stamp_at t near es is.keyed)
        | inr far ↦ stamp_out_of_reach t far next_entries next_are_entries.keyed ∙ sym (stamp_out_of_reach t far es is.keyed)
      ]

  -- it is the next version
  pub next_is_next : IsNext (version_of n pr brand es) x.change (version_of (n + 1) pr brand next_entries)
  next_is_next =
      record {
        number = refl;
        profile = refl;
        brand = refl;
        live = next_live;
        touched = next_stamp;
        others = other_stamp;
      }
