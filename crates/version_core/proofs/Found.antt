-- What a lookup in a version's map tells: a tile's content, the segment of a name, and the live list
-- behind the first key of a name. Tiles stand below that key and names from it on, so by induction on
-- the entries what is found at a key is all that the live list has for it.
use Rattle.std.proofs.Common.{◌≡◌, refl, ap, sym, subst, ◌∙◌, ℕ, ◌≤◌, ◌⊎◌, inl, inr, arith}
use Rattle.std.proofs.Common.{Bool, true, false, cond, true≢false, List, [], ◌∷◌, filter, nat_cmp, nat_le, is_eq}
use Rattle.std.specs.Prelude.{Option, Some, None, slice_get, Contains, IsNone, ◌↔◌, unwrap_or, unsigned_abs}
use Rattle.std.specs.List.{AllByRecursion, cons_option}
use Rattle.std.proofs.lemmas.Bool.{false_from_ne_true}
use Rattle.std.proofs.lemmas.Bool.Decides.{nat_tests}
use Rattle.std.proofs.lemmas.List.Elements.{recursion_from_All}
use Rattle.grid_core.specs.declared.tile.TileId.{TileId}
use Rattle.grid_core.specs.Name.{Label, IsLabel, label_eq}
use Rattle.grid_core.specs.Profile.{Sizes}
use Rattle.grid_core.specs.Segment.{Segment, IsSegment}
use Rattle.grid_core.specs.LiveList.{names}
use Rattle.grid_core.specs.Tiles.{meets_tile}
use Rattle.grid_core.proofs.Comparisons.{label_decides}
use Rattle.grid_core.proofs.Filters.{none_kept}
use Rattle.grid_core.proofs.ListMembers.{contains_filter, contains_first, contains_later, contains_cases}
use Rattle.radix_map.specs.Entries.{value_at, entries_from}
use Rattle.radix_map.proofs.Laws.{from_first}
use Rattle.radix_map.proofs.Values.{same_key, key_equal}
use Rattle.tile_law.specs.Laws.{IsTileInReach}
use Rattle.tile_law.proofs.Reach.{met_tiles_are_in_reach}
use Rattle.hot_tile.specs.Tile.{TileContent, segment_in}
use Rattle.hot_tile.proofs.Lookups.{no_name}
use Rattle.version_core.specs.declared.entry.Entry.{Entry}
use Rattle.version_core.specs.declared.entry.Entry.TheVariants.{Live, Touched}
use Rattle.version_core.specs.declared.entry.TouchedTile.{TouchedTile}
use Rattle.version_core.specs.Entries.{IsKeyed, live_in, content_found, touched_found, live_found, stamps_in}
use Rattle.version_core.specs.Entries as entries
use Rattle.tile_keys.specs.Keys.{tile_key, name_key, first_name_key}
use Rattle.version_core.specs.Stands.{tile_with, content_of}
use Rattle.version_core.specs.Version.{IsVersion, stamp_of}
use Rattle.tile_keys.proofs.ToldApart.{same_name, name_from, tile_below}
use Rattle.version_core.proofs.LiveEntries.{AreKeyed}
use Rattle.version_core.proofs.TouchedEntries.{stamp_found, stamp_at, stamp_out_of_reach}

-- ---- tiles

-- the content of the tile that a lookup found, none where it found none
abbrev pub content_touched : Option TouchedTile → Option TileContent
content_touched None = None
content_touched (Some x) = x.tile

touched_content : (o : Option Entry) → content_touched (touched_found o) ≡ content_found o
touched_content None = refl
touched_content (Some (Live s)) = refl
touched_content (Some (Touched x)) = refl

-- the stamp of the tile that a lookup found, 0 where it found none
abbrev pub stamp_from : Option TouchedTile → ℕ
stamp_from None = 0
stamp_from (Some x) = x.stamp

-- what a tile in reach has is what is found under its key
content_within : (pr : Sizes) (es : List (ℕ × Entry)) (count spans passes : ℕ) → IsVersion pr es count spans passes
    → (t : TileId) → IsTileInReach t → content_touched (touched_found (value_at (tile_key t) es)) ≡ content_of pr t (live_in es)
content_within pr es count spans passes is t reach = touched_content (value_at (tile_key t) es) ∙ is.contents t reach

-- a tile is in reach or out of it
reach_or_not : (t : TileId) → IsTileInReach t ⊎ (IsTileInReach t → ⊥)
reach_or_not t = by (nat_le (unsigned_abs t.i) 16384) refl (nat_le (unsigned_abs t.j) 16384) refl
  where
    by : (b : Bool) → nat_le (unsigned_abs t.i) 16384 ≡ b → (c : Bool) → nat_le (unsigned_abs t.j) 16384 ≡ c
        → IsTileInReach t ⊎ (IsTileInReach t → ⊥)
    by true h true k = inl (record { column = grind (arith, nat_tests); row = grind (arith, nat_tests) })
    by true h false k = inr (λ is. let row = is.row in grind (arith, nat_tests))
    by false h c k = inr (λ is. let column = is.column in grind (arith, nat_tests))

-- no live segment meets a tile out of reach
content_beyond : (pr : Sizes) (es : List (ℕ × Entry)) (count spans passes : ℕ) → IsVersion pr es count spans passes
    → (t : TileId) → (IsTileInReach t → ⊥) → None ≡ content_of pr t (live_in es)
content_beyond pr es count spans passes is t out =
    ap (tile_with pr t)
    (sym (none_kept (meets_tile pr t) (live_in es) (none (live_in es) (recursion_from_All (IsSegment pr.bound) (live_in es) is.live.within))))
  where
    none : (ss : List Segment) → AllByRecursion (IsSegment pr.bound) ss → AllByRecursion (λ s. meets_tile pr t s ≡ false) ss
    none [] h = tt
    none (s ∷ ss) h =
        (false_from_ne_true (meets_tile pr t s) (λ met. out (met_tiles_are_in_reach pr is.sizes s h.0 t met)), none ss h.1)

-- what is found for a tile is what it has, in reach or out of it
pub content_there : (pr : Sizes) (es : List (ℕ × Entry)) (count spans passes : ℕ) → IsVersion pr es count spans passes
    → (t : TileId) (o : Option TouchedTile) → (IsTileInReach t → o ≡ touched_found (value_at (tile_key t) es))
    → ((IsTileInReach t → ⊥) → o ≡ None) → content_touched o ≡ content_of pr t (live_in es)
content_there pr es count spans passes is t o within beyond =
    elim (reach_or_not t) [
      | inl reach ↦ ap content_touched (within reach) ∙ content_within pr es count spans passes is t reach
      | inr out ↦ ap content_touched (beyond out) ∙ content_beyond pr es count spans passes is t out
    ]

-- what is found for a tile has its stamp
stamp_touched : (o : Option Entry) → stamp_from (touched_found o) ≡ stamp_found o
stamp_touched None = refl
stamp_touched (Some (Live s)) = refl
stamp_touched (Some (Touched x)) = refl

pub stamp_there : (es : List (ℕ × Entry)) → AreKeyed es → (t : TileId) (o : Option TouchedTile)
    → (IsTileInReach t → o ≡ touched_found (value_at (tile_key t) es)) → ((IsTileInReach t → ⊥) → o ≡ None)
    → stamp_from o ≡ stamp_of (stamps_in es) t
stamp_there es own t o within beyond =
    elim (reach_or_not t) [
      | inl reach ↦ ap stamp_from (within reach) ∙ stamp_touched (value_at (tile_key t) es) ∙ sym (stamp_at t reach es own)
      | inr out ↦ ap stamp_from (beyond out) ∙ sym (stamp_out_of_reach t out es own)
    ]

-- ---- names

-- the segment of a name in the live list is that of the entry under its key
pub segment_at : (n : Label) → IsLabel n → (es : List (ℕ × Entry)) → AreKeyed es
    → live_found (value_at (name_key n) es) ≡ segment_in (live_in es) n
segment_at n is [] own = refl
segment_at n is (e ∷ es) own = by e.1 own.0 (segment_at n is es own.1)
  where
    others : List Segment
    others = filter (λ s. label_eq s.name n) (live_in es)

    by : (v : Entry) → IsKeyed e.0 v → live_found (value_at (name_key n) es) ≡ segment_in (live_in es) n
        → live_found (cond (is_eq (nat_cmp (name_key n) e.0)) (Some v) (value_at (name_key n) es))
        ≡ segment_in (cons_option (entries.segment_in v) (live_in es)) n
    by (Touched x) own rest =
        ap (λ b. live_found (cond b (Some (Touched x)) (value_at (name_key n) es))) apart ∙ rest
      where
        apart : is_eq (nat_cmp (name_key n) e.0) ≡ false
        apart =
            false_from_ne_true (is_eq (nat_cmp (name_key n) e.0))
            (λ h. let low = tile_below x.id own.1 in
            let high = name_from n in
            let one : name_key n ≡ tile_key x.id = same_key (name_key n) e.0 h ∙ own.0 in
            omega (arith, low, high, one))
    by (Live s) own rest = under (is_eq (nat_cmp (name_key n) e.0)) refl
      where
        under : (b : Bool) → is_eq (nat_cmp (name_key n) e.0) ≡ b
            → live_found (cond (is_eq (nat_cmp (name_key n) e.0)) (Some (Live s)) (value_at (name_key n) es))
            ≡ slice_get (cond (label_eq s.name n) (s ∷ others) others) 0
        under true h =
            let one : s.name ≡ n = same_name s.name n own.1 is (sym own.0 ∙ sym (same_key (name_key n) e.0 h)) in
            ap (λ b. live_found (cond b (Some (Live s)) (value_at (name_key n) es))) h
            ∙ ap (λ b. slice_get (cond b (s ∷ others) others) 0) (sym ((label_decides s.name n).1 one))
        under false h =
            ap (λ b. live_found (cond b (Some (Live s)) (value_at (name_key n) es))) h
            ∙ rest
            ∙ ap (λ b. slice_get (cond b (s ∷ others) others) 0) (sym other)
          where
            other : label_eq s.name n ≡ false
            other =
                false_from_ne_true (label_eq s.name n)
                (λ same. let key : name_key n ≡ e.0 = ap name_key (sym ((label_decides s.name n).0 same)) ∙ sym own.0 in
                true≢false (sym (ap is_eq (ap (nat_cmp (name_key n)) (sym key) ∙ key_equal (name_key n))) ∙ h))

-- the first of the segments of a name is in the list and has the name
first_listed : (ss : List Segment) (n : Label) (u : Segment) (us : List Segment) → filter (λ s. label_eq s.name n) ss ≡ u ∷ us
    → Contains ss u × (u.name ≡ n)
first_listed ss n u us e =
    let found = (contains_filter (λ (s : Segment). label_eq s.name n) ss u).0 (subst (λ vs. Contains vs u) (sym e) (contains_first u us)) in
    (found.0, (label_decides u.name n).0 found.1)

-- the name of a segment of the list is one of its names
pub name_listed : (ss : List Segment) (u : Segment) → Contains ss u → Contains (names ss) u.name
name_listed [] u c = absurd (omega (arith, c.1))
name_listed (s ∷ ss) u c =
    elim (contains_cases s ss u c) [
      | inl first ↦ subst (λ v. Contains (s.name ∷ names ss) v.name) first (contains_first s.name (names ss))
      | inr later ↦ contains_later s.name (names ss) u.name (name_listed ss u later)
    ]

-- a search finds a segment of the name, or the list has none
pub segment_there : (ss : List Segment) (n : Label) → IsNone (segment_in ss n) ↔ (¬ Contains (names ss) n)
segment_there ss n = by (filter (λ s. label_eq s.name n) ss) refl
  where
    by : (us : List Segment) → filter (λ s. label_eq s.name n) ss ≡ us → IsNone (slice_get us 0) ↔ (¬ Contains (names ss) n)
    by [] e = (λ _. no_name ss n e, λ _. refl)
    by (u ∷ us) e =
        let listed = first_listed ss n u us e in
        let named : Contains (names ss) n = subst (Contains (names ss)) listed.1 (name_listed ss u listed.0) in
        (λ h. absurd (true≢false h), λ none. absurd (none named))

-- what a search finds is in the list and has the name
pub segment_listed : (ss : List Segment) (n : Label) (s : Segment) → segment_in ss n ≡ Some s → Contains ss s × (s.name ≡ n)
segment_listed ss n s found = by (filter (λ s. label_eq s.name n) ss) refl found
  where
    by : (us : List Segment) → filter (λ s. label_eq s.name n) ss ≡ us → slice_get us 0 ≡ Some s → Contains ss s × (s.name ≡ n)
    by [] e none = absurd (cc none)
    by (u ∷ us) e some =
        subst (λ v. Contains ss v × (v.name ≡ n)) (ap (λ o. unwrap_or o u) some) (first_listed ss n u us e)

-- what is found for a name is the segment of the name, and nothing is found where it isn't live
pub segment_found : (es : List (ℕ × Entry)) → AreKeyed es → (n : Label) → IsLabel n → (o : Option Segment)
    → o ≡ live_found (value_at (name_key n) es)
    → (o ≡ segment_in (live_in es) n) × (IsNone o ↔ (¬ Contains (names (live_in es)) n))
segment_found es own n is o e =
    let found : o ≡ segment_in (live_in es) n = e ∙ segment_at n is es own in
    (found, subst (λ s. IsNone s ↔ (¬ Contains (names (live_in es)) n)) (sym found) (segment_there (live_in es) n))

-- ---- the live list

-- no entry below the first key of a name is a segment's
pub live_from : (es : List (ℕ × Entry)) → AreKeyed es → live_in (entries_from first_name_key es) ≡ live_in es
unfolding entries_from
live_from [] own = refl
live_from (e ∷ es) own = by e.1 own.0 (live_from es own.1)
  where
    by : (v : Entry) → IsKeyed e.0 v → live_in (entries_from first_name_key es) ≡ live_in es
        → live_in (cond (nat_le first_name_key e.0) ((e.0, v) ∷ entries_from first_name_key es) (entries_from first_name_key es))
        ≡ cons_option (entries.segment_in v) (live_in es)
    by (Touched x) placed rest = either (nat_le first_name_key e.0)
      where
        either : (b : Bool) → live_in (cond b ((e.0, Touched x) ∷ entries_from first_name_key es) (entries_from first_name_key es)) ≡ live_in es
        either true = rest
        either false = rest
    by (Live s) named rest =
        ap live_in (from_first first_name_key (e.0, Live s) es (subst (λ k. first_name_key ≤ k) (sym named.0) (name_from s.name)))
        ∙ ap (λ ss. s ∷ ss) rest
