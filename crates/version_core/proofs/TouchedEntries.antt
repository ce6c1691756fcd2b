-- What stands in a version's map under the keys of tiles, and that its entries stay keyed and rise
-- after the edits of a change. No two tiles in reach have one key, and no name has a tile's.
use Rattle.std.proofs.Common.{◌≡◌, refl, ap, sym, subst, ◌∙◌, ℕ, ◌*◌, ◌^◌, ◌<◌, ◌⊎◌, inl, inr, arith}
use Rattle.std.proofs.Common.{Bool, true, false, cond, true≢false, List, [], ◌∷◌, map, filter, nat_cmp, is_eq, Contains}
use Rattle.std.specs.Prelude.{Option, Some, None, slice_get, unwrap_or}
use Rattle.std.specs.declared.cmp.Ordering.{Ordering}
use Rattle.std.specs.declared.cmp.Ordering.TheVariants.{Less, Equal, Greater}
use Rattle.std.specs.Cmp.{ranks}
use Rattle.std.specs.List.{AllByRecursion, cons_option}
use Rattle.std.specs.Ordering.{MatchOrdering, match_ordering}
use Rattle.std.proofs.lemmas.Bool.{false_from_ne_true}
use Rattle.std.proofs.lemmas.Cmp.{tied_itself}
use Rattle.grid_core.specs.declared.tile.TileId.{TileId}
use Rattle.grid_core.specs.Tiles.{tile_cmp, tile_eq}
use Rattle.grid_core.proofs.Comparisons.{is_equal}
use Rattle.grid_core.proofs.ListMembers.{contains_first, contains_later, contains_cases}
use Rattle.grid_core.proofs.TileOrder.{tile_total, tile_exact}
use Rattle.radix_map.specs.Entries.{value_at, with_key, without_key, Rises, keys_end}
use Rattle.radix_map.proofs.Laws.{with_rises, without_rises, value_with, value_without}
use Rattle.radix_map.proofs.Values.{same_key, key_equal}
use Rattle.tile_law.specs.Laws.{IsTileInReach}
use Rattle.tile_keys.proofs.ToldApart.{same_tile, tile_below, name_from}
use Rattle.hot_tile.specs.Tile.{TileContent}
use Rattle.version_core.specs.declared.entry.Entry.{Entry}
use Rattle.version_core.specs.declared.entry.Entry.TheVariants.{Live, Touched}
use Rattle.version_core.specs.Entries.{IsKeyed, live_in, stamp_in, stamps_in, put_tile, after_map_edits}
use Rattle.tile_keys.specs.Keys.{tile_key, name_key}
use Rattle.version_core.specs.Version.{stamp_of}
use Rattle.version_core.proofs.LiveEntries.{AreKeyed, live_touched}

-- ---- entries after one edit

-- the entries rise, each under its key
pub record AreEntries (es : List (ℕ × Entry)) : Type 0 where
  pub rising : Rises 0 keys_end es
  pub keyed : AreKeyed es

keyed_with : (es : List (ℕ × Entry)) (k : ℕ) (v : Entry) → AreKeyed es → IsKeyed k v → AreKeyed (with_key es k v)
keyed_with [] k v h own = (own, tt)
keyed_with (e ∷ es) k v h own = by (nat_cmp k e.0) (ranks k e.0) (keyed_with es k v h.1 own)
  where
    by : (r : Ordering) → MatchOrdering r (k < e.0) (k ≡ e.0) (e.0 < k) → AreKeyed (with_key es k v)
        → AreKeyed (match_ordering r ((k, v) ∷ e ∷ es) ((e.0, v) ∷ es) (e ∷ with_key es k v))
    by Less m rest = (own, h)
    by Equal m rest = (subst (λ j. IsKeyed j v) m own, h.1)
    by Greater m rest = (h.0, rest)

keyed_without : (es : List (ℕ × Entry)) (k : ℕ) → AreKeyed es → AreKeyed (without_key es k)
keyed_without [] k h = tt
keyed_without (e ∷ es) k h = by (is_eq (nat_cmp k e.0)) (keyed_without es k h.1)
  where
    by : (b : Bool) → AreKeyed (without_key es k) → AreKeyed (cond b es (e ∷ without_key es k))
    by true rest = h.1
    by false rest = (h.0, rest)

pub entries_with : (es : List (ℕ × Entry)) (k : ℕ) (v : Entry) → AreEntries es → k < keys_end → IsKeyed k v
    → AreEntries (with_key es k v)
entries_with es k v are fits own =
    record { rising = with_rises es k v fits are.rising; keyed = keyed_with es k v are.keyed own }

pub entries_without : (es : List (ℕ × Entry)) (k : ℕ) → AreEntries es → k < keys_end → AreEntries (without_key es k)
entries_without es k are fits =
    record { rising = without_rises es k fits are.rising; keyed = keyed_without es k are.keyed }

-- ---- the value at a key after one edit

other_key : (k j : ℕ) → is_eq (nat_cmp k j) ≡ false → k ≡ j → ⊥
other_key k j e same = true≢false (sym (ap is_eq (ap (nat_cmp k) (sym same) ∙ key_equal k)) ∙ e)

-- what is set stands at its key, and at each other key what stood there
value_set : (k j : ℕ) (v : Entry) (es : List (ℕ × Entry)) → Rises 0 keys_end es
    → ((k ≡ j) × (value_at k (with_key es j v) ≡ Some v))
    ⊎ ((k ≡ j → ⊥) × (value_at k (with_key es j v) ≡ value_at k es))
value_set k j v es h = by (is_eq (nat_cmp k j)) refl
  where
    by : (b : Bool) → is_eq (nat_cmp k j) ≡ b
        → ((k ≡ j) × (value_at k (with_key es j v) ≡ Some v))
        ⊎ ((k ≡ j → ⊥) × (value_at k (with_key es j v) ≡ value_at k es))
    by true e = inl (same_key k j e, value_with k j v es h ∙ ap (λ b. cond b (Some v) (value_at k es)) e)
    by false e = inr (other_key k j e, value_with k j v es h ∙ ap (λ b. cond b (Some v) (value_at k es)) e)

-- at a key below that of an edit stands what stood there
pub value_set_above : (k j : ℕ) (v : Entry) (es : List (ℕ × Entry)) → Rises 0 keys_end es → k < j
    → value_at k (with_key es j v) ≡ value_at k es
value_set_above k j v es h below =
    elim (value_set k j v es h) [
      | inl here ↦ absurd (omega (arith, below, here.0))
      | inr there ↦ there.1
    ]

pub value_removed_above : (k j : ℕ) (es : List (ℕ × Entry)) → Rises 0 keys_end es → k < j
    → value_at k (without_key es j) ≡ value_at k es
value_removed_above k j es h below = by (is_eq (nat_cmp k j)) refl
  where
    by : (b : Bool) → is_eq (nat_cmp k j) ≡ b → value_at k (without_key es j) ≡ value_at k es
    by true e = let same = same_key k j e in absurd (omega (arith, below, same))
    by false e = value_without k j es h ∙ ap (λ b. cond b None (value_at k es)) e

-- ---- after a change's tiles are put

-- each of the contents is one of a tile in reach
abbrev pub AreInReach : List (TileId × Option TileContent) → Type 0
AreInReach cs = AllByRecursion (λ c. IsTileInReach c.0) cs

-- the entry of a tile that change number n touched
abbrev pub touched_by : ℕ → TileId → Option TileContent → Entry
touched_by n t content = Touched (record { id = t; stamp = n; tile = content })

entries_put : (n : ℕ) (es : List (ℕ × Entry)) (c : TileId × Option TileContent) → AreEntries es → IsTileInReach c.0
    → AreEntries (with_key es (tile_key c.0) (touched_by n c.0 c.1))
entries_put n es c are reach =
    entries_with es (tile_key c.0) (touched_by n c.0 c.1) are (fits (tile_key c.0) (tile_below c.0 reach)) (refl, reach)
  where
    fits : (k : ℕ) → k < 3 * 2 ^ 30 → k < 2 ^ 32
    fits k h = omega (arith, h)

pub tiles_are_entries : (n : ℕ) (es : List (ℕ × Entry)) (cs : List (TileId × Option TileContent)) → AreEntries es
    → AreInReach cs → AreEntries (after_map_edits es (map (put_tile n) cs))
tiles_are_entries n es [] are reach = are
tiles_are_entries n es (c ∷ cs) are reach =
    tiles_are_entries n (with_key es (tile_key c.0) (touched_by n c.0 c.1)) cs (entries_put n es c are reach.0) reach.1

pub tiles_leave_live : (n : ℕ) (es : List (ℕ × Entry)) (cs : List (TileId × Option TileContent)) → AreEntries es
    → AreInReach cs → live_in (after_map_edits es (map (put_tile n) cs)) ≡ live_in es
tiles_leave_live n es [] are reach = refl
tiles_leave_live n es (c ∷ cs) are reach =
    tiles_leave_live n (with_key es (tile_key c.0) (touched_by n c.0 c.1)) cs (entries_put n es c are reach.0) reach.1
    ∙ live_touched es (tile_key c.0) (record { id = c.0; stamp = n; tile = c.1 }) are.keyed (tile_below c.0 reach.0)

-- a tile whose content is put has it, with the change's number as its stamp
pub put_here : (n : ℕ) (f : TileId → Option TileContent) (t : TileId) → IsTileInReach t
    → (es : List (ℕ × Entry)) (cs : List (TileId × Option TileContent)) → AreEntries es → AreInReach cs
    → AllByRecursion (λ c. c.1 ≡ f c.0) cs
    → (value_at (tile_key t) es ≡ Some (touched_by n t (f t))) ⊎ Contains (map (λ c. c.0) cs) t
    → value_at (tile_key t) (after_map_edits es (map (put_tile n) cs)) ≡ Some (touched_by n t (f t))
put_here n f t is es [] are reach same (inl here) = here
put_here n f t is es [] are reach same (inr none) = absurd (omega (arith, none.1))
put_here n f t is es (c ∷ cs) are reach same known =
    put_here n f t is (with_key es (tile_key c.0) (touched_by n c.0 c.1)) cs (entries_put n es c are reach.0) reach.1 same.1
    (next (value_set (tile_key t) (tile_key c.0) (touched_by n c.0 c.1) es are.rising) known)
  where
    next : ((tile_key t ≡ tile_key c.0) × (value_at (tile_key t) (with_key es (tile_key c.0) (touched_by n c.0 c.1)) ≡ Some (touched_by n c.0 c.1)))
        ⊎ ((tile_key t ≡ tile_key c.0 → ⊥) × (value_at (tile_key t) (with_key es (tile_key c.0) (touched_by n c.0 c.1)) ≡ value_at (tile_key t) es))
        → (value_at (tile_key t) es ≡ Some (touched_by n t (f t))) ⊎ Contains (map (λ c. c.0) (c ∷ cs)) t
        → (value_at (tile_key t) (with_key es (tile_key c.0) (touched_by n c.0 c.1)) ≡ Some (touched_by n t (f t))) ⊎ Contains (map (λ c. c.0) cs) t
    next (inl here) known =
        let one : t ≡ c.0 = same_tile t c.0 is reach.0 here.0 in
        inl (here.1 ∙ ap (λ o. Some (touched_by n c.0 o)) same.0 ∙ ap (λ u. Some (touched_by n u (f u))) (sym one))
    next (inr there) (inl old) = inl (there.1 ∙ old)
    next (inr there) (inr more) =
        elim (contains_cases c.0 (map (λ c. c.0) cs) t more) [
          | inl first ↦ absurd (there.0 (ap tile_key (sym first)))
          | inr later ↦ inr later
        ]

-- a tile whose content isn't put has what it had
pub put_elsewhere : (n : ℕ) (t : TileId) → IsTileInReach t → (es : List (ℕ × Entry)) (cs : List (TileId × Option TileContent))
    → AreEntries es → AreInReach cs → (Contains (map (λ c. c.0) cs) t → ⊥)
    → value_at (tile_key t) (after_map_edits es (map (put_tile n) cs)) ≡ value_at (tile_key t) es
put_elsewhere n t is es [] are reach out = refl
put_elsewhere n t is es (c ∷ cs) are reach out =
    put_elsewhere n t is (with_key es (tile_key c.0) (touched_by n c.0 c.1)) cs (entries_put n es c are reach.0) reach.1
    (λ k. out (contains_later c.0 (map (λ c. c.0) cs) t k))
    ∙ (elim (value_set (tile_key t) (tile_key c.0) (touched_by n c.0 c.1) es are.rising) [
      | inl here ↦ absurd (out (subst (λ u. Contains (c.0 ∷ map (λ c. c.0) cs) u) (sym (same_tile t c.0 is reach.0 here.0)) (contains_first c.0 (map (λ c. c.0) cs))))
      | inr there ↦ there.1
    ])

-- ---- stamps

-- the stamp of the entry that a lookup found, 0 where it is no tile's
abbrev pub stamp_found : Option Entry → ℕ
stamp_found None = 0
stamp_found (Some (Live s)) = 0
stamp_found (Some (Touched x)) = x.stamp

-- the first of the stamps of tile t, 0 if there is none
abbrev first_stamp : List (TileId × ℕ) → ℕ
first_stamp stamps = unwrap_or (slice_get (map (λ e. e.1) stamps) 0) 0

-- the stamp of a tile in reach is that of the entry under its key
pub stamp_at : (t : TileId) → IsTileInReach t → (es : List (ℕ × Entry)) → AreKeyed es
    → stamp_of (stamps_in es) t ≡ stamp_found (value_at (tile_key t) es)
stamp_at t is [] own = refl
stamp_at t is (e ∷ es) own = by e.1 own.0 (stamp_at t is es own.1)
  where
    others : List (TileId × ℕ)
    others = filter (λ e. tile_eq e.0 t) (stamps_in es)

    by : (v : Entry) → IsKeyed e.0 v → stamp_of (stamps_in es) t ≡ stamp_found (value_at (tile_key t) es)
        → stamp_of (cons_option (stamp_in v) (stamps_in es)) t
        ≡ stamp_found (cond (is_eq (nat_cmp (tile_key t) e.0)) (Some v) (value_at (tile_key t) es))
    by (Live s) named rest =
        rest ∙ ap (λ b. stamp_found (cond b (Some (Live s)) (value_at (tile_key t) es))) (sym apart)
      where
        apart : is_eq (nat_cmp (tile_key t) e.0) ≡ false
        apart =
            false_from_ne_true (is_eq (nat_cmp (tile_key t) e.0))
            (λ h. let low = tile_below t is in
            let high = name_from s.name in
            let one : tile_key t ≡ name_key s.name = same_key (tile_key t) e.0 h ∙ named.0 in
            omega (arith, low, high, one))
    by (Touched x) placed rest = under (is_eq (nat_cmp (tile_key t) e.0)) refl
      where
        under : (b : Bool) → is_eq (nat_cmp (tile_key t) e.0) ≡ b
            → first_stamp (cond (tile_eq x.id t) ((x.id, x.stamp) ∷ others) others)
            ≡ stamp_found (cond (is_eq (nat_cmp (tile_key t) e.0)) (Some (Touched x)) (value_at (tile_key t) es))
        under true h =
            let one : t ≡ x.id = same_tile t x.id is placed.1 (same_key (tile_key t) e.0 h ∙ placed.0) in
            ap (λ b. first_stamp (cond b ((x.id, x.stamp) ∷ others) others)) (ap (λ u. tile_eq u t) (sym one) ∙ ap is_eq (tied_itself tile_total t))
            ∙ ap (λ b. stamp_found (cond b (Some (Touched x)) (value_at (tile_key t) es))) (sym h)
        under false h =
            ap (λ b. first_stamp (cond b ((x.id, x.stamp) ∷ others) others)) other
            ∙ rest
            ∙ ap (λ b. stamp_found (cond b (Some (Touched x)) (value_at (tile_key t) es))) (sym h)
          where
            other : tile_eq x.id t ≡ false
            other =
                false_from_ne_true (tile_eq x.id t)
                (λ same. other_key (tile_key t) e.0 h
                (ap tile_key (sym (tile_exact x.id t (is_equal (tile_cmp x.id t) same))) ∙ sym placed.0))

-- a tile out of reach has no stamp
pub stamp_out_of_reach : (t : TileId) → (IsTileInReach t → ⊥) → (es : List (ℕ × Entry)) → AreKeyed es
    → stamp_of (stamps_in es) t ≡ 0
stamp_out_of_reach t out [] own = refl
stamp_out_of_reach t out (e ∷ es) own = by e.1 own.0 (stamp_out_of_reach t out es own.1)
  where
    others : List (TileId × ℕ)
    others = filter (λ e. tile_eq e.0 t) (stamps_in es)

    by : (v : Entry) → IsKeyed e.0 v → stamp_of (stamps_in es) t ≡ 0
        → stamp_of (cons_option (stamp_in v) (stamps_in es)) t ≡ 0
    by (Live s) named rest = rest
    by (Touched x) placed rest =
        ap (λ b. first_stamp (cond b ((x.id, x.stamp) ∷ others) others))
        (false_from_ne_true (tile_eq x.id t)
        (λ same. out (subst IsTileInReach (tile_exact x.id t (is_equal (tile_cmp x.id t) same)) placed.1)))
        ∙ rest
