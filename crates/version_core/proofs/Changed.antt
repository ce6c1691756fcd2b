-- The tiles with a stamp above a number, sorted. Keys rise and no two tiles have one key, so no tile
-- stands twice among the entries; and what is sorted and has nothing twice is a rising list. It has
-- exactly the tiles whose stamp is above the number, as no tile has a second stamp.
use Rattle.std.proofs.Common.{◌≡◌, refl, ap, sym, subst, ◌∙◌, ℕ, ◌+◌, ◌<◌, arith, Bool, true, false, cond, true≢false}
use Rattle.std.proofs.Common.{List, [], ◌∷◌, map, filter, get_or, Ordering, Less, Equal, Greater, is_lt, is_eq, nat_cmp}
use Rattle.std.proofs.Common.{IsPermutation, IsSorted, pos, Contains, ◌↔◌, inl, inr}
use Rattle.std.specs.Prelude.{slice_get, unwrap_or}
use Rattle.std.specs.Cmp.{IsTotalOrder}
use Rattle.std.specs.List.{AllByRecursion, IsDistinct, cons_option}
use Rattle.std.specs.List.Sorted.{IsStrictlySortedBy}
use Rattle.std.specs.Ordering.{eq_by_cmp, ordering_reverse}
use Rattle.std.proofs.lemmas.Bool.{false_from_ne_true}
use Rattle.std.proofs.lemmas.Cmp.{eq_by_cmp_equiv}
use Rattle.std.proofs.lemmas.List.Sorted.{Contains-permutation, IsPermutation-sym}
use Rattle.std.proofs.lemmas.Bool.Decides.{nat_tests}
use Rattle.std.proofs.lemmas.Map.Keys.{IsDistinct-IsPermutation, apart_from_distinct, ge_from_not_lt, sorted_from_all_adjacent}
use Rattle.std.proofs.lemmas.Map.Lookups.{CmpEqualImpliesEq}
use Rattle.std.proofs.lemmas.Map.Made.{IsDistinct-keys_filter}
use Rattle.grid_core.specs.declared.tile.TileId.{TileId}
use Rattle.grid_core.specs.RisingSet.{rising}
use Rattle.grid_core.specs.Tiles.{tile_cmp, tile_eq}
use Rattle.grid_core.proofs.ListMembers.{contains_first, contains_later, contains_cases}
use Rattle.grid_core.proofs.RisingMembers.{sorted_rising, contains_rising, same_members}
use Rattle.grid_core.proofs.TileOrder.{tile_total, tile_exact, tile_decides}
use Rattle.radix_map.specs.Entries.{Rises}
use Rattle.version_core.specs.declared.entry.Entry.{Entry}
use Rattle.version_core.specs.declared.entry.Entry.TheVariants.{Live, Touched}
use Rattle.version_core.specs.Entries.{IsKeyed, stamp_in, stamps_in}
use Rattle.tile_keys.specs.Keys.{tile_key}
use Rattle.version_core.specs.Version.{stamp_of, stamped_after, tiles_stamped_after}
use Rattle.version_core.proofs.LiveEntries.{AreKeyed}

-- ---- sorted, and nothing twice

module _ {K : Type 0} {R : K → K → Ordering} (o : IsTotalOrder R) (exact : CmpEqualImpliesEq R) where
  -- of two that are told apart the one that isn't greater is less
  rises : (x y : K) → is_lt (R y x) ≡ false → is_eq (R x y) ≡ false → R x y ≡ Less
  rises x y not_less other = by (R y x) refl not_less
    where
      by : (r : Ordering) → R y x ≡ r → is_lt r ≡ false → R x y ≡ Less
      by Less e f = absurd (true≢false f)
      by Equal e f =
          let tied : R x y ≡ Equal = o.antisymm x y ∙ ap ordering_reverse e in
          absurd (true≢false (sym (ap is_eq tied) ∙ other))
      by Greater e f = o.antisymm x y ∙ ap ordering_reverse e

  strictly : (d : K) (ks : List K) → IsDistinct (eq_by_cmp R) ks → IsSorted R ks → IsStrictlySortedBy R ks
  strictly d ks apart sorted =
      sorted_from_all_adjacent o ks d
      (λ k m. rises (get_or ks k d) (get_or ks (k + 1) d) (sorted k d (omega arith) m)
      (apart_from_distinct (eq_by_cmp R) ks k (k + 1) d apart (omega arith) m))

  -- what a sort makes of a list that has nothing twice
  pub sorted_is_rising : (d : K) (xs ys : List K) → IsDistinct (eq_by_cmp R) xs → IsPermutation xs ys → IsSorted R ys
      → ys ≡ rising R xs
  sorted_is_rising d xs ys apart moved sorted =
      same_members o exact ys (rising R xs)
      (strictly d ys (IsDistinct-IsPermutation (eq_by_cmp R) (λ x y h. (eq_by_cmp_equiv o).symm x y h) xs ys moved apart) sorted)
      (sorted_rising o xs)
      (λ q. (
        λ h. (contains_rising o exact xs q).1 (Contains-permutation ys xs q (IsPermutation-sym xs ys moved) h),
        λ h. Contains-permutation xs ys q moved ((contains_rising o exact xs q).0 h),
      ))

-- ---- the stamps of tiles

-- the tiles that have a stamp
abbrev tiles_in : List (TileId × ℕ) → List TileId
tiles_in cs = map (λ c. c.0) cs

-- no tile has two
abbrev AreApart : List (TileId × ℕ) → Type 0
AreApart cs = IsDistinct (eq_by_cmp tile_cmp) (tiles_in cs)

-- the stamps of tile t, and the first of some
abbrev stamps_at : List (TileId × ℕ) → TileId → List (TileId × ℕ)
stamps_at cs t = filter (λ c. tile_eq c.0 t) cs

abbrev first_stamp : List (TileId × ℕ) → ℕ
first_stamp cs = unwrap_or (slice_get (map (λ c. c.1) cs) 0) 0

lt_from_is_lt : (n m : ℕ) → is_lt (nat_cmp n m) ≡ true → n < m
lt_from_is_lt n m h = grind (arith, nat_tests, h)

-- two tiles are told apart from either side
turned : (t u : TileId) → tile_eq t u ≡ false → tile_eq u t ≡ false
turned t u other =
    false_from_ne_true (tile_eq u t)
    (λ same. true≢false (sym ((tile_decides t u).1 (sym ((tile_decides u t).0 same))) ∙ other))

-- ---- no tile twice

-- entries behind a tile's key are of other tiles
others : (t : TileId) (a b : ℕ) (es : List (ℕ × Entry)) → Rises a b es → AreKeyed es → tile_key t < a
    → AllByRecursion (λ u. tile_eq t u ≡ false) (tiles_in (stamps_in es))
others t a b [] h own below = tt
others t a b (e ∷ es) h own below = by e.1 own.0 (others t (e.0 + 1) b es h.1 own.1 (omega (arith, below, h.0)))
  where
    by : (v : Entry) → IsKeyed e.0 v → AllByRecursion (λ u. tile_eq t u ≡ false) (tiles_in (stamps_in es))
        → AllByRecursion (λ u. tile_eq t u ≡ false) (tiles_in (cons_option (stamp_in v) (stamps_in es)))
    by (Live s) named rest = rest
    by (Touched x) placed rest = (
      false_from_ne_true (tile_eq t x.id)
          (λ same. let key : tile_key t ≡ e.0 = ap tile_key ((tile_decides t x.id).0 same) ∙ sym placed.0 in
          omega (arith, key, below, h.0)),
      rest,
    )

pub distinct : (a b : ℕ) (es : List (ℕ × Entry)) → Rises a b es → AreKeyed es → AreApart (stamps_in es)
unfolding IsDistinct
distinct a b [] h own = tt
distinct a b (e ∷ es) h own = by e.1 own.0 (distinct (e.0 + 1) b es h.1 own.1)
  where
    by : (v : Entry) → IsKeyed e.0 v → AreApart (stamps_in es) → AreApart (cons_option (stamp_in v) (stamps_in es))
    by (Live s) named rest = rest
    by (Touched x) placed rest =
        (others x.id (e.0 + 1) b es h.1 own.1 (subst (λ k. k < e.0 + 1) placed.0 (omega arith)), rest)

-- the tiles whose stamp is above n, sorted
pub changed_sorted : (n b : ℕ) (es : List (ℕ × Entry)) → Rises 0 b es → AreKeyed es → (ts : List TileId)
    → IsPermutation (stamped_after (stamps_in es) n) ts → IsSorted tile_cmp ts
    → ts ≡ tiles_stamped_after (stamps_in es) n
changed_sorted n b es h own ts moved sorted =
    sorted_is_rising tile_total tile_exact (record { i = pos 0; j = pos 0 }) (stamped_after (stamps_in es) n) ts
    (IsDistinct-keys_filter (eq_by_cmp tile_cmp) (λ c. is_lt (nat_cmp n c.1)) (stamps_in es) (distinct 0 b es h own))
    moved sorted

-- ---- which tiles they are

-- a tile that isn't among the stamps has stamp 0
unstamped : (t : TileId) (cs : List (TileId × ℕ)) → AllByRecursion (λ u. tile_eq t u ≡ false) (tiles_in cs)
    → stamp_of cs t ≡ 0
unstamped t [] h = refl
unstamped t (c ∷ cs) h =
    ap (λ b. first_stamp (cond b (c ∷ stamps_at cs t) (stamps_at cs t))) (turned t c.0 h.0) ∙ unstamped t cs h.1

-- the tiles with a stamp above n are those whose stamp is
pub above : (n : ℕ) (t : TileId) (cs : List (TileId × ℕ)) → AreApart cs
    → Contains (stamped_after cs n) t ↔ (n < stamp_of cs t)
unfolding IsDistinct
above n t [] apart = (λ h. absurd (omega (arith, h.1)), λ h. absurd (omega (arith, h)))
above n t (c ∷ cs) apart = by (above n t cs apart.1) (tile_eq c.0 t) refl (is_lt (nat_cmp n c.1)) refl
  where
    later : List (TileId × ℕ)
    later = filter (λ c. is_lt (nat_cmp n c.1)) cs

    by : Contains (stamped_after cs n) t ↔ (n < stamp_of cs t)
        → (own : Bool) → tile_eq c.0 t ≡ own → (high : Bool) → is_lt (nat_cmp n c.1) ≡ high
        → Contains (tiles_in (cond high (c ∷ later) later)) t
        ↔ (n < first_stamp (cond own (c ∷ stamps_at cs t) (stamps_at cs t)))
    by rest true e true l = (
      λ h. lt_from_is_lt n c.1 l,
      λ h. subst (λ u. Contains (c.0 ∷ stamped_after cs n) u) ((tile_decides c.0 t).0 e) (contains_first c.0 (stamped_after cs n)),
    )
    by rest true e false l =
        let none : stamp_of cs t ≡ 0 = unstamped t cs
        (subst (λ u. AllByRecursion (λ v. tile_eq u v ≡ false) (tiles_in cs)) ((tile_decides c.0 t).0 e) apart.0) in (
          λ h. absurd (omega (arith, none, rest.0 h)),
          λ h. absurd (omega (arith, h, ge_from_not_lt n c.1 l)),
        )
    by rest false e true l = (
      λ h. elim (contains_cases c.0 (stamped_after cs n) t h) [
        | inl own ↦ absurd (true≢false (sym ((tile_decides c.0 t).1 own) ∙ e))
        | inr more ↦ rest.0 more
      ],
      λ h. contains_later c.0 (stamped_after cs n) t (rest.1 h),
    )
    by rest false e false l = rest

-- and so are those that stand by column and then row
pub changed_are_above : (n b : ℕ) (es : List (ℕ × Entry)) → Rises 0 b es → AreKeyed es → (t : TileId)
    → Contains (tiles_stamped_after (stamps_in es) n) t ↔ (n < stamp_of (stamps_in es) t)
changed_are_above n b es h own t =
    let same = contains_rising tile_total tile_exact (stamped_after (stamps_in es) n) t in
    let told = above n t (stamps_in es) (distinct 0 b es h own) in
    (λ k. told.0 (same.0 k), λ k. same.1 (told.1 k))
