-- The segments near a tile after an edit. To keep those that meet the tile and to take one out or
-- put one in are filters, which may be done in either order; an edit whose segment doesn't meet
-- the tile takes out nothing that is near, and puts in nothing.

use Rattle.std.proofs.Common.{◌≡◌, refl, ap, sym, subst, ◌∙◌, IsTrue, true, false, cond, not, true≢false, arith, ⊎_elim}
use Rattle.std.proofs.Common.{List, [], ◌∷◌, ◌++◌, map, filter, Contains, Ordering, Less, Equal, Greater, is_lt}
use Rattle.std.specs.Prelude.{◌<◌}
use Rattle.std.specs.Cmp.{IsTotalOrder}
use Rattle.std.specs.List.{AllByRecursion}
use Rattle.std.specs.List.Sorted.{IsStrictlySortedBy}
use Rattle.std.specs.Ordering.{eq_by_cmp, is_eq, ordering_reverse}
use Rattle.std.proofs.lemmas.Bool.{false_from_ne_true}
use Rattle.std.proofs.lemmas.List.Elements.{filter-append}
use Rattle.grid_core.specs.declared.tile.TileId.{TileId}
use Rattle.grid_core.specs.Name.{Label, label_cmp, label_eq}
use Rattle.grid_core.specs.LiveList.{names, with_segment, without_name}
use Rattle.grid_core.specs.Profile.{Sizes}
use Rattle.grid_core.specs.Segment.{Segment}
use Rattle.grid_core.specs.Tiles.{meets_tile, near, part_of}
use Rattle.grid_core.proofs.Comparisons.{label_decides}
use Rattle.grid_core.proofs.Filters.{filter_swapped, none_kept, every_kept}
use Rattle.grid_core.proofs.ListMembers.{contains_cases, contains_filter, sorted_filter}
use Rattle.grid_core.proofs.Order.{label_total}
use Rattle.tile_law.specs.Laws.{IsFar, EditsAreLocal, PartsAfterEdits}
use Rattle.tile_law.proofs.Locality.{part_by_near}
use Rattle.tile_law.proofs.RouteTiles.{one_of_key}
use Rattle.tile_law.proofs.Kept.{filter_twice}
use Rattle.tile_law.proofs.TileSums.{all_contained}

-- ---- parted at a key

module _ {X K : Type 0} (f : X → K) {R : K → K → Ordering} (o : IsTotalOrder R) where
  greater : (k : K) (x : X) (xs : List X) → R k (f x) ≡ Less → AllByRecursion (λ l. R (f x) l ≡ Less) (map f xs)
      → AllByRecursion (λ y. R k (f y) ≡ Less) xs
  greater k x [] e h = tt
  greater k x (y ∷ ys) e h = (o.trans k (f x) (f y) e h.0, greater k x ys e h.1)

  not_lesser : (k : K) (xs : List X) → AllByRecursion (λ x. R k (f x) ≡ Less) xs
      → AllByRecursion (λ x. is_lt (R (f x) k) ≡ false) xs
  not_lesser k [] h = tt
  not_lesser k (x ∷ xs) h = (ap is_lt (o.antisymm (f x) k ∙ ap ordering_reverse h.0), not_lesser k xs h.1)

  all_less : (k : K) (xs : List X) → AllByRecursion (λ x. R k (f x) ≡ Less) xs
      → AllByRecursion (λ x. is_lt (R k (f x)) ≡ true) xs
  all_less k [] h = tt
  all_less k (x ∷ xs) h = (ap is_lt h.0, all_less k xs h.1)

  -- a list whose keys rise, without the key k: its lesser ones and then its greater ones
  pub parted_at : (k : K) (xs : List X) → IsStrictlySortedBy R (map f xs)
      → AllByRecursion (λ x. eq_by_cmp R (f x) k ≡ false) xs
      → filter (λ x. is_lt (R (f x) k)) xs ++ filter (λ x. is_lt (R k (f x))) xs ≡ xs
  unfolding IsStrictlySortedBy
  parted_at k [] s h = refl
  parted_at k (x ∷ xs) s h = by (parted_at k xs s.1 h.1) (R (f x) k) refl
    where
      low : List X
      low = filter (λ y. is_lt (R (f y) k)) xs

      high : List X
      high = filter (λ y. is_lt (R k (f y))) xs

      by : low ++ high ≡ xs → (r : Ordering) → R (f x) k ≡ r
          → cond (is_lt (R (f x) k)) (x ∷ low) low ++ cond (is_lt (R k (f x))) (x ∷ high) high ≡ x ∷ xs
      by rest Less e =
          let back = o.antisymm k (f x) ∙ ap ordering_reverse e in
          (λ i. cond (is_lt (e i)) (x ∷ low) low ++ cond (is_lt (back i)) (x ∷ high) high) ∙ ap (λ ys. x ∷ ys) rest
      by rest Equal e = absurd (true≢false (sym (ap is_eq e) ∙ h.0))
      by rest Greater e =
          let back = o.antisymm k (f x) ∙ ap ordering_reverse e in
          let later = greater k x xs back s.0 in
          let none = none_kept (λ y. is_lt (R (f y) k)) xs (not_lesser k xs later) in
          let all = every_kept (λ y. is_lt (R k (f y))) xs (all_less k xs later) in
          (λ i. cond (is_lt (e i)) (x ∷ low) low ++ cond (is_lt (back i)) (x ∷ high) high)
          ∙ (λ i. none i ++ x ∷ all i)

-- ---- names

-- of a list whose names rise, two segments of one name are one
pub one_of_name : (ss : List Segment) (s u : Segment) → IsStrictlySortedBy label_cmp (names ss) → Contains ss s
    → Contains ss u → u.name ≡ s.name → s ≡ u
one_of_name ss s u sorted c d e =
    by (subst (λ vs. Contains vs u) (one_of_key (λ (v : Segment). v.name) label_total ss s sorted c)
    ((contains_filter (λ v. label_eq v.name s.name) ss u).1 (d, (label_decides u.name s.name).1 e)))
  where
    by : Contains (s ∷ []) u → s ≡ u
    by k = ⊎_elim (λ (same : s ≡ u). same) (λ (none : Contains [] u). absurd (omega (arith, none.1)))
        (contains_cases s [] u k)

-- a name is far from a tile where the segment of the list that has it doesn't meet the tile
pub far_name : (pr : Sizes) (t : TileId) (ss : List Segment) (s : Segment) → IsStrictlySortedBy label_cmp (names ss)
    → Contains ss s → meets_tile pr t s ≡ false → IsFar pr t ss s.name
far_name pr t ss s sorted c miss u d e = subst (λ v. meets_tile pr t v ≡ false) (one_of_name ss s u sorted c d e) miss

-- ---- near a tile

module _ (pr : Sizes) (t : TileId) where
  -- after a segment is put in: the near ones of lesser names, the new one if it meets the tile, and
  -- the near ones of greater names
  near_parts : (ss : List Segment) (s : Segment)
      → near pr t (with_segment ss s)
      ≡ filter (λ u. is_lt (label_cmp u.name s.name)) (near pr t ss)
      ++ (near pr t (s ∷ []) ++ filter (λ u. is_lt (label_cmp s.name u.name)) (near pr t ss))
  near_parts ss s =
      filter-append (meets_tile pr t) (filter (λ u. is_lt (label_cmp u.name s.name)) ss)
      (s ∷ filter (λ u. is_lt (label_cmp s.name u.name)) ss)
      ∙ (λ i. filter_swapped (λ u. is_lt (label_cmp u.name s.name)) (meets_tile pr t) ss i
      ++ filter-append (meets_tile pr t) (s ∷ []) (filter (λ u. is_lt (label_cmp s.name u.name)) ss) i)
      ∙ (λ i. filter (λ u. is_lt (label_cmp u.name s.name)) (near pr t ss)
      ++ (near pr t (s ∷ []) ++ filter_swapped (λ u. is_lt (label_cmp s.name u.name)) (meets_tile pr t) ss i))

  -- what is near after a segment is put in is made by what was near
  pub near_with : (ss : List Segment) (s : Segment)
      → near pr t (with_segment ss s) ≡ near pr t (with_segment (near pr t ss) s)
  near_with ss s =
      near_parts ss s
      ∙ sym (near_parts (near pr t ss) s
      ∙ (λ i. filter (λ u. is_lt (label_cmp u.name s.name)) (filter_twice (meets_tile pr t) ss i)
      ++ (near pr t (s ∷ []) ++ filter (λ u. is_lt (label_cmp s.name u.name)) (filter_twice (meets_tile pr t) ss i))))

  -- a segment that meets the tile is put in among those near it
  pub near_with_met : (ss : List Segment) (s : Segment) → IsTrue (meets_tile pr t s)
      → near pr t (with_segment ss s) ≡ with_segment (near pr t ss) s
  near_with_met ss s m =
      near_parts ss s
      ∙ ap (λ b. filter (λ u. is_lt (label_cmp u.name s.name)) (near pr t ss)
      ++ (cond b (s ∷ []) [] ++ filter (λ u. is_lt (label_cmp s.name u.name)) (near pr t ss))) m

  -- what is near after a name is taken out is what was near, without the name
  pub near_without : (ss : List Segment) (name : Label)
      → near pr t (without_name ss name) ≡ without_name (near pr t ss) name
  near_without ss name = filter_swapped (λ u. not (label_eq u.name name)) (meets_tile pr t) ss

  -- where no segment of this name meets the tile, none that is near has it
  none_near : (ss : List Segment) (name : Label) → IsFar pr t ss name
      → AllByRecursion (λ u. label_eq u.name name ≡ false) (near pr t ss)
  none_near ss name far =
      all_contained (λ u. label_eq u.name name ≡ false) (near pr t ss)
      (λ u c. let kept = (contains_filter (meets_tile pr t) ss u).0 c in
      false_from_ne_true (label_eq u.name name)
      (λ e. true≢false (sym kept.1 ∙ far u kept.0 ((label_decides u.name name).0 e))))

  -- a segment that doesn't meet the tile changes nothing there, unless one that does has its name
  pub near_with_far : (ss : List Segment) (s : Segment) → IsStrictlySortedBy label_cmp (names ss)
      → meets_tile pr t s ≡ false → IsFar pr t ss s.name → near pr t (with_segment ss s) ≡ near pr t ss
  near_with_far ss s sorted miss far =
      near_parts ss s
      ∙ ap (λ b. filter (λ u. is_lt (label_cmp u.name s.name)) (near pr t ss)
      ++ (cond b (s ∷ []) [] ++ filter (λ u. is_lt (label_cmp s.name u.name)) (near pr t ss))) miss
      ∙ parted_at (λ (u : Segment). u.name) label_total s.name (near pr t ss)
      (sorted_filter (λ (u : Segment). u.name) label_cmp (meets_tile pr t) ss sorted) (none_near ss s.name far)

  -- a name that no segment near the tile has changes nothing there
  pub near_without_far : (ss : List Segment) (name : Label) → IsFar pr t ss name
      → near pr t (without_name ss name) ≡ near pr t ss
  near_without_far ss name far =
      near_without ss name
      ∙ every_kept (λ u. not (label_eq u.name name)) (near pr t ss) (others (near pr t ss) (none_near ss name far))
    where
      others : (us : List Segment) → AllByRecursion (λ u. label_eq u.name name ≡ false) us
          → AllByRecursion (λ u. not (label_eq u.name name) ≡ true) us
      others [] h = tt
      others (u ∷ us) h = (ap not h.0, others us h.1)

-- ---- two lists that have the same segments near a tile

-- they still do after the same edit
pub near_with_same : (pr : Sizes) (t : TileId) (ss us : List Segment) (s : Segment) → near pr t ss ≡ near pr t us
    → near pr t (with_segment ss s) ≡ near pr t (with_segment us s)
near_with_same pr t ss us s e =
    near_with pr t ss s ∙ ap (λ vs. near pr t (with_segment vs s)) e ∙ sym (near_with pr t us s)

pub near_without_same : (pr : Sizes) (t : TileId) (ss us : List Segment) (name : Label) → near pr t ss ≡ near pr t us
    → near pr t (without_name ss name) ≡ near pr t (without_name us name)
near_without_same pr t ss us name e =
    near_without pr t ss name ∙ ap (λ vs. without_name vs name) e ∙ sym (near_without pr t us name)

-- a segment that meets the tile is in both or in neither
pub carried : (pr : Sizes) (t : TileId) (ss us : List Segment) (s : Segment) → near pr t ss ≡ near pr t us
    → IsTrue (meets_tile pr t s) → Contains ss s → Contains us s
carried pr t ss us s e met c =
    ((contains_filter (meets_tile pr t) us s).0
    (subst (λ vs. Contains vs s) e ((contains_filter (meets_tile pr t) ss s).1 (c, met)))).0

pub edits_are_local : (pr : Sizes) (ss : List Segment) → EditsAreLocal pr ss
edits_are_local pr ss =
    record {
      put_in = λ t s. near_with pr t ss s;
      put_in_met = λ t s met. near_with_met pr t ss s met;
      put_in_far = λ t s sorted miss far. near_with_far pr t ss s sorted miss far;
      taken_out = λ t name. near_without pr t ss name;
      taken_out_far = λ t name far. near_without_far pr t ss name far;
    }

pub parts_after_edits : (pr : Sizes) → 0 < pr.side → (ss : List Segment) → PartsAfterEdits pr ss
parts_after_edits pr some ss =
    record {
      put_in = λ t s. by_near t (with_segment ss s) (with_segment (near pr t ss) s) (near_with pr t ss s);
      put_in_far = λ t s sorted miss far. by_near t (with_segment ss s) ss (near_with_far pr t ss s sorted miss far);
      taken_out = λ t name. by_near t (without_name ss name) (without_name (near pr t ss) name)
          (near_without_same pr t ss (near pr t ss) name (sym (filter_twice (meets_tile pr t) ss)));
      taken_out_far = λ t name far. by_near t (without_name ss name) ss (near_without_far pr t ss name far);
    }
  where
    by_near : (t : TileId) (us vs : List Segment) → near pr t us ≡ near pr t vs → part_of pr t us ≡ part_of pr t vs
    by_near t us vs e = part_by_near pr some t us vs e
