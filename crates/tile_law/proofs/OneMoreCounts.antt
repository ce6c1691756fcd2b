-- Counts with one segment more: its two ends, and one crossing with each segment that it crosses.
-- By induction on the names before its own; a crossing of two segments is one whichever comes first.
use Rattle.std.proofs.Common.{◌≡◌, refl, ap, sym, ◌∙◌, ◌+◌, arith, Bool, true, false, cond, not}
use Rattle.std.proofs.Common.{true≢false, ◌⊎◌, inl, inr, subst, is_eq, List, [], ◌∷◌, ◌++◌, filter, filter_map, count_by, Contains}
use Rattle.std.proofs.Common.{Option, Some, None, Ordering, Less, Equal, Greater, is_lt}
use Rattle.std.specs.List.{AllByRecursion, cons_option}
use Rattle.std.specs.List.Sorted.{IsStrictlySortedBy}
use Rattle.std.specs.Ordering.{ordering_reverse}
use Rattle.std.proofs.lemmas.List.Sums.{sum_by-cons, sum_by-append}
use Rattle.grid_core.specs.declared.point.Point.{Point}
use Rattle.grid_core.specs.Name.{Label, label_cmp, label_eq}
use Rattle.grid_core.specs.Segment.{Segment}
use Rattle.grid_core.specs.LiveList.{names, with_segment, without_name}
use Rattle.grid_core.specs.Crossing.{pixel_of}
use Rattle.grid_core.specs.Rounding.{end_points, crossing_pixel, crossing_pixels}
use Rattle.grid_core.proofs.Order.{label_total, label_exact}
use Rattle.grid_core.proofs.Comparisons.{is_equal}
use Rattle.grid_core.proofs.ListMembers.{contains_first, contains_later, contains_cases}
use Rattle.std.proofs.lemmas.Cmp.{tied_itself}
use Rattle.std.proofs.lemmas.Bool.{false_from_ne_true}
use Rattle.grid_core.proofs.Crossings.{crossing_same}
use Rattle.tile_law.proofs.Edits.{parted_at}
use Rattle.grid_core.proofs.Filters.{none_kept, every_kept, filter_within}
use Rattle.std.specs.Prelude.{option_map}

-- ---- with s between two lists

module _ (p : Point → Bool) where
  -- a pixel counted, if there is one
  counted_one : (o : Option Point) (hs : List Point)
      → count_by p (cons_option o hs) ≡ count_by p (cons_option o []) + count_by p hs
  counted_one None hs = omega arith
  counted_one (Some h) hs = omega (arith, sum_by-cons (λ x. cond (p x) 1 0) h hs, sum_by-cons (λ x. cond (p x) 1 0) h [])

  joined : (hs ks : List Point) → count_by p (hs ++ ks) ≡ count_by p hs + count_by p ks
  joined hs ks = sum_by-append (λ x. cond (p x) 1 0) hs ks

  pub ends_between : (xs : List Segment) (s : Segment) (ys : List Segment)
      → count_by p (end_points (xs ++ s ∷ ys)) ≡ count_by p (end_points (xs ++ ys)) + count_by p (s.p ∷ s.q ∷ [])
  ends_between [] s ys = omega (arith, joined (s.p ∷ s.q ∷ []) (end_points ys))
  ends_between (x ∷ xs) s ys =
      omega (
        arith,
        joined (x.p ∷ x.q ∷ []) (end_points (xs ++ s ∷ ys)),
        joined (x.p ∷ x.q ∷ []) (end_points (xs ++ ys)),
        ends_between xs s ys,
      )

  turned : (s t : Segment) → crossing_pixel s t ≡ crossing_pixel t s
  turned s t = ap (option_map pixel_of) (crossing_same s t)

  -- the crossings of x, with s between two lists
  crossed_between : (x : Segment) (xs : List Segment) (s : Segment) (ys : List Segment)
      → count_by p (filter_map (crossing_pixel x) (xs ++ s ∷ ys))
      ≡ count_by p (cons_option (crossing_pixel x s) []) + count_by p (filter_map (crossing_pixel x) (xs ++ ys))
  crossed_between x [] s ys = counted_one (crossing_pixel x s) (filter_map (crossing_pixel x) ys)
  crossed_between x (z ∷ xs) s ys =
      omega (
        arith,
        counted_one (crossing_pixel x z) (filter_map (crossing_pixel x) (xs ++ s ∷ ys)),
        counted_one (crossing_pixel x z) (filter_map (crossing_pixel x) (xs ++ ys)),
        crossed_between x xs s ys,
      )

  pub crossings_between : (xs : List Segment) (s : Segment) (ys : List Segment)
      → count_by p (crossing_pixels (xs ++ s ∷ ys))
      ≡ count_by p (crossing_pixels (xs ++ ys)) + count_by p (filter_map (crossing_pixel s) (xs ++ ys))
  unfolding crossing_pixels
  crossings_between [] s ys = omega (arith, joined (filter_map (crossing_pixel s) ys) (crossing_pixels ys))
  crossings_between (x ∷ xs) s ys =
      let same : count_by p (cons_option (crossing_pixel x s) []) ≡ count_by p (cons_option (crossing_pixel s x) []) =
      ap (λ o. count_by p (cons_option o [])) (turned x s) in
      omega (
        arith,
        joined (filter_map (crossing_pixel x) (xs ++ s ∷ ys)) (crossing_pixels (xs ++ s ∷ ys)),
        joined (filter_map (crossing_pixel x) (xs ++ ys)) (crossing_pixels (xs ++ ys)),
        crossed_between x xs s ys,
        counted_one (crossing_pixel s x) (filter_map (crossing_pixel s) (xs ++ ys)),
        crossings_between xs s ys,
        same,
      )

-- ---- a live list parted at a name

module _ (n : Label) where
  abbrev pub lower : Segment → Bool
  lower t = is_lt (label_cmp t.name n)

  abbrev pub upper : Segment → Bool
  upper t = is_lt (label_cmp n t.name)

  -- where the name is below all others, none has a lesser name, and all have a greater one
  none_lower : (ss : List Segment) → AllByRecursion (λ k. label_cmp n k ≡ Less) (names ss)
      → AllByRecursion (λ t. lower t ≡ false) ss
  none_lower [] h = tt
  none_lower (t ∷ ss) h = (ap is_lt (label_total.antisymm t.name n ∙ ap ordering_reverse h.0), none_lower ss h.1)

  all_upper : (ss : List Segment) → AllByRecursion (λ k. label_cmp n k ≡ Less) (names ss)
      → AllByRecursion (λ t. upper t ≡ true) ss
  all_upper [] h = tt
  all_upper (t ∷ ss) h = (ap is_lt h.0, all_upper ss h.1)

-- ---- with s in its place

module _ (ss : List Segment) (s : Segment) (order : IsStrictlySortedBy label_cmp (names ss))
    (new : AllByRecursion (λ u. label_eq u.name s.name ≡ false) ss) (p : Point → Bool) where
  parts : filter (lower s.name) ss ++ filter (upper s.name) ss ≡ ss
  parts = parted_at (λ (u : Segment). u.name) label_total s.name ss order new

  -- the ends are those of the list, and the two of s
  pub ends_with : count_by p (end_points (with_segment ss s))
      ≡ count_by p (end_points ss) + count_by p (s.p ∷ s.q ∷ [])
  ends_with =
      ends_between p (filter (lower s.name) ss) s (filter (upper s.name) ss)
      ∙ ap (λ us. count_by p (end_points us) + count_by p (s.p ∷ s.q ∷ [])) parts

  -- the crossings are those of the list, and those of s with it
  pub crossings_with : count_by p (crossing_pixels (with_segment ss s))
      ≡ count_by p (crossing_pixels ss) + count_by p (filter_map (crossing_pixel s) ss)
  crossings_with =
      crossings_between p (filter (lower s.name) ss) s (filter (upper s.name) ss)
      ∙ ap (λ us. count_by p (crossing_pixels us) + count_by p (filter_map (crossing_pixel s) us)) parts

-- a name that no segment has differs from each of their names
pub new_from_none : (ss : List Segment) (n : Label) → (Contains (names ss) n → ⊥)
    → AllByRecursion (λ u. label_eq u.name n ≡ false) ss
new_from_none [] n h = tt
new_from_none (u ∷ ss) n h = (
  false_from_ne_true (label_eq u.name n)
      (λ t. h (subst (λ m. Contains (u.name ∷ names ss) m) (label_exact u.name n (is_equal _ t)) (contains_first u.name (names ss)))),
  new_from_none ss n (λ c. h (contains_later u.name (names ss) n c)),
)

-- ---- out of its place and in again

module _ (s : Segment) where
  below_member : (n : Label) (ss : List Segment) → AllByRecursion (λ k. label_cmp n k ≡ Less) (names ss)
      → Contains ss s → label_cmp n s.name ≡ Less
  below_member n [] h c = absurd (omega (arith, c.1))
  below_member n (t ∷ ss) h c =
      elim (contains_cases t ss s c) [
        | inl here ↦ subst (λ u. label_cmp n u.name ≡ Less) here h.0
        | inr later ↦ below_member n ss h.1 later
      ]

  -- a list in order of names is the lesser names, s, and the greater names, where it has s
  in_place : (ss : List Segment) → IsStrictlySortedBy label_cmp (names ss) → Contains ss s
      → filter (lower s.name) ss ++ s ∷ filter (upper s.name) ss ≡ ss
  unfolding IsStrictlySortedBy
  in_place [] o c = absurd (omega (arith, c.1))
  in_place (t ∷ ss) o c = by (contains_cases t ss s c) (in_place ss o.1)
    where
      itself : is_lt (label_cmp s.name s.name) ≡ false
      itself = ap is_lt (tied_itself label_total s.name)

      first : AllByRecursion (λ k. label_cmp s.name k ≡ Less) (names ss)
          → filter (lower s.name) (s ∷ ss) ++ s ∷ filter (upper s.name) (s ∷ ss) ≡ s ∷ ss
      first above =
          (λ i. cond (itself i) (s ∷ filter (lower s.name) ss) (filter (lower s.name) ss)
          ++ s ∷ cond (itself i) (s ∷ filter (upper s.name) ss) (filter (upper s.name) ss))
          ∙ (λ i. none_kept (lower s.name) ss (none_lower s.name ss above) i
          ++ s ∷ every_kept (upper s.name) ss (all_upper s.name ss above) i)

      by : (t ≡ s) ⊎ Contains ss s
          → (Contains ss s → filter (lower s.name) ss ++ s ∷ filter (upper s.name) ss ≡ ss)
          → filter (lower s.name) (t ∷ ss) ++ s ∷ filter (upper s.name) (t ∷ ss) ≡ t ∷ ss
      by (inl here) rest =
          subst (λ u. filter (lower s.name) (u ∷ ss) ++ s ∷ filter (upper s.name) (u ∷ ss) ≡ u ∷ ss) (sym here)
          (first (subst (λ u. AllByRecursion (λ k. label_cmp u.name k ≡ Less) (names ss)) here o.0))
      by (inr later) rest =
          let less = below_member t.name ss o.0 later in
          let greater = label_total.antisymm s.name t.name ∙ ap ordering_reverse less in
          (λ i. cond (is_lt (less i)) (t ∷ filter (lower s.name) ss) (filter (lower s.name) ss)
          ++ s ∷ cond (is_lt (greater i)) (t ∷ filter (upper s.name) ss) (filter (upper s.name) ss))
          ∙ ap (λ l. t ∷ l) (rest later)

  abbrev other : Segment → Bool
  other t = not (label_eq t.name s.name)

  lower_other : (r : Ordering) → is_lt r ≡ true → not (is_eq r) ≡ true
  lower_other Less h = refl
  lower_other Equal h = h
  lower_other Greater h = refl

  upper_other : (r q : Ordering) → q ≡ ordering_reverse r → is_lt q ≡ true → not (is_eq r) ≡ true
  upper_other Less q e h = refl
  upper_other Equal q e h = absurd (true≢false (sym h ∙ ap is_lt e))
  upper_other Greater q e h = refl

  -- taken out of a live list and put in again, s is where it was
  pub with_without : (ss : List Segment) → IsStrictlySortedBy label_cmp (names ss) → Contains ss s
      → with_segment (without_name ss s.name) s ≡ ss
  with_without ss o c =
      (λ i. filter_within other (lower s.name) (λ t h. lower_other (label_cmp t.name s.name) h) ss i
      ++ s ∷ filter_within other (upper s.name)
      (λ t h. upper_other (label_cmp t.name s.name) (label_cmp s.name t.name) (label_total.antisymm s.name t.name) h) ss i)
      ∙ in_place ss o c

  -- without its name no segment has it
  pub without_is_new : (ss : List Segment) → AllByRecursion (λ u. label_eq u.name s.name ≡ false) (without_name ss s.name)
  without_is_new [] = tt
  without_is_new (t ∷ ss) = by (label_eq t.name s.name) refl (without_is_new ss)
    where
      by : (b : Bool) → label_eq t.name s.name ≡ b
          → AllByRecursion (λ u. label_eq u.name s.name ≡ false) (without_name ss s.name)
          → AllByRecursion (λ u. label_eq u.name s.name ≡ false) (cond (not b) (t ∷ without_name ss s.name) (without_name ss s.name))
      by true e rest = rest
      by false e rest = (e, rest)
