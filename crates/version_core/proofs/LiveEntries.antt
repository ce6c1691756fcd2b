-- The live list that a version's entries have, after one edit of its map. Names are ordered as their
-- keys, and all keys of tiles lie below those of names. So by induction on the entries: a segment that
-- is set under the key of its name stands among the live segments in its place, one that is removed
-- is gone from there, and a tile leaves them as they are.
use Rattle.std.proofs.Common.{◌≡◌, refl, ap, sym, subst, ◌∙◌, ℕ, ◌+◌, ◌<◌, ◌≤◌, arith}
use Rattle.std.proofs.Common.{true, false, cond, not, List, [], ◌∷◌, ◌++◌, filter, nat_cmp, is_eq, is_lt}
use Rattle.std.specs.declared.cmp.Ordering.{Ordering}
use Rattle.std.specs.declared.cmp.Ordering.TheVariants.{Less, Equal, Greater}
use Rattle.std.specs.Cmp.{ranks}
use Rattle.std.proofs.lemmas.Cmp.{tied_itself}
use Rattle.std.specs.List.{AllByRecursion, cons_option}
use Rattle.std.specs.Ordering.{MatchOrdering, match_ordering, ordering_reverse}
use Rattle.grid_core.specs.Name.{Label, IsLabel, label_cmp, label_eq}
use Rattle.grid_core.specs.LiveList.{with_segment, without_name}
use Rattle.grid_core.specs.Segment.{Segment}
use Rattle.grid_core.proofs.Filters.{none_kept, every_kept}
use Rattle.grid_core.proofs.Order.{label_total}
use Rattle.radix_map.specs.Entries.{with_key, without_key, Rises}
use Rattle.version_core.specs.declared.entry.Entry.{Entry}
use Rattle.version_core.specs.declared.entry.Entry.TheVariants.{Live, Touched}
use Rattle.version_core.specs.declared.entry.TouchedTile.{TouchedTile}
use Rattle.version_core.specs.Entries.{IsKeyed, segment_in, live_in}
use Rattle.tile_keys.specs.Keys.{name_key, first_name_key}
use Rattle.tile_keys.proofs.ToldApart.{lesser_name, same_name, name_from}

-- ---- entries behind a key

-- each entry stands under the key of its name or its tile
abbrev pub AreKeyed : List (ℕ × Entry) → Type 0
AreKeyed es = AllByRecursion (λ e. IsKeyed e.0 e.1) es

-- the live segments of entries behind a name's key have greater names
greater_names : (n : Label) → IsLabel n → (a b : ℕ) (es : List (ℕ × Entry)) → Rises a b es → AreKeyed es
    → name_key n < a → AllByRecursion (λ u. label_cmp n u.name ≡ Less) (live_in es)
greater_names n is a b [] h k below = tt
greater_names n is a b (e ∷ es) h k below =
    by e.1 k.0 (greater_names n is (e.0 + 1) b es h.1 k.1 (omega (arith, below, h.0)))
  where
    by : (v : Entry) → IsKeyed e.0 v → AllByRecursion (λ u. label_cmp n u.name ≡ Less) (live_in es)
        → AllByRecursion (λ u. label_cmp n u.name ≡ Less) (cons_option (segment_in v) (live_in es))
    by (Live u) own rest = (lesser_name n u.name is own.1 (subst (λ j. name_key n < j) own.0 (omega (arith, below, h.0))), rest)
    by (Touched x) own rest = rest

-- then none of them has a lesser name or this one, and all have a greater one
module _ (n : Label) where
  none_lesser : (us : List Segment) → AllByRecursion (λ u. label_cmp n u.name ≡ Less) us
      → AllByRecursion (λ u. is_lt (label_cmp u.name n) ≡ false) us
  none_lesser [] h = tt
  none_lesser (u ∷ us) h = (ap is_lt (label_total.antisymm u.name n ∙ ap ordering_reverse h.0), none_lesser us h.1)

  all_greater : (us : List Segment) → AllByRecursion (λ u. label_cmp n u.name ≡ Less) us
      → AllByRecursion (λ u. is_lt (label_cmp n u.name) ≡ true) us
  all_greater [] h = tt
  all_greater (u ∷ us) h = (ap is_lt h.0, all_greater us h.1)

  all_others : (us : List Segment) → AllByRecursion (λ u. label_cmp n u.name ≡ Less) us
      → AllByRecursion (λ u. not (label_eq u.name n) ≡ true) us
  all_others [] h = tt
  all_others (u ∷ us) h =
      (ap (λ r. not (is_eq r)) (label_total.antisymm u.name n ∙ ap ordering_reverse h.0), all_others us h.1)

-- a segment below all others is the first of the live list that it is put into
first_with : (us : List Segment) (s : Segment) → AllByRecursion (λ u. label_cmp s.name u.name ≡ Less) us
    → with_segment us s ≡ s ∷ us
first_with us s h = λ i.
    none_kept (λ u. is_lt (label_cmp u.name s.name)) us (none_lesser s.name us h) i
    ++ s ∷ every_kept (λ u. is_lt (label_cmp s.name u.name)) us (all_greater s.name us h) i

-- ---- a segment set

-- a segment of a lesser name stays in front, one of the same name is gone
with_after : (us : List Segment) (s u : Segment) → label_cmp u.name s.name ≡ Less
    → with_segment (u ∷ us) s ≡ u ∷ with_segment us s
with_after us s u h =
    let back = label_total.antisymm s.name u.name ∙ ap ordering_reverse h in
    λ i. cond (is_lt (h i)) (u ∷ low) low ++ s ∷ cond (is_lt (back i)) (u ∷ high) high
  where
    low : List Segment
    low = filter (λ t. is_lt (label_cmp t.name s.name)) us

    high : List Segment
    high = filter (λ t. is_lt (label_cmp s.name t.name)) us

with_in_place : (us : List Segment) (s u : Segment) → u.name ≡ s.name
    → AllByRecursion (λ u. label_cmp s.name u.name ≡ Less) us → with_segment (u ∷ us) s ≡ s ∷ us
with_in_place us s u same h =
    let tied : label_cmp u.name s.name ≡ Equal = ap (λ n. label_cmp n s.name) same ∙ tied_itself label_total s.name in
    let back : label_cmp s.name u.name ≡ Equal = label_total.antisymm s.name u.name ∙ ap ordering_reverse tied in
    (λ i. cond (is_lt (tied i)) (u ∷ low) low ++ s ∷ cond (is_lt (back i)) (u ∷ high) high)
    ∙ first_with us s h
  where
    low : List Segment
    low = filter (λ t. is_lt (label_cmp t.name s.name)) us

    high : List Segment
    high = filter (λ t. is_lt (label_cmp s.name t.name)) us

pub live_with : (a b : ℕ) (es : List (ℕ × Entry)) (s : Segment) → Rises a b es → AreKeyed es → IsLabel s.name
    → live_in (with_key es (name_key s.name) (Live s)) ≡ with_segment (live_in es) s
live_with a b [] s h k is = refl
live_with a b (e ∷ es) s h k is =
    by (nat_cmp (name_key s.name) e.0) (ranks (name_key s.name) e.0) e.1 k.0 (live_with (e.0 + 1) b es s h.1 k.1 is)
  where
    rest : List (ℕ × Entry)
    rest = with_key es (name_key s.name) (Live s)

    later : name_key s.name ≤ e.0 → AllByRecursion (λ u. label_cmp s.name u.name ≡ Less) (live_in es)
    later m = greater_names s.name is (e.0 + 1) b es h.1 k.1 (omega (arith, m))

    by : (r : Ordering) → MatchOrdering r (name_key s.name < e.0) (name_key s.name ≡ e.0) (e.0 < name_key s.name)
        → (v : Entry) → IsKeyed e.0 v → live_in rest ≡ with_segment (live_in es) s
        → live_in (match_ordering r ((name_key s.name, Live s) ∷ (e.0, v) ∷ es) ((e.0, Live s) ∷ es) ((e.0, v) ∷ rest))
        ≡ with_segment (cons_option (segment_in v) (live_in es)) s
    by Less m (Live u) own ih =
        sym (first_with (u ∷ live_in es) s
        (lesser_name s.name u.name is own.1 (subst (λ j. name_key s.name < j) own.0 m), later (omega (arith, m))))
    by Less m (Touched x) own ih = sym (first_with (live_in es) s (later (omega (arith, m))))
    by Equal m (Live u) own ih =
        sym (with_in_place (live_in es) s u (sym (same_name s.name u.name is own.1 (m ∙ own.0))) (later (omega (arith, m))))
    by Equal m (Touched x) own ih = sym (first_with (live_in es) s (later (omega (arith, m))))
    by Greater m (Live u) own ih =
        ap (λ us. u ∷ us) ih
        ∙ sym (with_after (live_in es) s u (lesser_name u.name s.name own.1 is (subst (λ j. j < name_key s.name) own.0 m)))
    by Greater m (Touched x) own ih = ih

-- ---- a segment removed

-- where all have greater names, none is gone
without_below : (us : List Segment) (n : Label) → AllByRecursion (λ u. label_cmp n u.name ≡ Less) us
    → us ≡ without_name us n
without_below us n h = sym (every_kept (λ u. not (label_eq u.name n)) us (all_others n us h))

-- a segment of another name stays, one of this name is gone
without_after : (us : List Segment) (n : Label) (u : Segment) → label_cmp u.name n ≡ Less
    → without_name (u ∷ us) n ≡ u ∷ without_name us n
without_after us n u h =
    ap (λ r. cond (not (is_eq r)) (u ∷ without_name us n) (without_name us n)) h

without_in_place : (us : List Segment) (n : Label) (u : Segment) → u.name ≡ n → without_name (u ∷ us) n ≡ without_name us n
without_in_place us n u same =
    ap (λ r. cond (not (is_eq r)) (u ∷ without_name us n) (without_name us n))
    (ap (λ m. label_cmp m n) same ∙ tied_itself label_total n)

pub live_without : (a b : ℕ) (es : List (ℕ × Entry)) (n : Label) → Rises a b es → AreKeyed es → IsLabel n
    → live_in (without_key es (name_key n)) ≡ without_name (live_in es) n
live_without a b [] n h k is = refl
live_without a b (e ∷ es) n h k is =
    by (nat_cmp (name_key n) e.0) (ranks (name_key n) e.0) e.1 k.0 (live_without (e.0 + 1) b es n h.1 k.1 is)
  where
    rest : List (ℕ × Entry)
    rest = without_key es (name_key n)

    later : name_key n ≤ e.0 → AllByRecursion (λ u. label_cmp n u.name ≡ Less) (live_in es)
    later m = greater_names n is (e.0 + 1) b es h.1 k.1 (omega (arith, m))

    by : (r : Ordering) → MatchOrdering r (name_key n < e.0) (name_key n ≡ e.0) (e.0 < name_key n)
        → (v : Entry) → IsKeyed e.0 v → live_in rest ≡ without_name (live_in es) n
        → live_in (cond (is_eq r) es ((e.0, v) ∷ rest)) ≡ without_name (cons_option (segment_in v) (live_in es)) n
    by Less m (Live u) own ih =
        ap (λ us. u ∷ us) (ih ∙ sym (without_below (live_in es) n (later (omega (arith, m)))))
        ∙ without_below (u ∷ live_in es) n
        (lesser_name n u.name is own.1 (subst (λ j. name_key n < j) own.0 m), later (omega (arith, m)))
    by Less m (Touched x) own ih = ih
    by Equal m (Live u) own ih =
        without_below (live_in es) n (later (omega (arith, m)))
        ∙ sym (without_in_place (live_in es) n u (sym (same_name n u.name is own.1 (m ∙ own.0))))
    by Equal m (Touched x) own ih = without_below (live_in es) n (later (omega (arith, m)))
    by Greater m (Live u) own ih =
        ap (λ us. u ∷ us) ih
        ∙ sym (without_after (live_in es) n u (lesser_name u.name n own.1 is (subst (λ j. j < name_key n) own.0 m)))
    by Greater m (Touched x) own ih = ih

-- ---- a tile set

pub live_touched : (es : List (ℕ × Entry)) (k : ℕ) (x : TouchedTile) → AreKeyed es → k < first_name_key
    → live_in (with_key es k (Touched x)) ≡ live_in es
live_touched [] k x own below = refl
live_touched (e ∷ es) k x own below =
    by (nat_cmp k e.0) (ranks k e.0) e.1 own.0 (live_touched es k x own.1 below)
  where
    rest : List (ℕ × Entry)
    rest = with_key es k (Touched x)

    by : (r : Ordering) → MatchOrdering r (k < e.0) (k ≡ e.0) (e.0 < k) → (v : Entry) → IsKeyed e.0 v
        → live_in rest ≡ live_in es
        → live_in (match_ordering r ((k, Touched x) ∷ (e.0, v) ∷ es) ((e.0, Touched x) ∷ es) ((e.0, v) ∷ rest))
        ≡ cons_option (segment_in v) (live_in es)
    by Less m v is ih = refl
    by Equal m (Live u) is ih =
        let from = name_from u.name in
        let at : k ≡ name_key u.name = m ∙ is.0 in
        absurd (omega (arith, from, at, below))
    by Equal m (Touched y) is ih = refl
    by Greater m v is ih = ap (cons_option (segment_in v)) ih
