-- Where lists begin: for each segment or pixel that has one, the key of its list's first node. A list
-- that is empty may have a head too, whose first key is then the end. Heads rise by the segment or
-- pixel that they are of.
use Rattle.std.specs.Prelude.{◌≡◌, ℕ, cond, List, [], ◌∷◌, map, length, Result, MatchResult}
use Rattle.std.specs.declared.cmp.Ordering.{Ordering}
use Rattle.std.specs.Ordering.{eq_by_cmp}
use Rattle.std.specs.declared.cmp.Ordering.TheVariants.{Less, Equal, Greater}
use Rattle.std.specs.List.{HoldsAt}
use Rattle.std.specs.List.Sorted.{IsStrictlySortedBy, IsSearchInRange, IsPartitionPoint}
use Rattle.std.specs.FinMap.{FinMap, empty, insert}
use Rattle.grid_core.specs.declared.point.Point.{Point}
use Rattle.grid_core.specs.Vector.{point_cmp}
use Rattle.grid_core.specs.Name.{Label, label_cmp}
use Rattle.pass_links.specs.declared.heads.Head.{Head}
use Rattle.pass_links.specs.Chain.{end}

-- the first key of the list of q; the end where it has no head
abbrev pub first_of : {K : Type 0} → (K → K → Ordering) → List (Head K) → K → ℕ
first_of R [] q = end
first_of R (h ∷ hs) q = cond (eq_by_cmp R q h.of) h.first (first_of R hs q)

-- the key of the first node of a segment's list
abbrev pub segment_start : List (Head Label) → Label → ℕ
segment_start segments name = first_of label_cmp segments name

-- the key of the first node of a pixel's list
abbrev pub pixel_start : List (Head Point) → Point → ℕ
pixel_start pixels pixel = first_of point_cmp pixels pixel

-- the heads rise strictly
abbrev pub Rise : {K : Type 0} → (K → K → Ordering) → List (Head K) → Type 0
Rise {K} R heads = IsStrictlySortedBy R (map (λ (h : Head K). h.of) heads)

-- the head of q stands there, or would stand there between the lesser and the greater
pub record IsHeadPlace {K : Type 0} (R : K → K → Ordering) (heads : List (Head K)) (q : K) (place : Result ℕ ℕ) : Type 0 where
  pub within : IsSearchInRange place (length heads)
  pub found : MatchResult place (HoldsAt (λ (h : Head K). R h.of q ≡ Equal) heads)
      (IsPartitionPoint (λ (h : Head K). R h.of q ≡ Less) (λ (h : Head K). R h.of q ≡ Greater) heads)

-- the map from each head's segment or pixel to the list from its first key on
unfoldable pub lists_of_heads : {K V : Type 0} (R : K → K → Ordering) → (ℕ → List V) → List (Head K) → FinMap R (List V)
lists_of_heads R list [] = empty
lists_of_heads R list (h ∷ hs) = insert (lists_of_heads R list hs) h.of (list h.first)
