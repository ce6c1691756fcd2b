-- The half-edges with their numbers, clockwise around their starts, and how they are linked.
use Rattle.std.specs.Prelude.{◌≡◌, ◌≢◌, ℕ, ◌+◌, ◌-◌, ◌<◌, ◌≤◌, ◌⊎◌, Some, List, length, map, slice_get}
use Rattle.std.specs.Prelude.{slice_index, slice_index_or, All, Any}
use Rattle.std.specs.List.Sorted.{IsStrictlySortedBy}
use Rattle.grid_core.specs.Contours.{HalfEdge}
use Rattle.face_trace.specs.declared.spokes.Spoke.{Spoke}
use Rattle.face_trace.specs.HalfEdge.{spoke_cmp, twin_number}

-- the half-edges of spokes
abbrev pub halves_of : List Spoke → List HalfEdge
halves_of ss = map (λ s. s.half) ss

-- the spokes are the half-edges, each with its number, clockwise around their starts
pub record AreSpokes (hs : List HalfEdge) (ss : List Spoke) : Type 0 where
  pub numbered : All (λ s. slice_get hs s.number ≡ Some s.half) ss
  pub complete : (n : ℕ) → n < length hs → Any (λ s. s.number ≡ n) ss
  pub clockwise : IsStrictlySortedBy spoke_cmp (halves_of ss)
  pub count : length ss ≡ length hs

-- no spoke with the start of the one at p comes behind it
abbrev pub IsLast : List Spoke → ℕ → Type 0
IsLast ss p = p + 1 < length ss
    → (d : Spoke) → (slice_index_or ss (p + 1) d).half.origin ≢ (slice_index_or ss p d).half.origin

-- none comes before it
abbrev pub IsFirst : List Spoke → ℕ → Type 0
IsFirst ss q = 0 < q
    → (d : Spoke) → (slice_index_or ss (q - 1) d).half.origin ≢ (slice_index_or ss q d).half.origin

-- the spokes from f up to the one before i have one start, and f is its first
pub record IsRun (ss : List Spoke) (f i : ℕ) : Type 0 where
  pub below : f ≤ i - 1
  pub first : IsFirst ss f
  pub one_start : 0 < i
      → (d : Spoke)
      → (slice_index_or ss f d).half.origin ≡ (slice_index_or ss (i - 1) d).half.origin

-- the spoke at q follows the one at p around their start: it is the next one, or the first of that
-- start where the other is its last
pub record Follows (ss : List Spoke) (p q : ℕ) : Type 0 where
  pub first_within : p < length ss
  pub second_within : q < length ss
  pub one_start : (d : Spoke)
      → (slice_index_or ss p d).half.origin ≡ (slice_index_or ss q d).half.origin
  pub follows : (q ≡ p + 1) ⊎ (IsLast ss p × IsFirst ss q)

-- entry k is of the twin of some spoke, and leads to the one that follows that spoke
pub record IsEntry (ss : List Spoke) (nexts : List ℕ) (k : ℕ) : Type 0 where
  pub p : ℕ
  pub q : ℕ
  pub follows : Follows ss p q
  pub twin : (d : Spoke) → twin_number (slice_index_or ss p d).number ≡ k
  pub leads : (d : Spoke) → slice_index nexts k ≡ (slice_index_or ss q d).number

-- the entry of each spoke's twin leads to the spoke that follows
pub record AreNexts (ss : List Spoke) (nexts : List ℕ) : Type 0 where
  pub count : length nexts ≡ length ss
  pub linked : (p : ℕ) → p < length ss → (d : Spoke)
      → IsEntry ss nexts (twin_number (slice_index_or ss p d).number)
