-- The spokes as they are gathered and sorted: all half-edges with their numbers, and after the sort
-- clockwise around their starts, since no two half-edges are one.
use Rattle.std.proofs.Common.{◌≡◌, refl, sym, ap, subst, ◌∙◌, ℕ, ◌+◌, ◌<◌, ◌≤◌, arith, ◌⊎◌, ⊎_elim}
use Rattle.std.proofs.Common.{false, true≢false, List, [], ◌∷◌, ◌++◌, length, take, get_or}
use Rattle.std.proofs.Common.{Some, Ordering, Less, Equal, Greater, is_lt, Contains}
use Rattle.std.specs.Prelude.{pos, slice_get, All, Any}
use Rattle.std.specs.List.{IsDistinct}
use Rattle.std.specs.List.Sorted.{IsPermutation, IsSortedBy}
use Rattle.std.specs.Ordering.{ordering_reverse}
use Rattle.std.proofs.lemmas.List.{map_push, take_more, take_all, get_or-map, length-map}
use Rattle.std.proofs.lemmas.List.Elements.{All-push, Contains-append_left, Contains-push}
use Rattle.std.proofs.lemmas.List.Sorted.{All-permutation, Contains-permutation, IsPermutation-map, length_permutation}
use Rattle.std.proofs.lemmas.Map.Keys.{IsDistinct-IsPermutation, apart_from_distinct, sorted_from_all_adjacent}
use Rattle.std.proofs.lemmas.Option.{slice_get-get_or}
use Rattle.std.proofs.lemmas.Cmp.{eq_by_cmp_equiv}
use Rattle.grid_core.specs.Contours.{HalfEdge, half_edge_eq}
use Rattle.face_trace.specs.declared.spokes.Spoke.{Spoke}
use Rattle.face_trace.specs.HalfEdge.{spoke_cmp}
use Rattle.face_trace.specs.Spokes.{AreSpokes, halves_of}
use Rattle.face_trace.proofs.AroundOrder.{spoke_total, spoke_exact}
use Rattle.face_trace.proofs.HalfEdgeLists.{half_decides, half_total}

-- the first i half-edges, each with its number
pub record SpokesSoFar (hs : List HalfEdge) (ss : List Spoke) (i : ℕ) : Type 0 where
  pub halves : halves_of ss ≡ take i hs
  pub numbered : All (λ s. slice_get hs s.number ≡ Some s.half) ss
  pub complete : (n : ℕ) → n < i → Any (λ s. s.number ≡ n) ss

-- some element has a number, and it is among more elements
any_in : (n : ℕ) (ss ts : List Spoke) → ((s : Spoke) → Contains ss s → Contains ts s)
    → Any (λ s. s.number ≡ n) ss → Any (λ s. s.number ≡ n) ts
any_in n ss ts f a =
    let c = f a.1 (a.0, a.2, a.3) in (c.0, a.1, c.1, c.2, a.4)

-- one half-edge more
pub spokes_more : (hs : List HalfEdge) (ss : List Spoke) (i : ℕ) (h : HalfEdge) → i < length hs
    → h ≡ get_or hs i h → SpokesSoFar hs ss i
    → SpokesSoFar hs (ss ++ record { half = h; number = i } ∷ []) (i + 1)
spokes_more hs ss i h l e so =
    let s : Spoke = record { half = h; number = i } in
    record {
      halves = map_push (λ (t : Spoke). t.half) ss s
          ∙ (λ j. so.halves j ++ e j ∷ [])
          ∙ sym (take_more hs i h l);
      numbered = All-push (λ t. slice_get hs t.number ≡ Some t.half) ss s so.numbered
          (slice_get-get_or hs i h l ∙ ap Some (sym e));
      complete = λ n k. ⊎_elim
          (λ (m : n < i). any_in n ss (ss ++ s ∷ []) (λ t. Contains-append_left ss (s ∷ []) t) (so.complete n m))
          (λ (m : i ≡ n). let c = Contains-push ss s in (c.0, s, c.1, c.2, m))
          (split n k);
    }
  where
    split : (n : ℕ) → n < i + 1 → (n < i) ⊎ (i ≡ n)
    split n k = grind arith

-- the half-edge from nowhere to nowhere stands for places past the end
pub nowhere : HalfEdge
nowhere = record { origin = record { x = pos 0; y = pos 0 }; target = record { x = pos 0; y = pos 0 } }

-- sorted spokes of half-edges of which no two are one
pub spokes_sorted : (hs : List HalfEdge) (ss ts : List Spoke) (i : ℕ) → length hs ≤ i
    → IsDistinct half_edge_eq hs → SpokesSoFar hs ss i → IsPermutation ss ts
    → IsSortedBy (λ s t. is_lt (spoke_cmp s.half t.half)) ts
    → AreSpokes hs ts
spokes_sorted hs ss ts i l distinct so moved up =
    record {
      numbered = All-permutation (λ s. slice_get hs s.number ≡ Some s.half) ss ts moved so.numbered;
      complete = λ n k. any_in n ss ts (λ s. Contains-permutation ss ts s moved) (so.complete n (omega arith));
      clockwise = sorted_from_all_adjacent spoke_total (halves_of ts) nowhere adjacent;
      count = length_permutation ss ts moved ∙ sym (length-map ss (λ (s : Spoke). s.half)) ∙ ap length whole;
    }
  where
    whole : halves_of ss ≡ hs
    whole = so.halves ∙ take_all i hs l

    apart : IsDistinct half_edge_eq (halves_of ts)
    apart =
        IsDistinct-IsPermutation half_edge_eq (λ g h. (eq_by_cmp_equiv half_total).symm g h) hs (halves_of ts)
        (subst (λ gs. IsPermutation gs (halves_of ts)) whole (IsPermutation-map (λ (s : Spoke). s.half) ss ts moved)) distinct

    none : Spoke
    none = record { half = nowhere; number = 0 }

    at : (k : ℕ) → k < length (halves_of ts) → get_or (halves_of ts) k nowhere ≡ (get_or ts k none).half
    at k m = get_or-map (λ (s : Spoke). s.half) ts k none nowhere (subst (λ n. k < n) (length-map ts (λ (s : Spoke). s.half)) m)

    rises : (g h : HalfEdge) → is_lt (spoke_cmp h g) ≡ false → half_edge_eq g h ≡ false → spoke_cmp g h ≡ Less
    rises g h p q = by (spoke_cmp h g) refl p
      where
        by : (r : Ordering) → spoke_cmp h g ≡ r → is_lt r ≡ false → spoke_cmp g h ≡ Less
        by Less e f = absurd (true≢false f)
        by Equal e f = absurd (true≢false (sym ((half_decides g h).1 (sym (spoke_exact h g e))) ∙ q))
        by Greater e f = spoke_total.antisymm g h ∙ ap ordering_reverse e

    adjacent : (k : ℕ) → k + 1 < length (halves_of ts)
        → spoke_cmp (get_or (halves_of ts) k nowhere) (get_or (halves_of ts) (k + 1) nowhere) ≡ Less
    adjacent k m =
        let here = at k (omega (arith, m)) in
        let there = at (k + 1) m in
        let fits : k + 1 < length ts = subst (λ n. k + 1 < n) (length-map ts (λ (s : Spoke). s.half)) m in
        rises (get_or (halves_of ts) k nowhere) (get_or (halves_of ts) (k + 1) nowhere)
        (subst (λ h. is_lt (spoke_cmp h (get_or (halves_of ts) k nowhere)) ≡ false) (sym there)
        (subst (λ g. is_lt (spoke_cmp (get_or ts (k + 1) none).half g) ≡ false) (sym here) (up k none (omega arith) fits)))
        (apart_from_distinct half_edge_eq (halves_of ts) k (k + 1) nowhere apart (omega arith) m)
