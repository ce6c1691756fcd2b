-- Numbers as they are looked up. The test of the set is that of the definition, so the first place at which
-- it passes is the number of the half-edge.
use Rattle.std.proofs.Common.{◌≡◌, refl, ◌∙◌, ap, sym, subst, ℕ, ◌<◌, ◌≤◌, arith}
use Rattle.std.proofs.Common.{Bool, true, false, true≢false, if◌then◌else◌, cond, nat_lt}
use Rattle.std.proofs.Common.{Option, Some, None, List, length, map, get_or, Contains}
use Rattle.std.specs.Prelude.{slice_get, All}
use Rattle.std.specs.List.{position, position_or_len, list_any}
use Rattle.std.proofs.lemmas.Bool.{false_from_ne_true}
use Rattle.std.proofs.lemmas.Bool.Decides.{nat_tests}
use Rattle.std.proofs.lemmas.Cmp.{eq_by_cmp_equiv}
use Rattle.std.proofs.lemmas.List.Elements.{All-contains}
use Rattle.std.proofs.lemmas.List.Sums.{passes_at_first, fails_before_first}
use Rattle.std.proofs.lemmas.Map.Views.{Contains-from_any, list_any-from_Contains}
use Rattle.std.proofs.lemmas.Option.{slice_get-get_or, get_or_from_slice_get, slice_get_within}
use Rattle.grid_core.specs.declared.point.Point.{Point}
use Rattle.grid_core.specs.Edge.{EdgeEnds}
use Rattle.grid_core.specs.Contours.{HalfEdge, half_edge_eq, half_edges, boundary_of, BoundaryWalk, contour_walk, contour_of}
use Rattle.face_trace.specs.HalfEdge.{IsWithinReach}
use Rattle.face_trace.specs.Links.{AreLinked, IsNumberOf}
use Rattle.face_trace.proofs.HalfEdgeLists.{half_decides, half_total}

-- the place of a half-edge is its number
pub number_is : (hs : List HalfEdge) (h : HalfEdge) (same : HalfEdge → HalfEdge → Bool)
    → ((f g : HalfEdge) → same f g ≡ half_edge_eq f g)
    → (r : Option ℕ) → r ≡ position (same h) hs → IsNumberOf hs h r
number_is hs h same is r e =
    subst (IsNumberOf hs h) (sym (e ∙ (λ i. position (λ g. is h g i) hs))) (by (nat_lt (position_or_len (half_edge_eq h) hs) (length hs)) refl)
  where
    n : ℕ
    n = position_or_len (half_edge_eq h) hs

    by : (b : Bool) → nat_lt (position_or_len (half_edge_eq h) hs) (length hs) ≡ b
        → IsNumberOf hs h (cond b (Some (position_or_len (half_edge_eq h) hs)) None)
    by true l =
        let fits : n < length hs = grind (arith, nat_tests) in
        slice_get-get_or hs n h fits ∙ ap Some (sym ((half_decides h (get_or hs n h)).0 (passes_at_first (half_edge_eq h) hs h fits)))
    by false l =
        let past : length hs ≤ n = grind (arith, nat_tests) in
        false_from_ne_true _ (λ t.
        let c = Contains-from_any (λ x y d. (half_decides x y).0 d) h hs t in
        true≢false (sym ((half_decides h (get_or hs c.0 h)).1 (sym c.2))
        ∙ fails_before_first (half_edge_eq h) hs c.0 h (omega (arith, past, c.1))))

-- a half-edge that isn't near isn't there
pub far_away : {es : List EdgeEnds} {hs : List HalfEdge} {nexts : List ℕ} → AreLinked es hs nexts
    → (h : HalfEdge) → (IsWithinReach h → ⊥) → list_any (half_edge_eq h) (half_edges es) ≡ false
far_away {es} {hs} linked h far =
    false_from_ne_true _ (λ t.
    far (All-contains IsWithinReach hs h linked.within
    (subst (λ gs. Contains gs h) (sym linked.numbered)
    (Contains-from_any (λ x y d. (half_decides x y).0 d) h (half_edges es) t))))

-- the number as it is looked up
pub number_found : {es : List EdgeEnds} {hs : List HalfEdge} {nexts : List ℕ} → AreLinked es hs nexts
    → (same : HalfEdge → HalfEdge → Bool) → ((f g : HalfEdge) → same f g ≡ half_edge_eq f g)
    → (g h : HalfEdge) → g ≡ h → (r : Option ℕ) → r ≡ position (same g) hs → IsNumberOf (half_edges es) h r
number_found {es} {hs} linked same is g h e r at =
    subst (λ gs. IsNumberOf gs h r) linked.numbered
    (number_is hs h same is r (at ∙ ap (λ f. position (same f) hs) e))

-- the contour of a half-edge that is there
pub contour_found : (es : List EdgeEnds) (u v : Point) (n : ℕ) (w : BoundaryWalk)
    → slice_get (half_edges es) n ≡ Some (record { origin = u; target = v })
    → w ≡ boundary_of (map (λ g. g.origin) (contour_walk es (record { origin = u; target = v })))
    → Some w ≡ contour_of es u v
contour_found es u v n w at e =
    let h : HalfEdge = record { origin = u; target = v } in
    let there : list_any (half_edge_eq h) (half_edges es) ≡ true =
    list_any-from_Contains (eq_by_cmp_equiv half_total) h (half_edges es)
    (n, slice_get_within (half_edges es) n h at, get_or_from_slice_get (half_edges es) n h h at) in
    ap Some e
    ∙ sym (ap (λ b. if b then Some (boundary_of (map (λ g. g.origin) (contour_walk es h))) else None) there)
