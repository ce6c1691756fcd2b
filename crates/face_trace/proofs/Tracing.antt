-- The walks by number. The half-edge at hand after k steps is the one at place k of the walk, so the walk
-- is back, at the number that it began with, after as many steps as it has half-edges.
use Rattle.std.proofs.Common.{◌≡◌, ◌≢◌, refl, sym, ap, subst, ◌∙◌, ℕ, suc, ◌+◌, ◌-◌, ◌*◌, ◌<◌, ◌≤◌, ◌^◌, arith, ◌⊎◌, inl, inr}
use Rattle.std.proofs.Common.{Bool, true, false, true≢false, if◌then◌else◌, List, [], ◌∷◌, ◌++◌, length, take, map, get_or, fold, Contains}
use Rattle.std.proofs.Common.{Option, Some, None, is_lt, nat_eq, nat_lt, cond}
use Rattle.std.specs.Prelude.{ℤ, pos, ◌+ℤ◌, unsigned_abs, slice_get, slice_index, option_map, zip}
use Rattle.std.specs.List.{position, position_or_len, list_any, IsDistinct}
use Rattle.std.proofs.lemmas.Bool.{false_from_ne_true}
use Rattle.std.proofs.lemmas.Bool.Decides.{Decides-eqb, nat_tests}
use Rattle.std.proofs.lemmas.Cmp.{tied_itself, eq_by_cmp_equiv}
use Rattle.std.proofs.lemmas.List.{map_more, take_all, length_push, get_or_default}
use Rattle.std.proofs.lemmas.List.Sums.{fold_more, position_or_len_is, passes_at_first, fails_before_first}
use Rattle.std.proofs.lemmas.List.Elements.{All-contains}
use Rattle.std.proofs.lemmas.Map.Views.{Contains-from_any, list_any-from_Contains}
use Rattle.std.proofs.lemmas.Map.Keys.{apart_from_distinct}
use Rattle.std.proofs.lemmas.Option.{slice_get-get_or, get_or_from_slice_get, slice_get_within}
use Rattle.grid_core.specs.declared.point.Point.{Point}
use Rattle.grid_core.specs.Vector.{cross_of}
use Rattle.grid_core.specs.Edge.{EdgeEnds}
use Rattle.grid_core.specs.Contours.{HalfEdge, half_edge_cmp, half_edge_eq, half_edges, next, walk, least_of, area2_of, boundary_of}
use Rattle.grid_core.specs.Contours.{BoundaryWalk, contour_walk, contour_of}
use Rattle.grid_core.proofs.Signed.{signed, abs-add}
use Rattle.face_trace.specs.HalfEdge.{IsWithinReach}
use Rattle.face_trace.specs.Links.{AreLinked, IsLesser, IsNumberOf}
use Rattle.face_trace.proofs.HalfEdgeLists.{half_decides, half_total, half_edges_distinct}
use Rattle.face_trace.proofs.SpokeLists.{nowhere}
use Rattle.face_trace.proofs.Walks.{after, after_next, after_start, IsOrbit, walk_is_orbit}

-- the half-edge of a number
abbrev pub half : List HalfEdge → ℕ → HalfEdge
half hs n = get_or hs n nowhere

-- ---- links

module _ {es : List EdgeEnds} {hs : List HalfEdge} {nexts : List ℕ} (linked : AreLinked es hs nexts) where
  here : (n : ℕ) → n < length hs → slice_get hs n ≡ Some (half hs n)
  here n l = slice_get-get_or hs n nowhere l

  member : (n : ℕ) → n < length hs → Contains (half_edges es) (half hs n)
  member n l =
      subst (λ gs. Contains gs (half hs n)) linked.numbered
      (n, l, get_or_default hs n (half hs n) nowhere l)

  -- the link of a half-edge leads to its next
  leads : (n : ℕ) → n < length hs → slice_get hs (slice_index nexts n) ≡ Some (next es (half hs n))
  leads n l = linked.linked n l ∙ ap (option_map (next es)) (here n l)

  leads_within : (n : ℕ) → n < length hs → slice_index nexts n < length hs
  leads_within n l = slice_get_within hs (slice_index nexts n) (next es (half hs n)) (leads n l)

  leads_to : (n : ℕ) → n < length hs → half hs (slice_index nexts n) ≡ next es (half hs n)
  leads_to n l = get_or_from_slice_get hs (slice_index nexts n) (next es (half hs n)) nowhere (leads n l)

  -- one half-edge, one number
  one_number : (m n : ℕ) → m < length hs → n < length hs → half hs m ≡ half hs n → m ≡ n
  one_number m n k l e = by (split m n)
    where
      distinct : IsDistinct half_edge_eq hs
      distinct = subst (IsDistinct half_edge_eq) (sym linked.numbered) (half_edges_distinct es linked.rising linked.edges)

      split : (i j : ℕ) → (i < j) ⊎ ((i ≡ j) ⊎ (j < i))
      split i j = grind arith

      apart : (i j : ℕ) → i < j → j < length hs → half hs i ≡ half hs j → ⊥
      apart i j p q r =
          true≢false (sym ((half_decides (half hs i) (half hs j)).1 r)
          ∙ apart_from_distinct half_edge_eq hs i j nowhere distinct p q)

      by : (m < n) ⊎ ((m ≡ n) ⊎ (n < m)) → m ≡ n
      by (inl p) = absurd (apart m n p l e)
      by (inr (inl p)) = p
      by (inr (inr p)) = absurd (apart n m p k (sym e))

  module _ (start : ℕ) (within : start < length hs) where
    abbrev whole : List HalfEdge
    whole = walk es (half hs start)

    orbit : IsOrbit es (half hs start) (walk es (half hs start))
    orbit = walk_is_orbit es (half hs start) (member start within)

    -- the walk is back where the number is the first again
    back_is : (at k : ℕ) → at < length hs → 0 < k → k ≤ length (walk es (half hs start))
        → half hs at ≡ after es (half hs start) k → at ≡ start
        → k ≡ length (walk es (half hs start))
    back_is at k l some fits e s = by (split k (length (walk es (half hs start))) fits)
      where
        split : (i j : ℕ) → i ≤ j → (i < j) ⊎ (i ≡ j)
        split i j h = grind arith

        by : (k < length (walk es (half hs start))) ⊎ (k ≡ length (walk es (half hs start)))
            → k ≡ length (walk es (half hs start))
        by (inl p) =
            absurd (orbit.once 0 k some p
            (after_start es (half hs start) ∙ sym (ap (half hs) s) ∙ e))
        by (inr p) = p

    -- and elsewhere it goes on
    goes_on : (at k : ℕ) → at < length hs → k ≤ length (walk es (half hs start))
        → half hs at ≡ after es (half hs start) k → at ≢ start
        → k < length (walk es (half hs start))
    goes_on at k l fits e s = by (split k (length (walk es (half hs start))) fits)
      where
        split : (i j : ℕ) → i ≤ j → (i < j) ⊎ (i ≡ j)
        split i j h = grind arith

        by : (k < length (walk es (half hs start))) ⊎ (k ≡ length (walk es (half hs start)))
            → k < length (walk es (half hs start))
        by (inl p) = p
        by (inr p) =
            absurd (s (one_number at start l within
            (e ∙ ap (after es (half hs start)) p ∙ orbit.comes_back)))

-- ---- the contour as it is traced

-- the sum of the cross products of each half-edge's start and end
pub crosses : List HalfEdge → ℤ
crosses hs = fold (λ sum h. sum +ℤ cross_of h.origin h.target) (pos 0) hs

-- the start points of the first half-edges of the walk, and their sum
pub record IsTraced (es : List EdgeEnds) (hs : List HalfEdge) (start at : ℕ) (points : List Point) (area2 : ℤ) : Type 0 where
  pub within : at < length hs
  pub going : length points < length (walk es (half hs start))
  pub here : half hs at ≡ after es (half hs start) (length points)
  pub points_are : points ≡ map (λ h. h.origin) (take (length points) (walk es (half hs start)))
  pub area2_is : area2 ≡ crosses (take (length points) (walk es (half hs start)))
  pub small : unsigned_abs area2 ≤ 2 ^ 61 * length points

-- the whole walk
pub record IsWhole (es : List EdgeEnds) (h : HalfEdge) (points : List Point) (area2 : ℤ) : Type 0 where
  pub points_are : points ≡ map (λ h. h.origin) (walk es h)
  pub area2_is : area2 ≡ crosses (walk es h)
  pub small : unsigned_abs area2 ≤ 2 ^ 61 * length points

module _ {es : List EdgeEnds} {hs : List HalfEdge} {nexts : List ℕ} (linked : AreLinked es hs nexts) (start : ℕ)
    (first : start < length hs) where
  pub trace_begun : IsTraced es hs start start [] (pos 0)
  unfolding crosses
  trace_begun =
      record {
        within = first;
        going = (orbit linked start first).some;
        here = sym (after_start es (half hs start));
        points_are = refl;
        area2_is = refl;
        small = omega (arith, signed);
      }

  module _ {at : ℕ} {points : List Point} {area2 : ℤ} (so : IsTraced es hs start at points area2) where
    abbrev k : ℕ
    k = length points

    more : length (points ++ (half hs at).origin ∷ []) ≡ length points + 1
    more = length_push points (half hs at).origin

    place : get_or (walk es (half hs start)) (length points) nowhere ≡ half hs at
    place = (orbit linked start first).at (length points) nowhere so.going ∙ sym so.here

    points_more : points ++ (half hs at).origin ∷ []
        ≡ map (λ h. h.origin) (take (length points + 1) (walk es (half hs start)))
    points_more =
        (λ i. so.points_are i ++ (sym place i).origin ∷ [])
        ∙ sym (map_more (λ (h : HalfEdge). h.origin) (walk es (half hs start)) (length points) nowhere so.going)

    area2_more : area2 +ℤ cross_of (half hs at).origin (half hs at).target
        ≡ crosses (take (length points + 1) (walk es (half hs start)))
    unfolding crosses
    area2_more =
        (λ i. so.area2_is i +ℤ cross_of (sym place i).origin (sym place i).target)
        ∙ sym (fold_more (λ sum (h : HalfEdge). sum +ℤ cross_of h.origin h.target) (pos 0) (walk es (half hs start))
        (length points) nowhere so.going)

    small_more : unsigned_abs (cross_of (half hs at).origin (half hs at).target) ≤ 2 ^ 61
        → unsigned_abs (area2 +ℤ cross_of (half hs at).origin (half hs at).target)
        ≤ 2 ^ 61 * length (points ++ (half hs at).origin ∷ [])
    small_more one = omega (arith, so.small, one, more, abs-add area2 (cross_of (half hs at).origin (half hs at).target))

    next_here : half hs (slice_index nexts at) ≡ after es (half hs start) (length points + 1)
    next_here =
        leads_to linked at so.within ∙ ap (next es) so.here ∙ sym (after_next es (half hs start) (length points))
        ∙ ap (after es (half hs start)) (one_more (length points))
      where
        one_more : (n : ℕ) → suc n ≡ n + 1
        one_more n = omega arith

    -- one half-edge more, and the walk isn't back
    pub trace_more : unsigned_abs (cross_of (half hs at).origin (half hs at).target) ≤ 2 ^ 61
        → slice_index nexts at ≢ start
        → IsTraced es hs start (slice_index nexts at) (points ++ (half hs at).origin ∷ [])
        (area2 +ℤ cross_of (half hs at).origin (half hs at).target)
    trace_more one n =
        record {
          within = leads_within linked at so.within;
          going = subst (λ m. m < length (walk es (half hs start))) (sym more)
              (goes_on linked start first (slice_index nexts at) (length points + 1) (leads_within linked at so.within)
              (omega (arith, so.going)) next_here n);
          here = next_here ∙ ap (after es (half hs start)) (sym more);
          points_are = points_more ∙ ap (λ m. map (λ (h : HalfEdge). h.origin) (take m (walk es (half hs start)))) (sym more);
          area2_is = area2_more ∙ ap (λ m. crosses (take m (walk es (half hs start)))) (sym more);
          small = small_more one;
        }

    -- the last half-edge
    pub trace_done : unsigned_abs (cross_of (half hs at).origin (half hs at).target) ≤ 2 ^ 61
        → slice_index nexts at ≡ start
        → IsWhole es (half hs start) (points ++ (half hs at).origin ∷ [])
        (area2 +ℤ cross_of (half hs at).origin (half hs at).target)
    trace_done one e =
        let last : length points + 1 ≡ length (walk es (half hs start)) =
        back_is linked start first (slice_index nexts at) (length points + 1) (leads_within linked at so.within)
        (omega arith) (omega (arith, so.going)) next_here e in
        let full : take (length points + 1) (walk es (half hs start)) ≡ walk es (half hs start) =
        take_all (length points + 1) (walk es (half hs start)) (omega (arith, last)) in
        record {
          points_are = points_more ∙ ap (map (λ (h : HalfEdge). h.origin)) full;
          area2_is = area2_more ∙ ap crosses full;
          small = small_more one;
        }

-- ---- the least half-edge as it is looked for

-- the least of the first k half-edges of the walk
pub record IsSearched (es : List EdgeEnds) (hs : List HalfEdge) (start at least : ℕ) : Type 0 where
  pub k : ℕ
  pub some : 0 < k
  pub fits : k ≤ length (walk es (half hs start))
  pub within : at < length hs
  pub least_within : least < length hs
  pub here : half hs at ≡ after es (half hs start) k
  pub least_is : half hs least ≡ least_of (half hs start) (take k (walk es (half hs start)))

-- how many half-edges are left of the walk
pub left : List EdgeEnds → List HalfEdge → ℕ → ℕ → ℕ
left es hs start at =
    if nat_eq at start then 0
    else length (walk es (half hs start)) - position_or_len (half_edge_eq (half hs at)) (walk es (half hs start))

module _ {es : List EdgeEnds} {hs : List HalfEdge} {nexts : List ℕ} (linked : AreLinked es hs nexts) (start : ℕ)
    (first : start < length hs) where
  pub search_begun : IsSearched es hs start (slice_index nexts start) start
  search_begun =
      record {
        k = 1;
        some = omega arith;
        fits = omega (arith, (orbit linked start first).some);
        within = leads_within linked start first;
        least_within = first;
        here = leads_to linked start first
            ∙ ap (next es) (sym (after_start es (half hs start))) ∙ sym (after_next es (half hs start) 0);
        least_is = sym (ap (λ o. if is_lt o then half hs start else half hs start) (tied_itself half_total (half hs start)));
      }

  module _ {at least : ℕ} (so : IsSearched es hs start at least) where
    searching : at ≢ start → so.k < length (walk es (half hs start))
    searching n = goes_on linked start first at so.k so.within so.fits so.here n

    at_k : so.k < length (walk es (half hs start)) → get_or (walk es (half hs start)) so.k nowhere ≡ half hs at
    at_k l = (orbit linked start first).at so.k nowhere l ∙ sym so.here

    next_at : half hs (slice_index nexts at) ≡ after es (half hs start) (so.k + 1)
    next_at =
        leads_to linked at so.within ∙ ap (next es) so.here ∙ sym (after_next es (half hs start) so.k)
        ∙ ap (after es (half hs start)) (one_more so.k)
      where
        one_more : (n : ℕ) → suc n ≡ n + 1
        one_more n = omega arith

    -- one half-edge more
    pub search_more : at ≢ start → (lesser : ℕ) → IsLesser hs at least lesser
        → IsSearched es hs start (slice_index nexts at) lesser
    search_more n lesser is =
        let l = searching n in
        let one = is nowhere in
        record {
          k = so.k + 1;
          some = omega arith;
          fits = omega (arith, l);
          within = leads_within linked at so.within;
          least_within = slice_get_within hs lesser _ one;
          here = next_at;
          least_is = get_or_from_slice_get hs lesser _ nowhere one
              ∙ (λ i. if is_lt (half_edge_cmp (sym (at_k l) i) (so.least_is i)) then sym (at_k l) i else so.least_is i)
              ∙ sym (fold_more (λ m g. if is_lt (half_edge_cmp g m) then g else m) (half hs start) (walk es (half hs start)) so.k nowhere l);
        }

    -- back at the first
    pub search_done : at ≡ start → half hs least ≡ least_of (half hs start) (walk es (half hs start))
    search_done e =
        so.least_is
        ∙ ap (least_of (half hs start))
        (take_all so.k (walk es (half hs start))
        (omega (arith, back_is linked start first at so.k so.within so.some so.fits so.here e)))

    position_is : (j n : ℕ) → half hs n ≡ after es (half hs start) j → j < length (walk es (half hs start))
        → position_or_len (half_edge_eq (half hs n)) (walk es (half hs start)) ≡ j
    position_is j n e l =
        position_or_len_is (half_edge_eq (half hs n)) (walk es (half hs start)) j nowhere (omega (arith, l))
        (λ i m. false_from_ne_true _ (λ t. (orbit linked start first).once i j m l
        (sym ((orbit linked start first).at i nowhere (omega (arith, m, l))) ∙ sym ((half_decides _ _).0 t) ∙ e)))
        (λ m. (half_decides _ _).1 (e ∙ sym ((orbit linked start first).at j nowhere l)))

    -- fewer are left
    pub left_falls : at ≢ start → left es hs start (slice_index nexts at) < left es hs start at
    unfolding left
    left_falls n = by (nat_eq (slice_index nexts at) start) refl
      where
        other : nat_eq at start ≡ false
        other = false_from_ne_true (nat_eq at start) (λ t. n ((Decides-eqb at start).0 t))

        now : left es hs start at ≡ length (walk es (half hs start)) - so.k
        now =
            ap (λ b. if b then 0
            else length (walk es (half hs start)) - position_or_len (half_edge_eq (half hs at)) (walk es (half hs start))) other
            ∙ ap (λ j. length (walk es (half hs start)) - j) (position_is so.k at so.here (searching n))

        by : (b : Bool) → nat_eq (slice_index nexts at) start ≡ b → left es hs start (slice_index nexts at) < left es hs start at
        by true e =
            subst (λ m. m < left es hs start at)
            (sym (ap (λ b. if b then 0
            else length (walk es (half hs start)) - position_or_len (half_edge_eq (half hs (slice_index nexts at))) (walk es (half hs start))) e))
            (omega (arith, now, searching n))
        by false e =
            let m : slice_index nexts at ≢ start = λ t. true≢false (sym ((Decides-eqb _ _).1 t) ∙ e) in
            let l = goes_on linked start first (slice_index nexts at) (so.k + 1) (leads_within linked at so.within)
            (omega (arith, searching n)) next_at m in
            let after_it : left es hs start (slice_index nexts at) ≡ length (walk es (half hs start)) - (so.k + 1) =
            ap (λ b. if b then 0
            else length (walk es (half hs start)) - position_or_len (half_edge_eq (half hs (slice_index nexts at))) (walk es (half hs start))) e
            ∙ ap (λ j. length (walk es (half hs start)) - j) (position_is (so.k + 1) (slice_index nexts at) next_at l) in
            omega (arith, now, after_it, l)

-- ---- as the code reads the fields

-- what is linked, seen by the edges and by the slice of half-edges
pub linked_as : (es ds : List EdgeEnds) (hs gs : List HalfEdge) (nexts : List ℕ) → es ≡ ds → hs ≡ gs
    → AreLinked es gs nexts → AreLinked ds hs nexts
linked_as es ds hs gs nexts e h linked =
    subst (λ ks. AreLinked ks hs nexts) e (subst (λ fs. AreLinked es fs nexts) (sym h) linked)

module _ {es : List EdgeEnds} {hs : List HalfEdge} {nexts : List ℕ} (linked : AreLinked es hs nexts) where
  pub within_as : (n : ℕ) → n < length (half_edges es) → n < length hs
  within_as n l = subst (λ gs. n < length gs) (sym linked.numbered) l

  -- a link as it is read
  read : (n r : ℕ) → n < length hs → r ≡ get_or nexts n r → r ≡ slice_index nexts n
  read n r l e = e ∙ get_or_default nexts n r 0 (omega (arith, l, linked.count))

  half_is : (n : ℕ) (h : HalfEdge) → slice_get (half_edges es) n ≡ Some h → half hs n ≡ h
  half_is n h e = ap (λ gs. half gs n) linked.numbered ∙ get_or_from_slice_get (half_edges es) n h nowhere e

  module _ (start : ℕ) (first : start < length hs) where
    module _ {at : ℕ} {points : List Point} {area2 : ℤ} (so : IsTraced es hs start at points area2)
        (g : HalfEdge) (is_g : g ≡ get_or hs at g) (next : ℕ) (is_next : next ≡ get_or nexts at next)
        (point : Point) (is_point : point ≡ g.origin) (cross : ℤ) (is_cross : cross ≡ cross_of g.origin g.target)
        (small : unsigned_abs cross ≤ 2 ^ 61) (all : List Point) (is_all : all ≡ points ++ point ∷ [])
        (sum : ℤ) (is_sum : sum ≡ area2 +ℤ cross) where
      here_g : g ≡ half hs at
      here_g = is_g ∙ get_or_default hs at g nowhere so.within

      the_cross : cross ≡ cross_of (half hs at).origin (half hs at).target
      the_cross = is_cross ∙ (λ i. cross_of (here_g i).origin (here_g i).target)

      the_points : all ≡ points ++ (half hs at).origin ∷ []
      the_points = is_all ∙ (λ i. points ++ (is_point ∙ ap (λ (k : HalfEdge). k.origin) here_g) i ∷ [])

      the_sum : sum ≡ area2 +ℤ cross_of (half hs at).origin (half hs at).target
      the_sum = is_sum ∙ ap (λ z. area2 +ℤ z) the_cross

      the_next : next ≡ slice_index nexts at
      the_next = read at next so.within is_next

      one : unsigned_abs (cross_of (half hs at).origin (half hs at).target) ≤ 2 ^ 61
      one = subst (λ z. unsigned_abs z ≤ 2 ^ 61) the_cross small

      pub traced_more : next ≢ start → IsTraced es hs start next all sum
      traced_more n =
          subst (λ m. IsTraced es hs start m all sum) (sym the_next)
          (subst (λ ps. IsTraced es hs start (slice_index nexts at) ps sum) (sym the_points)
          (subst (IsTraced es hs start (slice_index nexts at) (points ++ (half hs at).origin ∷ [])) (sym the_sum)
          (trace_more linked start first so one (λ e. n (the_next ∙ e)))))

      pub traced_whole : next ≡ start → IsWhole es (half hs start) all sum
      traced_whole e =
          subst (λ ps. IsWhole es (half hs start) ps sum) (sym the_points)
          (subst (IsWhole es (half hs start) (points ++ (half hs at).origin ∷ [])) (sym the_sum)
          (trace_done linked start first so one (sym the_next ∙ e)))

    -- ---- the least half-edge

    pub searched_begun : (next : ℕ) → next ≡ get_or nexts start next → IsSearched es hs start next start
    searched_begun next e =
        subst (λ m. IsSearched es hs start m start) (sym (read start next first e)) (search_begun linked start first)

    pub searched_more : {at least : ℕ} → IsSearched es hs start at least → at ≢ start
        → (next lesser : ℕ) → next ≡ get_or nexts at next → IsLesser hs at least lesser
        → IsSearched es hs start next lesser
    searched_more so n next lesser e is =
        subst (λ m. IsSearched es hs start m lesser) (sym (read _ next so.within e)) (search_more linked start first so n lesser is)

    pub searched_fewer : {at least : ℕ} → IsSearched es hs start at least → at ≢ start
        → (next : ℕ) → next ≡ get_or nexts at next → left es hs start next < left es hs start at
    searched_fewer {at} so n next e =
        subst (λ m. left es hs start m < left es hs start at) (sym (read at next so.within e)) (left_falls linked start first so n)

    pub searched_whole : {at least : ℕ} → IsSearched es hs start at least → at ≡ start
        → (h : HalfEdge) → slice_get (half_edges es) start ≡ Some h
        → slice_get (half_edges es) least ≡ Some (least_of h (walk es h))
    searched_whole {at} {least} so e h k =
        ap (λ gs. slice_get gs least) (sym linked.numbered)
        ∙ slice_get-get_or hs least nowhere so.least_within
        ∙ ap Some (search_done linked start first so e)
        ∙ ap (λ g. Some (least_of g (walk es g))) (half_is start h k)

-- ---- the area of a closed walk

-- where each half-edge ends where the next one starts, the ends are the other starts and the last end
chained : (h : HalfEdge) (rest : List HalfEdge) (end : Point)
    → ((k : ℕ) → suc k < length (h ∷ rest) → (get_or (h ∷ rest) k nowhere).target ≡ (get_or (h ∷ rest) (suc k) nowhere).origin)
    → (get_or (h ∷ rest) (length rest) nowhere).target ≡ end
    → map (λ g. g.origin) rest ++ end ∷ [] ≡ map (λ g. g.target) (h ∷ rest)
chained h [] end steps last = λ i. sym last i ∷ []
chained h (g ∷ rest) end steps last =
    λ i. sym (steps 0 (omega arith)) i ∷ chained g rest end (λ k l. steps (suc k) (omega (arith, l))) last i

crossed : (a : ℤ) (hs : List HalfEdge)
    → fold (λ sum w. sum +ℤ cross_of w.0 w.1) a (zip (map (λ g. g.origin) hs) (map (λ g. g.target) hs))
    ≡ fold (λ sum h. sum +ℤ cross_of h.origin h.target) a hs
crossed a [] = refl
crossed a (h ∷ hs) = crossed (a +ℤ cross_of h.origin h.target) hs

module _ (es : List EdgeEnds) (h : HalfEdge) (c : Contains (half_edges es) h) where
  closed : IsOrbit es h (walk es h)
  closed = walk_is_orbit es h c

  ends_at_next : (k : ℕ) → k < length (walk es h) → (get_or (walk es h) k nowhere).target ≡ (after es h (suc k)).origin
  ends_at_next k l =
      ap (λ (g : HalfEdge). g.target) (closed.at k nowhere l)
      ∙ ap (λ (g : HalfEdge). g.origin) (sym (after_next es h k))

  -- the sum over the half-edges is that over neighbouring points
  pub closed_area : crosses (walk es h) ≡ area2_of (map (λ g. g.origin) (walk es h))
  unfolding crosses
  closed_area = by (walk es h) refl
    where
      by : (w : List HalfEdge) → walk es h ≡ w → crosses (walk es h) ≡ area2_of (map (λ g. g.origin) (walk es h))
      by [] e = absurd (omega (arith, closed.some, ap length e))
      by (g ∷ rest) e =
          let count : length (walk es h) ≡ suc (length rest) = ap length e in
          let at_e = λ (k : ℕ). ap (λ gs. get_or gs k nowhere) e in
          let steps : (k : ℕ) → suc k < length (g ∷ rest)
          → (get_or (g ∷ rest) k nowhere).target ≡ (get_or (g ∷ rest) (suc k) nowhere).origin =
          λ k l. ap (λ (f : HalfEdge). f.target) (sym (at_e k))
          ∙ ends_at_next k (omega (arith, l, count))
          ∙ ap (λ (f : HalfEdge). f.origin) (sym (closed.at (suc k) nowhere (omega (arith, l, count))) ∙ at_e (suc k)) in
          let last : (get_or (g ∷ rest) (length rest) nowhere).target ≡ g.origin =
          ap (λ (f : HalfEdge). f.target) (sym (at_e (length rest)))
          ∙ ends_at_next (length rest) (omega (arith, count))
          ∙ ap (λ n. (after es h n).origin) (sym count)
          ∙ ap (λ (f : HalfEdge). f.origin) (closed.comes_back ∙ sym (after_start es h) ∙ sym (closed.at 0 nowhere closed.some) ∙ at_e 0) in
          ap crosses e
          ∙ sym (crossed (pos 0) (g ∷ rest))
          ∙ ap (λ ends. fold (λ sum w. sum +ℤ cross_of w.0 w.1) (pos 0) (zip (map (λ f. f.origin) (g ∷ rest)) ends))
          (sym (chained g rest g.origin steps last))
          ∙ ap (λ w. area2_of (map (λ f. f.origin) w)) (sym e)

-- the contour of a whole walk
pub contour_whole : {es : List EdgeEnds} {hs : List HalfEdge} {nexts : List ℕ} (linked : AreLinked es hs nexts)
    (start : ℕ) (first : start < length hs) (points : List Point) (area2 : ℤ)
    → IsWhole es (half hs start) points area2
    → (h : HalfEdge) → slice_get (half_edges es) start ≡ Some h
    → record { points = points; area2 = area2 } ≡ boundary_of (map (λ g. g.origin) (walk es h))
contour_whole {es} {hs} linked start first points area2 w h e =
    (λ i. record {
      points = w.points_are i;
      area2 = (w.area2_is ∙ closed_area es (half hs start) (member linked start first)) i;
    })
    ∙ ap (λ g. boundary_of (map (λ f. f.origin) (walk es g))) (half_is linked start h e)
