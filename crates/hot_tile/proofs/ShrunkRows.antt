-- The rows of a tile with a segment less: the steps of pixels that went cold leave them. A hot pixel
-- stays hot where its key isn't among the cold ones; a step is gone where its key is cold.
use Rattle.std.proofs.Common.{◌≡◌, refl, ap, sym, ◌∙◌, subst, ℕ, Bool, true, false, cond, not, ◌&&◌, ◌||◌, true≢false}
use Rattle.std.proofs.Common.{IsTrue, ◌↔◌, List, [], ◌∷◌, map, filter, Contains}
use Rattle.std.proofs.Common.{arith, Less, nat_eq, nat_cmp, is_eq}
use Rattle.std.specs.Prelude.{if◌then◌else◌}
use Rattle.std.specs.List.{AllByRecursion, list_any}
use Rattle.std.specs.List.Sorted.{IsStrictlySortedBy}
use Rattle.std.specs.Ordering.{eq_by_cmp}
use Rattle.std.proofs.lemmas.Bool.Decides.{nat_tests}
use Rattle.std.proofs.lemmas.Cmp.{nat_cmp_total}
use Rattle.grid_core.specs.declared.point.Point.{Point}
use Rattle.grid_core.specs.Vector.{point_cmp}
use Rattle.grid_core.specs.Profile.{IsProfile}
use Rattle.grid_core.specs.Name.{label_cmp}
use Rattle.grid_core.specs.Segment.{Segment}
use Rattle.grid_core.specs.LiveList.{names, without_name}
use Rattle.grid_core.specs.Meets.{meets_pixel_of}
use Rattle.grid_core.specs.Rounding.{hot}
use Rattle.grid_core.specs.Tiles.{in_tile, falls}
use Rattle.grid_core.proofs.Filters.{same_kept}
use Rattle.grid_core.proofs.ListMembers.{contains_filter}
use Rattle.grid_core.proofs.Order.{point_total, point_exact}
use Rattle.grid_core.proofs.RisingMembers.{any_rising, any_iff}
use Rattle.tile_law.specs.Parts.{hot_in, route_among}
use Rattle.tile_law.proofs.OneLess.{route_without}
use Rattle.hot_tile.specs.declared.spots.Spot.{Spot}
use Rattle.hot_tile.specs.Frame.{TileFrame, key_of, step_of, turned}
use Rattle.hot_tile.specs.Spots.{keys, has_key, less, is_cold, cold_keys}
use Rattle.hot_tile.specs.Own.{own_spots}
use Rattle.hot_tile.specs.Steps.{meets_key, grown_row, thinned_row}
use Rattle.hot_tile.specs.Tile.{TileContent, frame_of, path_in, spots_in}
use Rattle.hot_tile.proofs.FrameLaws.{turned_back, pixel_back}
use Rattle.hot_tile.proofs.GrownRows.{LiesHere, all_here, filter_images, key_found, path_is, route_on_row, same_tests}
use Rattle.hot_tile.proofs.PartCounts.{keys_of_spots, spots_are_spots}
use Rattle.hot_tile.proofs.ShrunkSpots.{keys_left, shrunk_spots}

-- ---- keys of spots that pass a test

key_apart : (j k : ℕ) → nat_cmp k j ≡ Less → nat_eq j k ≡ false
key_apart j k h = same_tests j k ∙ ap is_eq h

-- a key below all isn't among those that pass
no_key : (p : Spot → Bool) (k : ℕ) (xs : List Spot) → AllByRecursion (λ j. nat_cmp k j ≡ Less) (keys xs)
    → has_key (keys (filter p xs)) k ≡ false
no_key p k [] h = refl
no_key p k (x ∷ xs) h = by (p x) (no_key p k xs h.1)
  where
    by : (b : Bool) → has_key (keys (filter p xs)) k ≡ false
        → has_key (keys (cond b (x ∷ filter p xs) (filter p xs))) k ≡ false
    by true rest = ap (λ b. b || has_key (keys (filter p xs)) k) (key_apart x.key k h.0) ∙ rest
    by false rest = rest

-- of spots in order a key is among those that aren't cold where it is there, and not among the cold ones
parted_keys : (k : ℕ) (xs : List Spot) → IsStrictlySortedBy nat_cmp (keys xs)
    → has_key (keys (filter (λ x. not (is_cold x)) xs)) k
    ≡ (has_key (keys xs) k && not (has_key (keys (filter is_cold xs)) k))
unfolding IsStrictlySortedBy
parted_keys k [] s = refl
parted_keys k (x ∷ xs) s = by (nat_eq x.key k) refl (is_cold x) (parted_keys k xs s.1)
  where
    warm : List Spot
    warm = filter (λ x. not (is_cold x)) xs

    cold : List Spot
    cold = filter is_cold xs

    -- x has the key: nothing behind it has
    none : nat_eq x.key k ≡ true → (p : Spot → Bool) → has_key (keys (filter p xs)) k ≡ false
    none e p =
        let same : x.key ≡ k = grind (arith, nat_tests) in
        no_key p k xs (subst (λ j. AllByRecursion (λ i. nat_cmp j i ≡ Less) (keys xs)) same s.0)

    by : (c : Bool) → nat_eq x.key k ≡ c → (b : Bool)
        → has_key (keys warm) k ≡ (has_key (keys xs) k && not (has_key (keys cold) k))
        → has_key (keys (cond (not b) (x ∷ warm) warm)) k
        ≡ ((nat_eq x.key k || has_key (keys xs) k) && not (has_key (keys (cond b (x ∷ cold) cold)) k))
    by true e true rest =
        none e (λ x. not (is_cold x))
        ∙ sym (ap (λ c. (c || has_key (keys xs) k) && not (c || has_key (keys cold) k)) e)
    by true e false rest =
        ap (λ c. c || has_key (keys warm) k) e
        ∙ sym (λ i. (e i || has_key (keys xs) k) && not (none e is_cold i))
    by false e true rest =
        rest ∙ sym (ap (λ c. (c || has_key (keys xs) k) && not (c || has_key (keys cold) k)) e)
    by false e false rest =
        ap (λ c. c || has_key (keys warm) k) e ∙ rest
        ∙ sym (ap (λ c. (c || has_key (keys xs) k) && not (has_key (keys cold) k)) e)

-- ---- steps that are gone

has_key_is : (ks : List ℕ) (k : ℕ) → has_key ks k ≡ list_any (eq_by_cmp nat_cmp k) ks
has_key_is [] k = refl
has_key_is (j ∷ ks) k = λ i. same_tests j k i || has_key_is ks k i

turned_tests : (j k : ℕ) → nat_eq (turned j) (turned k) ≡ nat_eq j k
turned_tests j k = by (nat_eq j k) refl (nat_eq (turned j) (turned k)) refl
  where
    equal : (m n : ℕ) → nat_eq m n ≡ true → m ≡ n
    equal m n e = grind (arith, nat_tests)

    itself : (m n : ℕ) → m ≡ n → nat_eq m n ≡ true
    itself m n e = grind (arith, nat_tests)

    by : (b : Bool) → nat_eq j k ≡ b → (c : Bool) → nat_eq (turned j) (turned k) ≡ c → c ≡ b
    by true e true g = refl
    by true e false g = absurd (true≢false (sym (itself (turned j) (turned k) (ap turned (equal j k e))) ∙ g))
    by false e true g =
        absurd (true≢false (sym (itself j k (sym (turned_back j) ∙ ap turned (equal (turned j) (turned k) g) ∙ turned_back k)) ∙ e))
    by false e false g = refl

step_tests : (u : Segment) (j k : ℕ) → nat_eq (step_of u j) (step_of u k) ≡ nat_eq j k
step_tests u j k = by (falls u)
  where
    by : (b : Bool) → nat_eq (if b then turned j else j) (if b then turned k else k) ≡ nat_eq j k
    by true = turned_tests j k
    by false = refl

step_found : (u : Segment) (ks : List ℕ) (k : ℕ) → has_key (map (step_of u) ks) (step_of u k) ≡ has_key ks k
step_found u [] k = refl
step_found u (j ∷ ks) k = λ i. step_tests u j k i || step_found u ks k i

-- a key that passes a test is among those that pass where it is among all
passing_found : (p : ℕ → Bool) (ks : List ℕ) (k : ℕ) → p k ≡ true → has_key (filter p ks) k ≡ has_key ks k
passing_found p [] k h = refl
passing_found p (j ∷ ks) k h = by (p j) refl (passing_found p ks k h)
  where
    other : p j ≡ false → (b : Bool) → nat_eq j k ≡ b → b ≡ false
    other e true same =
        let one : j ≡ k = grind (arith, nat_tests) in
        absurd (true≢false (sym h ∙ sym (ap p one) ∙ e))
    other e false same = refl

    by : (b : Bool) → p j ≡ b → has_key (filter p ks) k ≡ has_key ks k
        → has_key (cond b (j ∷ filter p ks) (filter p ks)) k ≡ (nat_eq j k || has_key ks k)
    by true e rest = ap (λ c. nat_eq j k || c) rest
    by false e rest = rest ∙ sym (ap (λ c. c || has_key ks k) (other e (nat_eq j k) refl))

-- a step of a pixel that the segment meets is gone where its key is cold
gone_at : (f : TileFrame) (u : Segment) (cold : List ℕ) (k : ℕ) → meets_key f u k ≡ true
    → has_key (grown_row f u [] cold) (step_of u k) ≡ has_key cold k
gone_at f u cold k met =
    let gone = filter (meets_key f u) cold in
    has_key_is (grown_row f u [] cold) (step_of u k) ∙ any_rising nat_cmp_total (step_of u k) (map (step_of u) gone)
    ∙ sym (has_key_is (map (step_of u) gone) (step_of u k)) ∙ step_found u gone k ∙ passing_found (meets_key f u) cold k met

-- ---- the rows with a segment less

both_true : (b c : Bool) → b ≡ true → c ≡ true → (b && c) ≡ true
both_true b c e g = (λ i. e i && g i)

parts_true : (b c : Bool) → (b && c) ≡ true → (b ≡ true) × (c ≡ true)
parts_true true c e = (refl, e)
parts_true false c e = absurd (true≢false (sym e))

module _ (t : TileContent) (s : Segment) (profile : IsProfile t.profile) (order : IsStrictlySortedBy label_cmp (names t.segments))
    (live : Contains t.segments s) where
  abbrev f : TileFrame
  f = frame_of t

  abbrev shrunk : TileContent
  shrunk = record t { segments = without_name t.segments s.name }

  abbrev old : List Point
  old = hot_in t.profile t.id t.segments

  abbrev fewer : List Point
  fewer = hot_in t.profile t.id (without_name t.segments s.name)

  abbrev cold : List ℕ
  cold = cold_keys (spots_in t) (own_spots (frame_of t) t.segments s)

  abbrev stays : Point → Bool
  stays h = not (has_key cold (key_of f h))

  -- the keys of the hot pixels that are left
  key_left : (k : ℕ) → has_key (map (key_of f) fewer) k ≡ (has_key (map (key_of f) old) k && not (has_key cold k))
  key_left k =
      let own = own_spots (frame_of t) t.segments s in
      ap (λ ks. has_key ks k) (sym (keys_of_spots shrunk))
      ∙ ap (λ xs. has_key (keys xs) k) (shrunk_spots t s profile order live)
      ∙ parted_keys k (map (less own) (spots_in t))
      (subst (IsStrictlySortedBy nat_cmp) (sym (keys_left own (spots_in t))) (spots_are_spots t profile).in_order)
      ∙ ap (λ ks. has_key ks k && not (has_key cold k)) (keys_left own (spots_in t) ∙ keys_of_spots t)

  -- a pixel of the tile is hot where it is found
  found : (hs : List Point) → AllByRecursion (LiesHere f) hs → (h : Point) → LiesHere f h
      → Contains hs h ↔ (has_key (map (key_of f) hs) (key_of f h) ≡ true)
  found hs a h i = (
    λ c. key_found f profile hs h a i ∙ (any_iff point_total point_exact h hs).1 c,
    λ e. (any_iff point_total point_exact h hs).0 (sym (key_found f profile hs h a i) ∙ e),
  )

  stays_hot : (h : Point) → Contains fewer h ↔ (Contains old h × IsTrue (stays h))
  stays_hot h = (
    λ c. let i = ((contains_filter (in_tile t.profile t.id) (hot (without_name t.segments s.name)) h).0 c).1 in
        let e = parts_true (has_key (map (key_of f) old) (key_of f h)) (stays h)
        (sym (key_left (key_of f h)) ∙ (found fewer (all_here shrunk) h i).0 c) in
        ((found old (all_here t) h i).1 e.0, e.1),
    λ c. let i = ((contains_filter (in_tile t.profile t.id) (hot t.segments) h).0 c.0).1 in
        (found fewer (all_here shrunk) h i).1
        (key_left (key_of f h)
        ∙ both_true (has_key (map (key_of f) old) (key_of f h)) (stays h) ((found old (all_here t) h i).0 c.0) c.1),
  )

  -- each row loses the steps of the pixels that went cold
  pub path_shrinks : (u : Segment) → point_cmp u.p u.q ≡ Less
      → path_in (record t { segments = without_name t.segments s.name }) u
      ≡ thinned_row (grown_row (frame_of t) u [] (cold_keys (spots_in t) (own_spots (frame_of t) t.segments s))) (path_in t u)
  path_shrinks u ordered =
      path_is shrunk u
      ∙ ap (map (λ h. step_of u (key_of f h))) (route_without stays old fewer u stays_hot)
      ∙ ap (map (λ h. step_of u (key_of f h)))
      (same_kept stays (λ h. not (has_key gone (step_of u (key_of f h)))) (route_among old u)
      (agree (route_among old u) (route_on_row f profile u ordered old (all_here t))))
      ∙ sym (filter_images (λ h. step_of u (key_of f h)) (λ k. not (has_key gone k)) (route_among old u))
      ∙ ap (thinned_row gone) (sym (path_is t u))
    where
      gone : List ℕ
      gone = grown_row f u [] cold

      agree : (hs : List Point) → AllByRecursion (λ h. LiesHere f h × IsTrue (meets_pixel_of u h)) hs
          → AllByRecursion (λ h. stays h ≡ not (has_key gone (step_of u (key_of f h)))) hs
      agree [] a = tt
      agree (h ∷ hs) a =
          (ap not (sym (gone_at f u cold (key_of f h) (ap (meets_pixel_of u) (pixel_back f profile h a.0.0) ∙ a.0.1))), agree hs a.1)
