-- A change whose new contents are given: what is counted of its tiles and of its edits is what it
-- gains, so it may renew the version.
use Rattle.std.proofs.Common.{◌≡◌, refl, ap, sym, subst, ◌∙◌, ℕ, ◌+◌, ◌*◌, ◌^◌, ◌<◌, ◌≤◌, arith, get_or, take}
use mir.Syntax.{w64, w128}
use Rattle.std.proofs.Common.{FitsSigned, to_z, of_z, to_z-of_z}
use Rattle.std.proofs.Common.{List, [], ◌∷◌, ◌++◌, map, length, Contains}
use Rattle.std.specs.Prelude.{ℤ, pos, ◌+ℤ◌, ◌-ℤ◌, unsigned_abs, Option, sum_by, flat_map}
use Rattle.std.specs.declared.sync.Arc.{Arc}
use Rattle.std.specs.List.{AllByRecursion, IsDistinct}
use Rattle.std.proofs.lemmas.Int.{ints}
use Rattle.std.proofs.lemmas.List.{take_more}
use Rattle.std.proofs.lemmas.List.Sums.{sum_by-cons, sum_by-append}
use Rattle.std.proofs.lemmas.Map.Keys.{IsDistinct-from_sorted}
use Rattle.grid_core.specs.declared.tile.TileId.{TileId}
use Rattle.grid_core.specs.Name.{Label}
use Rattle.grid_core.specs.Profile.{Sizes, IsProfile}
use Rattle.grid_core.specs.Segment.{Segment}
use Rattle.grid_core.specs.LiveList.{IsLiveList, with_segment, without_name}
use Rattle.grid_core.specs.Tiles.{tiles, tile_cmp, tile_eq}
use Rattle.grid_core.proofs.LiveLists.{with_segment_is_live, without_name_is_live}
use Rattle.grid_core.proofs.ListMembers.{contains_first, contains_later}
use Rattle.grid_core.proofs.RisingMembers.{sorted_rising}
use Rattle.grid_core.proofs.Signed.{signed, fits_by_size}
use Rattle.grid_core.proofs.TileOrder.{tile_total}
use Rattle.tile_law.specs.Laws.{IsTileInReach, passes_in_tiles}
use Rattle.tile_law.specs.Parts.{passes_of}
use Rattle.tile_law.proofs.OneMoreCounts.{new_from_none}
use Rattle.hot_tile.specs.Tile.{TileContent}
use Rattle.version_core.specs.declared.entry.Entry.{Entry}
use Rattle.version_core.specs.declared.change.Edit.{Edit}
use Rattle.version_core.specs.declared.change.Edit.TheVariants.{Insert, Delete}
use Rattle.version_core.specs.Edits.{after_edits, tiles_of_edits, edited_segment, FitEdits}
use Rattle.version_core.specs.Laws.{AreSegments}
use Rattle.version_core.specs.Renewal.{Renewed, Renews}
use Rattle.version_core.specs.Replaced.{plain_tile, contents_after, passes_gained, spans_gained, spans_gained_by}
use Rattle.version_core.specs.Stands.{content_of, content_passes, spans_of}
use Rattle.version_core.specs.Version.{VersionState, IsVersion, version_of, most_segments}
use Rattle.version_core.proofs.Apart.{live_after}
use Rattle.version_core.proofs.Bounds.{passes_small, spans_small}
use Rattle.version_core.proofs.Contents.{contents_passes, passes_moved}
use Rattle.version_core.proofs.NextVersion.{edits_in_reach}
use Rattle.version_core.proofs.Rebasing.{edits_covered}
use Rattle.version_core.proofs.Spans.{sum_with, sum_without}

-- ---- lists of contents

-- a tile with its content
abbrev Content : Type 0
Content = TileId × Option TileContent

abbrev placed : (TileId → Option TileContent) → TileId → Content
placed f t = (t, f t)

-- the tiles of a list that has one content for each of them
tiles_again : (f : TileId → Option TileContent) (ts : List TileId) → map (λ (c : Content). c.0) (map (placed f) ts) ≡ ts
tiles_again f [] = refl
tiles_again f (t ∷ ts) = ap (λ us. t ∷ us) (tiles_again f ts)

each_content : (f : TileId → Option TileContent) (ts : List TileId)
    → AllByRecursion (λ (c : Content). c.1 ≡ f c.0) (map (placed f) ts)
each_content f [] = tt
each_content f (t ∷ ts) = (refl, each_content f ts)

-- ---- spans

-- what the edits gain is what the sum over the live list gains
spans_of_edits : (n : ℕ) (pr : Sizes) (editor : ℕ) (given : List Label) (ss : List Segment) (es : List Edit) → IsLiveList n ss
    → AreSegments n es → FitEdits editor given ss es
    → spans_gained pr es ≡ pos (spans_of pr (after_edits ss es)) -ℤ pos (spans_of pr ss)
spans_of_edits n pr editor given ss [] live fits fit = omega (arith, ints)
spans_of_edits n pr editor given ss (Insert s ∷ es) live fits fit =
    let own = sum_with (λ u. length (tiles pr u)) ss s live.rising (new_from_none ss s.name fit.2) in
    let rest = spans_of_edits n pr editor (s.name ∷ given) (with_segment ss s) es (with_segment_is_live n ss s live fits.0) fits.1 fit.3 in
    omega (arith, ints, own, rest)
spans_of_edits n pr editor given ss (Delete s ∷ es) live fits fit =
    let after = without_name_is_live n ss s.name live in
    let own = sum_without (λ u. length (tiles pr u)) ss s live.rising after.rising fit.0 in
    let rest = spans_of_edits n pr editor given (without_name ss s.name) es after fits.1 fit.1 in
    omega (arith, ints, own, rest)

-- ---- passes

-- what the tiles had before has together the passes of the parts there
old_passes : (pr : Sizes) → 0 < pr.side → (ss : List Segment) (cs : List Content)
    → sum_by (λ c. content_passes (content_of pr c.0 ss)) cs ≡ passes_in_tiles pr (map (λ c. c.0) cs) ss
old_passes pr some ss cs =
    again cs ∙ contents_passes pr some ss (map again_of cs) (each cs) ∙ ap (λ ts. passes_in_tiles pr ts ss) (same cs)
  where
    again_of : Content → Content
    again_of c = (c.0, content_of pr c.0 ss)

    again : (cs : List Content)
        → sum_by (λ c. content_passes (content_of pr c.0 ss)) cs ≡ sum_by (λ (c : Content). content_passes c.1) (map again_of cs)
    again [] = refl
    again (c ∷ cs) =
        let left = sum_by-cons (λ (c : Content). content_passes (content_of pr c.0 ss)) c cs in
        let right = sum_by-cons (λ (c : Content). content_passes c.1) (again_of c) (map again_of cs) in
        omega (arith, again cs, left, right)

    each : (cs : List Content) → AllByRecursion (λ (c : Content). c.1 ≡ content_of pr c.0 ss) (map again_of cs)
    each [] = tt
    each (c ∷ cs) = (refl, each cs)

    same : (cs : List Content) → map (λ (c : Content). c.0) (map again_of cs) ≡ map (λ c. c.0) cs
    same [] = refl
    same (c ∷ cs) = ap (λ ts. c.0 ∷ ts) (same cs)

passes_of_edits : (pr : Sizes) → 0 < pr.side → (editor : ℕ) (ss : List Segment) (es : List Edit) → IsLiveList pr.bound ss
    → AreSegments pr.bound es → FitEdits editor [] ss es
    → passes_gained pr ss (contents_after pr ss es) ≡ pos (passes_of (after_edits ss es)) -ℤ pos (passes_of ss)
passes_of_edits pr some editor ss es live fits fit =
    let f : TileId → Option TileContent = λ t. content_of pr t (after_edits ss es) in
    let ts = tiles_of_edits pr es in
    let once : IsDistinct tile_eq ts = IsDistinct-from_sorted tile_cmp ts (sorted_rising tile_total (flat_map (λ e. tiles pr (edited_segment e)) es)) in
    let moved = passes_moved pr.bound pr some editor [] ss es live fits fit ts once (edits_covered pr.bound pr some es fits) in
    let old : sum_by (λ c. content_passes (content_of pr c.0 ss)) (contents_after pr ss es) ≡ passes_in_tiles pr ts ss =
    old_passes pr some ss (contents_after pr ss es) ∙ ap (λ us. passes_in_tiles pr us ss) (tiles_again f ts) in
    let new : sum_by (λ c. content_passes c.1) (contents_after pr ss es) ≡ passes_in_tiles pr ts (after_edits ss es) =
    contents_passes pr some (after_edits ss es) (contents_after pr ss es) (each_content f ts)
    ∙ ap (λ us. passes_in_tiles pr us (after_edits ss es)) (tiles_again f ts) in
    omega (arith, ints, moved, old, new)

-- ---- the change may renew the version

pub contents_renew : (pr : Sizes) → 0 < pr.side → (ss : List Segment) (x : Renewed) → IsLiveList pr.bound ss
    → AreSegments pr.bound x.change.edits → FitEdits x.change.editor [] ss x.change.edits
    → x.contents ≡ contents_after pr ss x.change.edits → x.gain ≡ passes_gained pr ss x.contents
    → x.span_gain ≡ spans_gained pr x.change.edits → Renews pr ss x
contents_renew pr some ss x live fits fit given passes spans =
    let es = x.change.edits in
    let f : TileId → Option TileContent = λ t. content_of pr t (after_edits ss es) in
    let named : map (λ c. c.0) x.contents ≡ tiles_of_edits pr es =
    ap (λ cs. map (λ c. c.0) cs) given ∙ tiles_again f (tiles_of_edits pr es) in
    record {
      tiles = λ t. (subst (λ ts. Contains ts t) named, subst (λ ts. Contains ts t) (sym named));
      contents = subst (λ cs. AllByRecursion (λ c. c.1 ≡ f c.0) cs) (sym given) (each_content f (tiles_of_edits pr es));
      gain = passes ∙ ap (passes_gained pr ss) given ∙ passes_of_edits pr some x.change.editor ss es live fits fit;
      span_gain = spans ∙ spans_of_edits pr.bound pr x.change.editor [] ss es live fits fit;
    }

-- ---- loops that count

-- so much is gained by the first i edits
pub record SpansGained (pr : Sizes) (gain : ℤ) (i : ℕ) (es : List Edit) : Type 0 where
  pub value : gain ≡ spans_gained pr (take i es)
  pub small : unsigned_abs gain ≤ i * 2 ^ 64

gained_joined : (pr : Sizes) (es fs : List Edit) → spans_gained pr (es ++ fs) ≡ spans_gained pr es +ℤ spans_gained pr fs
gained_joined pr [] fs = omega (arith, ints)
gained_joined pr (e ∷ es) fs = let rest = gained_joined pr es fs in omega (arith, ints, rest)

-- one edit more
pub spans_more : (pr : Sizes) (es : List Edit) (e : Edit) {gain : ℤ} {i : ℕ} → i < length es → e ≡ get_or es i e
    → SpansGained pr gain i es → (g : ℤ) → g ≡ spans_gained_by pr e → unsigned_abs g ≤ 2 ^ 64 → (now : ℤ) → now ≡ gain +ℤ g
    → SpansGained pr now (i + 1) es
spans_more pr es e {gain} {i} fits here h g own small now sum =
    let all : spans_gained pr (take (i + 1) es) ≡ spans_gained pr (take i es) +ℤ (spans_gained_by pr e +ℤ pos 0) =
    ap (spans_gained pr) (take_more es i e fits ∙ ap (λ f. take i es ++ f ∷ []) (sym here)) ∙ gained_joined pr (take i es) (e ∷ []) in
    record {
      value = omega (arith, ints, all, h.value, own, sum);
      small = omega (arith, signed, h.small, small, sum);
    }

-- so many more passes have the first i contents
pub record PassesGained (pr : Sizes) (ss : List Segment) (gain : ℤ) (i : ℕ) (cs : List Content) : Type 0 where
  pub value : gain ≡ passes_gained pr ss (take i cs)
  pub small : unsigned_abs gain ≤ i * 2 ^ 64

-- one tile more
pub passes_more : (pr : Sizes) (ss : List Segment) (cs : List Content) (c : Content) {gain : ℤ} {i : ℕ} → i < length cs
    → c ≡ get_or cs i c → PassesGained pr ss gain i cs → (g : ℤ)
    → g ≡ pos (content_passes c.1) -ℤ pos (content_passes (content_of pr c.0 ss)) → unsigned_abs g ≤ 2 ^ 64
    → (now : ℤ) → now ≡ gain +ℤ g → PassesGained pr ss now (i + 1) cs
passes_more pr ss cs c {gain} {i} fits here h g own small now sum =
    let one : take (i + 1) cs ≡ take i cs ++ c ∷ [] = take_more cs i c fits ∙ ap (λ d. take i cs ++ d ∷ []) (sym here) in
    let f : Content → ℕ = λ d. content_passes d.1 in
    let k : Content → ℕ = λ d. content_passes (content_of pr d.0 ss) in
    let after = ap (sum_by f) one ∙ sum_by-append f (take i cs) (c ∷ []) in
    let before = ap (sum_by k) one ∙ sum_by-append k (take i cs) (c ∷ []) in
    let after_one = sum_by-cons f c [] in
    let before_one = sum_by-cons k c [] in
    record {
      value = omega (arith, ints, after, before, after_one, before_one, h.value, own, sum);
      small = omega (arith, signed, h.small, small, sum);
    }

-- ---- what a version may be replaced by

-- the tiles whose contents are given are in reach
pub given_in_reach : (pr : Sizes) → IsProfile pr → (ss : List Segment) (es : List Edit) (cs : List Content) → AreSegments pr.bound es
    → cs ≡ contents_after pr ss es → AllByRecursion (λ (c : Content). IsTileInReach c.0) cs
given_in_reach pr sizes ss es cs fits given =
    subst (λ ds. AllByRecursion (λ (c : Content). IsTileInReach c.0) ds) (sym given)
    (each (tiles_of_edits pr es) (λ t h. edits_in_reach pr sizes es fits t h))
  where
    f : TileId → Option TileContent
    f t = content_of pr t (after_edits ss es)

    each : (ts : List TileId) → ((t : TileId) → Contains ts t → IsTileInReach t)
        → AllByRecursion (λ (c : Content). IsTileInReach c.0) (map (placed f) ts)
    each [] h = tt
    each (t ∷ ts) h = (h t (contains_first t ts), each ts (λ u k. h u (contains_later t ts u k)))

-- what it gains fits its number
module _ (pr : Sizes) (sizes : IsProfile pr) (editor : ℕ) (ss : List Segment) (es : List Edit) (live : IsLiveList pr.bound ss)
    (fits : AreSegments pr.bound es) (fit : FitEdits editor [] ss es) (few : length ss ≤ most_segments)
    (few2 : length (after_edits ss es) ≤ most_segments) where
  after_is_live : IsLiveList pr.bound (after_edits ss es)
  after_is_live = live_after pr.bound editor [] ss es live fits

  fewer : (us : List Segment) → length us ≤ most_segments → length us ≤ 2 ^ 16
  fewer us h = omega (arith, h)

  apart : (a b : ℕ) (g : ℤ) → a ≤ 2 ^ 50 → b ≤ 2 ^ 50 → g ≡ pos a -ℤ pos b → unsigned_abs g ≤ 2 ^ 62
  apart a b g h k e = omega (arith, signed, h, k, e)

  pub passes_gain_small : (cs : List Content) → cs ≡ contents_after pr ss es → unsigned_abs (passes_gained pr ss cs) ≤ 2 ^ 62
  passes_gain_small cs given =
      apart (passes_of (after_edits ss es)) (passes_of ss) (passes_gained pr ss cs)
      (passes_small (after_edits ss es) (fewer (after_edits ss es) few2)) (passes_small ss (fewer ss few))
      (ap (passes_gained pr ss) given ∙ passes_of_edits pr sizes.some_side editor ss es live fits fit)

  pub spans_gain_small : unsigned_abs (spans_gained pr es) ≤ 2 ^ 62
  spans_gain_small =
      let h = spans_small pr sizes (after_edits ss es) after_is_live.within (fewer (after_edits ss es) few2) in
      let k = spans_small pr sizes ss live.within (fewer ss few) in
      apart (spans_of pr (after_edits ss es)) (spans_of pr ss) (spans_gained pr es) (omega (arith, h)) (omega (arith, k))
      (spans_of_edits pr.bound pr editor [] ss es live fits fit)

-- what holds of the tiles with their contents holds of the tiles that are given
pub given_tiles : {Z : Type 0} (P : TileId → Type 0) (tiles : List (TileId × Option (Arc TileContent Z)))
    → AllByRecursion (λ (c : Content). P c.0) (map plain_tile tiles) → AllByRecursion (λ (e : TileId × Option (Arc TileContent Z)). P e.0) tiles
given_tiles P [] h = tt
given_tiles P (t ∷ tiles) h = (h.0, given_tiles P tiles h.1)

-- what is kept of a version's state
pub record IsState (v : VersionState) : Type 0 where
  pub sizes : IsProfile v.profile
  pub live : IsLiveList v.profile.bound v.live
  pub few : length v.live ≤ most_segments

pub is_state : {number : ℕ} {pr : Sizes} {brand : ℕ} {es : List (ℕ × Entry)} {count spans passes : ℕ} {v : VersionState}
    → IsVersion pr es count spans passes → version_of number pr brand es ≡ v → IsState v
is_state is view = subst IsState view (record { sizes = is.sizes; live = is.live; few = is.few })

-- a number that was counted wide fits its own width, and is the same there
narrow_fits : (g : ℤ) → unsigned_abs g ≤ 2 ^ 62 → FitsSigned w64 g
narrow_fits g h = fits_by_size w64 g (omega (arith, h))

wide_back : (g : ℤ) → unsigned_abs g ≤ 2 ^ 62 → to_z w128 (of_z w128 g) ≡ g
wide_back g h = to_z-of_z (fits_by_size w128 g (omega (arith, h)))

pub cast_fits : (g : ℤ) → unsigned_abs g ≤ 2 ^ 62 → FitsSigned w64 (to_z w128 (of_z w128 g))
cast_fits g h = subst (FitsSigned w64) (sym (wide_back g h)) (narrow_fits g h)

pub cast_back : (g : ℤ) → unsigned_abs g ≤ 2 ^ 62 → to_z w64 (of_z w64 (to_z w128 (of_z w128 g))) ≡ g
cast_back g h = to_z-of_z (cast_fits g h) ∙ wide_back g h
