-- A change of one edit stands on the live list that it was prepared on: see Preparing for its tiles
-- and contents. Its gains are those of the rounding, since nothing changes outside of its tiles.
use Rattle.std.proofs.Common.{◌≡◌, refl, sym, ap, subst, ◌∙◌, ℕ, ◌+◌, ◌<◌, arith, List, [], ◌∷◌, map, filter, not, is_lt, length-append, Contains, IsTrue, Option, ◌↔◌, ◌≤◌, ◌^◌, Less, IsSorted}
use Rattle.std.specs.Prelude.{ℤ, pos, ◌-ℤ◌, length, flat_map, unsigned_abs}
use Rattle.std.specs.List.{AllByRecursion}
use Rattle.std.specs.List.Sorted.{IsPermutation}
use Rattle.std.proofs.lemmas.Int.{ints}
use Rattle.grid_core.specs.declared.tile.TileId.{TileId}
use Rattle.grid_core.specs.Name.{Label, label_cmp, label_eq}
use Rattle.grid_core.specs.Vector.{point_cmp}
use Rattle.grid_core.specs.RisingSet.{rising}
use Rattle.grid_core.specs.Profile.{Sizes, IsProfile}
use Rattle.grid_core.specs.Segment.{Segment, IsSegment}
use Rattle.grid_core.specs.LiveList.{IsLiveList, names, with_segment, without_name}
use Rattle.grid_core.specs.Tiles.{along, tiles, tile_cmp, meets_tile}
use Rattle.grid_core.proofs.Filters.{filter_length}
use Rattle.grid_core.proofs.Signed.{signed}
use Rattle.grid_core.proofs.RisingMembers.{sorted_rising, contains_rising, same_members}
use Rattle.grid_core.proofs.TileOrder.{tile_total, tile_exact}
use Rattle.tile_law.proofs.MetTiles.{tiles_are_met}
use Rattle.version_core.proofs.Bounds.{passes_small}
use Rattle.version_core.proofs.Changed.{sorted_is_rising}
use Rattle.grid_core.proofs.LiveLists.{without_name_is_live}
use Rattle.tile_law.specs.Parts.{passes_of}
use Rattle.tile_law.specs.Laws.{passes_in_tiles}
use Rattle.tile_law.proofs.OneMoreCounts.{new_from_none}
use Rattle.hot_tile.specs.Tile.{TileContent}
use Rattle.version_core.specs.declared.change.Edit.{Edit}
use Rattle.version_core.specs.declared.change.Edit.TheVariants.{Insert, Delete}
use Rattle.version_core.specs.Edits.{Changes, after_edit, edited_segment, tiles_of_edits, FitEdits}
use Rattle.version_core.specs.Stands.{PreparedChange, Stands, content_of, spans_of}
use Rattle.version_core.specs.Renewal.{Renewed, Renews}
use Rattle.version_core.proofs.Contents.{contents_passes, passes_moved}
use Rattle.version_core.proofs.Spans.{sum_with, sum_without}
use Rattle.seg_edit.specs.Contents.{grown, thinned, passes_together}
use Rattle.seg_edit.specs.Prepared.{renewal_of, IsPrepared, AreOfEditor}
use Rattle.version_core.specs.Laws.{AreSegments}
use Rattle.seg_edit.proofs.Preparing.{met_by_edit, along_once, met_here, once_here, covered_here, grown_tiles, thinned_tiles, grown_contents, thinned_contents}

module _ (pr : Sizes) (profile : IsProfile pr) (ss : List Segment) (live : IsLiveList pr.bound ss) (s : Segment)
    (fits : IsSegment pr.bound s) (cs : List (TileId × Option TileContent))
    (found : AllByRecursion (λ c. c.1 ≡ content_of pr c.0 ss) cs)
    (turned : IsPermutation (along pr s) (map (λ c. c.0) cs)) where
  -- the passes that an edit of s gains are those of the new contents less those of the old ones
  gained : (editor : ℕ) (e : Edit) (is : edited_segment e ≡ s) → FitEdits editor [] ss (e ∷ [])
      → (new : List (TileId × Option TileContent)) → map (λ c. c.0) new ≡ map (λ c. c.0) cs
      → AllByRecursion (λ c. c.1 ≡ content_of pr c.0 (after_edit ss e)) new
      → pos (passes_together new) -ℤ pos (passes_together cs) ≡ pos (passes_of (after_edit ss e)) -ℤ pos (passes_of ss)
  gained editor e is fit new same made =
      let some = profile.some_side in
      let ts = map (λ c. c.0) cs in
      let own : IsSegment pr.bound (edited_segment e) = subst (IsSegment pr.bound) (sym is) fits in
      let moved = passes_moved pr.bound pr some editor [] ss (e ∷ []) live (own, tt) fit ts
      (once_here pr some s fits.ordered ts turned) (covered_here pr some s fits.ordered ts turned e is) in
      let before = contents_passes pr some ss cs found in
      let after : passes_together new ≡ passes_in_tiles pr ts (after_edit ss e) =
      contents_passes pr some (after_edit ss e) new made ∙ ap (λ us. passes_in_tiles pr us (after_edit ss e)) same in
      by (passes_together new) (passes_together cs) (passes_of (after_edit ss e)) (passes_of ss)
      (passes_in_tiles pr ts (after_edit ss e)) (passes_in_tiles pr ts ss) moved before after
    where
      by : (n c u p x y : ℕ) → x + p ≡ y + u → c ≡ y → n ≡ x → pos n -ℤ pos c ≡ pos u -ℤ pos p
      by n c u p x y a b d = omega (arith, ints, a, b, d)

  -- the tiles of an edit of s are those of the contents
  same_tiles : (e : Edit) (is : edited_segment e ≡ s) (new : List (TileId × Option TileContent))
      → map (λ c. c.0) new ≡ map (λ c. c.0) cs → (t : TileId)
      → Contains (map (λ c. c.0) new) t ↔ Contains (tiles_of_edits pr (e ∷ [])) t
  same_tiles e is new same t =
      let here = met_here pr profile.some_side s fits.ordered (map (λ c. c.0) cs) turned t in
      let edit = met_by_edit pr profile.some_side s fits.ordered e is t in (
        λ c. edit.1 (here.0 (subst (λ ts. Contains ts t) same c)),
        λ c. subst (λ ts. Contains ts t) (sym same) (here.1 (edit.0 c)),
      )

  pub stands_grown : (base : ℕ) (gain : ℤ) (spans : ℤ) → ¬ Contains (names ss) s.name
      → gain ≡ pos (passes_together (map (grown pr s) cs)) -ℤ pos (passes_together cs)
      → spans ≡ pos (length (tiles pr s))
      → Stands (record {
        base = base;
        profile = pr;
        change = record { editor = s.name.editor; edits = Insert s ∷ [] };
        contents = map (grown pr s) cs;
        gain = gain;
        span_gain = spans;
      }) ss
  stands_grown base gain spans new gains spanned =
      let fit : FitEdits s.name.editor [] ss (Insert s ∷ []) = (refl, λ c. no_member c, new, tt) in
      let made = grown_contents pr s ss cs (λ t c. (met_here pr profile.some_side s fits.ordered (map (λ c. c.0) cs) turned t).0 c) found in
      record {
        fits = fit;
        tiles = same_tiles (Insert s) refl (map (grown pr s) cs) (grown_tiles pr s cs);
        contents = made;
        gain = gains ∙ gained s.name.editor (Insert s) refl fit (map (grown pr s) cs) (grown_tiles pr s cs) made;
        span_gain =
            spanned
            ∙ more (spans_of pr ss) (length (tiles pr s)) (spans_of pr (with_segment ss s))
            (sum_with (λ u. length (tiles pr u)) ss s live.rising (new_from_none ss s.name new));
      }
    where
      no_member : Contains [] s.name → ⊥
      no_member c = omega (arith, c.1)

      more : (a n b : ℕ) → b ≡ a + n → pos n ≡ pos b -ℤ pos a
      more a n b h = omega (arith, ints, h)

  pub stands_thinned : (base editor : ℕ) (gain : ℤ) (spans : ℤ) → Contains ss s
      → gain ≡ pos (passes_together (map (thinned pr s.name) cs)) -ℤ pos (passes_together cs)
      → spans ≡ pos 0 -ℤ pos (length (tiles pr s))
      → Stands (record {
        base = base;
        profile = pr;
        change = record { editor = editor; edits = Delete s ∷ [] };
        contents = map (thinned pr s.name) cs;
        gain = gain;
        span_gain = spans;
      }) ss
  stands_thinned base editor gain spans here gains spanned =
      let fit : FitEdits editor [] ss (Delete s ∷ []) = (here, tt) in
      let made = thinned_contents pr s.name ss cs found in
      let after = without_name_is_live pr.bound ss s.name live in
      record {
        fits = fit;
        tiles = same_tiles (Delete s) refl (map (thinned pr s.name) cs) (thinned_tiles pr s.name cs);
        contents = made;
        gain = gains ∙ gained editor (Delete s) refl fit (map (thinned pr s.name) cs) (thinned_tiles pr s.name cs) made;
        span_gain =
            spanned
            ∙ less (spans_of pr ss) (length (tiles pr s)) (spans_of pr (without_name ss s.name))
            (sum_without (λ u. length (tiles pr u)) ss s live.rising after.rising here);
      }
    where
      less : (a n b : ℕ) → a ≡ b + n → pos 0 -ℤ pos n ≡ pos b -ℤ pos a
      less a n b h = omega (arith, ints, h)

-- ---- sizes

difference_small : (a b : ℕ) → a ≤ 2 ^ 50 → b ≤ 2 ^ 50 → unsigned_abs (pos a -ℤ pos b) ≤ 2 ^ 51
difference_small a b h k = omega (arith, signed, h, k)

with_few : (ss : List Segment) (s : Segment) → length ss ≤ 4096 → length (with_segment ss s) ≤ 2 ^ 16
with_few ss s few =
    let low = filter (λ u. is_lt (label_cmp u.name s.name)) ss in
    let high = filter (λ u. is_lt (label_cmp s.name u.name)) ss in
    omega (
      arith,
      length-append low (s ∷ high),
      filter_length (λ u. is_lt (label_cmp u.name s.name)) ss,
      filter_length (λ u. is_lt (label_cmp s.name u.name)) ss,
      few,
    )

-- what an insertion gains, and what a deletion does, is small
pub gain_of_one_more : (ss : List Segment) (s : Segment) → length ss ≤ 4096
    → unsigned_abs (pos (passes_of (with_segment ss s)) -ℤ pos (passes_of ss)) ≤ 2 ^ 51
gain_of_one_more ss s few =
    difference_small (passes_of (with_segment ss s)) (passes_of ss) (passes_small (with_segment ss s) (with_few ss s few))
    (passes_small ss (omega (arith, few)))

pub gain_of_one_less : (ss : List Segment) (name : Label) → length ss ≤ 4096
    → unsigned_abs (pos (passes_of (without_name ss name)) -ℤ pos (passes_of ss)) ≤ 2 ^ 51
gain_of_one_less ss name few =
    difference_small (passes_of (without_name ss name)) (passes_of ss)
    (passes_small (without_name ss name) (omega (arith, filter_length (λ u. not (label_eq u.name name)) ss, few)))
    (passes_small ss (omega (arith, few)))

-- ---- tiles in order

-- the tiles along the segment of an edit, sorted, are the edit's
pub sorted_tiles : (pr : Sizes) → 0 < pr.side → (s : Segment) → point_cmp s.p s.q ≡ Less → (e : Edit) → edited_segment e ≡ s
    → (ts us : List TileId) → ts ≡ along pr s → IsPermutation ts us → IsSorted tile_cmp us → us ≡ tiles_of_edits pr (e ∷ [])
sorted_tiles pr some s ordered e is ts us own moved sorted =
    let turned : IsPermutation (along pr s) us = subst (λ vs. IsPermutation vs us) own moved in
    sorted_is_rising tile_total tile_exact (record { i = pos 0; j = pos 0 }) (along pr s) us (along_once pr some s ordered) turned sorted
    ∙ same_members tile_total tile_exact (rising tile_cmp (along pr s)) (tiles_of_edits pr (e ∷ []))
    (sorted_rising tile_total (along pr s)) (sorted_rising tile_total (flat_map (λ d. tiles pr (edited_segment d)) (e ∷ [])))
    (λ t. (
      λ c. (met_by_edit pr some s ordered e is t).1 ((met t).0 ((contains_rising tile_total tile_exact (along pr s) t).0 c)),
      λ c. (contains_rising tile_total tile_exact (along pr s) t).1 ((met t).1 ((met_by_edit pr some s ordered e is t).0 c)),
    ))
  where
    met : (t : TileId) → Contains (along pr s) t ↔ IsTrue (meets_tile pr t s)
    met t = (tiles_are_met pr some s ordered).met_along t

-- the tiles of an edit are as many as those of its segment
edit_tiles : (pr : Sizes) → 0 < pr.side → (s : Segment) → point_cmp s.p s.q ≡ Less → (e : Edit) → edited_segment e ≡ s
    → tiles_of_edits pr (e ∷ []) ≡ tiles pr s
edit_tiles pr some s ordered e is =
    let here = tiles_are_met pr some s ordered in
    same_members tile_total tile_exact (tiles_of_edits pr (e ∷ [])) (tiles pr s)
    (sorted_rising tile_total (flat_map (λ d. tiles pr (edited_segment d)) (e ∷ []))) here.in_order
    (λ t. (
      λ c. (here.met t).1 ((met_by_edit pr some s ordered e is t).0 c),
      λ c. (met_by_edit pr some s ordered e is t).1 ((here.met t).0 c),
    ))

-- what stands renews the live list: the renewal of a prepared change is all of it but the base
pub stands_renews : (x : PreparedChange) (pr : Sizes) (ss : List Segment) (r : Renewed) → pr ≡ x.profile
    → r ≡ renewal_of x → Stands x ss → Renews pr ss r
stands_renews x pr ss r sizes same s =
    subst (λ q. Renews q ss r) (sym sizes)
    (subst (Renews x.profile ss) (sym same)
    (record { tiles = s.tiles; contents = s.contents; gain = s.gain; span_gain = s.span_gain }))

-- ---- what was made

module _ (pr : Sizes) (profile : IsProfile pr) (ss : List Segment) (live : IsLiveList pr.bound ss) (few : length ss ≤ 4096) (s : Segment)
    (fits : IsSegment pr.bound s) (cs : List (TileId × Option TileContent))
    (found : AllByRecursion (λ c. c.1 ≡ content_of pr c.0 ss) cs)
    (turned : IsPermutation (along pr s) (map (λ c. c.0) cs)) (q : Sizes) (same : q ≡ pr)
    (new : List (TileId × Option TileContent)) (g : ℤ) (gains : g ≡ pos (passes_together new) -ℤ pos (passes_together cs)) where
  -- the gain of tiles that were made with the segment
  pub grown_gain : ¬ Contains (names ss) s.name → new ≡ map (grown q s) cs → unsigned_abs g ≤ 2 ^ 51
  grown_gain fresh made =
      let is = made ∙ ap (λ k. map (grown k s) cs) same in
      let stands =
      stands_grown pr profile ss live s fits cs found turned 0 _ _ fresh refl refl in
      subst (λ z. unsigned_abs z ≤ 2 ^ 51)
      (sym (gains ∙ ap (λ xs. pos (passes_together xs) -ℤ pos (passes_together cs)) is ∙ stands.gain))
      (gain_of_one_more ss s few)

  -- and of tiles that were made without it
  pub thinned_gain : Contains ss s → new ≡ map (thinned q s.name) cs → unsigned_abs g ≤ 2 ^ 51
  thinned_gain here made =
      let is = made ∙ ap (λ k. map (thinned k s.name) cs) same in
      let stands =
      stands_thinned pr profile ss live s fits cs found turned 0 0 _ _ here refl refl in
      subst (λ z. unsigned_abs z ≤ 2 ^ 51)
      (sym (gains ∙ ap (λ xs. pos (passes_together xs) -ℤ pos (passes_together cs)) is ∙ stands.gain))
      (gain_of_one_less ss s.name few)

  -- the prepared insertion stands
  pub grown_stands : ¬ Contains (names ss) s.name → new ≡ map (grown q s) cs → (base : ℕ) (us : List TileId)
      → us ≡ tiles_of_edits pr (Insert s ∷ []) → (x : Changes) → x ≡ record { editor = s.name.editor; edits = Insert s ∷ [] }
      → (gain spans : ℤ) → gain ≡ g → spans ≡ pos (length us) → (r : Renewed)
      → r ≡ record { change = x; contents = new; gain = gain; span_gain = spans }
      → Stands (record { base = base; profile = q; change = r.change; contents = r.contents; gain = r.gain; span_gain = r.span_gain }) ss
  grown_stands fresh made base us own x changed gain spans gained spanned r whole =
      let is = made ∙ ap (λ k. map (grown k s) cs) same in
      let stands =
      stands_grown pr profile ss live s fits cs found turned base gain spans fresh
      (gained ∙ gains ∙ ap (λ xs. pos (passes_together xs) -ℤ pos (passes_together cs)) is)
      (spanned ∙ ap (λ ts. pos (length ts)) (own ∙ edit_tiles pr profile.some_side s fits.ordered (Insert s) refl)) in
      let all : r ≡ record {
        change = record { editor = s.name.editor; edits = Insert s ∷ [] };
        contents = map (grown pr s) cs;
        gain = gain;
        span_gain = spans;
      } = whole ∙ (λ i. record { change = changed i; contents = is i; gain = gain; span_gain = spans }) in
      subst (λ (p : Sizes × Renewed). Stands (record {
        base = base;
        profile = p.0;
        change = p.1.change;
        contents = p.1.contents;
        gain = p.1.gain;
        span_gain = p.1.span_gain;
      }) ss) (λ i. (sym same i, sym all i)) stands

  -- and the prepared deletion
  pub thinned_stands : Contains ss s → new ≡ map (thinned q s.name) cs → (base editor : ℕ) (us : List TileId)
      → us ≡ tiles_of_edits pr (Delete s ∷ []) → (x : Changes) → x ≡ record { editor = editor; edits = Delete s ∷ [] }
      → (gain spans : ℤ) → gain ≡ g → spans ≡ pos 0 -ℤ pos (length us) → (r : Renewed)
      → r ≡ record { change = x; contents = new; gain = gain; span_gain = spans }
      → Stands (record { base = base; profile = q; change = r.change; contents = r.contents; gain = r.gain; span_gain = r.span_gain }) ss
  thinned_stands here made base editor us own x changed gain spans gained spanned r whole =
      let is = made ∙ ap (λ k. map (thinned k s.name) cs) same in
      let stands =
      stands_thinned pr profile ss live s fits cs found turned base editor gain spans here
      (gained ∙ gains ∙ ap (λ xs. pos (passes_together xs) -ℤ pos (passes_together cs)) is)
      (spanned ∙ ap (λ ts. pos 0 -ℤ pos (length ts)) (own ∙ edit_tiles pr profile.some_side s fits.ordered (Delete s) refl)) in
      let all : r ≡ record {
        change = record { editor = editor; edits = Delete s ∷ [] };
        contents = map (thinned pr s.name) cs;
        gain = gain;
        span_gain = spans;
      } = whole ∙ (λ i. record { change = changed i; contents = is i; gain = gain; span_gain = spans }) in
      subst (λ (p : Sizes × Renewed). Stands (record {
        base = base;
        profile = p.0;
        change = p.1.change;
        contents = p.1.contents;
        gain = p.1.gain;
        span_gain = p.1.span_gain;
      }) ss) (λ i. (sym same i, sym all i)) stands

-- ---- what a prepared change keeps

pub insertion_is_prepared : (pr : Sizes) → IsProfile pr → (s : Segment) → IsSegment pr.bound s → (q : Sizes) → q ≡ pr
    → (us : List TileId) → us ≡ tiles_of_edits pr (Insert s ∷ []) → (r : Renewed)
    → r.change ≡ record { editor = s.name.editor; edits = Insert s ∷ [] } → IsPrepared q us r
insertion_is_prepared pr profile s fits q same us own r changed =
    subst (λ k. IsPrepared k us r) (sym same) (record {
      sizes = profile;
      whole = own ∙ ap (λ x. tiles_of_edits pr x.edits) (sym changed);
      within = subst (λ x. AreSegments pr.bound x.edits) (sym changed) (fits, tt);
      own = subst (λ x. AreOfEditor x.editor x.edits) (sym changed) (refl, tt);
    })

pub deletion_is_prepared : (pr : Sizes) → IsProfile pr → (s : Segment) → IsSegment pr.bound s → (q : Sizes) → q ≡ pr
    → (us : List TileId) → us ≡ tiles_of_edits pr (Delete s ∷ []) → (r : Renewed) (editor : ℕ)
    → r.change ≡ record { editor = editor; edits = Delete s ∷ [] } → IsPrepared q us r
deletion_is_prepared pr profile s fits q same us own r editor changed =
    subst (λ k. IsPrepared k us r) (sym same) (record {
      sizes = profile;
      whole = own ∙ ap (λ x. tiles_of_edits pr x.edits) (sym changed);
      within = subst (λ x. AreSegments pr.bound x.edits) (sym changed) (fits, tt);
      own = subst (λ x. AreOfEditor x.editor x.edits) (sym changed) tt;
    })
