-- What a tile keeps, read row by row; and the tile without segments.
use Rattle.std.proofs.Common.{◌≡◌, refl, ap, sym, ◌∙◌, ℕ, ◌+◌, ◌<◌, arith, List, [], ◌∷◌, map, length, get_or}
use Rattle.std.specs.Prelude.{sum_by, filter}
use Rattle.std.specs.List.Sorted.{IsStrictlySortedBy}
use Rattle.std.proofs.lemmas.List.{get_or-map, length-map}
use Rattle.std.proofs.lemmas.List.Elements.{All-nil}
use Rattle.std.proofs.lemmas.List.Sums.{sum_by-cons}
use Rattle.grid_core.specs.Profile.{Sizes, IsProfile}
use Rattle.grid_core.specs.declared.tile.TileId.{TileId}
use Rattle.grid_core.specs.Segment.{Segment, IsSegment}
use Rattle.grid_core.specs.Rounding.{RoutedSegment, crossing_pixels, route}
use Rattle.grid_core.specs.Tiles.{near, in_tile, passes_in}
use Rattle.hot_tile.specs.Frame.{TileFrame, key_of, step_of}
use Rattle.hot_tile.specs.Tile.{TileContent, IsTile, part_in, frame_of, row_of, rows_in, path_in}

mapped : (g : RoutedSegment → List ℕ) (r : Segment → RoutedSegment) (ss : List Segment) → map g (map r ss) ≡ map (λ u. g (r u)) ss
mapped g r [] = refl
mapped g r (s ∷ ss) = ap (λ xs. g (r s) ∷ xs) (mapped g r ss)

abbrev routed : TileContent → Segment → RoutedSegment
routed t u = record { ur = u; points = filter (in_tile t.profile t.id) (route t.segments u) }

-- the rows are those of the segments
pub rows_are : (t : TileContent) → near t.profile t.id t.segments ≡ t.segments → rows_in t ≡ map (path_in t) t.segments
rows_are t meet =
    mapped (row_of (frame_of t)) (routed t) (near t.profile t.id t.segments) ∙ ap (map (path_in t)) meet

-- the row at an index is that of the segment there
pub row_at : (t : TileContent) (rows : List (List ℕ)) → near t.profile t.id t.segments ≡ t.segments → rows ≡ rows_in t
    → (i : ℕ) (d : Segment) → i < length t.segments → get_or rows i [] ≡ path_in t (get_or t.segments i d)
row_at t rows meet e i d lt =
    ap (λ (xs : List (List ℕ)). get_or xs i []) (e ∙ rows_are t meet) ∙ get_or-map (path_in t) t.segments i d [] lt

-- where no pixel is hot all rows are empty
pub row_none : (t : TileContent) → near t.profile t.id t.segments ≡ t.segments → map (λ (s : Segment). []) t.segments ≡ rows_in t
    → (i : ℕ) (d : Segment) → i < length t.segments → [] ≡ path_in t (get_or t.segments i d)
row_none t meet e i d lt =
    sym (get_or-map (λ (s : Segment). []) t.segments i d [] lt) ∙ row_at t (map (λ (s : Segment). []) t.segments) meet e i d lt

totals : (f : TileFrame) (rs : List RoutedSegment) → sum_by length (map (row_of f) rs) ≡ sum_by (λ (r : RoutedSegment). length r.points) rs
totals f [] = refl
totals f (r ∷ rs) =
    sum_by-cons length (row_of f r) (map (row_of f) rs)
    ∙ (λ i. length-map r.points (λ h. step_of r.ur (key_of f h)) i + totals f rs i)
    ∙ sym (sum_by-cons (λ (r : RoutedSegment). length r.points) r rs)

-- the steps are as many as the passes
pub total_is : (t : TileContent) (rows : List (List ℕ)) → rows ≡ rows_in t → sum_by length rows ≡ passes_in (part_in t)
total_is t rows e = ap (sum_by length) e ∙ totals (frame_of t) (part_in t).routes

abbrev nones : List Segment → List (List ℕ)
nones ss = map (λ s. []) ss

none_summed : (ss : List Segment) → sum_by length (nones ss) ≡ 0
none_summed [] = refl
none_summed (s ∷ ss) = sum_by-cons length [] (nones ss) ∙ ap (λ n. 0 + n) (none_summed ss)

-- where no pixel is hot there are no passes
pub none_passes : (t : TileContent) → map (λ (s : Segment). []) t.segments ≡ rows_in t → 0 ≡ passes_in (part_in t)
none_passes t e = sym (none_summed t.segments) ∙ total_is t (nones t.segments) e

-- the tile without segments has no hot pixel
pub empty_is_tile : (pr : Sizes) (id : TileId) → IsProfile pr → IsTile (record { profile = pr; id = id; segments = [] }) [] []
unfolding crossing_pixels IsStrictlySortedBy
empty_is_tile pr id sizes =
    record {
      content =
          record {
            sizes = sizes;
            live = record { rising = tt; within = All-nil (IsSegment pr.bound) };
            few = omega arith;
            meet = refl;
          };
      spots = refl;
      rows = refl;
    }
