-- The orders of tiles, by column and row and along a segment: both are total, and tiles of equal
-- order are one tile. They are those of the order of numbers, taken on columns and rows and joined.

use Rattle.std.proofs.Common.{◌≡◌, refl, ap, sym, ◌∙◌, Bool, true, false, Ordering, Less, Equal, Greater, is_eq}
use Rattle.std.specs.Prelude.{if◌then◌else◌}
use Rattle.std.specs.Bool.{Decides}
use Rattle.std.specs.Cmp.{IsTotalOrder}
use Rattle.std.specs.Ordering.{int_cmp, ordering_then}
use Rattle.std.proofs.lemmas.Cmp.{int_cmp_total, tied_itself, then_total, on_total, back_total}
use Rattle.std.proofs.lemmas.Map.Lookups.{CmpEqualImpliesEq, exact_signed}
use Rattle.grid_core.specs.declared.tile.TileId.{TileId}
use Rattle.grid_core.specs.Segment.{Segment}
use Rattle.grid_core.specs.Orders.{tiles_in_order}
use Rattle.grid_core.specs.Tiles.{tile_cmp, tile_eq, falls, along_tile_cmp}
use Rattle.grid_core.proofs.Comparisons.{is_equal}

both_equal : (o l : Ordering) {P Q : Type 0} → (o ≡ Equal → P) → (l ≡ Equal → Q) → ordering_then o l ≡ Equal → P × Q
both_equal Equal l f g h = (f refl, g h)
both_equal Less l f g h = absurd (cc h)
both_equal Greater l f g h = absurd (cc h)

-- ---- by column and row

pub tile_total : IsTotalOrder tile_cmp
tile_total = tiles_in_order

pub tile_exact : CmpEqualImpliesEq tile_cmp
tile_exact a b h =
    let parts = both_equal (int_cmp a.i b.i) (int_cmp a.j b.j) (exact_signed a.i b.i) (exact_signed a.j b.j) h in
    λ i. record { i = parts.0 i; j = parts.1 i }

-- the test of tiles decides that they are one
pub tile_decides : (a b : TileId) → Decides (tile_eq a b) (a ≡ b)
tile_decides a b = (
  λ t. tile_exact a b (is_equal (tile_cmp a b) t),
  λ e. ap is_eq (ap (tile_cmp a) (sym e) ∙ tied_itself tile_total a),
)

-- ---- along a segment

pub along_tile_total : (s : Segment) → IsTotalOrder (along_tile_cmp s)
along_tile_total s = by (falls s)
  where
    by : (b : Bool) → IsTotalOrder (λ (a c : TileId). ordering_then (int_cmp a.i c.i) (if b then int_cmp c.j a.j else int_cmp a.j c.j))
    by true =
        then_total (on_total (λ (t : TileId). t.i) int_cmp_total)
        (back_total (on_total (λ (t : TileId). t.j) int_cmp_total))
    by false = tile_total

pub along_tile_exact : (s : Segment) → CmpEqualImpliesEq (along_tile_cmp s)
along_tile_exact s a b h = by (falls s) h
  where
    by : (f : Bool) → ordering_then (int_cmp a.i b.i) (if f then int_cmp b.j a.j else int_cmp a.j b.j) ≡ Equal → a ≡ b
    by true h =
        let parts =
        both_equal (int_cmp a.i b.i) (int_cmp b.j a.j) (exact_signed a.i b.i) (exact_signed b.j a.j) h in
        λ i. record { i = parts.0 i; j = sym parts.1 i }
    by false h = tile_exact a b h
