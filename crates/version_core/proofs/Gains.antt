-- What a change gains is the same on two live lists that agree near its tiles: passes are gained in
-- the parts of these tiles alone, and spans by the segments that are put in and taken out.
use Rattle.std.proofs.Common.{◌≡◌, ap, ℕ, ◌+◌, ◌<◌, false, List, [], ◌∷◌, arith}
use Rattle.std.specs.Prelude.{pos, ◌-ℤ◌}
use Rattle.std.specs.List.{AllByRecursion, IsDistinct, list_any}
use Rattle.std.proofs.lemmas.Int.{ints}
use Rattle.grid_core.specs.declared.tile.TileId.{TileId}
use Rattle.grid_core.specs.Profile.{Sizes}
use Rattle.grid_core.specs.Segment.{Segment}
use Rattle.grid_core.specs.Tiles.{near, tile_eq, part_of, passes_in}
use Rattle.tile_law.specs.Parts.{passes_of}
use Rattle.tile_law.specs.Laws.{passes_in_tiles}
use Rattle.tile_law.proofs.TileSums.{passes_add_up, sum_same}
use Rattle.tile_law.proofs.Locality.{part_by_near}

-- lists that agree in some tiles have as many passes in their parts there
same_passes : (pr : Sizes) → 0 < pr.side → (ss us : List Segment) (ts : List TileId)
    → AllByRecursion (λ t. near pr t ss ≡ near pr t us) ts
    → passes_in_tiles pr ts ss ≡ passes_in_tiles pr ts us
same_passes pr some ss us ts same =
    sum_same (λ t. passes_in (part_of pr t ss)) (λ t. passes_in (part_of pr t us)) ts (by ts same)
  where
    by : (ts : List TileId) → AllByRecursion (λ t. near pr t ss ≡ near pr t us) ts
        → AllByRecursion (λ t. passes_in (part_of pr t ss) ≡ passes_in (part_of pr t us)) ts
    by [] h = tt
    by (t ∷ ts) h = (ap passes_in (part_by_near pr some t ss us h.0), by ts h.1)

-- four lists, before and after a change on each of two: where all differs in ts alone, and there the
-- two befores agree and the two afters agree, the change gains the same passes
pub same_gain : (pr : Sizes) → 0 < pr.side → (ts : List TileId) → IsDistinct tile_eq ts
    → (ss ss2 us us2 : List Segment)
    → ((t : TileId) → list_any (tile_eq t) ts ≡ false → near pr t ss ≡ near pr t ss2)
    → ((t : TileId) → list_any (tile_eq t) ts ≡ false → near pr t us ≡ near pr t us2)
    → AllByRecursion (λ t. near pr t ss ≡ near pr t us) ts
    → AllByRecursion (λ t. near pr t ss2 ≡ near pr t us2) ts
    → pos (passes_of ss2) -ℤ pos (passes_of ss) ≡ pos (passes_of us2) -ℤ pos (passes_of us)
same_gain pr some ts once ss ss2 us us2 far far2 old new =
    let a = (passes_add_up pr some ss).change ss2 ts once far in
    let b = (passes_add_up pr some us).change us2 ts once far2 in
    let c = same_passes pr some ss us ts old in
    let d = same_passes pr some ss2 us2 ts new in
    gained (passes_of ss) (passes_of ss2) (passes_of us) (passes_of us2) (passes_in_tiles pr ts ss) (passes_in_tiles pr ts ss2)
    (passes_in_tiles pr ts us) (passes_in_tiles pr ts us2) a b c d
  where
    gained : (s s2 u u2 p p2 q q2 : ℕ) → p2 + s ≡ p + s2 → q2 + u ≡ q + u2 → p ≡ q → p2 ≡ q2
        → pos s2 -ℤ pos s ≡ pos u2 -ℤ pos u
    gained s s2 u u2 p p2 q q2 a b c d = omega (arith, ints, a, b, c, d)
