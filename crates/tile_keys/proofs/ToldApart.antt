-- Keys: how great they are, that no two tiles in reach and no two names have one key, and that names
-- are ordered as their keys.
use Rattle.std.proofs.Common.{◌≡◌, refl, ℕ, zero, suc, ◌+◌, ◌*◌, ◌/◌, ◌^◌, ◌<◌, ◌≤◌, nat_cmp, arith}
use Rattle.std.proofs.Math.Nat.{pow-suc}
use Rattle.std.specs.Prelude.{ℤ, pos, ◌+ℤ◌, unsigned_abs}
use Rattle.std.specs.declared.cmp.Ordering.{Ordering}
use Rattle.std.specs.declared.cmp.Ordering.TheVariants.{Less, Equal, Greater}
use Rattle.std.specs.Cmp.{ranks}
use Rattle.std.specs.Ordering.{MatchOrdering, ordering_then}
use Rattle.grid_core.specs.declared.tile.TileId.{TileId}
use Rattle.grid_core.specs.Name.{Label, IsLabel}
use Rattle.grid_core.proofs.Signed.{signed}
use Rattle.tile_law.specs.Laws.{IsTileInReach}
use Rattle.tile_keys.specs.Keys.{interleaved, raised_index, tile_key, name_key, first_name_key}
use Rattle.tile_keys.specs.Laws.{TilesAreToldApart, NamesAreToldApart, NamesGoByKey, TilesComeFirst}

-- ---- digits by turns

-- the digits of two numbers whose first digits are below 3 make a number whose first digit is below 11
top_below : (k a b : ℕ) → a < 3 * 4 ^ k → b < 3 * 4 ^ k → interleaved (suc k) a b < 11 * 16 ^ k
top_below zero a b h i = omega arith
top_below (suc k) a b h i =
    let four = pow-suc 4 k in
    let sixteen = pow-suc 16 k in
    let rest = top_below k (a / 4) (b / 4) (omega (arith, four, h)) (omega (arith, four, i)) in
    omega (arith, sixteen, rest)

-- numbers of so many digits are told apart by them
told_apart : (k a b c d : ℕ) → a < 4 ^ k → b < 4 ^ k → c < 4 ^ k → d < 4 ^ k
    → interleaved k a b ≡ interleaved k c d → (a ≡ c) × (b ≡ d)
told_apart zero a b c d h i j l e = (omega (arith, h, j), omega (arith, i, l))
told_apart (suc k) a b c d h i j l e =
    let four = pow-suc 4 k in
    let high : interleaved k (a / 4) (b / 4) ≡ interleaved k (c / 4) (d / 4) = omega (arith, e) in
    let rest = told_apart k (a / 4) (b / 4) (c / 4) (d / 4) (omega (arith, four, h)) (omega (arith, four, i)) (omega (arith, four, j)) (omega (arith, four, l)) high in
    (omega (arith, e, high, rest.0), omega (arith, e, high, rest.1))

-- ---- keys of tiles

raised_below : (i : ℤ) → unsigned_abs i ≤ 16384 → unsigned_abs (i +ℤ pos 16384) < 3 * 4 ^ 7
raised_below i h = omega (arith, signed, h)

raised_few : (i : ℤ) → unsigned_abs i ≤ 16384 → unsigned_abs (i +ℤ pos 16384) < 4 ^ 8
raised_few i h = omega (arith, signed, h)

same_index : (i j : ℤ) → unsigned_abs i ≤ 16384 → unsigned_abs j ≤ 16384
    → unsigned_abs (i +ℤ pos 16384) ≡ unsigned_abs (j +ℤ pos 16384) → i ≡ j
same_index i j h k e = omega (arith, signed, h, k, e)

-- no name has a tile's key
pub tile_below : (t : TileId) → IsTileInReach t → tile_key t < first_name_key
tile_below t is = by (tile_key t) (top_below 7 (raised_index t.i) (raised_index t.j) (raised_below t.i is.column) (raised_below t.j is.row))
  where
    by : (k : ℕ) → k < 11 * 16 ^ 7 → k < 3 * 2 ^ 30
    by k h = omega (arith, h)

-- one key, one tile
pub same_tile : TilesAreToldApart
same_tile t u is is2 e =
    let parts = told_apart 8 (raised_index t.i) (raised_index t.j) (raised_index u.i) (raised_index u.j)
    (raised_few t.i is.column) (raised_few t.j is.row) (raised_few u.i is2.column) (raised_few u.j is2.row) e in
    let column = same_index t.i u.i is.column is2.column parts.0 in
    let row = same_index t.j u.j is.row is2.row parts.1 in
    λ i. record { i = column i; j = row i }

-- ---- keys of names

-- a lesser key, a lesser name
lesser_number : (oe os : Ordering) (a b c d : ℕ) → MatchOrdering oe (a < c) (a ≡ c) (c < a)
    → MatchOrdering os (b < d) (b ≡ d) (d < b) → b < 2 ^ 16 → d < 2 ^ 16
    → 3 * 2 ^ 30 + (a * 2 ^ 16 + b) < 3 * 2 ^ 30 + (c * 2 ^ 16 + d) → ordering_then oe os ≡ Less
lesser_number Less os a b c d he hs f g h = refl
lesser_number Equal Less a b c d he hs f g h = refl
lesser_number Equal Equal a b c d he hs f g h = absurd (omega (arith, he, hs, h))
lesser_number Equal Greater a b c d he hs f g h = absurd (omega (arith, he, hs, h))
lesser_number Greater os a b c d he hs f g h = absurd (omega (arith, he, f, g, h))

pub lesser_name : NamesGoByKey
lesser_name m n is is2 h =
    lesser_number (nat_cmp m.editor n.editor) (nat_cmp m.serial n.serial) m.editor m.serial n.editor n.serial
    (ranks m.editor n.editor) (ranks m.serial n.serial) is.last_serial is2.last_serial h

-- one key, one name
same_numbers : (a b c d : ℕ) → b < 2 ^ 16 → d < 2 ^ 16
    → 3 * 2 ^ 30 + (a * 2 ^ 16 + b) ≡ 3 * 2 ^ 30 + (c * 2 ^ 16 + d) → (a ≡ c) × (b ≡ d)
same_numbers a b c d f g h = (omega (arith, f, g, h), omega (arith, f, g, h))

pub same_name : NamesAreToldApart
same_name m n is is2 h =
    let parts = same_numbers m.editor m.serial n.editor n.serial is.last_serial is2.last_serial h in
    λ i. record { editor = parts.0 i; serial = parts.1 i }

pub name_from : (n : Label) → first_name_key ≤ name_key n
name_from n = by (n.editor * 2 ^ 16 + n.serial)
  where
    by : (k : ℕ) → 3 * 2 ^ 30 ≤ 3 * 2 ^ 30 + k
    by k = omega arith

-- a name's key has 32 bits
pub name_fits : (n : Label) → IsLabel n → name_key n < 2 ^ 32
name_fits n is = by n.editor n.serial is.last_editor is.last_serial
  where
    by : (a b : ℕ) → a ≤ 64 → b < 2 ^ 16 → 3 * 2 ^ 30 + (a * 2 ^ 16 + b) < 2 ^ 32
    by a b h k = omega (arith, h, k)

pub tile_then_name : TilesComeFirst
tile_then_name t n is = let low = tile_below t is in let high = name_from n in omega (arith, low, high)
