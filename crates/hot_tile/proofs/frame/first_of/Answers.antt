use Rattle.std.proofs.Common.{◌≡◌, refl, ◌≤◌, ◌^◌, ◌*ℤ◌, unsigned_abs, arith, w64, SFits}
use Rattle.std.proofs.Common.{to_z, of_z, to_z-of_z, ℤ}
use Rattle.grid_core.proofs.Signed.{product_within, fits_by_size}
use Rattle.hot_tile.proofs.frame.first_of.Goals as goal

-- the product, with no trace of its bits
made : (a b : ℤ) → SFits w64 a → SFits w64 b → unsigned_abs a ≤ 2 ^ 30 → unsigned_abs b ≤ 2 ^ 31
    → to_z w64 (of_z w64 (to_z w64 (of_z w64 a) *ℤ to_z w64 (of_z w64 b))) ≡ a *ℤ b
made a b left right m n =
    let small = product_within a b (2 ^ 30) (2 ^ 31) m n in
    let fits : SFits w64 (a *ℤ b) = fits_by_size w64 (a *ℤ b) (omega arith) in
    simp to_z-of_z refl

-- src/tile.rt
pub returns-clause-value : goal.returns-clause-value
returns-clause-value c =
    made c.args.side c.args.index c.ranges.side c.ranges.index c.requires.side c.requires.index

pub returns-clause-small : goal.returns-clause-small
returns-clause-small c =
    let value =
    made c.args.side c.args.index c.ranges.side c.ranges.index c.requires.side c.requires.index
    in
    let small =
    product_within c.args.side c.args.index (2 ^ 30) (2 ^ 31) c.requires.side c.requires.index
    in
    rw value (omega arith)
