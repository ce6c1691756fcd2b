-- The pieces of an edge over the columns of a strip, added to those of others.
use Rattle.std.specs.Prelude.{◌⊎◌, ℕ, ℤ, pos, ◌≤ℤ◌, ◌<ℤ◌, ◌≤◌, ◌<◌, if◌then◌else◌, Bool}
use Rattle.std.specs.Prelude.{List, [], ◌∷◌, ◌++◌, Contains}
use Rattle.grid_core.specs.Edge.{EdgeEnds}
use Rattle.edge_search.specs.declared.rank.RankedPiece.{RankedPiece}
use Rattle.edge_search.specs.Pieces.{column, HasColumn, IsPieceAt}
use Rattle.edge_search.specs.Ranks.{IsRanked}

-- the leaf of strip k whose column is x, or the nearest of 256 to 512 where x is none of its columns
pub record IsNearestLeaf (k x : ℤ) (leaf : ℕ) : Type 0 where
  pub low : 256 ≤ leaf
  pub high : leaf ≤ 512
  pub left : 256 < leaf → column k (pos leaf) ≤ℤ x
  pub right : leaf < 512 → x ≤ℤ column k (pos leaf)

-- the list, with one item more at its end if it is wanted
abbrev pub pushed_if : {A : Type 0} → Bool → List A → A → List A
pushed_if wanted xs x = if wanted then xs ++ x ∷ [] else xs

-- the pieces after those of edge e over strip k were added
pub record HavePiecesOf (k : ℤ) (e : EdgeEnds) (old new : List RankedPiece) : Type 0 where
  pub kept : (r : RankedPiece) → Contains old r → Contains new r
  pub each : (r : RankedPiece) → Contains new r → Contains old r ⊎ ((w : ℤ) × IsRanked k (e ∷ []) w r)
  pub all : (leaf : ℤ) → pos 256 ≤ℤ leaf
      → leaf <ℤ pos 512
      → HasColumn e (column k leaf)
      → (r : RankedPiece) × Contains new r × IsPieceAt k (e ∷ []) e leaf r.piece
