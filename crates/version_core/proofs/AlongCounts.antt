-- A segment meets as many tiles in their order along it as in any order: each stands there once.
use Rattle.std.proofs.Common.{◌≡◌, refl, ap, sym, ◌∙◌, ℕ, ◌+◌, ◌<◌, arith, List, [], ◌∷◌, length, fold, true≢false, false}
use Rattle.std.specs.BTreeSet.{insert_key}
use Rattle.std.specs.declared.cmp.Ordering.{Ordering}
use Rattle.std.specs.declared.cmp.Ordering.TheVariants.{Less, Equal, Greater}
use Rattle.std.specs.List.{AllByRecursion}
use Rattle.std.specs.List.Sorted.{IsStrictlySortedBy}
use Rattle.std.specs.Ordering.{is_eq, match_ordering}
use Rattle.std.proofs.lemmas.Bool.{false_from_ne_true}
use Rattle.std.proofs.lemmas.Cmp.{tied_itself}
use Rattle.grid_core.specs.declared.tile.TileId.{TileId}
use Rattle.grid_core.specs.Profile.{Sizes}
use Rattle.grid_core.specs.Segment.{Segment, IsSegment}
use Rattle.grid_core.specs.Tiles.{tiles, along, tile_cmp, along_tile_cmp}
use Rattle.grid_core.proofs.Comparisons.{is_equal}
use Rattle.grid_core.proofs.RisingMembers.{all_inserted}
use Rattle.grid_core.proofs.TileOrder.{tile_total, along_tile_total, along_tile_exact}
use Rattle.tile_law.proofs.MetTiles.{tiles_are_met}

module _ (s : Segment) where
  -- no tile of the list is this one
  abbrev IsNew : TileId → List TileId → Type 0
  IsNew t ts = AllByRecursion (λ u. is_eq (along_tile_cmp s t u) ≡ false) ts

  new_inserted : (t : TileId) (ts : List TileId) → IsNew t ts → length (insert_key (along_tile_cmp s) ts t) ≡ length ts + 1
  new_inserted t [] h = omega arith
  new_inserted t (u ∷ us) h = by (along_tile_cmp s t u) refl (new_inserted t us h.1)
    where
      by : (r : Ordering) → along_tile_cmp s t u ≡ r → length (insert_key (along_tile_cmp s) us t) ≡ length us + 1
          → length (match_ordering r (t ∷ u ∷ us) (u ∷ us) (u ∷ insert_key (along_tile_cmp s) us t)) ≡ length (u ∷ us) + 1
      by Less e rest = omega arith
      by Equal e rest = absurd (true≢false (sym (ap is_eq e) ∙ h.0))
      by Greater e rest = omega (arith, rest)

  -- a later tile of a rising list is another one
  other : (t u : TileId) → tile_cmp t u ≡ Less → is_eq (along_tile_cmp s u t) ≡ false
  other t u less =
      false_from_ne_true (is_eq (along_tile_cmp s u t))
      (λ h. itself (sym less ∙ ap (tile_cmp t) (along_tile_exact s u t (is_equal (along_tile_cmp s u t) h)) ∙ tied_itself tile_total t))
    where
      itself : Less ≡ Equal → ⊥
      itself e = cc

  more : (done : List TileId) (t : TileId) (ts : List TileId) → AllByRecursion (λ u. tile_cmp t u ≡ Less) ts
      → AllByRecursion (λ u. IsNew u done) ts → AllByRecursion (λ u. IsNew u (insert_key (along_tile_cmp s) done t)) ts
  more done t [] h k = tt
  more done t (u ∷ us) h k = (
    all_inserted (along_tile_total s) (λ v. is_eq (along_tile_cmp s u v) ≡ false) t done (other t u h.0) k.0,
    more done t us h.1 k.1,
  )

  all_inserted_once : (done ts : List TileId) → IsStrictlySortedBy tile_cmp ts → AllByRecursion (λ u. IsNew u done) ts
      → length (fold (insert_key (along_tile_cmp s)) done ts) ≡ length done + length ts
  unfolding IsStrictlySortedBy
  all_inserted_once done [] h k = omega arith
  all_inserted_once done (t ∷ ts) h k =
      let rest = all_inserted_once (insert_key (along_tile_cmp s) done t) ts h.1 (more done t ts h.0 k.1) in
      let first = new_inserted t done k.0 in
      omega (arith, rest, first)

  none_yet : (ts : List TileId) → AllByRecursion (λ u. IsNew u []) ts
  none_yet [] = tt
  none_yet (t ∷ ts) = (tt, none_yet ts)

  pub along_length : (n : ℕ) (pr : Sizes) → 0 < pr.side → IsSegment n s → length (along pr s) ≡ length (tiles pr s)
  along_length n pr some fits =
      let h = all_inserted_once [] (tiles pr s) (tiles_are_met pr some s fits.ordered).in_order (none_yet (tiles pr s)) in
      omega (arith, h)
