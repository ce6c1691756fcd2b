-- Many tiles looked up by their keys in a row: each is what it has, and none is left out.
use Rattle.std.proofs.Common.{◌≡◌, refl, ap, sym, subst, ◌∙◌, ℕ, ◌+◌, ◌<◌, List, [], ◌∷◌, ◌++◌, map, take, drop, length, get_or}
use Rattle.std.proofs.Common.{IsPermutation, option_copied, Bor, Option}
use Rattle.std.specs.List.{AllByRecursion}
use Rattle.std.proofs.lemmas.List.{take_more, drop_more}
use Rattle.std.proofs.lemmas.List.Elements.{All-from_recursion, recursion_from_All}
use Rattle.std.proofs.lemmas.List.Sorted.{All-permutation, IsPermutation-map}
use Rattle.grid_core.specs.declared.tile.TileId.{TileId}
use Rattle.grid_core.specs.Profile.{Sizes}
use Rattle.tile_law.specs.Laws.{IsTileInReach}
use Rattle.hot_tile.specs.Tile.{TileContent}
use Rattle.radix_map.specs.Entries.{value_at}
use Rattle.version_core.specs.declared.entry.Entry.{Entry}
use Rattle.version_core.specs.Entries.{live_in, content_found}
use Rattle.tile_keys.specs.Keys.{tile_key}
use Rattle.version_core.specs.Parts.{with_key, part_under, copied_part}
use Rattle.version_core.specs.Stands.{content_of}
use Rattle.version_core.specs.Version.{IsVersion}

-- ---- the loop

mapped_push : {X Y : Type 0} (f : X → Y) (xs : List X) (x : X) → map f (xs ++ x ∷ []) ≡ map f xs ++ f x ∷ []
mapped_push f [] x = refl
mapped_push f (y ∷ ys) x = ap (λ zs. f y ∷ zs) (mapped_push f ys x)

-- values at keys, where the keys stand beside tiles
pub values_begun : (es : List (ℕ × Entry)) (ps : List (ℕ × TileId))
    → map (λ k. value_at k es) (map (λ p. p.0) ps) ≡ map (λ p. value_at p.0 es) ps
values_begun es [] = refl
values_begun es (p ∷ ps) = ap (λ vs. value_at p.0 es ∷ vs) (values_begun es ps)

-- the values that are left begin with that of the tile at hand
pub value_next : (es : List (ℕ × Entry)) (ps : List (ℕ × TileId)) (i : ℕ) (d : ℕ × TileId) → i < length ps
    → map (λ p. value_at p.0 es) (drop i ps)
    ≡ value_at (get_or ps i d).0 es ∷ map (λ p. value_at p.0 es) (drop (i + 1) ps)
value_next es ps i d lt = ap (map (λ p. value_at p.0 es)) (drop_more ps i d lt)

-- one tile more
pub part_pushed : (es : List (ℕ × Entry)) (ps : List (ℕ × TileId)) (i : ℕ) (d : ℕ × TileId) → i < length ps
    → (found : List (TileId × Option (Bor TileContent))) (o : Option (Bor TileContent))
    → map copied_part found ≡ map (part_under es) (take i ps)
    → option_copied o ≡ content_found (value_at (get_or ps i d).0 es)
    → map copied_part (found ++ ((get_or ps i d).1, o) ∷ []) ≡ map (part_under es) (take (i + 1) ps)
part_pushed es ps i d lt found o so this =
    mapped_push copied_part found ((get_or ps i d).1, o)
    ∙ (λ k. so k ++ ((get_or ps i d).1, this k) ∷ [])
    ∙ sym (ap (map (part_under es)) (take_more ps i d lt) ∙ mapped_push (part_under es) (take i ps) (get_or ps i d))

-- ---- at the end

tiles_back : (ids : List TileId) → map (λ p. p.1) (map with_key ids) ≡ ids
tiles_back [] = refl
tiles_back (t ∷ ts) = ap (λ us. t ∷ us) (tiles_back ts)

tiles_found : (found : List (TileId × Option (Bor TileContent))) → map (λ e. e.0) (map copied_part found) ≡ map (λ e. e.0) found
tiles_found [] = refl
tiles_found (e ∷ es) = ap (λ us. e.0 ∷ us) (tiles_found es)

tiles_placed : (es : List (ℕ × Entry)) (ps : List (ℕ × TileId)) → map (λ e. e.0) (map (part_under es) ps) ≡ map (λ p. p.1) ps
tiles_placed es [] = refl
tiles_placed es (p ∷ ps) = ap (λ us. p.1 ∷ us) (tiles_placed es ps)

-- a tile in reach beside its key
abbrev IsPlaced : ℕ × TileId → Type 0
IsPlaced p = IsTileInReach p.1 × (p.0 ≡ tile_key p.1)

all_placed : (ids : List TileId) → AllByRecursion IsTileInReach ids → AllByRecursion IsPlaced (map with_key ids)
all_placed [] h = tt
all_placed (t ∷ ts) h = ((h.0, refl), all_placed ts h.1)

module _ (pr : Sizes) (es : List (ℕ × Entry)) (count spans passes : ℕ) (is : IsVersion pr es count spans passes) where
  -- the content is what the tile has
  abbrev IsExact : TileId × Option TileContent → Type 0
  IsExact c = c.1 ≡ content_of pr c.0 (live_in es)

  all_exact : (ps : List (ℕ × TileId)) → AllByRecursion IsPlaced ps → AllByRecursion IsExact (map (part_under es) ps)
  all_exact [] h = tt
  all_exact (p ∷ ps) h =
      (ap (λ k. content_found (value_at k es)) h.0.1 ∙ is.contents p.1 h.0.0, all_exact ps h.1)

  all_shown : (found : List (TileId × Option (Bor TileContent))) → AllByRecursion IsExact (map copied_part found)
      → AllByRecursion (λ e. option_copied e.1 ≡ content_of pr e.0 (live_in es)) found
  all_shown [] h = tt
  all_shown (e ∷ rest) h = (h.0, all_shown rest h.1)

  module _ (ids : List TileId) (placed : List (ℕ × TileId)) (moved : IsPermutation (map with_key ids) placed)
      (found : List (TileId × Option (Bor TileContent))) (so : map copied_part found ≡ map (part_under es) placed) where
    -- the tiles are those that were asked for
    pub each_found : IsPermutation ids (map (λ e. e.0) found)
    each_found =
        let seconds = IsPermutation-map (λ (p : ℕ × TileId). p.1) (map with_key ids) placed moved in
        let same : map (λ p. p.1) placed ≡ map (λ e. e.0) found = sym (sym (tiles_found found) ∙ ap (map (λ e. e.0)) so ∙ tiles_placed es placed) in
        subst (IsPermutation ids) same (subst (λ us. IsPermutation us (map (λ p. p.1) placed)) (tiles_back ids) seconds)

    -- and each has what the live list has there
    pub value_found : AllByRecursion IsTileInReach ids
        → AllByRecursion (λ e. option_copied e.1 ≡ content_of pr e.0 (live_in es)) found
    value_found reach =
        let all = All-permutation IsPlaced (map with_key ids) placed moved (All-from_recursion IsPlaced (map with_key ids) (all_placed ids reach)) in
        all_shown found (subst (AllByRecursion IsExact) (sym so) (all_exact placed (recursion_from_All IsPlaced placed all)))
