-- The new contents of tiles, made one by one, and the passes that they gain.
use Rattle.std.proofs.Common.{◌≡◌, refl, sym, ap, subst, ◌∙◌, ℕ, ◌+◌, ◌*◌, ◌<◌, ◌≤◌, ◌^◌, arith, List, [], ◌∷◌, ◌++◌, map, take, length, Option}
use Rattle.std.specs.Prelude.{ℤ, pos, ◌+ℤ◌, ◌-ℤ◌, unsigned_abs}
use Rattle.std.proofs.lemmas.Int.{ints}
use Rattle.std.specs.Borrow.{Bor}
use Rattle.std.specs.Prelude.{option_copied}
use Rattle.std.proofs.Common.{get_or}
use Rattle.std.proofs.lemmas.List.{map-append, take-map, take_more, take_all, length-map}
use Rattle.std.proofs.lemmas.List.Sums.{sum_by-append, sum_by-cons}
use Rattle.grid_core.proofs.Signed.{signed}
use Rattle.grid_core.specs.declared.tile.TileId.{TileId}
use Rattle.hot_tile.specs.Tile.{TileContent}
use Rattle.version_core.specs.Stands.{content_passes}
use Rattle.seg_edit.specs.Contents.{passes_together, found_contents}

-- of the first n of some tiles, f made the new contents, which gain so many passes
pub record Moves (f : TileId × Option TileContent → TileId × Option TileContent) (cs : List (TileId × Option TileContent)) (n : ℕ)
    (new : List (TileId × Option TileContent)) (gain : ℤ) : Type 0 where
  pub made : new ≡ map f (take n cs)
  pub gained : gain ≡ pos (passes_together new) -ℤ pos (passes_together (take n cs))
  pub small : unsigned_abs gain ≤ n * 2 ^ 64

pub moves_none : (f : TileId × Option TileContent → TileId × Option TileContent) (cs : List (TileId × Option TileContent))
    → Moves f cs 0 [] (pos 0)
moves_none f cs = record { made = refl; gained = refl; small = omega arith }

together_push : (cs : List (TileId × Option TileContent)) (c : TileId × Option TileContent)
    → passes_together (cs ++ c ∷ []) ≡ passes_together cs + content_passes c.1
together_push cs c =
    let two = sum_by-append (λ (d : TileId × Option TileContent). content_passes d.1) cs (c ∷ []) in
    let one = sum_by-cons (λ (d : TileId × Option TileContent). content_passes d.1) c [] in
    omega (arith, two, one)

pub moves_more : (f : TileId × Option TileContent → TileId × Option TileContent) (cs : List (TileId × Option TileContent)) (n : ℕ)
    (new : List (TileId × Option TileContent)) (gain : ℤ) (c d : TileId × Option TileContent)
    → Moves f cs n new gain
    → take (n + 1) cs ≡ take n cs ++ c ∷ [] → d ≡ f c → content_passes c.1 < 2 ^ 64 → content_passes d.1 < 2 ^ 64
    → Moves f cs (n + 1) (new ++ d ∷ []) (gain +ℤ (pos (content_passes d.1) -ℤ pos (content_passes c.1)))
moves_more f cs n new gain c d m next made before after =
    record {
      made =
          ap (λ es. es ++ d ∷ []) m.made
          ∙ ap (λ e. map f (take n cs) ++ e ∷ []) made
          ∙ sym (map-append f (take n cs) (c ∷ []))
          ∙ ap (map f) (sym next);
      gained =
          by gain (passes_together new) (passes_together (take n cs)) (content_passes d.1) (content_passes c.1)
          (passes_together (new ++ d ∷ [])) (passes_together (take (n + 1) cs)) m.gained (together_push new d)
          (ap passes_together next ∙ together_push (take n cs) c);
      small = bound n gain (content_passes d.1) (content_passes c.1) m.small after before;
    }
  where
    by : (g : ℤ) (x y d c x2 y2 : ℕ) → g ≡ pos x -ℤ pos y → x2 ≡ x + d → y2 ≡ y + c → g +ℤ (pos d -ℤ pos c) ≡ pos x2 -ℤ pos y2
    by g x y d c x2 y2 a b e = omega (arith, ints, a, b, e)

    bound : (n : ℕ) (g : ℤ) (d c : ℕ) → unsigned_abs g ≤ n * 2 ^ 64 → d < 2 ^ 64 → c < 2 ^ 64
        → unsigned_abs (g +ℤ (pos d -ℤ pos c)) ≤ (n + 1) * 2 ^ 64
    bound n g d c a b e = omega (arith, signed, a, b, e)

-- the tiles found up to the next one
pub next_found : (found : List (TileId × Option (Bor TileContent))) (i : ℕ) (e : TileId × Option (Bor TileContent))
    → e ≡ get_or found i e → i < length found
    → take (i + 1) (found_contents found) ≡ take i (found_contents found) ++ (e.0, option_copied e.1) ∷ []
next_found found i e is below =
    let g : TileId × Option (Bor TileContent) → TileId × Option TileContent = λ d. (d.0, option_copied d.1) in
    take-map g (i + 1) found
    ∙ ap (map g) (take_more found i e below)
    ∙ map-append g (take i found) (get_or found i e ∷ [])
    ∙ ap (λ d. map g (take i found) ++ g d ∷ []) (sym is)
    ∙ ap (λ cs. cs ++ g e ∷ []) (sym (take-map g i found))

-- all of them
pub all_found : (found : List (TileId × Option (Bor TileContent))) (i : ℕ) → length found ≤ i
    → take i (found_contents found) ≡ found_contents found
all_found found i h =
    take_all i (found_contents found)
    (subst (λ n. n ≤ i) (sym (length-map {B = TileId × Option TileContent} found (λ d. (d.0, option_copied d.1)))) h)

-- a tile more, its passes told by two numbers
pub moves_next : {f : TileId × Option TileContent → TileId × Option TileContent} {cs : List (TileId × Option TileContent)} {n : ℕ}
    {new more : List (TileId × Option TileContent)} {gain g w : ℤ} (c d : TileId × Option TileContent) (p q : ℕ)
    → Moves f cs n new gain
    → take (n + 1) cs ≡ take n cs ++ c ∷ [] → d ≡ f c → p ≡ content_passes c.1 → q ≡ content_passes d.1 → p < 2 ^ 64 → q < 2 ^ 64
    → more ≡ new ++ d ∷ [] → w ≡ g → g ≡ gain +ℤ (pos q -ℤ pos p)
    → Moves f cs (n + 1) more w
moves_next {f} {cs} {n} {new} {more} {gain} {g} {w} c d p q m next made before after small_p small_q put is sum =
    subst (λ xs. Moves f cs (n + 1) xs w) (sym put)
    (subst (Moves f cs (n + 1) (new ++ d ∷ [])) (sym (is ∙ sum ∙ (λ i. gain +ℤ (pos (after i) -ℤ pos (before i)))))
    (moves_more f cs n new gain c d m next made (subst (λ k. k < 2 ^ 64) before small_p) (subst (λ k. k < 2 ^ 64) after small_q)))
