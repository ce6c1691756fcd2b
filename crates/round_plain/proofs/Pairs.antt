-- The crossings of all pairs, one segment after another.
use Rattle.std.proofs.Common.{◌≡◌, refl, ap, sym, ◌∙◌, ℕ, ◌+◌, ◌*◌, ◌<◌, ◌≤◌, List, [], ◌∷◌, ◌++◌, length, take, drop, get_or, append_assoc, suc, add-one, arith, length-append, ◌-◌, ◌^◌}
use Rattle.std.specs.Prelude.{Option, Some, None, filter_map}
use Rattle.std.specs.List.{cons_option}
use Rattle.std.proofs.Math.Seq.{drop-cons}
use Rattle.std.proofs.lemmas.Nat.{mul-le}
use Rattle.std.proofs.lemmas.List.Concat.{flat_map-cons}
use Rattle.std.proofs.lemmas.Grind.{flat_map-append}
use Rattle.std.proofs.lemmas.List.{append-nil, take_more, drop_all}
use Rattle.grid_core.specs.declared.point.Point.{Point}
use Rattle.grid_core.specs.Segment.{Segment}
use Rattle.grid_core.specs.Rounding.{end_points, crossing_pixel, crossing_pixels}

crossings_here : (s : Segment) (ss : List Segment)
    → crossing_pixels (s ∷ ss) ≡ filter_map (crossing_pixel s) ss ++ crossing_pixels ss
unfolding crossing_pixels
crossings_here s ss = refl

front : (ss : List Segment) (i : ℕ) (s : Segment) → i < length ss → s ≡ get_or ss i s
    → drop i ss ≡ s ∷ drop (i + 1) ss
front ss i s h e = rw add-one (drop-cons ss i s h
    ∙ ap (λ (t : Segment). t ∷ drop (suc i) ss) (sym e))

-- after segment i the crossings of the segments behind it are left
pub crossings_more : (found total : List Point) (ss : List Segment) (i : ℕ) (s : Segment)
    → i < length ss → s ≡ get_or ss i s
    → found ++ crossing_pixels (drop i ss) ≡ total
    → (found ++ filter_map (crossing_pixel s) (drop (i + 1) ss)) ++ crossing_pixels
    (drop (i + 1) ss) ≡ total
crossings_more found total ss i s h e all =
    append_assoc found (filter_map (crossing_pixel s) (drop (i + 1) ss))
    (crossing_pixels (drop (i + 1) ss))
    ∙ ap (λ (xs : List Point). found ++ xs)
    (sym (ap crossing_pixels (front ss i s h e) ∙ crossings_here s (drop (i + 1) ss)))
    ∙ all

-- after the last segment none is left
pub crossings_done : (found total : List Point) (ss : List Segment) (i : ℕ) → length ss ≤ i
    → found ++ crossing_pixels (drop i ss) ≡ total → found ≡ total
unfolding crossing_pixels
crossings_done found total ss i h all =
    sym (append-nil found) ∙ ap (λ (xs : List Segment). found ++ crossing_pixels xs)
    (sym (drop_all i ss h)) ∙ all

-- two ends a segment
pub length-end_points : (ss : List Segment) → length (end_points ss) ≡ 2 * length ss
length-end_points [] = refl
length-end_points (s ∷ ss) = ap length (flat_map-cons (λ (s : Segment). s.p ∷ s.q ∷ []) s ss)
    ∙ omega (arith, length-end_points ss)

length-filter_map : {A B : Type 0} (f : A → Option B) (xs : List A)
    → length (filter_map f xs) ≤ length xs
length-filter_map f [] = omega arith
length-filter_map {A} {B} f (x ∷ xs) = by (f x) (length-filter_map f xs)
  where
    by : (o : Option B) → length (filter_map f xs) ≤ length xs
        → length (cons_option o (filter_map f xs)) ≤ suc (length xs)
    by None h = omega arith
    by (Some y) h = omega arith

-- at most one crossing a pair
pub length-crossing_pixels : (ss : List Segment)
    → 2 * length (crossing_pixels ss) + length ss ≤ length ss * length ss
unfolding crossing_pixels
length-crossing_pixels [] = omega arith
length-crossing_pixels (s ∷ ss) =
    let front : length (filter_map (crossing_pixel s) ss) ≤ length ss = length-filter_map
    (crossing_pixel s) ss in
    let both = length-append (filter_map (crossing_pixel s) ss) (crossing_pixels ss) in
    omega (arith, length-crossing_pixels ss)

-- so many segments have fewer crossings than 2^32
pub crossings_fit : (ss : List Segment) → length ss ≤ 65536 → length (crossing_pixels ss) < 2 ^ 32
crossings_fit ss h =
    let square = mul-le (length ss) (length ss) 65536 65536 h h in
    omega (arith, square, length-crossing_pixels ss)

-- the ends of one segment more
pub ends_more : (ss : List Segment) (i : ℕ) (s : Segment) → i < length ss → s ≡ get_or ss i s
    → (end_points (take i ss) ++ s.p ∷ []) ++ s.q ∷ [] ≡ end_points (take (i + 1) ss)
ends_more ss i s lt e =
    append_assoc (end_points (take i ss)) (s.p ∷ []) (s.q ∷ [])
    ∙ sym (ap end_points (take_more ss i s lt ∙ ap (λ (t : Segment). take i ss ++ t ∷ []) (sym e))
    ∙ flat_map-append (λ (t : Segment). t.p ∷ t.q ∷ []) (take i ss) (s ∷ [])
    ∙ ap (λ (hs : List Point). end_points (take i ss) ++ hs)
    (flat_map-cons (λ (t : Segment). t.p ∷ t.q ∷ []) s []))
