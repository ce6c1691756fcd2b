-- Steps along a segment: sorting them sorts their pixels.
use Rattle.std.proofs.Common.{◌≡◌, refl, ap, sym, ◌∙◌, ◌+◌, ◌<◌, ℕ, Bool, true, false, cond, Ordering, List, [], ◌∷◌, ◌++◌, map, length, take, get_or}
use Rattle.std.specs.Prelude.{pos}
use Rattle.std.specs.List.{filter}
use Rattle.std.proofs.lemmas.List.{append-nil, map-append, take_more}
use Rattle.std.proofs.lemmas.List.Elements.{filter-append}
use Rattle.std.specs.Ordering.{int_cmp, ordering_then}
use Rattle.std.specs.BTreeSet.{insert_key}
use Rattle.grid_core.specs.declared.point.Point.{Point}
use Rattle.grid_core.specs.declared.point.Vertex.{Vertex}
use Rattle.grid_core.specs.Meets.{meets_pixel_of}
use Rattle.grid_core.specs.Vector.{point_cmp}
use Rattle.grid_core.specs.Segment.{Segment}
use Rattle.grid_core.specs.Rounding.{along_cmp}
use Rattle.grid_core.proofs.RouteOrder.{along_and_pixel_cmp, rising_by_product}
use Rattle.grid_core.specs.RisingSet.{rising}
use Rattle.round_plain.specs.declared.routes.Step.{Step}
use Rattle.round_plain.specs.Routes.{pixels, step_along}
use Rattle.grid_core.proofs.RisingSets.{rising_push, rising-map}

-- by product, and at one product by pixel
abbrev pub step_cmp : Step → Step → Ordering
step_cmp a b = ordering_then (int_cmp a.product b.product) (point_cmp a.pixel b.pixel)

pixels-steps : (s : Segment) (hs : List Point)
    → map (λ (a : Step). a.pixel) (map (step_along s) hs) ≡ hs
pixels-steps s [] = refl
pixels-steps s (h ∷ hs) = ap (λ (gs : List Point). h ∷ gs) (pixels-steps s hs)

-- the pixels of the steps in order are the pixels in their order along s, where one product is ordered by pixel
pub pixels-rising : (s : Segment) (hs : List Point)
    → map (λ (a : Step). a.pixel) (rising step_cmp (map (step_along s) hs))
    ≡ rising (along_and_pixel_cmp s) hs
pixels-rising s hs =
    ap (map (λ (a : Step). a.pixel)) (rising-map step_cmp (step_along s) hs)
    ∙ pixels-steps s (rising (along_and_pixel_cmp s) hs)

-- the pixels that s meets have different products, so their steps in order give them in their order along s
pub pixels-steps_met : (s : Segment) (hs : List Point)
    → map (λ (a : Step). a.pixel) (rising step_cmp
    (map (step_along s) (filter (meets_pixel_of s) hs)))
    ≡ rising (along_cmp s) (filter (meets_pixel_of s) hs)
pixels-steps_met s hs = pixels-rising s (filter (meets_pixel_of s) hs) ∙ rising_by_product s hs

step_more : (s : Segment) (vs : List Vertex) (i : ℕ) (d : Vertex) → i < length vs
    → filter (meets_pixel_of s) (pixels (take (i + 1) vs))
    ≡ filter (meets_pixel_of s) (pixels (take i vs)) ++ filter (meets_pixel_of s)
    ((get_or vs i d).at ∷ [])
step_more s vs i d lt =
    ap (λ (us : List Vertex). filter (meets_pixel_of s) (pixels us)) (take_more vs i d lt)
    ∙ ap (filter (meets_pixel_of s)) (map-append (λ (v : Vertex). v.at) (take i vs)
    (get_or vs i d ∷ []))
    ∙ filter-append (meets_pixel_of s) (pixels (take i vs)) ((get_or vs i d).at ∷ [])

-- the steps along s that are met among the first i pixels
abbrev pub steps_met : Segment → List Vertex → List Step
steps_met s vs = rising step_cmp (map (step_along s) (filter (meets_pixel_of s) (pixels vs)))

-- a pixel that is met is a step more
pub met_more : (s : Segment) (vs : List Vertex) (i : ℕ) (d : Vertex) → i < length vs
    → meets_pixel_of s (get_or vs i d).at ≡ true
    → insert_key step_cmp (steps_met s (take i vs)) (step_along s (get_or vs i d).at)
    ≡ steps_met s (take (i + 1) vs)
met_more s vs i d lt met =
    sym (rising_push step_cmp (map (step_along s)
    (filter (meets_pixel_of s) (pixels (take i vs)))) (step_along s (get_or vs i d).at))
    ∙ ap (rising step_cmp)
    (sym (ap (map (step_along s))
    (step_more s vs i d lt ∙ ap (λ (b : Bool). filter (meets_pixel_of s) (pixels (take i vs))
    ++ cond b ((get_or vs i d).at ∷ []) []) met)
    ∙ map-append (step_along s) (filter (meets_pixel_of s) (pixels (take i vs)))
    ((get_or vs i d).at ∷ [])))

-- a pixel that isn't met is none
pub met_no_more : (s : Segment) (vs : List Vertex) (i : ℕ) (d : Vertex) → i < length vs
    → meets_pixel_of s (get_or vs i d).at ≡ false
    → steps_met s (take i vs) ≡ steps_met s (take (i + 1) vs)
met_no_more s vs i d lt unmet =
    ap (λ (hs : List Point). rising step_cmp (map (step_along s) hs))
    (sym (step_more s vs i d lt
    ∙ ap (λ (b : Bool). filter (meets_pixel_of s) (pixels (take i vs)) ++ cond b
    ((get_or vs i d).at ∷ []) []) unmet
    ∙ append-nil (filter (meets_pixel_of s) (pixels (take i vs)))))

-- what a read past the end of a list of vertices would give
abbrev pub unread : Vertex
unread = record { at = record { x = pos 0; y = pos 0 }; ends = 0; crossings = 0 }
