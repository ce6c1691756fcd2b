-- The crossing of two segments lies within their bound, and so does its pixel.
use Rattle.std.proofs.Common.{◌≡◌, ℕ, ◌^◌, Option, Some, None, option_map, IfSome, sym, subst, rules}
use Rattle.grid_core.specs.Vector.{IsWithin}
use Rattle.grid_core.specs.Crossing.{RationalPoint, pixel_of}
use Rattle.grid_core.specs.Rounding.{crossing_pixel}
use Rattle.rat_cross.specs.CrossPoint.{IsCrossPoint}
use Rattle.rat_cross.proofs.Bounds.{pixel_within}
use Rattle.round_plain.proofs.hot_pixels.crossing_pixel.Goals as goal

pixel_is_within : (n : ℕ) (found : Option RationalPoint)
    → IfSome found (IsCrossPoint n) → IfSome (option_map pixel_of found) (IsWithin n)
pixel_is_within n None h = tt
pixel_is_within n (Some c) h = pixel_within n c h

pub returns-clause-within : goal.returns-clause-within
returns-clause-within c = λ s t.
    let value : c.map.result ≡ crossing_pixel c.args.s.now c.args.t.now = search rules in
    let within = subst (λ o. IfSome o (IsCrossPoint (2 ^ 30))) c.crossing.ensures.value
    (c.crossing.ensures.within (2 ^ 30) s t) in
    subst (λ o. IfSome o (IsWithin (2 ^ 30))) (sym value) (pixel_is_within (2 ^ 30) _ within)
