-- The part of a tile with one segment less. The list is the shorter one with the segment put in its
-- place, and the segment doesn't cross itself; so its own crossings with the whole list are those
-- with the others. Pixels that went cold leave the routes that they were on.
use Rattle.std.proofs.Common.{◌≡◌, ap, sym, ◌∙◌, Bool, not}
use Rattle.std.proofs.Common.{IsTrue, ◌↔◌, List, ◌∷◌, ◌++◌, filter, filter_map, Contains}
use Rattle.std.specs.Prelude.{int_lt, pos, ◌-ℤ◌, None, if◌then◌else◌, option_map}
use Rattle.std.specs.List.{cons_option}
use Rattle.std.specs.List.Sorted.{IsStrictlySortedBy}
use Rattle.std.proofs.lemmas.List.Elements.{filter_map-append}
use Rattle.grid_core.specs.declared.point.Point.{Point}
use Rattle.grid_core.specs.declared.tile.TileId.{TileId}
use Rattle.grid_core.specs.Vector.{cross_of, minus}
use Rattle.grid_core.specs.Profile.{Sizes}
use Rattle.grid_core.specs.Name.{Label, label_cmp, label_eq}
use Rattle.grid_core.specs.Segment.{Segment, direction}
use Rattle.grid_core.specs.LiveList.{names, without_name}
use Rattle.grid_core.specs.Meets.{meets_pixel_of}
use Rattle.grid_core.specs.RisingSet.{rising}
use Rattle.grid_core.specs.Crossing.{within_both, crossing_of, pixel_of}
use Rattle.grid_core.specs.Rounding.{crossing_pixel}
use Rattle.grid_core.specs.Tiles.{in_tile, near}
use Rattle.grid_core.proofs.Filters.{filter_swapped}
use Rattle.grid_core.proofs.Identities.{cross-itself}
use Rattle.grid_core.proofs.ListMembers.{contains_filter, sorted_filter}
use Rattle.grid_core.proofs.Order.{label_total}
use Rattle.grid_core.proofs.RisingSets.{filter_rising}
use Rattle.grid_core.proofs.RouteOrder.{along_and_pixel_cmp, along_and_pixel_total, along_and_pixel_exact, rising_by_product}
use Rattle.tile_law.specs.Parts.{route_among}
use Rattle.tile_law.specs.OneMore.{own_crossings}
use Rattle.tile_law.proofs.Edits.{parted_at, near_without}
use Rattle.tile_law.proofs.OneMore.{route_by_members}
use Rattle.tile_law.proofs.OneMoreCounts.{with_without, without_is_new, lower, upper}

-- ---- routes with fewer pixels

-- the pixels of a route that pass a test are the route of those that pass it
pub route_of_kept : (p : Point → Bool) (hs : List Point) (s : Segment)
    → route_among (filter p hs) s ≡ filter p (route_among hs s)
route_of_kept p hs s =
    sym (rising_by_product s (filter p hs))
    ∙ ap (rising (along_and_pixel_cmp s)) (filter_swapped p (meets_pixel_of s) hs)
    ∙ sym (filter_rising (along_and_pixel_total s) p (λ g h e. ap p (along_and_pixel_exact s g h e))
    (filter (meets_pixel_of s) hs))
    ∙ ap (filter p) (rising_by_product s hs)

-- a route with fewer pixels: those that stay are left
pub route_without : (p : Point → Bool) (hs fewer : List Point) (s : Segment)
    → ((h : Point) → Contains fewer h ↔ (Contains hs h × IsTrue (p h)))
    → route_among fewer s ≡ filter p (route_among hs s)
route_without p hs fewer s members =
    route_by_members fewer (filter p hs) s (λ h. (
      λ c. (contains_filter p hs h).1 ((members h).0 c),
      λ c. (members h).1 ((contains_filter p hs h).0 c),
    ))
    ∙ route_of_kept p hs s

-- ---- a segment doesn't cross itself

crosses_not : (s : Segment) → crossing_of s s ≡ None
crosses_not s =
    let w = minus s.p s.p in
    let u = cross_of w (direction s) in
    λ i. if int_lt (pos 0) (cross-itself (direction s) i) then within_both s u u (cross-itself (direction s) i)
    else if int_lt (cross-itself (direction s) i) (pos 0)
    then within_both s (pos 0 -ℤ u) (pos 0 -ℤ u) (pos 0 -ℤ cross-itself (direction s) i)
    else None

crossing_pixel_itself : (s : Segment) → crossing_pixel s s ≡ None
crossing_pixel_itself s = ap (option_map pixel_of) (crosses_not s)

-- ---- without a segment

module _ (pr : Sizes) (t : TileId) (ss : List Segment) (s : Segment) (order : IsStrictlySortedBy label_cmp (names ss))
    (live : Contains ss s) where
  abbrev fewer : List Segment
  fewer = without_name ss s.name

  fewer_in_order : IsStrictlySortedBy label_cmp (names fewer)
  fewer_in_order = sorted_filter (λ u. u.name) label_cmp (λ u. not (label_eq u.name s.name)) ss order

  -- the crossings of s with the list are those with the others
  pub own_crossings_without : own_crossings pr t fewer s ≡ own_crossings pr t ss s
  own_crossings_without =
      ap (λ us. own_crossings pr t us s) (sym (parted_at (λ (u : Segment). u.name) label_total s.name fewer fewer_in_order (without_is_new s ss)))
      ∙ ap (filter (in_tile pr t))
      (filter_map-append (crossing_pixel s) (filter (lower s.name) fewer) (filter (upper s.name) fewer)
      ∙ sym (filter_map-append (crossing_pixel s) (filter (lower s.name) fewer) (s ∷ filter (upper s.name) fewer)
      ∙ ap (λ o. filter_map (crossing_pixel s) (filter (lower s.name) fewer)
      ++ cons_option o (filter_map (crossing_pixel s) (filter (upper s.name) fewer))) (crossing_pixel_itself s)))
      ∙ ap (λ us. own_crossings pr t us s) (with_without s ss order live)

-- of a tile's own segments all meet it, without one of them as well
pub near_all_without : (pr : Sizes) (t : TileId) (ss : List Segment) (n : Label) → near pr t ss ≡ ss
    → near pr t (without_name ss n) ≡ without_name ss n
near_all_without pr t ss n all = near_without pr t ss n ∙ ap (λ us. without_name us n) all
