-- The vertex at a query point, by vertices in order. A vertex at the point is the point in pixels. So none before that is at
-- the query point, and where the first one from there on isn't, no later one is.
use Rattle.std.proofs.Common.{◌≡◌, ap, sym, ◌∙◌, arith, ℕ, ◌+◌, ◌<◌, ◌≤◌, Bool, true, false, true≢false, cond}
use Rattle.std.proofs.Common.{List, ◌∷◌, ◌++◌, filter, length, get_or, take, drop, Some, None, is_lt}
use Rattle.std.specs.Prelude.{ℤ, pos, ◌*ℤ◌, slice_get}
use Rattle.std.specs.List.{AllWithin}
use Rattle.std.specs.List.Sorted.{IsStrictlySortedBy, IsPartitionPoint}
use Rattle.std.specs.Int.{int_div_euclid}
use Rattle.std.proofs.lemmas.Bool.{false_from_ne_true}
use Rattle.std.proofs.lemmas.List.{take-append-drop, drop_more}
use Rattle.std.proofs.lemmas.List.Elements.{recursion_from_All}
use Rattle.std.proofs.lemmas.Map.Keys.{Less-from_sorted}
use Rattle.grid_core.specs.declared.point.Point.{Point}
use Rattle.grid_core.specs.Vector.{point_cmp, point_eq}
use Rattle.grid_core.specs.Places.{query_point}
use Rattle.grid_core.proofs.Comparisons.{point_decides}
use Rattle.grid_core.proofs.Crossings.{floor_low, floor_high}
use Rattle.grid_core.proofs.Filters.{filter_joined, none_kept}
use Rattle.grid_core.proofs.Order.{point_same}
use Rattle.grid_core.proofs.Signed.{signed}
use Rattle.place_test.specs.Nearest.{vertex_among}
use Rattle.cell_map.specs.Columns.{floor_of}
use Rattle.cell_map.proofs.CellBounds.{all_taken, all_dropped}

floor_is : (z a : ℤ) → pos 256 *ℤ z ≡ a → z ≡ int_div_euclid a (pos 256)
floor_is z a e =
    omega (arith, signed, e, floor_low a (pos 256) (omega (arith, signed)), floor_high a (pos 256) (omega (arith, signed)))

not_less : (g h : Point) → g ≡ h → is_lt (point_cmp g h) ≡ true → ⊥
not_less g h e t = true≢false (sym t ∙ ap is_lt (point_same g h e))

module _ (q : Point) where
  abbrev pub is_here : Point → Bool
  is_here h = point_eq (query_point h) q

  floor_if_here : (h : Point) → is_here h ≡ true → h ≡ floor_of q
  floor_if_here h t =
      let e = (point_decides (query_point h) q).0 t in
      let x = floor_is h.x q.x (ap (λ (p : Point). p.x) e) in
      let y = floor_is h.y q.y (ap (λ (p : Point). p.y) e) in
      λ i. record { x = x i; y = y i }

  module _ (p : Point) (floor : p ≡ floor_of q) (vs : List Point) (n : ℕ) (order : IsStrictlySortedBy point_cmp vs)
      (parted : IsPartitionPoint (λ h. is_lt (point_cmp h p) ≡ true) (λ h. is_lt (point_cmp h p) ≡ false) vs n) where
    none_before : AllWithin (λ h. is_here h ≡ false) vs 0 n
    none_before k d from to =
        false_from_ne_true (is_here (get_or vs k d))
        (λ t. not_less (get_or vs k d) p (floor_if_here (get_or vs k d) t ∙ sym floor) (parted.0 k d from to))

    none_behind : n < length vs → AllWithin (λ h. is_here h ≡ false) vs (n + 1) (length vs)
    none_behind some k d from to =
        false_from_ne_true (is_here (get_or vs k d))
        (λ t.
        let less = Less-from_sorted point_cmp vs n k d order (omega (arith, from)) to in
        let lesser = ap is_lt (ap (point_cmp (get_or vs n d)) (floor ∙ sym (floor_if_here (get_or vs k d) t)) ∙ less) in
        true≢false (sym lesser ∙ parted.1 n d (omega arith) some))

    -- where all come before
    pub vertex_past : length vs ≤ n → None ≡ vertex_among vs q
    vertex_past all =
        sym (ap (λ hs. slice_get hs 0)
        (none_kept is_here vs (recursion_from_All (λ h. is_here h ≡ false) vs
        (λ k d lt. none_before k d (omega arith) (omega (arith, all, lt))))))

    parts : n < length vs → filter is_here vs
        ≡ cond (is_here (get_or vs n q)) (get_or vs n q ∷ filter is_here (drop (n + 1) vs)) (filter is_here (drop (n + 1) vs))
    parts some =
        ap (filter is_here) (sym (take-append-drop n vs) ∙ ap (λ hs. take n vs ++ hs) (drop_more vs n q some))
        ∙ filter_joined is_here (take n vs) (get_or vs n q ∷ drop (n + 1) vs)
        ∙ ap (λ hs. hs ++ filter is_here (get_or vs n q ∷ drop (n + 1) vs))
        (none_kept is_here (take n vs) (recursion_from_All (λ h. is_here h ≡ false) (take n vs)
        (all_taken (λ h. is_here h ≡ false) vs n (omega (arith, some)) none_before)))

    -- where the first of the others is at the point, and where it isn't
    pub vertex_here : n < length vs → is_here (get_or vs n q) ≡ true → Some (get_or vs n q) ≡ vertex_among vs q
    vertex_here some t =
        sym (ap (λ hs. slice_get hs 0)
        (parts some
        ∙ ap (λ b. cond b (get_or vs n q ∷ filter is_here (drop (n + 1) vs)) (filter is_here (drop (n + 1) vs))) t))

    pub vertex_elsewhere : n < length vs → is_here (get_or vs n q) ≡ false → None ≡ vertex_among vs q
    vertex_elsewhere some t =
        sym (ap (λ hs. slice_get hs 0)
        (parts some
        ∙ ap (λ b. cond b (get_or vs n q ∷ filter is_here (drop (n + 1) vs)) (filter is_here (drop (n + 1) vs))) t
        ∙ none_kept is_here (drop (n + 1) vs) (recursion_from_All (λ h. is_here h ≡ false) (drop (n + 1) vs)
        (all_dropped (λ h. is_here h ≡ false) vs (n + 1) (none_behind some)))))
