-- What contracts see of the nodes and the heads.
use Rattle.std.proofs.Common.{◌≡◌, refl, ap, sym, ◌∙◌, subst, ℕ, arith, List, [], Option}
use Rattle.std.specs.List.Sorted.{IsStrictlySortedBy}
use Rattle.std.proofs.lemmas.Option.{none-some}
use Rattle.grid_core.specs.declared.point.Point.{Point}
use Rattle.grid_core.specs.Vector.{point_cmp, point_eq}
use Rattle.grid_core.specs.Name.{Label, label_cmp, label_eq}
use Rattle.grid_core.proofs.Order.{point_total, label_total}
use Rattle.pass_links.specs.declared.node.Node.{Node}
use Rattle.pass_links.specs.declared.heads.Head.{Head}
use Rattle.pass_links.specs.Chain.{end, listed}
use Rattle.pass_links.specs.Node.{along_at, across_at, name_at, pixel_at}
use Rattle.pass_links.specs.Lists.{pixels_from, names_from}
use Rattle.pass_links.specs.Heads.{lists_of_heads, Rise}
use Rattle.pass_links.specs.Passes.{PassLists, pixels_of, names_at, has_pixel, has_name, AreLinked}
use Rattle.pass_links.specs.Heads.{segment_start, pixel_start}
use Rattle.pass_links.specs.Filing.{AreFiled, IsFiled}
use Rattle.pass_links.proofs.ChainLaws.{way_end}
use Rattle.pass_links.proofs.HeadLaws.{list_at_head}
use Rattle.pass_links.proofs.LinkedLaws.{linked_same, linked_empty}
use Rattle.pass_links.proofs.FamilyLaws.{family_empty}
use Rattle.grid_core.proofs.Comparisons.{label_decides, point_decides}

module _ (slots : List (Option Node)) (segments : List (Head Label)) (pixels : List (Head Point)) where
  abbrev pub seen : ℕ → PassLists
  seen spare = record {
    segments = lists_of_heads label_cmp (pixels_from slots) segments;
    pixels = lists_of_heads point_cmp (names_from slots) pixels;
    spare = spare;
  }

  -- the list of a segment is what the walk from its head gives
  pub seen_pixels : (v : PassLists) (spare : ℕ) → seen spare ≡ v → (n : Label) → pixels_of v n ≡ pixels_from slots (segment_start segments n)
  seen_pixels v spare e n =
      ap (λ w. pixels_of w n) (sym e) ∙ list_at_head label_total (pixels_from slots) (ap (listed (pixel_at slots)) (way_end (along_at slots) end)) segments n

  -- the list of a pixel is what the walk from its head gives
  pub seen_names : (v : PassLists) (spare : ℕ) → seen spare ≡ v → (p : Point) → names_at v p ≡ names_from slots (pixel_start pixels p)
  seen_names v spare e p =
      ap (λ w. names_at w p) (sym e) ∙ list_at_head point_total (names_from slots) (ap (listed (name_at slots)) (way_end (across_at slots) end)) pixels p

  -- the two families agree
  pub seen_linked : (v : PassLists) (spare : ℕ) → seen spare ≡ v → AreFiled slots (segment_start segments) (pixel_start pixels) → AreLinked (pixels_of v) (names_at v)
  seen_linked v spare e filed = linked_same filed.linked (seen_pixels v spare e) (seen_names v spare e)

  -- a pixel stands in a segment's list where the name stands in the pixel's
  pub seen_has : (v : PassLists) (spare : ℕ) → seen spare ≡ v → AreFiled slots (segment_start segments) (pixel_start pixels) → (heads : List (Head Point)) → heads ≡ pixels
      → (n : Label) (p : Point) → has_pixel (pixels_of v n) p ≡ has_name (names_from slots (pixel_start heads p)) n
  seen_has v spare e filed heads same n p =
      (seen_linked v spare e filed).agree n p ∙ ap (λ ns. has_name ns n) (seen_names v spare e p ∙ ap (λ hs. names_from slots (pixel_start hs p)) (sym same))

-- ---- nothing is linked

no_pixels : (n : Label) → pixels_from [] (segment_start [] n) ≡ []
no_pixels n = ap (listed (pixel_at [])) (way_end (along_at []) end)

no_names : (p : Point) → names_from [] (pixel_start [] p) ≡ []
no_names p = ap (listed (name_at [])) (way_end (across_at []) end)

none_filed : AreFiled [] (segment_start []) (pixel_start [])
none_filed = record {
  along = family_empty label_eq label_decides (along_at []) (segment_start []) (name_at []) end (λ n. refl) (λ k. refl);
  across = family_empty point_eq point_decides (across_at []) (pixel_start []) (pixel_at []) end (λ p. refl) (λ k. refl);
  back_along = λ k n e. absurd (none-some n e);
  back_across = λ k p e. absurd (none-some p e);
  linked = linked_empty no_pixels no_names;
}

no_segments_rise : Rise label_cmp []
unfolding IsStrictlySortedBy
no_segments_rise = tt

no_pixels_rise : Rise point_cmp []
unfolding IsStrictlySortedBy
no_pixels_rise = tt

module _ (slots : List (Option Node)) (segments : List (Head Label)) (pixels : List (Head Point)) (e : slots ≡ []) (f : segments ≡ []) (g : pixels ≡ []) where
  pub filed_empty : (room : ℕ) → IsFiled slots segments pixels 0 room
  filed_empty room = record {
    lists =
        subst (λ s. AreFiled s (segment_start segments) (pixel_start pixels)) (sym e)
        (subst (λ hs. AreFiled [] (segment_start hs) (pixel_start pixels)) (sym f)
        (subst (λ hs. AreFiled [] (segment_start []) (pixel_start hs)) (sym g) none_filed));
    by_name = subst (Rise label_cmp) (sym f) no_segments_rise;
    by_pixel = subst (Rise point_cmp) (sym g) no_pixels_rise;
    fits = omega arith;
  }

  pub pixels_empty : (n : Label) → pixels_of (seen slots segments pixels 0) n ≡ []
  pixels_empty n =
      seen_pixels slots segments pixels (seen slots segments pixels 0) 0 refl n
      ∙ (λ i. pixels_from (e i) (segment_start (f i) n)) ∙ no_pixels n

  pub names_empty : (p : Point) → names_at (seen slots segments pixels 0) p ≡ []
  names_empty p =
      seen_names slots segments pixels (seen slots segments pixels 0) 0 refl p
      ∙ (λ i. names_from (e i) (pixel_start (g i) p)) ∙ no_names p
