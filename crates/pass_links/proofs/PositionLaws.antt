-- The steps of the walk that looks for a place in a pixel's list.
use Rattle.std.specs.List.{AllByRecursion}
use Rattle.std.proofs.lemmas.Bool.{cases_eq}
use Rattle.std.specs.List.Sorted.{IsStrictlySortedBy}
use Rattle.std.specs.Ordering.{ordering_reverse}
use Rattle.std.proofs.Common.{Less, Equal, Greater, Ordering, is_eq, is_lt, ◌≡◌, ℕ, true, false, ◌||◌, true≢false, refl, ap, sym, ◌∙◌, subst, inl, inr, arith, List, [], ◌∷◌, Option, None, Some}
use Rattle.std.specs.Prelude.{◌⊎◌}
use Rattle.grid_core.specs.declared.point.Point.{Point}
use Rattle.grid_core.specs.Name.{Label, label_cmp, label_eq}
use Rattle.grid_core.specs.Vector.{point_eq}
use Rattle.grid_core.proofs.Order.{label_total, label_exact}
use Rattle.pass_links.specs.declared.node.Node.{Node}
use Rattle.pass_links.specs.declared.heads.Head.{Head}
use Rattle.pass_links.specs.Chain.{end, way, IsWay, IsFamily, is_of, IsPlace}
use Rattle.pass_links.specs.Node.{across_of, name_of, pixel_of, node_at, along_at, across_at, name_at, pixel_at}
use Rattle.pass_links.specs.Lists.{names_from, IsEndFree}
use Rattle.pass_links.specs.Passes.{has_name}
use Rattle.pass_links.specs.Heads.{pixel_start}
use Rattle.pass_links.specs.Positions.{IsLesser, IsAtName}
use Rattle.pass_links.proofs.WalkLaws.{Steps, across_step, across_done, not_end, place_stored}
use Rattle.std.proofs.Math.Bool.{or-false}
use Rattle.grid_core.proofs.Comparisons.{point_decides}

pub free_of : (slots : List (Option Node)) (first : Label → ℕ) → IsFamily label_eq (along_at slots) first (name_at slots) end → IsEndFree slots
free_of slots first lists = unnamed (node_at slots end) refl
  where
    unnamed : (o : Option Node) → node_at slots end ≡ o → o ≡ None
    unnamed None e = refl
    unnamed (Some node) e = absurd (omega (arith, lists.below end node.name (ap name_of e)))

free_across : (slots : List (Option Node)) (first : Point → ℕ) → IsFamily point_eq (across_at slots) first (pixel_at slots) end → IsEndFree slots
free_across slots first lists = unplaced (node_at slots end) refl
  where
    unplaced : (o : Option Node) → node_at slots end ≡ o → o ≡ None
    unplaced None e = refl
    unplaced (Some node) e = absurd (omega (arith, lists.below end node.pixel (ap pixel_of e)))

-- the names that were passed are lesser, and the name is still to come if it is in the list
pub record SeeksAcross (slots : List (Option Node)) (pixels : List (Head Point)) (pixel : Point) (name : Label) (before : Option ℕ) (at : ℕ) : Type 0 where
  pub place : IsPlace (across_at slots) (pixel_start pixels) (pixel_at slots) pixel before at
  pub whole : IsWay (across_at slots) at (way (across_at slots) end at)
  pub lesser : IsLesser (name_at slots) name before
  pub rise : IsStrictlySortedBy label_cmp (names_from slots at)
  pub comes : has_name (names_from slots (pixel_start pixels pixel)) name ≡ has_name (names_from slots at) name

-- a rising list without its first name
rest_rises : (m : Label) (ms ns : List Label) → ns ≡ m ∷ ms → IsStrictlySortedBy label_cmp ns → IsStrictlySortedBy label_cmp ms
unfolding IsStrictlySortedBy
rest_rises m ms ns e s = (subst (IsStrictlySortedBy label_cmp) e s).1

-- a name before all others of a rising list isn't among them
none_after : (name : Label) (ms : List Label) → AllByRecursion (λ m. label_cmp name m ≡ Less) ms → has_name ms name ≡ false
none_after name [] h = refl
none_after name (m ∷ ms) h = ap (λ r. is_eq r || has_name ms name) h.0 ∙ none_after name ms h.1

all_after : (name m : Label) (ms : List Label) → label_cmp name m ≡ Less → AllByRecursion (λ k. label_cmp m k ≡ Less) ms → AllByRecursion (λ k. label_cmp name k ≡ Less) ms
all_after name m [] l h = tt
all_after name m (k ∷ ks) l h = (label_total.trans name m k l h.0, all_after name m ks l h.1)

none_before : (name m : Label) (ms : List Label) → label_cmp name m ≡ Less → IsStrictlySortedBy label_cmp (m ∷ ms) → has_name ms name ≡ false
unfolding IsStrictlySortedBy
none_before name m ms l s = none_after name ms (all_after name m ms l s.0)

-- a name that isn't after the first of a rising list is in the list exactly where it is the first
only_first : (name m : Label) (ms : List Label) → (r : Ordering) → label_cmp m name ≡ r → is_lt r ≡ false → IsStrictlySortedBy label_cmp (m ∷ ms)
    → ((m ≡ name) ⊎ (label_cmp name m ≡ Less)) × (has_name (m ∷ ms) name ≡ label_eq name m)
only_first name m ms Less e h s = absurd (true≢false h)
only_first name m ms Equal e h s =
    let tied : label_eq name m ≡ true = ap is_eq (label_total.antisymm name m ∙ ap ordering_reverse e) in (
      inl (label_exact m name e),
      ap (λ b. b || has_name ms name) tied ∙ sym tied,
    )
only_first name m ms Greater e h s =
    let less : label_cmp name m ≡ Less = label_total.antisymm name m ∙ ap ordering_reverse e in (
      inr less,
      (ap (λ b. label_eq name m || b) (none_before name m ms less s) ∙ or-false (label_eq name m)),
    )

module _ (slots : List (Option Node)) (pixels : List (Head Point)) (pixel : Point) (name : Label) (lists : IsFamily point_eq (across_at slots) (pixel_start pixels) (pixel_at slots) end) where
  -- the walk begins
  pub across_begun : (at : ℕ) → at ≡ pixel_start pixels pixel → IsStrictlySortedBy label_cmp (names_from slots (pixel_start pixels pixel))
      → SeeksAcross slots pixels pixel name None at
  across_begun at e rise =
      subst (SeeksAcross slots pixels pixel name None) (sym e) (record { place = refl; whole = lists.whole pixel; lesser = tt; rise = rise; comes = refl })

  -- a node is passed
  pub across_steps : (at : ℕ) (node : Node) → Some node ≡ node_at slots at → IsWay (across_at slots) at (way (across_at slots) end at)
      → Steps (across_at slots) (names_from slots) at node.next_of_pixel node.name
  across_steps at node e whole = across_step slots (free_across slots (pixel_start pixels) lists) at node (sym e) whole

  -- a node of a lesser name is passed
  pub across_passed : (before : Option ℕ) (at : ℕ) (node : Node) → SeeksAcross slots pixels pixel name before at → Some node ≡ node_at slots at
      → label_cmp node.name name ≡ Less → SeeksAcross slots pixels pixel name (Some at) node.next_of_pixel
  across_passed before at node h e less =
      let s = across_steps at node e h.whole in record {
        place = (
          place_stored point_eq point_decides pixel before at lists h.place (not_end slots (free_across slots (pixel_start pixels) lists) at node (sym e)),
          ap across_of (sym e),
        );
        whole = s.whole;
        lesser = (node.name, ap name_of (sym e), less);
        rise = rest_rises node.name (names_from slots node.next_of_pixel) (names_from slots at) s.first h.rise;
        comes =
            h.comes ∙ ap (λ ns. has_name ns name) s.first
            ∙ ap (λ r. is_eq r || has_name (names_from slots node.next_of_pixel) name) (label_total.antisymm name node.name ∙ ap ordering_reverse less);
      }

  nowhere : {o : Option Point} → o ≡ Some pixel → o ≡ None → ⊥
  nowhere e f = cc

  -- the list ends without the name
  pub across_ended : (before : Option ℕ) (at : ℕ) → SeeksAcross slots pixels pixel name before at → None ≡ node_at slots at
      → (IsAtName (name_at slots) name at) × (has_name (names_from slots (pixel_start pixels pixel)) name ≡ is_of label_eq name (name_at slots at))
  across_ended before at h e = (
    elim (cases_eq at end) [
      | inl same ↦ inl same
      | inr apart ↦ absurd (nowhere (place_stored point_eq point_decides pixel before at lists h.place apart) (ap pixel_of (sym e)))
    ],
    h.comes ∙ ap (λ ns. has_name ns name) (across_done slots at (sym e) h.whole) ∙ ap (λ o. is_of label_eq name (name_of o)) e,
  )

  -- a node of no lesser name is found
  pub across_found : (before : Option ℕ) (at : ℕ) (node : Node) → SeeksAcross slots pixels pixel name before at → Some node ≡ node_at slots at
      → is_lt (label_cmp node.name name) ≡ false
      → (IsAtName (name_at slots) name at) × (has_name (names_from slots (pixel_start pixels pixel)) name ≡ is_of label_eq name (name_at slots at))
  across_found before at node h e least =
      let s = across_steps at node e h.whole in
      let o = only_first name node.name (names_from slots node.next_of_pixel) (label_cmp node.name name) refl least (subst (IsStrictlySortedBy label_cmp) s.first h.rise) in (
        inr (node.name, ap name_of (sym e), o.0),
        h.comes ∙ ap (λ ns. has_name ns name) s.first ∙ o.1 ∙ ap (λ o. is_of label_eq name (name_of o)) e,
      )

-- a name that was found in a pixel's list is that of a node of the list
pub found_pixel : (slots : List (Option Node)) (first : Point → ℕ) (pixel : Point) (name : Label) (before : Option ℕ) (at : ℕ)
    → IsFamily point_eq (across_at slots) first (pixel_at slots) end → IsPlace (across_at slots) first (pixel_at slots) pixel before at
    → is_of label_eq name (name_at slots at) ≡ true → pixel_at slots at ≡ Some pixel
found_pixel slots first pixel name before at lists place found =
    place_stored point_eq point_decides pixel before at lists place
    (λ e. true≢false (sym found ∙ ap (λ k. is_of label_eq name (name_at slots k)) e ∙ ap (λ o. is_of label_eq name (name_of o)) (free_across slots first lists)))
