-- The values of a list with one key put at its place.
use Rattle.std.proofs.Common.{◌≡◌, refl, ap, sym, ◌∙◌, subst, ℕ, ◌≤◌, true, false, List, ◌∷◌, Option, None, Some, ◌⊎◌, inl, inr, true≢false, is_eq, Less}
use Rattle.std.specs.Prelude.{count_by}
use Rattle.std.specs.List.Sorted.{IsStrictlySortedBy}
use Rattle.std.proofs.lemmas.Cmp.{tied_itself}
use Rattle.grid_core.specs.declared.point.Point.{Point}
use Rattle.grid_core.specs.Vector.{point_eq}
use Rattle.grid_core.specs.Name.{Label, label_cmp, label_eq}
use Rattle.grid_core.proofs.Order.{label_total}
use Rattle.pass_links.specs.Chain.{end, IsWay, has_key, is_of, listed}
use Rattle.pass_links.specs.Positions.{IsThrough, IsLesser, IsAtName}
use Rattle.pass_links.specs.Passes.{put_behind, linked_behind, with_name}
use Rattle.pass_links.proofs.ListedLaws.{listed_first, listed_behind, listed_in_place_first, listed_in_place_behind}
use Rattle.pass_links.proofs.PlaceLaws.{put_key}

-- a pixel right behind another, or first
pub pixel_put : (v v' : ℕ → Option Point) (after : Option Point) (before : Option ℕ) (x : ℕ) (pixel : Point) (ks : List ℕ) → v' x ≡ Some pixel
    → listed v' ks ≡ listed v ks → IsThrough v' after before → ((p : ℕ) → before ≡ Some p → has_key ks p ≡ true)
    → ((a : Point) → count_by (point_eq a) (listed v ks) ≤ 1) → listed v' (put_key before x ks) ≡ linked_behind after pixel (listed v ks)
pixel_put v v' None before x pixel ks e kept through has once =
    ap (λ b. listed v' (put_key b x ks)) through ∙ listed_first v' x pixel ks e ∙ ap (λ ps. pixel ∷ ps) kept
pixel_put v v' (Some a) before x pixel ks e kept through has once =
    ap (λ b. listed v' (put_key b x ks)) through.1
    ∙ listed_behind v' through.0 x a pixel ks through.2 e (has through.0 through.1) (subst (λ ps. count_by (point_eq a) ps ≤ 1) (sym kept) (once a))
    ∙ ap (put_behind a pixel) kept

-- no key comes, or one of a greater name
abbrev pub IsGreaterOf : (ℕ → Option Label) → Label → ℕ → Type 0
IsGreaterOf v name at = (at ≡ end) ⊎ ((m : Label) × (v at ≡ Some m) × (label_cmp name m ≡ Less))

-- the key that comes behind the place
abbrev pub key_at : (ℕ → ℕ) → ℕ → Option ℕ → ℕ
key_at f s None = s
key_at f s (Some p) = f p

-- a name in its place by the order of names
pub name_put : (f : ℕ → ℕ) (v v' : ℕ → Option Label) (s x : ℕ) (name : Label) (before : Option ℕ) (ks : List ℕ) → IsWay f s ks
    → IsStrictlySortedBy label_cmp (listed v ks) → v' x ≡ Some name → listed v' ks ≡ listed v ks → IsLesser v' name before
    → ((p : ℕ) → before ≡ Some p → has_key ks p ≡ true) → IsGreaterOf v' name (key_at f s before)
    → listed v' (put_key before x ks) ≡ with_name name (listed v ks)
name_put f v v' s x name None ks whole rise e kept lesser has next =
    listed_in_place_first f v' s x name ks whole (subst (IsStrictlySortedBy label_cmp) (sym kept) rise) e next ∙ ap (with_name name) kept
name_put f v v' s x name (Some p) ks whole rise e kept lesser has next =
    listed_in_place_behind f v' s p x lesser.0 name ks whole (subst (IsStrictlySortedBy label_cmp) (sym kept) rise) e lesser.1 (has p refl) lesser.2 next
    ∙ ap (with_name name) kept

-- where the name isn't the one there, the name there is greater
pub greater_at : (v : ℕ → Option Label) (name : Label) (at : ℕ) → is_of label_eq name (v at) ≡ false → IsAtName v name at → IsGreaterOf v name at
greater_at v name at apart (inl e) = inl e
greater_at v name at apart (inr (m, e, inl same)) =
    absurd (true≢false (sym (ap is_eq (tied_itself label_total name)) ∙ ap (label_eq name) (sym same) ∙ ap (is_of label_eq name) (sym e) ∙ apart))
greater_at v name at apart (inr (m, e, inr less)) = inr (m, e, less)
