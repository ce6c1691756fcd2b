-- The two families of lists agree when they are empty, when a pass is linked, and when one is unlinked.
-- Lists are followed through what stands in them, never through how they are kept.
use Rattle.std.proofs.Common.{◌≡◌, refl, ap, sym, ◌∙◌, subst, ◌+◌, ◌≤◌, arith, Bool, true, false, cond, not, ◌&&◌, ◌||◌, List, [], ◌∷◌, Option, None, Some}
use Rattle.std.specs.Prelude.{filter, count_by}
use Rattle.std.specs.List.Sorted.{IsStrictlySortedBy}
use Rattle.std.proofs.lemmas.List.Kept.{IsStrictlySortedBy-filter}
use Rattle.std.proofs.lemmas.List.Sums.{sum_by-cons}
use Rattle.grid_core.specs.declared.point.Point.{Point}
use Rattle.grid_core.specs.Vector.{point_eq}
use Rattle.grid_core.specs.Name.{Label, label_cmp, label_eq}
use Rattle.grid_core.proofs.Order.{point_exact, label_total, label_exact}
use Rattle.pass_links.specs.Passes.{has_pixel, has_name, put_behind, linked_behind, with_name, AreLinked}
use Rattle.grid_core.proofs.Comparisons.{is_equal, point_decides, label_decides}
use Rattle.grid_core.proofs.Filters.{count_none, count_filter, any_left}
use Rattle.grid_core.proofs.SortedLists.{or_swapped, any_in_place, rises_in_place}

-- a pixel put behind another
has_put : (p after x : Point) (ps : List Point) → has_pixel (put_behind after x ps) p ≡ (point_eq p x || has_pixel ps p)
has_put p after x [] = refl
has_put p after x (q ∷ ps) = by (has_put p after x ps) (point_eq after q)
  where
    by : has_pixel (put_behind after x ps) p ≡ (point_eq p x || has_pixel ps p)
        → (b : Bool) → has_pixel (cond b (q ∷ x ∷ ps) (q ∷ put_behind after x ps)) p ≡ (point_eq p x || (point_eq p q || has_pixel ps p))
    by rest true = or_swapped (point_eq p q) (point_eq p x) (has_pixel ps p)
    by rest false = ap (λ b. point_eq p q || b) rest ∙ or_swapped (point_eq p q) (point_eq p x) (has_pixel ps p)

pub has_linked : (p : Point) (after : Option Point) (x : Point) (ps : List Point) → has_pixel (linked_behind after x ps) p ≡ (point_eq p x || has_pixel ps p)
has_linked p None x ps = refl
has_linked p (Some after) x ps = has_put p after x ps

count_put : (p after x : Point) (ps : List Point) → count_by (point_eq p) (put_behind after x ps) ≡ cond (point_eq p x) 1 0 + count_by (point_eq p) ps
count_put p after x [] = sum_by-cons (λ q. cond (point_eq p q) 1 0) x []
count_put p after x (q ∷ ps) = by (count_put p after x ps) (point_eq after q)
  where
    more : (y : Point) (ys : List Point) → count_by (point_eq p) (y ∷ ys) ≡ cond (point_eq p y) 1 0 + count_by (point_eq p) ys
    more y ys = sum_by-cons (λ q. cond (point_eq p q) 1 0) y ys

    by : count_by (point_eq p) (put_behind after x ps) ≡ cond (point_eq p x) 1 0 + count_by (point_eq p) ps
        → (b : Bool) → count_by (point_eq p) (cond b (q ∷ x ∷ ps) (q ∷ put_behind after x ps)) ≡ cond (point_eq p x) 1 0 + count_by (point_eq p) (q ∷ ps)
    by rest true = omega (arith, more q (x ∷ ps), more x ps, more q ps)
    by rest false = omega (arith, rest, more q (put_behind after x ps), more q ps)

count_linked : (p : Point) (after : Option Point) (x : Point) (ps : List Point) → count_by (point_eq p) (linked_behind after x ps) ≡ cond (point_eq p x) 1 0 + count_by (point_eq p) ps
count_linked p None x ps = sum_by-cons (λ q. cond (point_eq p q) 1 0) x ps
count_linked p (Some after) x ps = count_put p after x ps

-- ---- the two families

-- two families with the same lists
pub linked_same : {f f' : Label → List Point} {g g' : Point → List Label} → AreLinked f g → ((n : Label) → f' n ≡ f n) → ((p : Point) → g' p ≡ g p) → AreLinked f' g'
linked_same h s t = record {
  agree = λ n p. ap (λ l. has_pixel l p) (s n) ∙ h.agree n p ∙ sym (ap (λ l. has_name l n) (t p));
  once = λ n p. subst (λ l. count_by (point_eq p) l ≤ 1) (sym (s n)) (h.once n p);
  rise = λ p. subst (IsStrictlySortedBy label_cmp) (sym (t p)) (h.rise p);
}

no_names : IsStrictlySortedBy label_cmp []
unfolding IsStrictlySortedBy
no_names = tt

none_linked : AreLinked (λ _. []) (λ _. [])
none_linked = record { agree = λ n p. refl; once = λ n p. omega arith; rise = λ p. no_names }

-- nothing is linked
pub linked_empty : {f : Label → List Point} {g : Point → List Label} → ((n : Label) → f n ≡ []) → ((p : Point) → g p ≡ []) → AreLinked f g
linked_empty s t = linked_same {f = λ _. []} {g = λ _. []} none_linked s t

more_linked : (a c x y x' y' : Bool) → x ≡ y → (a ≡ true → x' ≡ (c || x)) → (a ≡ false → x' ≡ x) → (c ≡ true → y' ≡ (a || y)) → (c ≡ false → y' ≡ y) → x' ≡ y'
more_linked true true x y x' y' e s t u v = s refl ∙ sym (u refl)
more_linked true false x y x' y' e s t u v = s refl ∙ e ∙ sym (v refl)
more_linked false true x y x' y' e s t u v = t refl ∙ e ∙ sym (u refl)
more_linked false false x y x' y' e s t u v = t refl ∙ e ∙ sym (v refl)

-- one pass more
pub linked_more : {f f' : Label → List Point} {g g' : Point → List Label} (name : Label) (pixel : Point) (after : Option Point) → AreLinked f g
    → has_pixel (f name) pixel ≡ false → f' name ≡ linked_behind after pixel (f name) → ((n : Label) → label_eq n name ≡ false → f' n ≡ f n)
    → g' pixel ≡ with_name name (g pixel) → ((p : Point) → point_eq p pixel ≡ false → g' p ≡ g p) → AreLinked f' g'
linked_more {f} {f'} {g} {g'} name pixel after h fresh segment segments at others = record {
  agree = λ n p.
      more_linked (label_eq n name) (point_eq p pixel) (has_pixel (f n) p) (has_name (g p) n) (has_pixel (f' n) p) (has_name (g' p) n) (h.agree n p)
      (λ e. let same : n ≡ name = label_exact n name (is_equal _ e) in
      ap (λ m. has_pixel (f' m) p) same ∙ ap (λ l. has_pixel l p) segment ∙ has_linked p after pixel (f name) ∙ ap (λ m. point_eq p pixel || has_pixel (f m) p) (sym same))
      (λ e. ap (λ l. has_pixel l p) (segments n e))
      (λ e. let same : p ≡ pixel = point_exact p pixel (is_equal _ e) in
      ap (λ q. has_name (g' q) n) same ∙ ap (λ l. has_name l n) at ∙ any_in_place label_total n name (g pixel) ∙ ap (λ q. label_eq n name || has_name (g q) n) (sym same))
      (λ e. ap (λ l. has_name l n) (others p e));
  once = λ n p. once n p (label_eq n name) refl (point_eq p pixel) refl;
  rise = λ p. rise p (point_eq p pixel) refl;
}
  where
    once : (n : Label) (p : Point) (a : Bool) → label_eq n name ≡ a → (c : Bool) → point_eq p pixel ≡ c → count_by (point_eq p) (f' n) ≤ 1
    once n p false e c d = subst (λ l. count_by (point_eq p) l ≤ 1) (sym (segments n e)) (h.once n p)
    once n p true e false d =
        let same : f' n ≡ linked_behind after pixel (f name) = ap f' (label_exact n name (is_equal _ e)) ∙ segment in
        let counted : count_by (point_eq p) (linked_behind after pixel (f name)) ≡ count_by (point_eq p) (f name) =
        count_linked p after pixel (f name) ∙ ap (λ b. cond b 1 0 + count_by (point_eq p) (f name)) d ∙ omega arith in
        subst (λ l. count_by (point_eq p) l ≤ 1) (sym same) (subst (λ k. k ≤ 1) (sym counted) (h.once name p))
    once n p true e true d =
        let same : f' n ≡ linked_behind after pixel (f name) = ap f' (label_exact n name (is_equal _ e)) ∙ segment in
        let none : count_by (point_eq p) (f name) ≡ 0 =
        count_none (point_eq p) (f name) (ap (λ q. has_pixel (f name) q) (point_exact p pixel (is_equal _ d)) ∙ fresh) in
        let counted : count_by (point_eq p) (linked_behind after pixel (f name)) ≡ 1 =
        count_linked p after pixel (f name) ∙ (λ i. ap (λ b. cond b 1 0) d i + none i) in
        subst (λ l. count_by (point_eq p) l ≤ 1) (sym same) (subst (λ k. k ≤ 1) (sym counted) (omega arith))

    rise : (p : Point) (c : Bool) → point_eq p pixel ≡ c → IsStrictlySortedBy label_cmp (g' p)
    rise p true d =
        subst (IsStrictlySortedBy label_cmp) (sym (ap g' (point_exact p pixel (is_equal _ d)) ∙ at)) (rises_in_place label_total name (g pixel) (h.rise pixel))
    rise p false d = subst (IsStrictlySortedBy label_cmp) (sym (others p d)) (h.rise p)

and_true : (b : Bool) → (b && true) ≡ b
and_true true = refl
and_true false = refl

less_linked : (a c x y x' y' : Bool) → x ≡ y → (a ≡ true → x' ≡ (x && not c)) → (a ≡ false → x' ≡ x) → (c ≡ true → y' ≡ (y && not a)) → (c ≡ false → y' ≡ y) → x' ≡ y'
less_linked true true x y x' y' e s t u v = s refl ∙ ap (λ b. b && false) e ∙ sym (u refl)
less_linked true false x y x' y' e s t u v = s refl ∙ and_true x ∙ e ∙ sym (v refl)
less_linked false true x y x' y' e s t u v = t refl ∙ e ∙ sym (and_true y) ∙ sym (u refl)
less_linked false false x y x' y' e s t u v = t refl ∙ e ∙ sym (v refl)

-- one pass less
pub linked_less : {f f' : Label → List Point} {g g' : Point → List Label} (name : Label) (pixel : Point) → AreLinked f g
    → f' name ≡ filter (λ p. not (point_eq p pixel)) (f name) → ((n : Label) → label_eq n name ≡ false → f' n ≡ f n)
    → g' pixel ≡ filter (λ n. not (label_eq n name)) (g pixel) → ((p : Point) → point_eq p pixel ≡ false → g' p ≡ g p) → AreLinked f' g'
linked_less {f} {f'} {g} {g'} name pixel h segment segments at others = record {
  agree = λ n p.
      less_linked (label_eq n name) (point_eq p pixel) (has_pixel (f n) p) (has_name (g p) n) (has_pixel (f' n) p) (has_name (g' p) n) (h.agree n p)
      (λ e. let same : n ≡ name = label_exact n name (is_equal _ e) in
      ap (λ m. has_pixel (f' m) p) same ∙ ap (λ l. has_pixel l p) segment ∙ any_left point_eq point_decides p pixel (f name)
      ∙ ap (λ m. has_pixel (f m) p && not (point_eq p pixel)) (sym same))
      (λ e. ap (λ l. has_pixel l p) (segments n e))
      (λ e. let same : p ≡ pixel = point_exact p pixel (is_equal _ e) in
      ap (λ q. has_name (g' q) n) same ∙ ap (λ l. has_name l n) at ∙ any_left label_eq label_decides n name (g pixel)
      ∙ ap (λ q. has_name (g q) n && not (label_eq n name)) (sym same))
      (λ e. ap (λ l. has_name l n) (others p e));
  once = λ n p. once n p (label_eq n name) refl;
  rise = λ p. rise p (point_eq p pixel) refl;
}
  where
    once : (n : Label) (p : Point) (a : Bool) → label_eq n name ≡ a → count_by (point_eq p) (f' n) ≤ 1
    once n p true e =
        subst (λ l. count_by (point_eq p) l ≤ 1) (sym (ap f' (label_exact n name (is_equal _ e)) ∙ segment))
        (omega (arith, count_filter (point_eq p) (λ q. not (point_eq q pixel)) (f name), h.once name p))
    once n p false e = subst (λ l. count_by (point_eq p) l ≤ 1) (sym (segments n e)) (h.once n p)

    rise : (p : Point) (c : Bool) → point_eq p pixel ≡ c → IsStrictlySortedBy label_cmp (g' p)
    rise p true d =
        subst (IsStrictlySortedBy label_cmp) (sym (ap g' (point_exact p pixel (is_equal _ d)) ∙ at))
        (IsStrictlySortedBy-filter label_cmp (λ n. not (label_eq n name)) (g pixel) (h.rise pixel))
    rise p false d = subst (IsStrictlySortedBy label_cmp) (sym (others p d)) (h.rise p)
