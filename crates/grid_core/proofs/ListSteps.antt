-- Steps of loops over lists: a push of what a test finds, and a part that ends where the list ends.
use Rattle.std.proofs.Common.{◌≡◌, ap, sym, ◌∙◌, ℕ, ◌+◌, ◌-◌, ◌<◌, List, [], ◌∷◌, ◌++◌, length, take, drop}
use Rattle.std.proofs.Common.{get_or, append_assoc, arith, length-drop}
use Rattle.std.specs.Prelude.{Option, Some, None, filter_map}
use Rattle.std.specs.List.{cons_option}
use Rattle.std.proofs.lemmas.List.{append-nil, take_more, take_all}
use Rattle.std.proofs.lemmas.List.Elements.{filter_map-append}

module _ {A B : Type 0} (f : A → Option B) (base : List B) (xs : List A) (i : ℕ) (x : A) where
  one_more : i < length xs → x ≡ get_or xs i x
      → filter_map f (take (i + 1) xs) ≡ filter_map f (take i xs) ++ filter_map f (x ∷ [])
  one_more h e =
      ap (filter_map f) (take_more xs i x h ∙ ap (λ (y : A). take i xs ++ y ∷ []) (sym e))
      ∙ filter_map-append f (take i xs) (x ∷ [])

  -- what is found is appended
  pub found_some : (y : B) → i < length xs → x ≡ get_or xs i x → Some y ≡ f x
      → (base ++ filter_map f (take i xs)) ++ y ∷ [] ≡ base ++ filter_map f (take (i + 1) xs)
  found_some y h e s =
      append_assoc base (filter_map f (take i xs)) (y ∷ [])
      ∙ ap (λ (ys : List B). base ++ ys)
      (ap (λ (o : Option B). filter_map f (take i xs) ++ cons_option o []) s ∙ sym (one_more h e))

  -- where nothing is found nothing is appended
  pub found_none : i < length xs → x ≡ get_or xs i x → None ≡ f x
      → base ++ filter_map f (take i xs) ≡ base ++ filter_map f (take (i + 1) xs)
  found_none h e s =
      ap (λ (ys : List B). base ++ ys)
      (sym (append-nil (filter_map f (take i xs)))
      ∙ ap (λ (o : Option B). filter_map f (take i xs) ++ cons_option o []) s
      ∙ sym (one_more h e))

-- a part that ends where the list ends
pub drop_whole : {A : Type 0} (i : ℕ) (xs : List A) → take (length xs - i) (drop i xs) ≡ drop i xs
drop_whole i xs = take_all (length xs - i) (drop i xs) (omega (arith, length-drop i xs))
