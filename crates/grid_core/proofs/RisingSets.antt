-- Rising lists as they are filled: one member more, what all members have, the images of a set, and
-- the members that pass a test.
use Rattle.std.proofs.Common.{◌≡◌, refl, ap, sym, ◌∙◌, Bool, true, false, cond, Ordering, Less, Equal, Greater}
use Rattle.std.proofs.Common.{List, [], ◌∷◌, ◌++◌, map, filter, fold}
use Rattle.std.specs.BTreeSet.{insert_key}
use Rattle.std.specs.Cmp.{IsTotalOrder}
use Rattle.std.specs.List.{All, AllByRecursion}
use Rattle.std.specs.List.Sorted.{IsStrictlySortedBy}
use Rattle.std.specs.Ordering.{match_ordering}
use Rattle.std.proofs.lemmas.List.Elements.{All-nil, All-head, All-tail}
use Rattle.std.proofs.lemmas.List.Sums.{fold_push}
use Rattle.std.proofs.lemmas.Map.Views.{All-insert_key}
use Rattle.grid_core.specs.RisingSet.{rising}
use Rattle.grid_core.proofs.Filters.{all_of_kept}
use Rattle.grid_core.proofs.RisingMembers.{sorted_inserted}
use Rattle.grid_core.proofs.SortedLists.{less_below}

-- one member more
pub rising_push : {K : Type 0} (R : K → K → Ordering) (ks : List K) (k : K)
    → rising R (ks ++ k ∷ []) ≡ insert_key R (rising R ks) k
rising_push R ks k = fold_push (insert_key R) [] ks k

-- what holds of each member of the list holds of each member of the set
pub All-rising : {K : Type 0} (R : K → K → Ordering) (P : K → Type 0) (ks : List K) → All P ks
    → All P (rising R ks)
All-rising {K} R P ks h = after [] ks (All-nil P) h
  where
    after : (acc ks : List K) → All P acc → All P ks → All P (fold (insert_key R) acc ks)
    after acc [] a h = a
    after acc (k ∷ ks) a h =
        after (insert_key R acc k) ks (All-insert_key R k P acc a (All-head P k ks h)) (All-tail P k ks h)

-- ---- images

module _ {A B : Type 0} (R : B → B → Ordering) (f : A → B) where
  insert_key-map : (x : A) (xs : List A) → insert_key R (map f xs) (f x) ≡ map f (insert_key (λ a b. R (f a) (f b)) xs x)
  insert_key-map x [] = refl
  insert_key-map x (y ∷ ys) = by (R (f x) (f y)) (insert_key-map x ys)
    where
      by : (r : Ordering) → insert_key R (map f ys) (f x) ≡ map f (insert_key (λ a b. R (f a) (f b)) ys x)
          → match_ordering r (f x ∷ f y ∷ map f ys) (f y ∷ map f ys) (f y ∷ insert_key R (map f ys) (f x))
          ≡ map f (match_ordering r (x ∷ y ∷ ys) (y ∷ ys) (y ∷ insert_key (λ a b. R (f a) (f b)) ys x))
      by Less h = refl
      by Equal h = refl
      by Greater h = ap (λ (bs : List B). f y ∷ bs) h

  -- a set of images is the image of the set in the order of the images
  pub rising-map : (xs : List A) → rising R (map f xs) ≡ map f (rising (λ a b. R (f a) (f b)) xs)
  rising-map xs = after [] xs
    where
      after : (acc xs : List A) → fold (insert_key R) (map f acc) (map f xs)
          ≡ map f (fold (insert_key (λ a b. R (f a) (f b))) acc xs)
      after acc [] = refl
      after acc (x ∷ xs) =
          ap (λ (bs : List B). fold (insert_key R) bs (map f xs)) (insert_key-map x acc)
          ∙ after (insert_key (λ a b. R (f a) (f b)) acc x) xs

-- ---- filtered

module _ {K : Type 0} {R : K → K → Ordering} (o : IsTotalOrder R) (p : K → Bool)
    (alike : (x y : K) → R x y ≡ Equal → p x ≡ p y) where
  kept : (x : K) (xs : List K) → p x ≡ true → filter p (x ∷ xs) ≡ x ∷ filter p xs
  kept x xs e = ap (λ b. cond b (x ∷ filter p xs) (filter p xs)) e

  left_out : (x : K) (xs : List K) → p x ≡ false → filter p (x ∷ xs) ≡ filter p xs
  left_out x xs e = ap (λ b. cond b (x ∷ filter p xs) (filter p xs)) e

  put_first : (k : K) (ks : List K) → AllByRecursion (λ y. R k y ≡ Less) ks → insert_key R ks k ≡ k ∷ ks
  put_first k [] h = refl
  put_first k (x ∷ xs) h = ap (λ r. match_ordering r (k ∷ x ∷ xs) (x ∷ xs) (x ∷ insert_key R xs k)) h.0

  filter_inserted : (k : K) (ks : List K) → IsStrictlySortedBy R ks
      → filter p (insert_key R ks k) ≡ cond (p k) (insert_key R (filter p ks) k) (filter p ks)
  unfolding IsStrictlySortedBy
  filter_inserted k [] s = refl
  filter_inserted k (x ∷ xs) s = by (filter_inserted k xs s.1) (R k x) refl (p k) refl (p x) refl
    where
      -- the head with a member put before it, in its place, or behind it
      put : (r : Ordering) (ys : List K) → R k x ≡ r
          → insert_key R (x ∷ ys) k ≡ match_ordering r (k ∷ x ∷ ys) (x ∷ ys) (x ∷ insert_key R ys k)
      put r ys e = ap (λ r. match_ordering r (k ∷ x ∷ ys) (x ∷ ys) (x ∷ insert_key R ys k)) e

      by : filter p (insert_key R xs k) ≡ cond (p k) (insert_key R (filter p xs) k) (filter p xs)
          → (r : Ordering) → R k x ≡ r → (b : Bool) → p k ≡ b → (c : Bool) → p x ≡ c
          → filter p (match_ordering r (k ∷ x ∷ xs) (x ∷ xs) (x ∷ insert_key R xs k))
          ≡ cond b (insert_key R (filter p (x ∷ xs)) k) (filter p (x ∷ xs))
      by rest Less e true f c g =
          kept k (x ∷ xs) f
          ∙ sym (put_first k (filter p (x ∷ xs))
          (all_of_kept (λ y. R k y ≡ Less) p (x ∷ xs) (e, less_below o k x xs e s.0)))
      by rest Less e false f c g = left_out k (x ∷ xs) f
      by rest Equal e true f c g =
          let here = kept x xs (sym (alike k x e) ∙ f) in
          here ∙ sym (ap (λ ys. insert_key R ys k) here ∙ put Equal (filter p xs) e)
      by rest Equal e false f c g = refl
      by rest Greater e true f true g =
          kept x (insert_key R xs k) g
          ∙ ap (λ ys. x ∷ ys) (rest ∙ ap (λ b. cond b (insert_key R (filter p xs) k) (filter p xs)) f)
          ∙ sym (ap (λ ys. insert_key R ys k) (kept x xs g) ∙ put Greater (filter p xs) e)
      by rest Greater e false f true g =
          kept x (insert_key R xs k) g
          ∙ ap (λ ys. x ∷ ys) (rest ∙ ap (λ b. cond b (insert_key R (filter p xs) k) (filter p xs)) f)
          ∙ sym (kept x xs g)
      by rest Greater e true f false g =
          left_out x (insert_key R xs k) g
          ∙ (rest ∙ ap (λ b. cond b (insert_key R (filter p xs) k) (filter p xs)) f)
          ∙ sym (ap (λ ys. insert_key R ys k) (left_out x xs g))
      by rest Greater e false f false g =
          left_out x (insert_key R xs k) g
          ∙ (rest ∙ ap (λ b. cond b (insert_key R (filter p xs) k) (filter p xs)) f)
          ∙ sym (left_out x xs g)

  filter_folded : (done ks : List K) → IsStrictlySortedBy R done
      → filter p (fold (insert_key R) done ks) ≡ fold (insert_key R) (filter p done) (filter p ks)
  filter_folded done [] s = refl
  filter_folded done (k ∷ ks) s =
      filter_folded (insert_key R done k) ks (sorted_inserted o k done s)
      ∙ ap (λ ys. fold (insert_key R) ys (filter p ks)) (filter_inserted k done s) ∙ by (p k)
    where
      by : (b : Bool) → fold (insert_key R) (cond b (insert_key R (filter p done) k) (filter p done)) (filter p ks)
          ≡ fold (insert_key R) (filter p done) (cond b (k ∷ filter p ks) (filter p ks))
      by true = refl
      by false = refl

  -- the members of a set that pass are the set of those that pass
  pub filter_rising : (ks : List K) → filter p (rising R ks) ≡ rising R (filter p ks)
  unfolding IsStrictlySortedBy
  filter_rising ks = filter_folded [] ks tt
