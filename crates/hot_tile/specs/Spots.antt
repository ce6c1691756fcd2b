-- Hot pixels of a tile by key, with their counts.
use Rattle.std.specs.Prelude.{◌≤◌, ◌==◌, ℕ, ◌+◌, ◌-◌, Bool, not, ◌&&◌, if◌then◌else◌, List, [], ◌∷◌}
use Rattle.std.specs.Prelude.{map, filter, fold, sum_by}
use Rattle.std.specs.List.{list_any}
use Rattle.std.specs.Ordering.{nat_cmp, match_ordering}
use Rattle.hot_tile.specs.declared.spots.Spot.{Spot}

-- the keys
abbrev pub keys : List Spot → List ℕ
keys xs = map (λ x. x.key) xs

-- neither count is greater than these
pub record IsSmall (n m : ℕ) (x : Spot) : Type 0 where
  pub ends : x.ends ≤ n
  pub crossings : x.crossings ≤ m

-- both counts of each
abbrev pub both : Spot → Spot → Spot
both x y = record { key = x.key; ends = x.ends + y.ends; crossings = x.crossings + y.crossings }

-- spots in order of key with one counted more: put in its place, or added to the one of its key
unfoldable pub counted : List Spot → Spot → List Spot
counted [] y = y ∷ []
counted (x ∷ xs) y = match_ordering (nat_cmp y.key x.key) (y ∷ x ∷ xs) (both x y ∷ xs) (x ∷ counted xs y)

-- spots in order of key with others counted more
abbrev pub merged : List Spot → List Spot → List Spot
merged xs ys = fold counted xs ys

-- the key is one of these
abbrev pub has_key : List ℕ → ℕ → Bool
has_key ks k = list_any (λ j. j == k) ks

-- the keys of the others that none of the spots has
abbrev pub fresh_keys : List Spot → List Spot → List ℕ
fresh_keys xs ys = filter (λ k. not (has_key (keys xs) k)) (keys ys)

-- how many ends and crossings are counted at a key
abbrev pub ends_counted : List Spot → ℕ → ℕ
ends_counted xs k = sum_by (λ x. if x.key == k then x.ends else 0) xs

abbrev pub crossings_counted : List Spot → ℕ → ℕ
crossings_counted xs k = sum_by (λ x. if x.key == k then x.crossings else 0) xs

-- what is left of a spot once the counts of others are taken away
abbrev pub less : List Spot → Spot → Spot
less ys x =
    record {
      key = x.key;
      ends = x.ends - ends_counted ys x.key;
      crossings = x.crossings - crossings_counted ys x.key;
    }

-- nothing is counted
abbrev pub is_cold : Spot → Bool
is_cold x = x.ends == 0 && x.crossings == 0

-- what is left of the spots once the counts of others are taken away
abbrev pub cooled : List Spot → List Spot → List Spot
cooled xs ys = filter (λ x. not (is_cold x)) (map (less ys) xs)

-- the keys of those of which nothing is left
abbrev pub cold_keys : List Spot → List Spot → List ℕ
cold_keys xs ys = keys (filter is_cold (map (less ys) xs))
