-- Lists that run by links between keys: each key knows the key behind it, and each list knows its
-- first key. Many such lists, each with a label of its own, share the keys and are a family.
use Rattle.std.specs.Prelude.{◌≡◌, ℕ, zero, suc, ◌<◌, ◌==◌, Bool, false, cond, List, [], ◌∷◌, Option, None, Some, filter_map}
use Rattle.std.specs.List.{list_any}

-- the key that no node has: what stands behind a list's last node and before its first
abbrev pub end : ℕ
end = 4294967295

-- the keys on the way from `start`, at most n of them
unfoldable pub way : (ℕ → ℕ) → ℕ → ℕ → List ℕ
way f zero start = []
way f (suc n) start = cond (start == end) [] (start ∷ way f n (f start))

-- ks is the whole way from `start`
abbrev pub IsWay : (ℕ → ℕ) → ℕ → List ℕ → Type 0
IsWay f start [] = start ≡ end
IsWay f start (k ∷ ks) = (start ≡ k) × (k < end) × IsWay f (f k) ks

-- the key x put right behind the key p
abbrev pub key_behind : ℕ → ℕ → List ℕ → List ℕ
key_behind p x [] = x ∷ []
key_behind p x (k ∷ ks) = cond (p == k) (k ∷ x ∷ ks) (k ∷ key_behind p x ks)

-- the key stands in the list
abbrev pub has_key : List ℕ → ℕ → Bool
has_key ks k = list_any (λ j. k == j) ks

-- the label is that of q
abbrev pub is_of : {K : Type 0} → (K → K → Bool) → K → Option K → Bool
is_of same q None = false
is_of same q (Some r) = same q r

-- The list of q begins at `first q`, `f` tells the key behind a key, and `label` whose list a key is
-- in, if any. Keys with a label are below n.
pub record IsFamily {K : Type 0} (same : K → K → Bool) (f : ℕ → ℕ) (first : K → ℕ) (label : ℕ → Option K) (n : ℕ) : Type 0 where
  -- each list comes to its end
  pub whole : (q : K) → IsWay f (first q) (way f n (first q))
  -- a key stands in the list of q exactly where its label is that of q
  pub exact : (q : K) (k : ℕ) → has_key (way f n (first q)) k ≡ is_of same q (label k)
  pub below : (k : ℕ) (q : K) → label k ≡ Some q → k < n

-- the key `at` comes right behind `before` in the list of q, or first in it where there is none
abbrev pub IsPlace : {K : Type 0} → (ℕ → ℕ) → (K → ℕ) → (ℕ → Option K) → K → Option ℕ → ℕ → Type 0
IsPlace f first label q None at = first q ≡ at
IsPlace f first label q (Some before) at = (label before ≡ Some q) × (f before ≡ at)

-- the key that a link leads to; none at the end
abbrev pub key_of : ℕ → Option ℕ
key_of link = cond (link == end) None (Some link)

-- the link to a key; to the end where there is none
abbrev pub link_to : Option ℕ → ℕ
link_to None = end
link_to (Some key) = key

-- the link back of each key in a list leads to the key before it, or to the end where it is the first
abbrev pub LinksBack : {K : Type 0} → (ℕ → ℕ) → (K → ℕ) → (ℕ → Option K) → (ℕ → ℕ) → Type 0
LinksBack {K} f first label back = (k : ℕ) (q : K) → label k ≡ Some q → IsPlace f first label q (key_of (back k)) k

-- the values of the keys, in their order
abbrev pub listed : {V : Type 0} → (ℕ → Option V) → List ℕ → List V
listed v ks = filter_map v ks
