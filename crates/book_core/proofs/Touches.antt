-- The number of the last change that touches a tile, counted from the front: what later changes have
-- counts, and the first one only where none of them touches the tile.
use Rattle.std.proofs.Common.{◌≡◌, refl, sym, ap, ◌∙◌, ℕ, zero, suc, ◌+◌, ◌<◌, ◌≤◌, ◌⊎◌, inl, inr, arith, Bool, true, false, List, [], ◌∷◌, ◌++◌, drop, length, filter, Option, Some, None}
use Rattle.std.specs.Prelude.{map, unwrap_or, if◌then◌else◌}
use Rattle.std.specs.List.{enumerate_from, last_or}
use Rattle.grid_core.specs.declared.tile.TileId.{TileId}
use Rattle.grid_core.specs.Profile.{Sizes}
use Rattle.version_core.specs.Edits.{Changes}
use Rattle.version_core.specs.History.{touches, last_touch}

-- the first number, unless it is 0: then the second
abbrev pub or_else : ℕ → ℕ → ℕ
or_else zero m = m
or_else (suc n) m = suc n

-- k where the test holds, else 0
abbrev pub number_if : Bool → ℕ → ℕ
number_if true k = k
number_if false k = 0

-- the number of the last of these changes that touches the tile, 0 if none does; the first of them is
-- number k
abbrev pub last_from : Sizes → ℕ → List Changes → TileId → ℕ
last_from pr k [] t = 0
last_from pr k (y ∷ g) t = or_else (last_from pr (k + 1) g t) (number_if (touches pr t y) k)

-- ---- numbers

or_else_twice : (a k m : ℕ) → 0 < k → or_else (or_else a k) m ≡ or_else a k
or_else_twice zero zero m some = absurd (omega (arith, some))
or_else_twice zero (suc k) m some = refl
or_else_twice (suc a) k m some = refl

or_else_assoc : (a b c : ℕ) → or_else (or_else a b) c ≡ or_else a (or_else b c)
or_else_assoc zero b c = refl
or_else_assoc (suc a) b c = refl

pub or_else_zero : (a : ℕ) → or_else a 0 ≡ a
or_else_zero zero = refl
or_else_zero (suc a) = refl

number_small : (b : Bool) (k : ℕ) → number_if b k ≤ k
number_small true k = omega arith
number_small false k = omega arith

pub or_else_more : (a c : ℕ) → a ≤ or_else a c
or_else_more zero c = omega arith
or_else_more (suc a) c = omega arith

or_else_great : (r c k m : ℕ) → c ≤ k → k < m → m ≤ or_else r c → or_else r c ≡ r
or_else_great zero c k m small less most = absurd (omega (arith, small, less, most))
or_else_great (suc r) c k m small less most = refl

or_else_less : (r c m : ℕ) → 0 < m → or_else r c < m → r < m
or_else_less zero c m some h = some
or_else_less (suc r) c m some h = h

-- ---- from the front, and as it is defined

last_of : (pr : Sizes) (t : TileId) (k : ℕ) → 0 < k → (g : List Changes) (o : Option ℕ)
    → unwrap_or (last_or o (map (λ x. x.0) (filter (λ x. touches pr t x.1) (enumerate_from k g)))) 0
    ≡ or_else (last_from pr k g t) (unwrap_or o 0)
last_of pr t k some [] o = refl
last_of pr t k some (y ∷ g) o = by (last_of pr t (k + 1) (omega (arith, some)) g) (touches pr t y)
  where
    rest : List (ℕ × Changes)
    rest = filter (λ x. touches pr t x.1) (enumerate_from (k + 1) g)

    by : ((p : Option ℕ) → unwrap_or (last_or p (map (λ x. x.0) rest)) 0 ≡ or_else (last_from pr (k + 1) g t) (unwrap_or p 0))
        → (b : Bool)
        → unwrap_or (last_or o (map (λ x. x.0) (if b then (k, y) ∷ rest else rest))) 0
        ≡ or_else (or_else (last_from pr (k + 1) g t) (number_if b k)) (unwrap_or o 0)
    by ih true = ih (Some k) ∙ sym (or_else_twice (last_from pr (k + 1) g t) k (unwrap_or o 0) some)
    by ih false = ih o ∙ ap (λ a. or_else a (unwrap_or o 0)) (sym (or_else_zero (last_from pr (k + 1) g t)))

pub last_touch_from : (pr : Sizes) (h : List Changes) (t : TileId) → last_touch pr h t ≡ last_from pr 1 h t
last_touch_from pr h t = last_of pr t 1 (omega arith) h None ∙ or_else_zero (last_from pr 1 h t)

-- ---- what it can be

-- 0, or at least the number of the first change
pub from_low : (pr : Sizes) (k : ℕ) (g : List Changes) (t : TileId) → (last_from pr k g t ≡ 0) ⊎ (k ≤ last_from pr k g t)
from_low pr k [] t = inl refl
from_low pr k (y ∷ g) t = by (last_from pr (k + 1) g t) (from_low pr (k + 1) g t) (touches pr t y)
  where
    by : (r : ℕ) → (r ≡ 0) ⊎ (k + 1 ≤ r) → (b : Bool) → (or_else r (number_if b k) ≡ 0) ⊎ (k ≤ or_else r (number_if b k))
    by zero low true = inr (omega arith)
    by zero low false = inl refl
    by (suc r) low b = elim low [ inl none ↦ absurd (omega (arith, none)) | inr some ↦ inr (omega (arith, some)) ]

-- ---- the changes after the first b

-- what is touched later on has the same number there
pub last_kept : (pr : Sizes) (t : TileId) (b k m : ℕ) (h : List Changes) → m ≡ k + b → m ≤ last_from pr k h t
    → last_from pr m (drop b h) t ≡ last_from pr k h t
last_kept pr t zero k m h at most = ap (λ i. last_from pr i h t) (omega (arith, at))
last_kept pr t (suc b) k m [] at most = refl
last_kept pr t (suc b) k m (y ∷ h) at most =
    let own = or_else_great (last_from pr (k + 1) h t) (number_if (touches pr t y) k) k m (number_small (touches pr t y) k) (omega (arith, at)) most in
    last_kept pr t b (k + 1) m h (omega (arith, at)) (omega (arith, own, most)) ∙ sym own

-- what isn't has none there
pub last_gone : (pr : Sizes) (t : TileId) (b k m : ℕ) (h : List Changes) → 0 < k → m ≡ k + b → last_from pr k h t < m
    → last_from pr m (drop b h) t ≡ 0
last_gone pr t zero k m h some at less =
    elim (from_low pr k h t) [
      | inl none ↦ ap (λ i. last_from pr i h t) (omega (arith, at)) ∙ none
      | inr more ↦ absurd (omega (arith, more, less, at))
    ]
last_gone pr t (suc b) k m [] some at less = refl
last_gone pr t (suc b) k m (y ∷ h) some at less =
    last_gone pr t b (k + 1) m h (omega (arith, some)) (omega (arith, at))
    (or_else_less (last_from pr (k + 1) h t) (number_if (touches pr t y) k) m (omega (arith, some, at)) less)

-- ---- one change more

last_more : (pr : Sizes) (t : TileId) (x : Changes) (k m : ℕ) (h : List Changes) → m ≡ k + length h
    → last_from pr k (h ++ x ∷ []) t ≡ or_else (number_if (touches pr t x) m) (last_from pr k h t)
last_more pr t x k m [] at =
    ap (number_if (touches pr t x)) (omega (arith, at)) ∙ sym (or_else_zero (number_if (touches pr t x) m))
last_more pr t x k m (y ∷ h) at =
    ap (λ r. or_else r (number_if (touches pr t y) k)) (last_more pr t x (k + 1) m h (omega (arith, at)))
    ∙ or_else_assoc (number_if (touches pr t x) m) (last_from pr (k + 1) h t) (number_if (touches pr t y) k)

-- a tile that the new change touches has its number
pub last_touched : (pr : Sizes) (h : List Changes) (x : Changes) (t : TileId) → touches pr t x ≡ true
    → last_touch pr (h ++ x ∷ []) t ≡ length h + 1
last_touched pr h x t own =
    last_touch_from pr (h ++ x ∷ []) t
    ∙ last_more pr t x 1 (suc (length h)) h (omega arith)
    ∙ ap (λ b. or_else (number_if b (suc (length h))) (last_from pr 1 h t)) own
    ∙ omega arith

-- each other tile has the number that it had
pub last_untouched : (pr : Sizes) (h : List Changes) (x : Changes) (t : TileId) → touches pr t x ≡ false
    → last_touch pr (h ++ x ∷ []) t ≡ last_touch pr h t
last_untouched pr h x t own =
    last_touch_from pr (h ++ x ∷ []) t
    ∙ last_more pr t x 1 (suc (length h)) h (omega arith)
    ∙ ap (λ b. or_else (number_if b (suc (length h))) (last_from pr 1 h t)) own
    ∙ sym (last_touch_from pr h t)
