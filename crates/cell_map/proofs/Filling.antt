-- Strips as they are filled. A thing more in one strip changes what that strip has and no other; so an
-- edge that was put into the strips from its first on, up to one, changes these; and what each strip
-- has is what it has of the edges and vertices so far.
use Rattle.std.proofs.Common.{◌≡◌, refl, inl, inr, ap, sym, ◌∙◌, arith, Bool, true, false, cond, ◌&&◌, true≢false, List, [], ◌∷◌, ◌++◌, filter}
use Rattle.std.specs.Prelude.{ℤ, pos, ◌+ℤ◌, ◌≤ℤ◌, int_le, int_lt, if◌then◌else◌, Option, Some, unwrap_or, ◌⊎◌}
use Rattle.std.specs.Map.{lookup}
use Rattle.std.specs.BTreeMap.{is_at}
use Rattle.std.specs.Cmp.{both_ways}
use Rattle.std.specs.Ordering.{int_cmp, int_eq, is_eq}
use Rattle.std.proofs.lemmas.Bool.Decides.{Decides-int_eq}
use Rattle.std.proofs.lemmas.Cmp.{int_cmp_total, tied_itself}
use Rattle.std.proofs.lemmas.Int.{ints}
use Rattle.std.proofs.lemmas.List.{append-nil}
use Rattle.std.proofs.lemmas.Map.Lookups.{exact_signed}
use Rattle.grid_core.specs.declared.point.Point.{Point}
use Rattle.grid_core.specs.Edge.{EdgeEnds}
use Rattle.grid_core.proofs.Comparisons.{is_equal}
use Rattle.grid_core.proofs.Filters.{filter_joined}
use Rattle.grid_core.proofs.Signed.{same_lt_le, from_le_true, from_lt_true}
use Rattle.planar_law.specs.PlanarEdges.{Graph}
use Rattle.cell_map.specs.Strips.{Strips, strip_in, empty_strip, with_vertex, Changes, ChangesWhere}
use Rattle.edge_search.proofs.Ranges.{and_left, and_right}
use Rattle.cell_map.specs.Strips.{strip_at, lies_in_strip}

-- the strip that a query finds is the one of that number
pub one_strip : (k j : ℤ) → is_at (int_cmp k) j ≡ true → k ≡ j
one_strip k j e = exact_signed k j (is_equal (int_cmp k j) e)

-- what was found in a strip, and written back changed
pub changed : (f : Graph → Graph) (k : ℤ) (old new : Strips) (s t : Graph)
    → Some s ≡ lookup (is_at (int_cmp k)) old → t ≡ f s
    → ((j : ℤ) → lookup (is_at (int_cmp j)) new
    ≡ cond (is_at (int_cmp k) j) (Some t) (lookup (is_at (int_cmp j)) old))
    → Changes k f old new
changed f k old new s t has is h j =
    ap (λ (o : Option Graph). unwrap_or o empty_strip) (h j) ∙ by (is_at (int_cmp k) j) refl
  where
    by : (b : Bool) → is_at (int_cmp k) j ≡ b
        → unwrap_or (cond b (Some t) (lookup (is_at (int_cmp j)) old)) empty_strip
        ≡ (if b then f (strip_in old j) else strip_in old j)
    by true e =
        is ∙ ap f (ap (λ (o : Option Graph). unwrap_or o empty_strip) has ∙ ap (strip_in old) (one_strip k j e))
    by false e = refl

-- the strips from the first on up to k
abbrev pub reached : ℤ → ℤ → ℤ → Bool
reached first k j = int_le first j && int_lt j k

pub reached_here : (first k j : ℤ) → first ≤ℤ k → k ≡ j
    → (reached first k j ≡ false) × (reached first (k +ℤ pos 1) j ≡ true)
reached_here first k j h e = grind (arith, ints)

pub reached_else : (first k j : ℤ) → (k ≡ j → ⊥) → reached first (k +ℤ pos 1) j ≡ reached first k j
reached_else first k j h = grind (arith, ints)

not_here : (k j : ℤ) → is_at (int_cmp k) j ≡ false → k ≡ j → ⊥
not_here k j e same =
    true≢false (sym (ap is_eq (ap (int_cmp k) (sym same) ∙ tied_itself int_cmp_total k)) ∙ e)

-- one strip more
pub reaches_more : (f : Graph → Graph) (first k : ℤ) (a b c : Strips) → first ≤ℤ k
    → ChangesWhere (reached first k) f a b → Changes k f b c → ChangesWhere (reached first (k +ℤ pos 1)) f a c
reaches_more f first k a b c low so_far one j = one j ∙ by (is_at (int_cmp k) j) refl
  where
    by : (t : Bool) → is_at (int_cmp k) j ≡ t
        → (if t then f (strip_in b j) else strip_in b j)
        ≡ (if reached first (k +ℤ pos 1) j then f (strip_in a j) else strip_in a j)
    by true e =
        let here = reached_here first k j low (one_strip k j e) in
        ap f (so_far j ∙ ap (λ (t : Bool). if t then f (strip_in a j) else strip_in a j) here.0)
        ∙ sym (ap (λ (t : Bool). if t then f (strip_in a j) else strip_in a j) here.1)
    by false e =
        so_far j
        ∙ ap (λ (t : Bool). if t then f (strip_in a j) else strip_in a j) (sym (reached_else first k j (not_here k j e)))

-- ---- what each strip has so far

kept_push : {X : Type 0} (p : X → Bool) (xs : List X) (x : X)
    → filter p (xs ++ x ∷ []) ≡ (if p x then filter p xs ++ x ∷ [] else filter p xs)
kept_push p xs x = filter_joined p xs (x ∷ []) ∙ by (p x)
  where
    by : (b : Bool) → filter p xs ++ cond b (x ∷ []) [] ≡ (if b then filter p xs ++ x ∷ [] else filter p xs)
    by true = refl
    by false = append-nil (filter p xs)

pub same_test : (x y : ℤ) → is_at (int_cmp x) y ≡ int_eq x y
same_test x y =
    both_ways (is_at (int_cmp x) y) (int_eq x y)
    (λ e. (Decides-int_eq x y).1 (one_strip x y e))
    (λ e. ap is_eq (ap (int_cmp x) (sym ((Decides-int_eq x y).0 e)) ∙ tied_itself int_cmp_total x))

pub vertex_more : (es : List EdgeEnds) (vs : List Point) (h : Point) (j : ℤ) (old new : Graph)
    → old ≡ record { edges = es; vertices = filter (lies_in_strip j) vs }
    → new ≡ (if is_at (int_cmp (strip_at h.x)) j then with_vertex h old else old)
    → new ≡ record { edges = es; vertices = filter (lies_in_strip j) (vs ++ h ∷ []) }
vertex_more es vs h j old new is step =
    step ∙ ap (λ s. if is_at (int_cmp (strip_at h.x)) j then with_vertex h s else s) is
    ∙ ap (λ t. if t then with_vertex h (record { edges = es; vertices = filter (lies_in_strip j) vs })
    else record { edges = es; vertices = filter (lies_in_strip j) vs }) (same_test (strip_at h.x) j)
    ∙ by (lies_in_strip j h)
    ∙ (λ i. record { edges = es; vertices = sym (kept_push (lies_in_strip j) vs h) i })
  where
    by : (b : Bool)
        → (if b then with_vertex h (record { edges = es; vertices = filter (lies_in_strip j) vs })
        else record { edges = es; vertices = filter (lies_in_strip j) vs })
        ≡ record {
          edges = es;
          vertices = if b then filter (lies_in_strip j) vs ++ h ∷ [] else filter (lies_in_strip j) vs;
        }
    by true = refl
    by false = refl

-- the strips up to the last are all
pub reached_all : (first last k j : ℤ) → (last +ℤ pos 1) ≤ℤ k → (k ≤ℤ (last +ℤ pos 1)) ⊎ (k ≡ first)
    → reached first k j ≡ (int_le first j && int_le j last)
reached_all first last k j past (inl e) =
    ap (λ t. int_le first j && t)
    (same_lt_le j k j last (λ l. omega (arith, ints, l, e)) (λ l. omega (arith, ints, l, past)))
reached_all first last k j past (inr e) =
    both_ways (reached first k j) (int_le first j && int_le j last)
    (λ t.
    let low = from_le_true first j (and_left (int_le first j) (int_lt j k) t) in
    let high = from_lt_true j k (and_right (int_le first j) (int_lt j k) t) in
    absurd (omega (arith, ints)))
    (λ t.
    let low = from_le_true first j (and_left (int_le first j) (int_le j last) t) in
    let high = from_le_true j last (and_right (int_le first j) (int_le j last) t) in
    absurd (omega (arith, ints)))
