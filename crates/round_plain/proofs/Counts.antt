-- The counts of hot pixels, one end or crossing after another.
use Rattle.std.proofs.Common.{◌≡◌, refl, ap, sym, ◌∙◌, ℕ, ◌+◌, Ordering, List, [], ◌∷◌, ◌++◌, map, Bool, true, false, cond, ◌||◌, append_assoc, arith, ◌<◌, ◌≤◌, length, take, get_or}
use Rattle.std.specs.Prelude.{pos, Option, Some, None, unwrap_or, count_by}
use Rattle.std.specs.Ordering.{is_eq}
use Rattle.std.specs.List.{All, list_any}
use Rattle.std.proofs.lemmas.List.Elements.{All-append, All-map}
use Rattle.std.specs.Map.{lookup, values_of}
use Rattle.std.specs.BTreeMap.{is_at, insert_entry}
use Rattle.std.proofs.lemmas.Cmp.{eq_by_cmp_equiv}
use Rattle.std.proofs.lemmas.List.{append-nil, take_more}
use Rattle.std.proofs.lemmas.List.Sums.{sum_by_push, count_by-le-length}
use Rattle.grid_core.specs.declared.point.Point.{Point}
use Rattle.grid_core.specs.declared.point.Vertex.{Vertex}
use Rattle.grid_core.specs.Vector.{point_cmp, point_eq}
use Rattle.grid_core.specs.RisingSet.{rising}
use Rattle.grid_core.proofs.Order.{point_total, point_exact, point_same}
use Rattle.round_plain.specs.HotPixels.{tally, no_tally, tallies}
use Rattle.grid_core.proofs.RisingMembers.{sorted_rising, any_rising}
use Rattle.grid_core.proofs.Filters.{count_none}
use Rattle.grid_core.proofs.RisingSets.{rising_push, All-rising}
use Rattle.grid_core.proofs.Tables.{table, lookup-table, insert_entry-table}

-- the map from the pixels of both lists to their counts
abbrev pub counts : List Point → List Point → List (Point × Vertex)
counts es cs = table (tally es cs) (rising point_cmp (es ++ cs))

list_any-front : {X : Type 0} (p : X → Bool) (xs ys : List X) → list_any p (xs ++ ys) ≡ false
    → list_any p xs ≡ false
list_any-front p [] ys h = refl
list_any-front p (x ∷ xs) ys h = by (list_any-front p xs ys) (p x) h
  where
    by : (list_any p (xs ++ ys) ≡ false → list_any p xs ≡ false) → (b : Bool)
        → (b || list_any p (xs ++ ys)) ≡ false → (b || list_any p xs) ≡ false
    by ih true h = h
    by ih false h = ih h

list_any-back : {X : Type 0} (p : X → Bool) (xs ys : List X) → list_any p (xs ++ ys) ≡ false
    → list_any p ys ≡ false
list_any-back p [] ys h = h
list_any-back p (x ∷ xs) ys h = by (list_any-back p xs ys) (p x) h
  where
    by : (list_any p (xs ++ ys) ≡ false → list_any p ys ≡ false) → (b : Bool)
        → (b || list_any p (xs ++ ys)) ≡ false → list_any p ys ≡ false
    by ih true h = cc
    by ih false h = ih h

-- what the map has at h, and nothing counted where it has nothing, is what was counted at h
pub found-counts : (es cs : List Point) (h : Point)
    → unwrap_or (lookup (is_at (point_cmp h)) (counts es cs)) (no_tally h) ≡ tally es cs h
found-counts es cs h =
    ap (λ (v : Option Vertex). unwrap_or v (no_tally h))
    (lookup-table point_total point_exact (tally es cs) h (rising point_cmp (es ++ cs)))
    ∙ by (list_any (point_eq h) (rising point_cmp (es ++ cs))) refl
  where
    by : (b : Bool) → list_any (point_eq h) (rising point_cmp (es ++ cs)) ≡ b
        → unwrap_or (cond b (Some (tally es cs h)) None) (no_tally h) ≡ tally es cs h
    by true e = refl
    by false e =
        let none = sym (any_rising point_total h (es ++ cs)) ∙ e in
        λ i. record {
          at = h;
          ends = sym (count_none (point_eq h) es (list_any-front (point_eq h) es cs none)) i;
          crossings = sym (count_none (point_eq h) cs (list_any-back (point_eq h) es cs none)) i;
        }

-- one more at h counts at h
count_here : (xs : List Point) (h : Point)
    → count_by (point_eq h) (xs ++ h ∷ []) ≡ count_by (point_eq h) xs + 1
count_here xs h =
    sum_by_push (λ q. cond (point_eq h q) 1 0) xs h
    ∙ ap (λ (o : Ordering). count_by (point_eq h) xs + cond (is_eq o) 1 0) (point_same h h refl)

-- one more at h counts at no other pixel
count_elsewhere : (xs : List Point) (h q : Point) → is_eq (point_cmp h q) ≡ false
    → count_by (point_eq q) xs ≡ count_by (point_eq q) (xs ++ h ∷ [])
count_elsewhere xs h q e =
    sym (sum_by_push (λ g. cond (point_eq q g) 1 0) xs h
    ∙ ap (λ (b : Bool). count_by (point_eq q) xs + cond b 1 0)
    ((eq_by_cmp_equiv point_total).symm q h ∙ e)
    ∙ omega arith)

-- the map with one end more
pub end_more : (es : List Point) (h : Point)
    → insert_entry point_cmp (counts es []) h
    (record { at = h; ends = count_by (point_eq h) es + 1; crossings = 0 })
    ≡ counts (es ++ h ∷ []) []
end_more es h =
    ap (λ (v : Vertex). insert_entry point_cmp (counts es []) h v)
    (λ i. record { at = h; ends = sym (count_here es h) i; crossings = 0 })
    ∙ insert_entry-table point_total point_exact (tally es []) (tally (es ++ h ∷ []) []) h
    (λ q e. λ i. record { at = q; ends = count_elsewhere es h q e i; crossings = 0 })
    (rising point_cmp (es ++ [])) (sorted_rising point_total (es ++ []))
    ∙ ap (table (tally (es ++ h ∷ []) [])) (sym (rising_push point_cmp (es ++ []) h)
    ∙ ap (rising point_cmp) same)
  where
    same : (es ++ []) ++ h ∷ [] ≡ (es ++ h ∷ []) ++ []
    same = ap (λ xs. xs ++ h ∷ []) (append-nil es) ∙ sym (append-nil (es ++ h ∷ []))

-- the map with one crossing more
pub crossing_more : (es cs : List Point) (h : Point)
    → insert_entry point_cmp (counts es cs) h
    (record {
      at = h;
      ends = count_by (point_eq h) es;
      crossings = count_by (point_eq h) cs + 1;
    })
    ≡ counts es (cs ++ h ∷ [])
crossing_more es cs h =
    ap (λ (v : Vertex). insert_entry point_cmp (counts es cs) h v)
    (λ i. record { at = h; ends = count_by (point_eq h) es; crossings = sym (count_here cs h) i })
    ∙ insert_entry-table point_total point_exact (tally es cs) (tally es (cs ++ h ∷ [])) h
    (λ q e. λ i. record {
      at = q;
      ends = count_by (point_eq q) es;
      crossings = count_elsewhere cs h q e i;
    }) (rising point_cmp (es ++ cs))
    (sorted_rising point_total (es ++ cs))
    ∙ ap (table (tally es (cs ++ h ∷ []))) (sym (rising_push point_cmp (es ++ cs) h)
    ∙ ap (rising point_cmp) (append_assoc es cs (h ∷ [])))

values_of-table : {K X : Type 0} (f : K → X) (ks : List K) → values_of (table f ks) ≡ map f ks
values_of-table f [] = refl
values_of-table f (k ∷ ks) = ap (λ xs. f k ∷ xs) (values_of-table f ks)

-- the counts in the order of the pixels
pub values_of-counts : (es cs : List Point) → values_of (counts es cs) ≡ tallies es cs
values_of-counts es cs = values_of-table (tally es cs) (rising point_cmp (es ++ cs))

-- what a read past the end of a list of points would give
abbrev pub origin : Point
origin = record { x = pos 0; y = pos 0 }

-- what is read from a map of counts
pub read-counts : (m : List (Point × Vertex)) (es cs : List Point) (h : Point) (r : Vertex)
    → m ≡ counts es cs
    → r ≡ unwrap_or (lookup (is_at (point_cmp h)) m) (no_tally h) → r ≡ tally es cs h
read-counts m es cs h r inv e =
    e ∙ ap (λ (es : List (Point × Vertex)). unwrap_or (lookup (is_at (point_cmp h)) es)
    (no_tally h)) inv ∙ found-counts es cs h

-- no more ends are counted than there are
pub ends-few : (es cs : List Point) (h : Point) (r : Vertex) → r ≡ tally es cs h
    → r.ends ≤ length es
ends-few es cs h r e = omega (
  arith,
  ap (λ (v : Vertex). v.ends) e,
  count_by-le-length (point_eq h) es,
)

-- no more crossings are counted than there are
pub crossings-few : (es cs : List Point) (h : Point) (r : Vertex) → r ≡ tally es cs h
    → r.crossings ≤ length cs
crossings-few es cs h r e = omega (
  arith,
  ap (λ (v : Vertex). v.crossings) e,
  count_by-le-length (point_eq h) cs,
)

-- the step of the loop over the ends
pub end_counted : (m n : List (Point × Vertex)) (ends : List Point) (i : ℕ) (r : Vertex)
    → i < length ends → m ≡ counts (take i ends) []
    → r ≡ tally (take i ends) [] (get_or ends i origin)
    → n ≡ insert_entry point_cmp m (get_or ends i origin)
    (record { at = r.at; ends = r.ends + 1; crossings = r.crossings })
    → n ≡ counts (take (i + 1) ends) []
end_counted m n ends i r lt inv e put =
    put
    ∙ (λ j. insert_entry point_cmp (inv j) (get_or ends i origin)
    (record { at = (e j).at; ends = (e j).ends + 1; crossings = (e j).crossings }))
    ∙ end_more (take i ends) (get_or ends i origin)
    ∙ ap (λ (es : List Point). counts es []) (sym (take_more ends i origin lt))

-- the step of the loop over the crossings
pub crossing_counted : (m n : List (Point × Vertex)) (es crossings : List Point) (i : ℕ)
    (r : Vertex) → i < length crossings
    → m ≡ counts es (take i crossings) → r ≡ tally es (take i crossings) (get_or crossings i origin)
    → n ≡ insert_entry point_cmp m (get_or crossings i origin)
    (record { at = r.at; ends = r.ends; crossings = r.crossings + 1 })
    → n ≡ counts es (take (i + 1) crossings)
crossing_counted m n es crossings i r lt inv e put =
    put
    ∙ (λ j. insert_entry point_cmp (inv j) (get_or crossings i origin)
    (record { at = (e j).at; ends = (e j).ends; crossings = (e j).crossings + 1 }))
    ∙ crossing_more es (take i crossings) (get_or crossings i origin)
    ∙ ap (counts es) (sym (take_more crossings i origin lt))

-- what holds of each pixel of the two lists holds of each pixel with counts
pub All-tallies : (P : Point → Type 0) (es cs : List Point) → All P es → All P cs
    → All (λ v. P v.at) (tallies es cs)
All-tallies P es cs e c =
    All-map (λ (v : Vertex). P v.at) (tally es cs) (rising point_cmp (es ++ cs))
    (All-rising point_cmp P (es ++ cs) (All-append P es cs e c))
