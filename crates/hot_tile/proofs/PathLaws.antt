-- The passes of the segments between two indices, one segment more; rows that stay in order, and rows
-- that stay as they are.
use Rattle.std.proofs.Common.{◌≡◌, ap, sym, ◌∙◌, ℕ, ◌+◌, ◌-◌, ◌<◌, ◌≤◌, arith, List, [], ◌∷◌, ◌++◌, map, length, get_or, take, drop, fold, append_assoc}
use Rattle.std.specs.List.{filter}
use Rattle.std.specs.List.Sorted.{IsStrictlySortedBy}
use Rattle.std.specs.Ordering.{nat_cmp}
use Rattle.std.specs.BTreeSet.{insert_key}
use Rattle.std.proofs.Math.Seq.{take-add}
use Rattle.std.proofs.lemmas.Cmp.{nat_cmp_total}
use Rattle.std.proofs.lemmas.List.{append-nil, map-append, map_more, get_or-drop, length-drop, drop-drop, take_all, take-append-drop}
use Rattle.std.proofs.lemmas.List.Elements.{filter-append}
use Rattle.grid_core.specs.Segment.{Segment}
use Rattle.grid_core.proofs.RisingMembers.{sorted_inserted}
use Rattle.hot_tile.specs.Frame.{TileFrame, step_of}
use Rattle.hot_tile.specs.Steps.{meets_key, grown_row, thinned_row}
use Rattle.hot_tile.specs.Tile.{TileContent, frame_of, path_in}
use Rattle.hot_tile.specs.Paths.{grown_path, thinned_path}
use Rattle.hot_tile.proofs.CoolLaws.{none_gone}

-- a row with steps put in stays in order
pub folded_rises : (xs ys : List ℕ) → IsStrictlySortedBy nat_cmp xs → IsStrictlySortedBy nat_cmp (fold (insert_key nat_cmp) xs ys)
folded_rises xs [] s = s
folded_rises xs (y ∷ ys) s = folded_rises (insert_key nat_cmp xs y) ys (sorted_inserted nat_cmp_total y xs s)

pub none_rises : IsStrictlySortedBy nat_cmp []
unfolding IsStrictlySortedBy
none_rises = tt

-- ---- the segments between two indices

module _ (g : Segment → List ℕ) (ss : List Segment) where
  part_more : (from i : ℕ) (d : Segment) → from ≤ i → i < length ss
      → map g (take (i + 1 - from) (drop from ss)) ≡ map g (take (i - from) (drop from ss)) ++ g (get_or ss i d) ∷ []
  part_more from i d le lt =
      let within : i - from < length (drop from ss) = omega (arith, le, lt, length-drop from ss) in
      let more : i + 1 - from ≡ (i - from) + 1 = omega (arith, le) in
      let there : from + (i - from) ≡ i = omega (arith, le) in
      ap (λ n. map g (take n (drop from ss))) more ∙ map_more g (drop from ss) (i - from) d within
      ∙ ap (λ y. map g (take (i - from) (drop from ss)) ++ g y ∷ []) (get_or-drop from ss (i - from) d ∙ ap (λ n. get_or ss n d) there)

  part_joined : (from kept i : ℕ) → from ≤ kept → kept ≤ i
      → map g (take (kept - from) (drop from ss)) ++ map g (take (i - kept) (drop kept ss)) ≡ map g (take (i - from) (drop from ss))
  part_joined from kept i le past =
      let whole : i - from ≡ (kept - from) + (i - kept) = omega (arith, le, past) in
      let there : from + (kept - from) ≡ kept = omega (arith, le) in
      sym (ap (λ n. map g (take n (drop from ss))) whole
      ∙ ap (map g) (take-add (kept - from) (i - kept) (drop from ss))
      ∙ map-append g (take (kept - from) (drop from ss)) (take (i - kept) (drop (kept - from) (drop from ss)))
      ∙ ap (λ us. map g (take (kept - from) (drop from ss)) ++ map g (take (i - kept) us))
      (drop-drop (kept - from) from ss ∙ ap (λ n. drop n ss) there))

  -- one segment more
  pub between_more : (from i : ℕ) (d : Segment) (base rows : List (List ℕ)) (x : List ℕ)
      → from ≤ i → i < length ss → rows ≡ base ++ map g (take (i - from) (drop from ss)) → x ≡ g (get_or ss i d)
      → rows ++ x ∷ [] ≡ base ++ map g (take (i + 1 - from) (drop from ss))
  between_more from i d base rows x le lt inv e =
      (λ k. inv k ++ e k ∷ [])
      ∙ append_assoc base (map g (take (i - from) (drop from ss))) (g (get_or ss i d) ∷ [])
      ∙ ap (λ ys. base ++ ys) (sym (part_more from i d le lt))

-- what g makes of the segments from `from` on is written up to `kept`; from there to i it makes what h makes
pub record IsKeeping (g h : Segment → List ℕ) (ss : List Segment) (from kept i : ℕ) (base rows : List (List ℕ)) : Type 0 where
  pub order : from ≤ kept
  pub past : kept ≤ i
  pub so_far : rows ≡ base ++ map g (take (kept - from) (drop from ss))
  pub same : map h (take (i - kept) (drop kept ss)) ≡ map g (take (i - kept) (drop kept ss))

none_same : (g h : Segment → List ℕ) (ss : List Segment) (i : ℕ) → map h (take (i - i) (drop i ss)) ≡ map g (take (i - i) (drop i ss))
none_same g h ss i =
    let none : i - i ≡ 0 = omega arith in
    ap (λ n. map h (take n (drop i ss))) none ∙ sym (ap (λ n. map g (take n (drop i ss))) none)

pub keeping_none : (g h : Segment → List ℕ) (ss : List Segment) (from : ℕ) (base : List (List ℕ)) → IsKeeping g h ss from from from base base
keeping_none g h ss from base =
    let none : from - from ≡ 0 = omega arith in
    record {
      order = omega arith;
      past = omega arith;
      so_far = sym (ap (λ n. base ++ map g (take n (drop from ss))) none ∙ append-nil base);
      same = none_same g h ss from;
    }

module _ {g h : Segment → List ℕ} {ss : List Segment} {from kept i : ℕ} {base rows : List (List ℕ)}
    (m : IsKeeping g h ss from kept i base rows) where
  -- one segment more of which both make the same
  pub keeps_one : (d : Segment) → i < length ss → h (get_or ss i d) ≡ g (get_or ss i d) → IsKeeping g h ss from kept (i + 1) base rows
  keeps_one d lt e =
      record {
        order = m.order;
        past = omega (arith, m.past);
        so_far = m.so_far;
        same = part_more h ss kept i d m.past lt ∙ (λ k. m.same k ++ e k ∷ []) ∙ sym (part_more g ss kept i d m.past lt);
      }

  -- what h makes is written
  pub keeps_run : (more : List (List ℕ)) → more ≡ rows ++ map h (take (i - kept) (drop kept ss))
      → more ≡ base ++ map g (take (i - from) (drop from ss))
  keeps_run more e =
      e ∙ (λ k. m.so_far k ++ m.same k)
      ∙ append_assoc base (map g (take (kept - from) (drop from ss))) (map g (take (i - kept) (drop kept ss)))
      ∙ ap (λ us. base ++ us) (part_joined g ss from kept i m.order m.past)

  -- and then what g makes of one segment more
  pub writes_one : (d : Segment) (more : List (List ℕ)) (x : List ℕ) → i < length ss
      → more ≡ rows ++ map h (take (i - kept) (drop kept ss)) → x ≡ g (get_or ss i d)
      → IsKeeping g h ss from (i + 1) (i + 1) base (more ++ x ∷ [])
  writes_one d more x lt e e' =
      record {
        order = omega (arith, m.order, m.past);
        past = omega arith;
        so_far = between_more g ss from i d base more x (omega (arith, m.order, m.past)) lt (keeps_run more e) e';
        same = none_same g h ss (i + 1);
      }

-- ---- the pixels that a segment meets

-- pixels before the first that is met add nothing
met_from : (f : TileFrame) (u : Segment) (ks : List ℕ) (n : ℕ) → filter (meets_key f u) (take n ks) ≡ []
    → filter (meets_key f u) (drop n ks) ≡ filter (meets_key f u) ks
met_from f u ks n e =
    sym (ap (filter (meets_key f u)) (sym (take-append-drop n ks)) ∙ filter-append (meets_key f u) (take n ks) (drop n ks)
    ∙ ap (λ ms. ms ++ filter (meets_key f u) (drop n ks)) e)

pub grown_from : (f : TileFrame) (u : Segment) (old ks : List ℕ) (n : ℕ) → filter (meets_key f u) (take n ks) ≡ []
    → grown_row f u old (drop n ks) ≡ grown_row f u old ks
grown_from f u old ks n e = ap (λ ms. fold (insert_key nat_cmp) old (map (step_of u) ms)) (met_from f u ks n e)

-- where none is met
none_met : (f : TileFrame) (u : Segment) (ks : List ℕ) (n : ℕ) → filter (meets_key f u) (take n ks) ≡ [] → length ks ≤ n
    → filter (meets_key f u) ks ≡ []
none_met f u ks n e le = ap (filter (meets_key f u)) (sym (take_all n ks le)) ∙ e

-- a row stays where none is met that is fresh
pub grown_stays : (t : TileContent) (fresh : List ℕ) (u : Segment) (n : ℕ) → filter (meets_key (frame_of t) u) (take n fresh) ≡ []
    → length fresh ≤ n → path_in t u ≡ grown_path t fresh u
grown_stays t fresh u n e le =
    sym (ap (λ ms. fold (insert_key nat_cmp) (path_in t u) (map (step_of u) ms)) (none_met (frame_of t) u fresh n e le))

-- and where none is met that is cold
pub thinned_stays : (t : TileContent) (cold : List ℕ) (u : Segment) (n : ℕ) → filter (meets_key (frame_of t) u) (take n cold) ≡ []
    → length cold ≤ n → path_in t u ≡ thinned_path t cold u
thinned_stays t cold u n e le =
    sym (ap (λ ms. thinned_row (fold (insert_key nat_cmp) [] (map (step_of u) ms)) (path_in t u)) (none_met (frame_of t) u cold n e le)
    ∙ none_gone (path_in t u))
