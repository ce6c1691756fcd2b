-- Bundles gathered name by name are the bundles of all named edges.
use Rattle.std.proofs.Common.{◌≡◌, refl, ap, sym, ◌∙◌, ◌+◌, ◌<◌, ℕ, Bool, true, false, cond, ◌||◌, List, [], ◌∷◌, ◌++◌, map, filter, fold, length, get_or, append_assoc, ◌≤◌, ◌-◌, drop}
use Rattle.std.specs.Prelude.{Option, Some, None, unwrap_or}
use Rattle.std.specs.Ordering.{is_eq}
use Rattle.std.specs.List.{list_any}
use Rattle.std.specs.List.Sorted.{IsStrictlySortedBy}
use Rattle.std.specs.Map.{lookup, keys_of, set_value}
use Rattle.std.specs.BTreeMap.{is_at, insert_entry}
use Rattle.std.proofs.lemmas.Cmp.{eq_by_cmp_equiv, tied_itself}
use Rattle.std.proofs.lemmas.List.{append-nil, map-append}
use Rattle.std.proofs.lemmas.List.Elements.{filter-append}
use Rattle.grid_core.specs.declared.point.Point.{Point}
use Rattle.grid_core.specs.Name.{Label}
use Rattle.grid_core.specs.Edge.{EdgeEnds, edge_cmp, edge_eq, edge_between}
use Rattle.grid_core.specs.Rounding.{BundledEdge, edges_along}
use Rattle.grid_core.specs.RisingSet.{rising}
use Rattle.grid_core.proofs.Order.{edge_total, edge_exact}
use Rattle.grid_core.proofs.RisingMembers.{sorted_rising, any_rising}
use Rattle.round_plain.specs.Bundles.{names_at, bundles, with_named_edge}
use Rattle.grid_core.proofs.RisingSets.{rising_push}
use Rattle.round_plain.proofs.RouteEdges.{edges_next}
use Rattle.grid_core.proofs.Tables.{table, lookup-table, insert_entry-table, set_value-insert_entry}

-- the edges of the named edges, as often as they are named
abbrev pub edges_of : List (EdgeEnds × Label) → List EdgeEnds
edges_of ps = map (λ p. p.0) ps

-- the map from the edges of the named edges to their names
abbrev pub gathered : List (EdgeEnds × Label) → List (EdgeEnds × List Label)
gathered ps = table (names_at ps) (rising edge_cmp (edges_of ps))

-- the names of one list of named edges after another
pub names_at-append : (ps qs : List (EdgeEnds × Label)) (e : EdgeEnds)
    → names_at (ps ++ qs) e ≡ names_at ps e ++ names_at qs e
names_at-append ps qs e =
    ap (map (λ (p : EdgeEnds × Label). p.1))
    (filter-append (λ (p : EdgeEnds × Label). edge_eq e p.0) ps qs)
    ∙ map-append (λ (p : EdgeEnds × Label). p.1)
    (filter (λ (p : EdgeEnds × Label). edge_eq e p.0) ps)
    (filter (λ (p : EdgeEnds × Label). edge_eq e p.0) qs)

unnamed : (ps : List (EdgeEnds × Label)) (e : EdgeEnds)
    → list_any (edge_eq e) (edges_of ps) ≡ false → names_at ps e ≡ []
unnamed [] e h = refl
unnamed (p ∷ ps) e h = by (unnamed ps e) (edge_eq e p.0) h
  where
    by : (list_any (edge_eq e) (edges_of ps) ≡ false → names_at ps e ≡ []) → (b : Bool)
        → (b || list_any (edge_eq e) (edges_of ps)) ≡ false
        → map (λ (q : EdgeEnds × Label). q.1)
        (cond b (p ∷ filter (λ (q : EdgeEnds × Label). edge_eq e q.0) ps)
        (filter (λ (q : EdgeEnds × Label). edge_eq e q.0) ps)) ≡ []
    by ih true h = cc
    by ih false h = ih h

found : (ps : List (EdgeEnds × Label)) (e : EdgeEnds)
    → unwrap_or (lookup (is_at (edge_cmp e)) (gathered ps)) [] ≡ names_at ps e
found ps e =
    ap (λ (v : Option (List Label)). unwrap_or v [])
    (lookup-table edge_total edge_exact (names_at ps) e (rising edge_cmp (edges_of ps)))
    ∙ by (list_any (edge_eq e) (rising edge_cmp (edges_of ps))) refl
  where
    by : (b : Bool) → list_any (edge_eq e) (rising edge_cmp (edges_of ps)) ≡ b
        → unwrap_or (cond b (Some (names_at ps e)) None) [] ≡ names_at ps e
    by true h = refl
    by false h = sym (unnamed ps e (sym (any_rising edge_total e (edges_of ps)) ∙ h))

name_here : (ps : List (EdgeEnds × Label)) (e : EdgeEnds) (n : Label)
    → names_at (ps ++ (e, n) ∷ []) e ≡ names_at ps e ++ n ∷ []
name_here ps e n =
    names_at-append ps ((e, n) ∷ []) e
    ∙ ap (λ (b : Bool). names_at ps e ++ map (λ (q : EdgeEnds × Label). q.1)
    (cond b ((e, n) ∷ []) [])) (ap is_eq (tied_itself edge_total e))

name_elsewhere : (ps : List (EdgeEnds × Label)) (e q : EdgeEnds) (n : Label)
    → is_eq (edge_cmp e q) ≡ false → names_at ps q ≡ names_at (ps ++ (e, n) ∷ []) q
name_elsewhere ps e q n h =
    sym (names_at-append ps ((e, n) ∷ []) q
    ∙ ap (λ (b : Bool). names_at ps q ++ map (λ (p : EdgeEnds × Label). p.1)
    (cond b ((e, n) ∷ []) [])) ((eq_by_cmp_equiv edge_total).symm q e ∙ h)
    ∙ append-nil (names_at ps q))

one_named_edge : (ps : List (EdgeEnds × Label)) (p : EdgeEnds × Label)
    → with_named_edge (gathered ps) p ≡ gathered (ps ++ p ∷ [])
one_named_edge ps p =
    ap (insert_entry edge_cmp (gathered ps) p.0)
    (ap (λ (ns : List Label). ns ++ p.1 ∷ []) (found ps p.0) ∙ sym (name_here ps p.0 p.1))
    ∙ insert_entry-table edge_total edge_exact (names_at ps) (names_at (ps ++ p ∷ [])) p.0
    (λ q h. name_elsewhere ps p.0 q p.1 h)
    (rising edge_cmp (edges_of ps)) (sorted_rising edge_total (edges_of ps))
    ∙ ap (table (names_at (ps ++ p ∷ [])))
    (sym (rising_push edge_cmp (edges_of ps) p.0)
    ∙ ap (rising edge_cmp) (sym (map-append (λ (q : EdgeEnds × Label). q.0) ps (p ∷ []))))

-- more named edges on the map of some are the map of all
pub more_named_edges : (ps qs : List (EdgeEnds × Label))
    → fold with_named_edge (gathered ps) qs ≡ gathered (ps ++ qs)
more_named_edges ps [] = ap gathered (sym (append-nil ps))
more_named_edges ps (q ∷ qs) =
    ap (λ (es : List (EdgeEnds × List Label)). fold with_named_edge es qs) (one_named_edge ps q)
    ∙ more_named_edges (ps ++ q ∷ []) qs ∙ ap gathered (append_assoc ps (q ∷ []) qs)

-- an entry of the map as an edge with its bundle
abbrev pub bundle_of_entry : EdgeEnds × List Label → BundledEdge
bundle_of_entry b = record { edge = b.0; names = b.1 }

-- the map as edges with their bundles
pub entries-bundles : (ps : List (EdgeEnds × Label))
    → map bundle_of_entry (gathered ps) ≡ bundles ps
entries-bundles ps = told (rising edge_cmp (edges_of ps))
  where
    told : (es : List EdgeEnds) → map bundle_of_entry (table (names_at ps) es)
        ≡ map (λ e. record { edge = e; names = names_at ps e }) es
    told [] = refl
    told (e ∷ es) = ap (λ (bs : List BundledEdge). record { edge = e; names = names_at ps e }
        ∷ bs) (told es)

-- the step of the loop over the points of a route
pub edge_added : (m n total : List (EdgeEnds × List Label)) (ps : List Point) (name : Label)
    (i : ℕ) (d : Point) (edge : EdgeEnds) → 1 ≤ i → i < length ps
    → edge ≡ edge_between (get_or ps (i - 1) d) (get_or ps i d)
    → fold with_named_edge m (map (λ (e : EdgeEnds). (e, name)) (edges_along (drop (i - 1) ps))) ≡ total
    → n ≡ with_named_edge m (edge, name)
    → fold with_named_edge n (map (λ (e : EdgeEnds). (e, name)) (edges_along (drop (i + 1 - 1) ps)))
    ≡ total
edge_added m n total ps name i d edge low lt is inv put =
    ap (λ (es : List (EdgeEnds × List Label)). fold with_named_edge es
    (map (λ (e : EdgeEnds). (e, name)) (edges_along (drop (i + 1 - 1) ps))))
    (put ∙ ap (λ (e : EdgeEnds). with_named_edge m (e, name)) is)
    ∙ sym (ap (λ (es : List EdgeEnds). fold with_named_edge m (map (λ (e : EdgeEnds). (e, name)) es))
    (edges_next ps i d low lt))
    ∙ inv

-- where the edge has names, the name is written behind them
pub name_written : (es result : List (EdgeEnds × List Label)) (e : EdgeEnds) (n : Label)
    (old new : List Label)
    → IsStrictlySortedBy edge_cmp (keys_of es) → Some old ≡ lookup (is_at (edge_cmp e)) es
    → new ≡ old ++ n ∷ []
    → result ≡ set_value (is_at (edge_cmp e)) es new → result ≡ with_named_edge es (e, n)
name_written es result e n old new sorted has pushed put =
    put ∙ set_value-insert_entry edge_total edge_exact e old new es sorted (sym has)
    ∙ ap (insert_entry edge_cmp es e) (pushed
    ∙ ap (λ (v : Option (List Label)). unwrap_or v [] ++ n ∷ []) has)
