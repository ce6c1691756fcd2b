-- What fits one live list fits another that has the same segments near the edits' tiles, if the names
-- that it inserts are new there. By induction on the edits: what they do near their tiles is the same
-- in both lists, a deleted segment is near the tile of its first end, and so it is in both.
use Rattle.std.proofs.Common.{◌≡◌, subst, ℕ, ◌⊎◌, inl, inr, Bool, not, List, [], ◌∷◌, filter, Contains, IsTrue, is_lt}
use Rattle.std.specs.List.{AllByRecursion}
use Rattle.std.proofs.lemmas.List.{map-append}
use Rattle.std.proofs.lemmas.List.Elements.{Contains-append_cases}
use Rattle.grid_core.specs.declared.tile.TileId.{TileId}
use Rattle.grid_core.specs.Name.{Label, label_cmp, label_eq}
use Rattle.grid_core.specs.Profile.{Sizes}
use Rattle.grid_core.specs.Segment.{Segment}
use Rattle.grid_core.specs.LiveList.{names, with_segment, without_name}
use Rattle.grid_core.specs.Tiles.{near, meets_tile}
use Rattle.grid_core.proofs.ListMembers.{contains_first, contains_later, contains_cases, contains_filter, contains_map, any_filter, any_then}
use Rattle.tile_law.proofs.Edits.{near_with_same, near_without_same}
use Rattle.version_core.specs.declared.change.Edit.{Edit}
use Rattle.version_core.specs.declared.change.Edit.TheVariants.{Insert, Delete}
use Rattle.version_core.specs.Edits.{after_edit, after_edits, edited_segment, inserted_names, FitEdits}

-- ts has each tile that the segment of one of the edits meets
abbrev pub Cover : Sizes → List TileId → List Edit → Type 0
Cover pr ts es =
    AllByRecursion (λ e. (t : TileId) → IsTrue (meets_tile pr t (edited_segment e)) → Contains ts t) es

-- the segment of each edit meets some tile
abbrev pub AreMet : Sizes → List Edit → Type 0
AreMet pr es = AllByRecursion (λ e. (t : TileId) × IsTrue (meets_tile pr t (edited_segment e))) es

-- two lists have the same segments near each of the tiles
abbrev pub Agree : Sizes → List TileId → List Segment → List Segment → Type 0
Agree pr ts ss us = (t : TileId) → Contains ts t → near pr t ss ≡ near pr t us

-- a segment that meets a tile near which two lists agree is in both or in neither
pub carried : (pr : Sizes) (t : TileId) (ss us : List Segment) (s : Segment) → near pr t ss ≡ near pr t us
    → IsTrue (meets_tile pr t s) → Contains ss s → Contains us s
carried pr t ss us s same met here =
    let near_s = (contains_filter (meets_tile pr t) ss s).1 (here, met) in
    ((contains_filter (meets_tile pr t) us s).0 (subst (λ ns. Contains ns s) same near_s)).0

-- the names of segments that are kept are old ones
pub names_kept : (p : Segment → Bool) (us : List Segment) (n : Label) → Contains (names (filter p us)) n → Contains (names us) n
names_kept p us n h =
    (contains_map (λ (u : Segment). u.name) us n).1
    (any_then (λ u. IsTrue (p u) × (u.name ≡ n)) (λ u. u.name ≡ n) us (λ u k. k.1)
    ((any_filter (λ u. u.name ≡ n) p us).0 ((contains_map (λ (u : Segment). u.name) (filter p us) n).0 h)))

-- the names after an insertion are the old ones and the new one
pub names_with : (us : List Segment) (s : Segment) (n : Label) → Contains (names (with_segment us s)) n
    → Contains (names us) n ⊎ (s.name ≡ n)
names_with us s n h =
    elim (Contains-append_cases (names lesser) (names (s ∷ greater)) n (subst (λ ns. Contains ns n) (map-append (λ (u : Segment). u.name) lesser (s ∷ greater)) h)) [
      | inl low ↦ inl (names_kept (λ u. is_lt (label_cmp u.name s.name)) us n low)
      | inr rest ↦ elim (contains_cases s.name (names greater) n rest) [
        | inl own ↦ inr own
        | inr high ↦ inl (names_kept (λ u. is_lt (label_cmp s.name u.name)) us n high)
      ]
    ]
  where
    lesser : List Segment
    lesser = filter (λ u. is_lt (label_cmp u.name s.name)) us

    greater : List Segment
    greater = filter (λ u. is_lt (label_cmp s.name u.name)) us

-- the names after a deletion are old ones
pub names_without : (us : List Segment) (name n : Label) → Contains (names (without_name us name)) n
    → Contains (names us) n
names_without us name n h = names_kept (λ u. not (label_eq u.name name)) us n h

-- two lists with the same segments near a tile have the same ones after the same edit
near_alike : (pr : Sizes) (t : TileId) (ss us : List Segment) (e : Edit) → near pr t ss ≡ near pr t us
    → near pr t (after_edit ss e) ≡ near pr t (after_edit us e)
near_alike pr t ss us (Insert s) h = near_with_same pr t ss us s h
near_alike pr t ss us (Delete s) h = near_without_same pr t ss us s.name h

-- the same after the same edits
pub near_alike_all : (pr : Sizes) (t : TileId) (ss us : List Segment) (es : List Edit) → near pr t ss ≡ near pr t us
    → near pr t (after_edits ss es) ≡ near pr t (after_edits us es)
near_alike_all pr t ss us [] h = h
near_alike_all pr t ss us (e ∷ es) h =
    near_alike_all pr t (after_edit ss e) (after_edit us e) es (near_alike pr t ss us e h)

-- two lists that agree do so after the same edit
agree_after : (pr : Sizes) (ts : List TileId) (ss us : List Segment) (e : Edit) → Agree pr ts ss us
    → Agree pr ts (after_edit ss e) (after_edit us e)
agree_after pr ts ss us e h t k = near_alike pr t ss us e (h t k)

-- where us has an inserted name, it was given before
abbrev pub GivenBefore : List Label → List Segment → List Edit → Type 0
GivenBefore given us es = (n : Label) → Contains (inserted_names es) n → Contains (names us) n → Contains given n

pub fits_rebased : (pr : Sizes) (ts : List TileId) (editor : ℕ) (given : List Label) (ss us : List Segment) (es : List Edit)
    → Cover pr ts es → AreMet pr es → Agree pr ts ss us → GivenBefore given us es → FitEdits editor given ss es
    → FitEdits editor given us es
fits_rebased pr ts editor given ss us [] cover met agree before fit = tt
fits_rebased pr ts editor given ss us (Insert s ∷ es) cover met agree before fit = (
  fit.0,
  fit.1,
  λ live. fit.1 (before s.name (contains_first s.name (inserted_names es)) live),
  fits_rebased pr ts editor (s.name ∷ given) (with_segment ss s) (with_segment us s) es cover.1 met.1
      (agree_after pr ts ss us (Insert s) agree) later fit.3,
)
  where
    later : GivenBefore (s.name ∷ given) (with_segment us s) es
    later n k live =
        elim (names_with us s n live) [
          | inl old ↦ contains_later s.name given n (before n (contains_later s.name (inserted_names es) n k) old)
          | inr new ↦ subst (λ m. Contains (s.name ∷ given) m) new (contains_first s.name given)
        ]
fits_rebased pr ts editor given ss us (Delete s ∷ es) cover met agree before fit = (
  carried pr met.0.0 ss us s (agree met.0.0 (cover.0 met.0.0 met.0.1)) met.0.1 fit.0,
  fits_rebased pr ts editor given (without_name ss s.name) (without_name us s.name) es cover.1 met.1
      (agree_after pr ts ss us (Delete s) agree) (λ n k live. before n k (names_without us s.name n live)) fit.1,
)
