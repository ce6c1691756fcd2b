-- A live list stays one when a segment is put into its place, and when one is taken out.
use Rattle.std.proofs.Common.{◌≡◌, sym, subst, ◌∙◌, ℕ, Bool, not, List, ◌∷◌, ◌++◌, filter, is_lt}
use Rattle.std.specs.List.Sorted.{IsStrictlySortedBy}
use Rattle.std.proofs.lemmas.List.{map-append}
use Rattle.std.proofs.lemmas.List.Elements.{All-append, All-cons, All-filter}
use Rattle.grid_core.specs.Name.{Label, label_cmp, label_eq}
use Rattle.grid_core.specs.Segment.{Segment, IsSegment}
use Rattle.grid_core.specs.LiveList.{IsLiveList, names, with_segment, without_name}
use Rattle.grid_core.proofs.Filters.{map-filter}
use Rattle.grid_core.proofs.ListMembers.{sorted_filter}
use Rattle.grid_core.proofs.Order.{label_total}
use Rattle.grid_core.proofs.SortedLists.{rises_in_place}

pub with_segment_is_live : (n : ℕ) (ss : List Segment) (s : Segment) → IsLiveList n ss
    → IsSegment n s → IsLiveList n (with_segment ss s)
with_segment_is_live n ss s live fits =
    record {
      rising = subst (IsStrictlySortedBy label_cmp) (sym named) (rises_in_place label_total s.name (names ss) live.rising);
      within =
          All-append (IsSegment n) (filter before ss) (s ∷ filter after ss)
          (All-filter before (IsSegment n) ss live.within)
          (All-cons (IsSegment n) s (filter after ss) fits (All-filter after (IsSegment n) ss live.within));
    }
  where
    before : Segment → Bool
    before t = is_lt (label_cmp t.name s.name)

    after : Segment → Bool
    after t = is_lt (label_cmp s.name t.name)

    -- the names are the old ones with the name of s in its place
    named : names (with_segment ss s)
        ≡ filter (λ m. is_lt (label_cmp m s.name)) (names ss)
        ++ s.name ∷ filter (λ m. is_lt (label_cmp s.name m)) (names ss)
    named =
        map-append (λ (t : Segment). t.name) (filter before ss) (s ∷ filter after ss)
        ∙ (λ i. map-filter (λ (t : Segment). t.name) (λ m. is_lt (label_cmp m s.name)) ss i
        ++ s.name ∷ map-filter (λ (t : Segment). t.name) (λ m. is_lt (label_cmp s.name m)) ss i)

pub without_name_is_live : (n : ℕ) (ss : List Segment) (name : Label) → IsLiveList n ss
    → IsLiveList n (without_name ss name)
without_name_is_live n ss name live =
    record {
      rising = sorted_filter (λ t. t.name) label_cmp (λ t. not (label_eq t.name name)) ss live.rising;
      within = All-filter (λ t. not (label_eq t.name name)) (IsSegment n) ss live.within;
    }
