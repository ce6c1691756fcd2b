-- Passes of segments through hot pixels, as contracts see them: each segment has the list of its
-- pixels, and each pixel the list of the names of its segments.
use Rattle.std.specs.Prelude.{◌≡◌, ℕ, ◌≤◌, Bool, false, cond, not, List, [], ◌∷◌, ◌++◌, filter, count_by, refl, Option, None, Some}
use Rattle.std.specs.List.{list_any}
use Rattle.std.specs.List.Sorted.{IsStrictlySortedBy}
use Rattle.std.specs.declared.cmp.Ordering.{Ordering}
use Rattle.std.specs.Ordering.{is_lt}
use Rattle.std.specs.Option.{unwrap_or}
use Rattle.std.specs.FinMap.{FinMap, get, code}
use Rattle.std.specs.Coded.{Coded, code_by, coded×, coded_ℕ, coded_list}
use Rattle.grid_core.specs.declared.point.Point.{Point}
use Rattle.grid_core.specs.Vector.{point_cmp, point_eq}
use Rattle.grid_core.specs.Name.{Label, label_cmp, label_eq}
use Rattle.grid_core.specs.Codes.{label_code, point_code}

-- the lists of the segments, the lists of the pixels, and how many passes can be linked without memory
pub record PassLists : Type 0 where
  pub segments : FinMap label_cmp (List Point)
  pub pixels : FinMap point_cmp (List Label)
  pub spare : ℕ

-- the lists are stored as the two maps and the number
abbrev pub pass_lists_code : Coded PassLists
pass_lists_code =
    code_by (FinMap label_cmp (List Point) × (FinMap point_cmp (List Label) × ℕ))
    (coded× (code label_code (coded_list point_code)) (coded× (code point_code (coded_list label_code)) coded_ℕ))
    (λ v. (v.segments, (v.pixels, v.spare)))
    (λ p. record { segments = p.0; pixels = p.1.0; spare = p.1.1 })
    (λ _. refl)

-- the list of a key; the empty list for what isn't in the map
abbrev pub list_at : {K V : Type 0} {R : K → K → Ordering} → FinMap R (List V) → K → List V
list_at m q = unwrap_or (get m q) []

-- the pixels of a segment, in the order of its list
abbrev pub pixels_of : PassLists → Label → List Point
pixels_of v name = list_at v.segments name

-- the names of the segments that pass through a pixel, in order
abbrev pub names_at : PassLists → Point → List Label
names_at v pixel = list_at v.pixels pixel

-- the pixel stands in the list
abbrev pub has_pixel : List Point → Point → Bool
has_pixel ps pixel = list_any (point_eq pixel) ps

-- the name stands in the list
abbrev pub has_name : List Label → Label → Bool
has_name names name = list_any (label_eq name) names

-- the pixel put right behind `after`
abbrev pub put_behind : Point → Point → List Point → List Point
put_behind after pixel [] = pixel ∷ []
put_behind after pixel (p ∷ ps) = cond (point_eq after p) (p ∷ pixel ∷ ps) (p ∷ put_behind after pixel ps)

-- the pixel put right behind `after`, or first where there is none
abbrev pub linked_behind : Option Point → Point → List Point → List Point
linked_behind None pixel ps = pixel ∷ ps
linked_behind (Some after) pixel ps = put_behind after pixel ps

-- the run of pixels put right behind `after`
abbrev pub put_run : Point → List Point → List Point → List Point
put_run after run [] = run
put_run after run (p ∷ ps) = cond (point_eq after p) (p ∷ (run ++ ps)) (p ∷ put_run after run ps)

-- the run put right behind `after`, or in front where there is none
abbrev pub run_behind : Option Point → List Point → List Point → List Point
run_behind None run ps = run ++ ps
run_behind (Some after) run ps = put_run after run ps

-- none of the run's pixels stands in the list, and no two of them are one
abbrev pub AreFresh : List Point → List Point → Type 0
AreFresh [] ps = Unit {0}
AreFresh (q ∷ run) ps = (has_pixel ps q ≡ false) × (has_pixel run q ≡ false) × AreFresh run ps

-- the name put into its place by the order of names
abbrev pub with_name : Label → List Label → List Label
with_name name names =
    filter (λ m. is_lt (label_cmp m name)) names ++ name ∷ filter (λ m. is_lt (label_cmp name m)) names

-- the list without a pixel
abbrev pub without_pixel : Point → List Point → List Point
without_pixel pixel ps = filter (λ p. not (point_eq p pixel)) ps

-- the list without a name
abbrev pub without_name : Label → List Label → List Label
without_name name names = filter (λ n. not (label_eq n name)) names

-- the two families of lists agree
pub record AreLinked (pixels : Label → List Point) (names : Point → List Label) : Type 0 where
  -- a name stands in a pixel's list exactly where the pixel stands in the name's list
  pub agree : (n : Label) (p : Point) → has_pixel (pixels n) p ≡ has_name (names p) n
  -- a segment's list has each pixel at most once
  pub once : (n : Label) (p : Point) → count_by (point_eq p) (pixels n) ≤ 1
  -- the names in a pixel's list rise
  pub rise : (p : Point) → IsStrictlySortedBy label_cmp (names p)
