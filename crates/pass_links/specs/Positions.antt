-- What a search for a place in a list finds.
use Rattle.std.specs.Prelude.{◌≡◌, ℕ, ◌⊎◌, List, Option, None, Some}
use Rattle.std.specs.declared.cmp.Ordering.{Ordering}
use Rattle.std.specs.declared.cmp.Ordering.TheVariants.{Less}
use Rattle.grid_core.specs.declared.point.Point.{Point}
use Rattle.grid_core.specs.Name.{Label, label_cmp}
use Rattle.pass_links.specs.declared.heads.Head.{Head}
use Rattle.pass_links.specs.declared.positions.Before.{Before}
use Rattle.pass_links.specs.declared.positions.Before.TheVariants as before
use Rattle.pass_links.specs.Chain.{end}
use Rattle.pass_links.specs.Heads.{IsHeadPlace}

-- the key of the node that comes before; none where the list's head does
abbrev pub node_before : Before → Option ℕ
node_before (before.Head place) = None
node_before (before.Node key) = Some key

-- where the head of q comes before, it stands there among the heads, or would stand there
abbrev pub IsHeadBefore : {K : Type 0} → (K → K → Ordering) → List (Head K) → K → Before → Type 0
IsHeadBefore R heads q (before.Head place) = IsHeadPlace R heads q place
IsHeadBefore R heads q (before.Node key) = Unit {0}

-- `before` is a key of a lesser name, or there is none
abbrev pub IsLesser : (ℕ → Option Label) → Label → Option ℕ → Type 0
IsLesser label name None = Unit {0}
IsLesser label name (Some before) = (n : Label) × (label before ≡ Some n) × (label_cmp n name ≡ Less)

-- `before` is a key with the pixel `after`, or there is neither
abbrev pub IsThrough : (ℕ → Option Point) → Option Point → Option ℕ → Type 0
IsThrough pixel None before = before ≡ None
IsThrough pixel (Some after) before = (key : ℕ) × (before ≡ Some key) × (pixel key ≡ Some after)

-- at the key stands the name or a greater one, or nothing
abbrev pub IsAtName : (ℕ → Option Label) → Label → ℕ → Type 0
IsAtName label name at = (at ≡ end) ⊎ ((m : Label) × (label at ≡ Some m) × ((m ≡ name) ⊎ (label_cmp name m ≡ Less)))
