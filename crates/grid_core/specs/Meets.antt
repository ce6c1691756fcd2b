-- When a segment meets a box of pixels.
-- A pixel has its left and its lower side, and not its right and its upper one.
use Rattle.std.specs.Prelude.{ℕ, ◌≤ℤ◌, ℤ, pos, ◌+ℤ◌, ◌-ℤ◌, ◌*ℤ◌, int_lt, int_le}
use Rattle.std.specs.Prelude.{Bool, true, false, not, ◌&&◌, ◌||◌, if◌then◌else◌, List, [], ◌∷◌}
use Rattle.std.specs.List.{list_all}
use Rattle.grid_core.specs.declared.point.Point.{Point}
use Rattle.grid_core.specs.declared.pixel_box.PixelBox.{PixelBox}
use Rattle.grid_core.specs.Vector.{IsWithin}
use Rattle.grid_core.specs.Segment.{Segment, direction}

-- the box has a pixel, and its coordinates are at most n in size
pub record IsBox (n : ℕ) (area : PixelBox) : Type 0 where
  pub lo : IsWithin n area.lo
  pub hi : IsWithin n area.hi
  pub wide : area.lo.x ≤ℤ area.hi.x
  pub high : area.lo.y ≤ℤ area.hi.y

-- a constraint on a number t: a + b t is at least 0, or above 0 where it is strict
pub record Constraint : Type 0 where
  pub a : ℤ
  pub b : ℤ
  pub strict : Bool

-- z is at least 0, or above 0 where the constraint is strict
abbrev pub is_kept : Bool → ℤ → Bool
is_kept strict z = if strict then int_lt (pos 0) z else int_le (pos 0) z

-- the six constraints on t under which p + t (q - p) is a point of the segment and of the box:
-- t from 0 to 1, then the left, right, lower and upper side; the sides are doubled to be whole
abbrev pub constraints : Segment → PixelBox → List Constraint
constraints s area =
    record { a = pos 0; b = pos 1; strict = false }
    ∷ record { a = pos 1; b = pos 0 -ℤ pos 1; strict = false }
    ∷ record {
      a = pos 2 *ℤ s.p.x -ℤ pos 2 *ℤ area.lo.x +ℤ pos 1;
      b = pos 2 *ℤ (direction s).x;
      strict = false;
    }
    ∷ record {
      a = pos 2 *ℤ area.hi.x +ℤ pos 1 -ℤ pos 2 *ℤ s.p.x;
      b = pos 0 -ℤ pos 2 *ℤ (direction s).x;
      strict = true;
    }
    ∷ record {
      a = pos 2 *ℤ s.p.y -ℤ pos 2 *ℤ area.lo.y +ℤ pos 1;
      b = pos 2 *ℤ (direction s).y;
      strict = false;
    }
    ∷ record {
      a = pos 2 *ℤ area.hi.y +ℤ pos 1 -ℤ pos 2 *ℤ s.p.y;
      b = pos 0 -ℤ pos 2 *ℤ (direction s).y;
      strict = true;
    }
    ∷ []

-- a constraint that t doesn't bear on holds for its a
abbrev pub holds_alone : Constraint → Bool
holds_alone c = int_lt c.b (pos 0) || int_lt (pos 0) c.b || is_kept c.strict c.a

-- where c bounds t from below and e from above, some t meets both
abbrev pub leave_room : Constraint → Constraint → Bool
leave_room c e =
    not (int_lt (pos 0) c.b)
    || not (int_lt e.b (pos 0))
    || is_kept (c.strict || e.strict) (e.a *ℤ c.b -ℤ c.a *ℤ e.b)

-- some point of the segment, ends included, lies in the box
abbrev pub meets_of : Segment → PixelBox → Bool
meets_of s area =
    let cs = constraints s area in
    list_all holds_alone cs && list_all (λ c. list_all (leave_room c) cs) cs

-- the box of one pixel
abbrev pub box_of : Point → PixelBox
box_of h = record { lo = h; hi = h }

-- some point of the segment lies in pixel h
abbrev pub meets_pixel_of : Segment → Point → Bool
meets_pixel_of s h = meets_of s (box_of h)
