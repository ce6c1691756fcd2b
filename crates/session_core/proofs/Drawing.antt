-- Why an editor draws no segment: where two points make one, it is for want of serials alone.
use Rattle.std.proofs.Common.{◌≡◌, ap, ◌∙◌, arith, ℕ, ◌+◌, ◌<◌, min, ◌⊎◌, inl, inr, ⊎_elim, Bool, true, false, cond, Some, None, unsigned_abs, nat_lt, nat_le, Less}
use Rattle.std.specs.Prelude.{if◌then◌else◌}
use Rattle.std.proofs.lemmas.Bool.Decides.{nat_tests}
use Rattle.std.specs.Ordering.{is_lt, is_eq}
use Rattle.grid_core.specs.declared.point.Point.{Point}
use Rattle.grid_core.specs.Name.{Label}
use Rattle.grid_core.specs.Profile.{Sizes}
use Rattle.grid_core.specs.Segment.{IsSegment, segment_of}
use Rattle.grid_core.specs.Vector.{point_cmp, point_eq, IsWithin}
use Rattle.grid_core.proofs.Order.{point_lesser}
use Rattle.script_read.specs.declared.reply.Refusal.TheVariants.{Serials}
use Rattle.session_core.specs.Limits.{most_serials}
use Rattle.session_core.specs.Step.{leaves_bound, draw_refusal}

inside : (pr : Sizes) (a : Point) → IsWithin pr.bound a → leaves_bound pr a ≡ false
inside pr a h =
    let x : nat_lt pr.bound (unsigned_abs a.x) ≡ false = grind (arith, nat_tests, h.x) in
    let y : nat_lt pr.bound (unsigned_abs a.y) ≡ false = grind (arith, nat_tests, h.y) in
    simp (x, y)

unlike : (a b : Point) → (point_cmp a b ≡ Less) ⊎ (point_cmp b a ≡ Less) → point_eq a b ≡ false
unlike a b h = ⊎_elim (λ e. ap is_eq e) (λ e. ap is_eq (point_lesser b a e)) h

by_serial : (pr : Sizes) (last : ℕ) (in_order : Bool) (n : Label) (a b : Point)
    → IsSegment pr.bound (cond in_order (record { name = n; p = a; q = b }) (record { name = n; p = b; q = a }))
    → draw_refusal pr last a b ≡ (if nat_le most_serials last then Some Serials else None)
by_serial pr last true n a b s = simp (inside pr a s.p_within, inside pr b s.q_within, unlike a b (inl s.ordered))
by_serial pr last false n a b s = simp (inside pr a s.q_within, inside pr b s.p_within, unlike a b (inr s.ordered))

-- the last serial was given
pub serials_used : (pr : Sizes) (last : ℕ) (n : Label) (a b : Point) → IsSegment pr.bound (segment_of n a b) → last ≡ most_serials
    → draw_refusal pr last a b ≡ Some Serials
serials_used pr last n a b s e =
    by_serial pr last (is_lt (point_cmp a b)) n a b s
    ∙ ap (λ m. if nat_le most_serials m then Some Serials else None) e

-- a serial is left
pub serials_left : (pr : Sizes) (last : ℕ) (n : Label) (a b : Point) → IsSegment pr.bound (segment_of n a b) → last < most_serials
    → draw_refusal pr last a b ≡ None
serials_left pr last n a b s few =
    let some : nat_le most_serials last ≡ false = grind (arith, nat_tests, few) in
    by_serial pr last (is_lt (point_cmp a b)) n a b s
    ∙ ap (λ t. if t then Some Serials else None) some

-- the next serial, where one is left
pub next_serial : (last : ℕ) → last < most_serials → min (last + 1) most_serials ≡ last + 1
next_serial last few = omega (arith, few)
