-- Points whose numbers are so small that their pixel is found in 64 bits.
use Rattle.std.specs.Prelude.{ℤ, pos, neg_ℤ, int_le, Bool, ◌&&◌, ◌^◌}
use Rattle.grid_core.specs.Crossing.{RationalPoint}

-- the number is at most 2^61 in size: twice it, and another such number added, fit in 64 bits
abbrev pub narrow_number : ℤ → Bool
narrow_number n = int_le (neg_ℤ (pos (2 ^ 61))) n && int_le n (pos (2 ^ 61))

-- the numerators and the denominator are at most 2^61 in size
abbrev pub narrow_point : RationalPoint → Bool
narrow_point c = narrow_number c.num_x && narrow_number c.num_y && narrow_number c.den
