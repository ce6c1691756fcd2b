-- Why a call failed: its source's or sink's count of faults rose. A count has 64 bits, and stands
-- still at its greatest value.
use Rattle.std.specs.Prelude.{◌≡◌, ℕ, ◌+◌, ◌-◌, ◌^◌, ◌<◌, ◌⊎◌, nat_eq, if◌then◌else◌}

-- the count rose, or stands still at its greatest value
abbrev pub Rose : ℕ → ℕ → Type 0
Rose old new = (old < new) ⊎ ((old ≡ 2 ^ 64 - 1) × (new ≡ 2 ^ 64 - 1))

-- the count after one fault more
abbrev pub after_fault : ℕ → ℕ
after_fault n = if nat_eq n (2 ^ 64 - 1) then n else n + 1
