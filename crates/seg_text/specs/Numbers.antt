-- Numbers and names as fields: their values, or none where the field isn't one.
use Rattle.std.specs.Prelude.{ℕ, ℤ, pos, ◌-ℤ◌, ◌+◌, ◌-◌, ◌*◌, Bool, false, ◌&&◌, nat_le, ◌==◌, List, [], ◌∷◌, length, take, drop, fold, position, if◌then◌else◌, Option, Some, None, option_map, option_and_then}
use Rattle.std.specs.List.{list_all}
use Rattle.std.specs.Char.{is_ascii_digit}
use Rattle.grid_core.specs.Name.{Label}

-- the value of 1 to 10 digits
unfoldable pub digits_of : List ℕ → Option ℕ
digits_of bs =
    if nat_le 1 (length bs) && nat_le (length bs) 10 && list_all is_ascii_digit bs
    then Some (fold (λ n b. n * 10 + (b - 48)) 0 bs)
    else None

-- a minus sign (45) stands first
abbrev pub is_negative : List ℕ → Bool
is_negative [] = false
is_negative (b ∷ bs) = b == 45

-- the value of a whole number: 1 to 10 digits, or a minus sign and 1 to 10 digits
unfoldable pub whole_of : List ℕ → Option ℤ
whole_of bs =
    if is_negative bs then option_map (λ n. pos 0 -ℤ pos n) (digits_of (drop 1 bs))
    else option_map pos (digits_of bs)

-- the number, where it is one of 1 to `last`
abbrev pub up_to : ℕ → ℕ → Option ℕ
up_to last n = if nat_le 1 n && nat_le n last then Some n else None

-- the number of an editor: 1 to 10 digits whose value is in 1 to 64
unfoldable pub editor_of : List ℕ → Option ℕ
editor_of bs = option_and_then (up_to 64) (digits_of bs)

-- a serial number: 1 to 10 digits whose value is in 1 to 65,535
unfoldable pub serial_of : List ℕ → Option ℕ
serial_of bs = option_and_then (up_to 65535) (digits_of bs)

-- the name of an editor and a serial number
abbrev pub name_from : List ℕ → List ℕ → Option Label
name_from editor serial =
    option_and_then
    (λ e. option_map (λ k. record { editor = e; serial = k }) (serial_of serial))
    (editor_of editor)

-- the name of a field: what stands before its first full stop (46) is an editor, and what stands
-- behind it is a serial number
unfoldable pub name_of : List ℕ → Option Label
name_of bs =
    option_and_then (λ i. name_from (take i bs) (drop (i + 1) bs)) (position (λ b. b == 46) bs)
