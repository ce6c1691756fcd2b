-- The value of a list of digits, and the name that an editor and a serial number make.
use Rattle.std.proofs.Common.{◌≡◌, ℕ, ◌+◌, ◌-◌, ◌*◌, ◌<◌, ◌≤◌, ◌↔◌, nat_le, true, List, length, take, drop, position, ◌==◌, sym, fold, Option, Some, None, IsNone, IfSome, inl, inr, refl, ap, arith}
use Rattle.std.specs.List.{list_all}
use Rattle.std.specs.Char.{is_ascii_digit}
use Rattle.std.proofs.lemmas.Bool.Decides.{nat_tests}
use Rattle.std.proofs.lemmas.List.{take_all}
use Rattle.grid_core.specs.Name.{Label, IsNoName}
use Rattle.seg_text.specs.Numbers.{digits_of, editor_of, serial_of, name_of}

-- the value of all digits, where there are 1 to 10 of them
pub digits_value : (bs : List ℕ) (value i : ℕ)
    → 1 ≤ length bs
    → length bs ≤ 10
    → list_all is_ascii_digit (take i bs) ≡ true
    → length bs ≤ i
    → value ≡ fold (λ n b. n * 10 + (b - 48)) 0 (take i bs)
    → Some value ≡ digits_of bs
unfolding digits_of
digits_value bs value i some few digits past e =
    let whole : take i bs ≡ bs = take_all i bs past in
    let at_least : nat_le 1 (length bs) ≡ true = grind (arith, nat_tests) in
    let at_most : nat_le (length bs) 10 ≡ true = grind (arith, nat_tests) in
    let all : list_all is_ascii_digit bs ≡ true = rw whole at digits in
    simp (e, whole, at_least, at_most, all)

a_name : (editor serial : ℕ) → 0 < editor → editor ≤ 64 → 0 < serial → ¬ (IsNoName editor serial)
a_name editor serial some last serial_some h =
    elim h [
      | inl none ↦ omega arith
      | inr other ↦ elim other [ inl past ↦ omega arith | inr zero ↦ omega arith ]
    ]

-- there is a name of each editor and each serial number
pub name_is : (name : Option Label) (editor serial : ℕ)
    → IsNone name ↔ IsNoName editor serial
    → IfSome name (λ n. n ≡ record { editor = editor; serial = serial })
    → 0 < editor
    → editor ≤ 64
    → 0 < serial
    → name ≡ Some (record { editor = editor; serial = serial })
name_is None editor serial none value some last serial_some =
    absurd (a_name editor serial some last serial_some (none.0 refl))
name_is (Some n) editor serial none value some last serial_some = ap Some value

-- the name of a field, by its parts before and behind the first full stop
pub name_found : (bs : List ℕ) (stop : ℕ) (editor serial : ℕ)
    → Some stop ≡ position (λ b. b == 46) bs
    → Some editor ≡ editor_of (take stop bs)
    → Some serial ≡ serial_of (drop (stop + 1) bs)
    → Some (record { editor = editor; serial = serial }) ≡ name_of bs
unfolding name_of
name_found bs stop editor serial p e k = simp (sym p, sym e, sym k)
