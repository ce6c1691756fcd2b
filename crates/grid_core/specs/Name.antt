-- Names of segments: an editor from 1 to 64, and a serial number from 1 on.
-- They are ordered by editor, then by serial.
use Rattle.std.specs.Prelude.{◌≡◌, ℕ, ◌≤◌, ◌<◌, ◌⊎◌, ◌^◌, Bool}
use Rattle.std.specs.declared.cmp.Ordering.{Ordering}
use Rattle.std.specs.Ordering.{nat_cmp, ordering_then, is_eq}

-- a name as contracts see it
pub record Label : Type 0 where
  pub editor : ℕ
  pub serial : ℕ

-- by editor, and for one editor by serial
abbrev pub label_cmp : Label → Label → Ordering
label_cmp a b = ordering_then (nat_cmp a.editor b.editor) (nat_cmp a.serial b.serial)

-- the two are one name
abbrev pub label_eq : Label → Label → Bool
label_eq a b = is_eq (label_cmp a b)

-- the editor is one of 1 to 64, and the serial one of 1 to 65,535
pub record IsLabel (n : Label) : Type 0 where
  pub some_editor : 0 < n.editor
  pub last_editor : n.editor ≤ 64
  pub some_serial : 0 < n.serial
  pub last_serial : n.serial < 2 ^ 16

-- the editor isn't one of 1 to 64, or the serial is 0
abbrev pub IsNoName : ℕ → ℕ → Type 0
IsNoName editor serial = (editor ≡ 0) ⊎ ((64 < editor) ⊎ (serial ≡ 0))
