-- The call `play`: what each status says of what was read and written.
-- What speaks of bytes holds where the source tells its bytes, and the sink those that were written.
use Rattle.std.specs.Prelude.{◌≡◌, ◌≢◌, ℕ, ◌+◌, ◌<◌, ◌≤◌, ◌⊎◌, Bool, true, false, List, [], ◌∷◌, length, Option, IfSome, codes, bytes_eq}
use Rattle.std.specs.Io.KnownBytes.{Appends, Consumes, IsAtEnd}
use Rattle.io_ports.specs.Causes.{Rose}
use Rattle.io_ports.specs.Transfers.{TakesAtMost, TakesExactly, WritesPrefix}
use Rattle.grid_core.specs.Profile.{Sizes}
use Rattle.snapround.specs.declared.play.Status.{Status}
use Rattle.snapround.specs.declared.play.Status.TheVariants.{Done, SomeBad, BadWords, ReadFault, WriteFault, TooLong, Memory}
use Rattle.session_core.specs.Output.{output, has_bad_line}

-- the number that the program ends with
abbrev pub code_of : Status → ℕ
code_of Done = 0
code_of SomeBad = 1
code_of BadWords = 2
code_of ReadFault = 3
code_of WriteFault = 4
code_of TooLong = 5
code_of Memory = 6

-- the words are the one word `play`
abbrev pub is_play : List (List ℕ) → Bool
is_play (word ∷ []) = bytes_eq word (codes "play")
is_play _ = false

-- the sizes of the drawing: coordinates up to 1,048,576 in size, and tiles of 256 by 256 pixels
abbrev pub sizes : Sizes
sizes = record { bound = 1048576; side = 256 }

-- the greatest input, in bytes
abbrev pub most_bytes : ℕ
most_bytes = 16777216

-- what a source and a sink tell at one moment: the bytes that are left and those that were written,
-- both counts of faults, and whether the sink is shut
pub record Outside : Type 0 where
  pub left : Option (List ℕ)
  pub read_faults : ℕ
  pub written : Option (List ℕ)
  pub write_faults : ℕ
  pub shut : Bool

-- what is told of a source, its bytes left and its faults, and of a sink, its bytes, its faults and
-- whether it is shut
abbrev pub outside : Option (List ℕ) → ℕ → Option (List ℕ) → ℕ → Bool → Outside
outside left read_faults written write_faults shut =
    record {
      left = left;
      read_faults = read_faults;
      written = written;
      write_faults = write_faults;
      shut = shut;
    }

-- `play` ended with this status
pub record Played (status : ℕ) (old new : Outside) : Type 0 where
  -- no other status comes
  pub known : (status ≤ 6) × (status ≢ 2)
  -- in every case at most one byte more than the greatest input was taken, and of a longer input
  -- nothing was answered
  pub most : TakesAtMost old.left new.left (most_bytes + 1)
  pub unanswered : IfSome old.left (λ bytes. most_bytes < length bytes
      → new.written ≡ old.written)
  -- 0, 1 and 4: exactly what was left was taken, and it was no longer than the greatest input
  pub read : status ≤ 1 → IsAtEnd new.left
  pub taken : IfSome old.left (λ bytes. (status ≤ 1) ⊎ (status ≡ 4)
      → Consumes old.left new.left bytes)
  pub within : IfSome old.left (λ bytes. (status ≤ 1) ⊎ (status ≡ 4)
      → length bytes ≤ most_bytes)
  -- 0 and 1: exactly the replies to all lines were written, and the sink is shut
  pub replied : IfSome old.left (λ bytes. status ≤ 1
      → Appends old.written new.written (output sizes bytes))
  pub shut : status ≤ 1 → new.shut ≡ true
  -- 3 to 6: a sink that was open is still open
  pub left_open : 2 < status → old.shut ≡ false → new.shut ≡ false
  -- 0 where no line is bad, and 1 where one is
  pub clean : IfSome old.left (λ bytes. status ≡ 0 → has_bad_line bytes ≡ false)
  pub bad : IfSome old.left (λ bytes. status ≡ 1 → has_bad_line bytes ≡ true)
  -- 3 and 4: the source failed, or the sink did, and at no other status
  pub source_failed : status ≡ 3 → Rose old.read_faults new.read_faults
  pub source_failed_only : (status ≡ 3) ⊎ (new.read_faults ≡ old.read_faults)
  pub sink_failed : status ≡ 4 → Rose old.write_faults new.write_faults
  pub sink_failed_only : (status ≡ 4) ⊎ (new.write_faults ≡ old.write_faults)
  -- 5 exactly where one byte more than the greatest input was taken; memory may be refused for it
  pub too_long : status ≡ 5 → TakesExactly old.left new.left (most_bytes + 1)
  pub too_long_only : IfSome old.left (λ _. TakesExactly old.left new.left (most_bytes + 1)
      → (status ≡ 5) ⊎ (status ≡ 6))
  -- 4 and 6: a prefix of the replies was written
  pub part : IfSome old.left (λ bytes. (status ≡ 4) ⊎ (status ≡ 6)
      → WritesPrefix old.written new.written (output sizes bytes))
