-- What follows from the steps: one editor alone is never stale, and an old base is no reason to
-- refuse a change.
use Rattle.std.specs.Prelude.{◌≡◌, ℕ, ◌+◌, ◌≤◌, Bool, true, false, List, length, Some, None}
use Rattle.std.specs.List.{AllByRecursion}
use Rattle.grid_core.specs.Profile.{Sizes}
use Rattle.version_core.specs.Edits.{Changes, after_edits}
use Rattle.version_core.specs.History.{live, clash}
use Rattle.book_core.specs.Commit.{full_of}
use Rattle.script_read.specs.declared.command.Act.TheVariants.{Commit as MakeCommit}
use Rattle.script_read.specs.declared.command.Command.{Command}
use Rattle.script_read.specs.declared.reply.Said.{Said}
use Rattle.script_read.specs.declared.reply.Said.TheVariants.{Commit, Stale}
use Rattle.session_core.specs.Machine.{BasedChange, Session, editors, start}
use Rattle.session_core.specs.Step.{outcome, replies}

-- it is said that a prepared change is stale
abbrev pub is_stale : Said → Bool
is_stale (Stale by tile) = true
is_stale _ = false

-- where all commands are one editor's, none of the replies from the start on is stale
abbrev pub OneEditorIsNeverStale : Sizes → Type 0
OneEditorIsNeverStale pr =
    (editor : ℕ) (cs : List Command)
    → editor ≤ editors
    → AllByRecursion (λ c. c.editor ≡ editor) cs
    → AllByRecursion (λ r. is_stale r.said ≡ false) (replies pr start cs)

-- a prepared change that clashes with no later one is committed whatever its base, where no limit
-- stands against it
abbrev pub UnclashedIsCommitted : Sizes → Type 0
UnclashedIsCommitted pr =
    (h : List Changes) (editor : ℕ) (s : Session) (x : BasedChange)
    → s.prepared ≡ Some x
    → clash pr h x.base x.change ≡ None
    → full_of pr h (after_edits (live h) x.change.edits) ≡ None
    → (outcome pr h editor s MakeCommit).said ≡ Commit (length h + 1)
