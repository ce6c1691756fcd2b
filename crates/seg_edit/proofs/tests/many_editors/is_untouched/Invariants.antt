use Rattle.std.proofs.Common.{◌≤◌, take}
use Rattle.std.specs.Prelude.{All}
use Rattle.version_core.specs.Version.{stamp_of}
use Rattle.seg_edit.proofs.tests.many_editors.is_untouched.Given as goal

abbrev pub invariant-loop-id : goal.invariant-loop-id
invariant-loop-id l = All (λ t. stamp_of l.next.stamps t ≤ l.waiting.base) (take l.id-index l.id-items)
