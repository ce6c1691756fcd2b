use Rattle.std.proofs.Common.{sym, ap, subst, ◌∙◌, Contains}
use Rattle.std.specs.Prelude.{option_copied}
use Rattle.grid_core.specs.LiveList.{names}
use Rattle.version_core.proofs.Found.{segment_listed, name_listed}
use Rattle.seg_edit.proofs.Reading.{grew_behind_name}
use Rattle.seg_edit.proofs.prepare.prepare_delete_in.Goals as goal

pub prepare_deletion-requires-clause-here : goal.prepare_deletion-requires-clause-here
prepare_deletion-requires-clause-here c =
    (segment_listed c.args.base.now.live c.args.name c.in-Some.s.now
    (sym c.in_ok-s.ensures.value ∙ ap option_copied c.in-Some.is)).0

pub returns-in_err-prepare_deletion-clause-memory : goal.returns-in_err-prepare_deletion-clause-memory
returns-in_err-prepare_deletion-clause-memory c = λ _.
    grew_behind_name c.args.base.now c.args.name c.in-Some.s.now (sym c.in_ok-s.ensures.value ∙ ap option_copied c.in-Some.is)
    c.args.looked.now c.segment.new.looked _ c.in_ok-s.ensures.looked c.in_err-prepare_deletion.ensures.memory

pub returns-clause-known : goal.returns-clause-known
returns-clause-known c =
    let live = c.args.base.now.live in
    let listed = segment_listed live c.args.name c.in-Some.s.now (sym c.in_ok-s.ensures.value ∙ ap option_copied c.in-Some.is) in
    subst (Contains (names live)) listed.1 (name_listed live c.in-Some.s.now listed.0)
