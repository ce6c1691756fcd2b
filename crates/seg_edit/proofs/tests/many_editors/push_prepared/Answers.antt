use Rattle.std.proofs.Common.{subst, Option, IfSome}
use Rattle.std.proofs.lemmas.List.Elements.{All-same, All-push}
use Rattle.version_core.specs.Stands.{PreparedChange}
use Rattle.seg_edit.specs.Waiting.{IsWaiting}
use Rattle.seg_edit.proofs.tests.many_editors.push_prepared.Goals as goal

pub returns-in_ok-push-clause-waiting : goal.returns-in_ok-push-clause-waiting
returns-in_ok-push-clause-waiting c =
    let waits : IsWaiting c.args.current.now c.in-Some.change =
    subst (λ (o : Option PreparedChange). IfSome o (IsWaiting c.args.current.now)) c.in-Some.is c.in_ok-change.ensures.waiting in
    All-same (IsWaiting c.args.current.now) c.push.new.self.items _ c.in_ok-push.ensures.items
    (All-push (IsWaiting c.args.current.now) c.args.waiting.now.items c.in-Some.change c.requires.waiting waits)
