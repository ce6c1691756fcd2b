use Rattle.std.proofs.Common.{sym, arith}
use Rattle.session_core.proofs.ServedActs.{served_fair}
use Rattle.session_core.proofs.tests.fair.Goals as goal

pub returns-clause-fair : goal.returns-clause-fair
returns-clause-fair c =
    let some = c.if-editor-eq0.false in
    record {
      some_editor = omega (arith, some);
      last_editor = c.if-editor-gt64.false;
      fair = served_fair c.args.act (sym c.if-not-is_served.ensures);
    }
