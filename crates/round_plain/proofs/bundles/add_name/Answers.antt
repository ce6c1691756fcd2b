-- Where the edge has names already, the name is written behind them.
use Rattle.std.proofs.lemmas.Result.{on_ok_weaker}
use Rattle.round_plain.proofs.Gathered.{name_written}
use Rattle.round_plain.proofs.bundles.add_name.Goals as goal

pub returns-in-Some : goal.returns-in-Some
returns-in-Some c =
    on_ok_weaker c.push.result
    (λ pushed. name_written c.args.gathered.now.entries
    (c.get_mut.follows.lender c.push.new.self).entries c.args.edge c.args.name
    c.in-Some.names.now c.push.new.self
    c.in-Some.ensures.ordered c.in-Some.ensures.value pushed
    (c.get_mut.follows.holds c.push.new.self).0)
    c.push.ensures.pushed
