-- Acts that are served are fair.
use Rattle.std.proofs.Common.{◌≡◌, true, true≢false, sym}
use Rattle.script_read.specs.declared.command.Act.{Act}
use Rattle.script_read.specs.declared.command.Act.TheVariants.{Take, Insert, Delete, Reads, Commit, Drop, Ask}
use Rattle.script_read.specs.declared.command.Query.{Query}
use Rattle.script_read.specs.declared.command.Query.TheVariants.{Locate, Route, Hot, Bundle, Contour, Show}
use Rattle.script_read.specs.Command.{is_served, serves_query, IsFairAct, IsFairQuery}

query_fair : (q : Query) → serves_query q ≡ true → IsFairQuery q
query_fair (Locate at) e = absurd (true≢false (sym e))
query_fair (Route name) e = tt
query_fair (Hot at) e = tt
query_fair (Bundle a b) e = tt
query_fair (Contour a b) e = tt
query_fair Show e = tt

pub served_fair : (a : Act) → is_served a ≡ true → IsFairAct a
unfolding IsFairAct
served_fair Take e = tt
served_fair (Insert a b) e = tt
served_fair (Delete name) e = tt
served_fair Reads e = tt
served_fair Commit e = tt
served_fair Drop e = tt
served_fair (Ask q) e = query_fair q e
