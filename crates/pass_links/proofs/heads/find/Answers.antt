use Rattle.pass_links.proofs.HeadLaws.{first_found}
use Rattle.pass_links.proofs.heads.find.Goals as goal

pub returns-in-Ok-clause-first : goal.returns-in-Ok-clause-first
returns-in-Ok-clause-first g c =
    first_found g.met.K.Ord.total c.args.of c.args.heads.now c.in-Ok.at c.requires c.in-Ok.ensures.place.within c.in-Ok.ensures.place.found c.index-heads-at.result
