use Rattle.rat_cross.proofs.intersection.direction_between.Goals as goal

pub returns-clause-small : goal.returns-clause-small
returns-clause-small c = c.vector.ensures.of_segments c.requires.from_within c.requires.to_within
