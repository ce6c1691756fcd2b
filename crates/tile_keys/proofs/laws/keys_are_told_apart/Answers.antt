use Rattle.tile_keys.proofs.ToldApart.{same_tile, same_name, lesser_name, tile_then_name}
use Rattle.tile_keys.proofs.laws.keys_are_told_apart.Goals as goal

-- src/laws.rt
pub returns-clause-tiles : goal.returns-clause-tiles
returns-clause-tiles c = same_tile

pub returns-clause-names : goal.returns-clause-names
returns-clause-names c = same_name

pub returns-clause-order : goal.returns-clause-order
returns-clause-order c = lesser_name

pub returns-clause-first : goal.returns-clause-first
returns-clause-first c = tile_then_name
