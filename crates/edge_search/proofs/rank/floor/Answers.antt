use Rattle.std.proofs.Common.{◌≡◌, ◌≤◌, rules, subst, sym, to_z, of_z}
use mir.Syntax.{w128}
use Rattle.std.specs.Prelude.{unsigned_abs}
use Rattle.std.specs.Int.{int_div_euclid}
use Rattle.edge_search.proofs.Rounding.{floor_within}
use Rattle.edge_search.proofs.rank.floor.Goals.{After-div_euclid}
use Rattle.edge_search.proofs.rank.floor.Goals as goal

value : (c : After-div_euclid) → to_z w128 (of_z w128 c.div_euclid.result) ≡ int_div_euclid c.args.n c.args.d
value c = search rules

pub returns-clause-small : goal.returns-clause-small
returns-clause-small c m h =
    subst (λ z. unsigned_abs z ≤ m) (sym (value c)) (floor_within c.args.n c.args.d m c.requires.positive h)
