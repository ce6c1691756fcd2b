use Rattle.std.proofs.Common.{◌≡◌, ◌∙◌, ◌^◌, sym, subst, []}
use Rattle.grid_core.specs.Places.{place_among}
use Rattle.edge_search.specs.Search.{IsPairWithin}
use Rattle.edge_search.proofs.FoundPlace.{pair_within, nearest_tells}
use Rattle.edge_search.proofs.search.EdgeSearch.place.Goals as goal
use Rattle.edge_search.proofs.search.EdgeSearch.place.Goals.{After-place}

value : (c : After-place) → c.place.result ≡ place_among [] c.args.self.now.edges c.args.at
value c =
    let found = c.nearest.ensures.found in
    c.place.ensures [] found.some c.args.at found.is ∙ nearest_tells c.nearest.ensures.kept c.requires.at_no_end found

pub returns-clause-value : goal.returns-clause-value
returns-clause-value c = value c

pub returns-clause-within : goal.returns-clause-within
returns-clause-within c =
    subst (IsPairWithin (2 ^ 30)) (sym (value c))
    (pair_within (2 ^ 30) c.args.self.now.edges c.args.at c.nearest.ensures.within)
