-- Sets as rising lists: the members in order, each once.
use Rattle.std.specs.Prelude.{List, [], fold}
use Rattle.std.specs.declared.cmp.Ordering.{Ordering}
use Rattle.std.specs.BTreeSet.{insert_key}

-- the members of a list in rising order, each once
abbrev pub rising : {K : Type 0} → (K → K → Ordering) → List K → List K
rising cmp ks = fold (insert_key cmp) [] ks
