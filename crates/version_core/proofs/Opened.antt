-- The empty map is that of a version.
use Rattle.std.proofs.Common.{◌≡◌, refl, sym, subst, ℕ, List, [], rules, arith}
use Rattle.std.specs.List.Sorted.{IsStrictlySortedBy}
use Rattle.grid_core.specs.Profile.{Sizes, IsProfile}
use Rattle.version_core.specs.declared.entry.Entry.{Entry}
use Rattle.version_core.specs.Version.{IsVersion}

none : (pr : Sizes) → IsProfile pr → IsVersion pr [] 0 0 0
unfolding IsStrictlySortedBy
none pr h = record {
  sizes = h;
  rising = omega arith;
  keyed = tt;
  live = record { rising = tt; within = search rules };
  few = omega arith;
  contents = λ t r. refl;
  counted = refl;
  spanned = refl;
  passed = refl;
}

-- where there are no entries, nothing is live, and no tile has anything
pub nothing_live : (pr : Sizes) (es : List (ℕ × Entry)) → IsProfile pr → es ≡ [] → IsVersion pr es 0 0 0
nothing_live pr es h e = subst (λ us. IsVersion pr us 0 0 0) (sym e) (none pr h)
