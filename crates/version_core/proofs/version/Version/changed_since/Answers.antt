use Rattle.std.proofs.Common.{◌≡◌, ◌∙◌, sym, subst, ◌<◌, ◌↔◌, List, Contains, IsPermutation}
use Rattle.grid_core.specs.declared.tile.TileId.{TileId}
use Rattle.version_core.specs.Version.{VersionState, stamp_of, tiles_stamped_after}
use Rattle.version_core.proofs.Changed.{changed_sorted, changed_are_above}
use Rattle.version_core.proofs.version.Version.changed_since.Goals as goal
use Rattle.version_core.proofs.version.Version.changed_since.Goals.{After-sort_unstable}

-- src/read.rt
value : (c : After-sort_unstable) → c.sort_unstable.new.self.items
    ≡ tiles_stamped_after c.args.self.now.stamps c.args.older.now.number
value c =
    let ids = c.sort_unstable.new.self.items in
    let sorted = changed_sorted c.older.inside.number _ c.self.inside.entries c.self.invariant.rising c.self.invariant.keyed ids
    (subst (λ us. IsPermutation us ids) c.in_ok-changed.ensures c.sort_unstable.ensures.permutation)
    c.sort_unstable.ensures.sorted in
    sorted ∙ (λ i. tiles_stamped_after (c.self.view_is i).stamps (c.older.view_is i).number)

pub returns-clause-value : goal.returns-clause-value
returns-clause-value c = value c

pub returns-clause-stamped : goal.returns-clause-stamped
returns-clause-stamped c = λ t.
    let told = changed_are_above c.older.inside.number _ c.self.inside.entries c.self.invariant.rising c.self.invariant.keyed t in
    let here = subst (λ (v : VersionState). Contains (tiles_stamped_after v.stamps c.older.inside.number) t
    ↔ (c.older.inside.number < stamp_of v.stamps t)) c.self.view_is told in
    let both = subst (λ (w : VersionState). Contains (tiles_stamped_after c.args.self.now.stamps w.number) t
    ↔ (w.number < stamp_of c.args.self.now.stamps t)) c.older.view_is here in
    subst (λ (ts : List TileId). Contains ts t ↔ (c.args.older.now.number < stamp_of c.args.self.now.stamps t)) (sym (value c)) both
