use Rattle.std.proofs.Common.{◌≡◌, refl, subst, false, option_copied, is_some, Option, Some, None, Bor}
use Rattle.std.specs.Prelude.{IsNone, ◌↔◌, Contains}
use Rattle.grid_core.specs.LiveList.{names}
use Rattle.hot_tile.specs.Tile.{segment_in}
use Rattle.version_core.proofs.Found.{segment_found}
use Rattle.version_core.proofs.version.Version.live_segment.Goals as goal
use Rattle.version_core.proofs.version.Version.live_segment.Goals.{After-live_of}

found : (c : After-live_of) → (option_copied c.live_of.result ≡ segment_in c.args.self.now.live c.args.name)
    × (IsNone (option_copied c.live_of.result) ↔ (¬ Contains (names c.args.self.now.live) c.args.name))
found c =
    subst (λ v. (option_copied c.live_of.result ≡ segment_in v.live c.args.name)
    × (IsNone (option_copied c.live_of.result) ↔ (¬ Contains (names v.live) c.args.name))) c.self.view_is
    (segment_found _ c.self.invariant.keyed c.args.name c.live_of.ensures.kept (option_copied c.live_of.result) c.live_of.ensures.value)

some_copied : {X : Type 0} (o : Option (Bor X)) → is_some (option_copied o) ≡ is_some o
some_copied None = refl
some_copied (Some x) = refl

-- src/read.rt
pub returns-clause-value : goal.returns-clause-value
returns-clause-value c = (found c).0

pub returns-clause-missing : goal.returns-clause-missing
returns-clause-missing c =
    subst (λ b. (b ≡ false → ¬ Contains (names c.args.self.now.live) c.args.name)
    × ((¬ Contains (names c.args.self.now.live) c.args.name) → b ≡ false)) (some_copied c.live_of.result) (found c).1
