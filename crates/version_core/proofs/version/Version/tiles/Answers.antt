use Rattle.std.proofs.Common.{◌≡◌, ◌∙◌, ap, subst, map, option_copied}
use Rattle.std.specs.List.{AllByRecursion}
use Rattle.version_core.specs.Parts.{part_under}
use Rattle.version_core.specs.Stands.{content_of}
use Rattle.version_core.proofs.PartsFound.{each_found, value_found}
use Rattle.version_core.proofs.version.Version.tiles.Goals as goal

-- src/read.rt
pub returns-clause-each : goal.returns-clause-each
returns-clause-each c =
    each_found _ _ _ _ _ c.self.invariant c.args.ids.now c.in_ok-placed.placed.items c.in_ok-placed.ensures c.in_ok-found.found.items
    (c.in_ok-found.ensures ∙ ap (map (part_under c.self.inside.entries)) c.deref.ensures.value)

pub returns-clause-value : goal.returns-clause-value
returns-clause-value c =
    let found = c.in_ok-found.found.items in
    subst (λ v. AllByRecursion (λ e. option_copied e.1 ≡ content_of v.profile e.0 v.live) found) c.self.view_is
    (value_found _ _ _ _ _ c.self.invariant c.args.ids.now c.in_ok-placed.placed.items c.in_ok-placed.ensures found
    (c.in_ok-found.ensures ∙ ap (map (part_under c.self.inside.entries)) c.deref.ensures.value) c.requires.reach)
