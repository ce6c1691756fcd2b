use mir.Syntax.{w64}
use Rattle.std.proofs.Common.{rules, ap, sym, subst, ◌∙◌, ◌+◌, SFits, to_z-of_z}
use Rattle.version_core.specs.Version.{IsVersion, IsNext, version_of}
use Rattle.version_core.proofs.Renewing.{can_renew, edits_fit, spans_fit, passes_fit, spans_gain_fits, passes_gain_fits}
use Rattle.version_core.proofs.Renewing.{renewed_is_version, renewed_is_next}
use Rattle.version_core.proofs.version.Version.renew.Goals as goal

-- src/renew.rt:24:13
pub count_after-count-requires-clause-some : goal.count_after-count-requires-clause-some
count_after-count-requires-clause-some c =
    edits_fit (can_renew c.self.invariant c.self.view_is c.requires.follows c.requires.renews) c.edits.result.now
    (c.edits.ensures ∙ ap (λ x. x.edits) c.change.ensures)

-- src/renew.rt:25:13
pub gained-spans-requires-clause-small : goal.gained-spans-requires-clause-small
gained-spans-requires-clause-small c =
    spans_fit (can_renew c.self.invariant c.self.view_is c.requires.follows c.requires.renews)

pub gained-spans-requires-clause-most : goal.gained-spans-requires-clause-most
gained-spans-requires-clause-most c =
    let fits : SFits w64 c.span_gain.result = search rules in
    spans_gain_fits (can_renew c.self.invariant c.self.view_is c.requires.follows c.requires.renews) _
    (to_z-of_z fits ∙ c.span_gain.ensures)

-- src/renew.rt:26:13
pub gained-passes-requires-clause-small : goal.gained-passes-requires-clause-small
gained-passes-requires-clause-small c =
    passes_fit (can_renew c.self.invariant c.self.view_is c.requires.follows c.requires.renews)

pub gained-passes-requires-clause-most : goal.gained-passes-requires-clause-most
gained-passes-requires-clause-most c =
    let fits : SFits w64 c.gain.result = search rules in
    passes_gain_fits (can_renew c.self.invariant c.self.view_is c.requires.follows c.requires.renews) _
    (to_z-of_z fits ∙ c.gain.ensures)

-- src/renew.rt:16:5
pub invariant_of-self-2 : goal.invariant_of-self-2
invariant_of-self-2 c =
    let span_gain : SFits w64 c.span_gain.result = search rules in
    let gain : SFits w64 c.gain.result = search rules in
    subst (λ es. IsVersion c.self.inside.profile es c.count_after-count.result c.gained-spans.result c.gained-passes.result)
    (sym c.in_ok-edit.ensures.ok)
    (renewed_is_version (can_renew c.self.invariant c.self.view_is c.requires.follows c.requires.renews) c.edits.result.now
    (c.edits.ensures ∙ ap (λ x. x.edits) c.change.ensures) c.count_after-count.result c.count_after-count.ensures
    c.gained-spans.result _ (to_z-of_z span_gain ∙ c.span_gain.ensures) c.gained-spans.ensures
    c.gained-passes.result _ (to_z-of_z gain ∙ c.gain.ensures) c.gained-passes.ensures)

pub returns-clause-next : goal.returns-clause-next
returns-clause-next c =
    let m = c.self.inside in
    subst (λ v. IsNext v c.args.renewal.now.change (version_of (m.number + 1) m.profile m.brand c.edit.new.entries)) c.self.view_is
    (subst (λ es. IsNext (version_of m.number m.profile m.brand m.entries) c.args.renewal.now.change (version_of (m.number + 1) m.profile m.brand es))
    (sym c.in_ok-edit.ensures.ok)
    (renewed_is_next (can_renew c.self.invariant c.self.view_is c.requires.follows c.requires.renews)))
