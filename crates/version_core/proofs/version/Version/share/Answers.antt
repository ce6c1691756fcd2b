use Rattle.std.proofs.Common.{◌≡◌, refl, ℕ, List, [], sym, subst, ap, ◌∙◌}
use Rattle.radix_map.specs.Entries.{edited_all}
use Rattle.version_core.specs.declared.entry.Entry.{Entry}
use Rattle.version_core.specs.Version.{IsVersion, version_of}
use Rattle.version_core.proofs.version.Version.share.Goals as goal

-- no edit leaves the entries
as_before : (Z : Type 0) (es : List (ℕ × Entry)) → edited_all {Z = Z} es [] ≡ es
unfolding edited_all
as_before Z es = refl

-- src/renew.rt:52:9
pub invariant_of-result : goal.invariant_of-result
invariant_of-result c =
    let m = c.self.inside in
    subst (λ es. IsVersion m.profile es m.count m.spans m.passes) (sym (c.in_ok-with_all.ensures.value ∙ as_before _ m.entries)) c.self.invariant

-- src/renew.rt:49:5
pub returns : goal.returns
returns c =
    let m = c.self.inside in
    ap (version_of m.number m.profile m.brand) (c.in_ok-with_all.ensures.value ∙ as_before _ m.entries) ∙ c.self.view_is
