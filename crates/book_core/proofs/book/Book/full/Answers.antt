use mir.Syntax.{w64}
use Rattle.std.proofs.Common.{rules, ap, subst, ◌∙◌, ◌<◌, arith, length, SFits, to_z-of_z}
use Rattle.version_core.specs.Edits.{after_edits}
use Rattle.version_core.specs.Stands.{spans_of}
use Rattle.tile_law.specs.Parts.{passes_of}
use Rattle.book_core.specs.Book.{IsBook, most_commits}
use Rattle.book_core.proofs.Refusals.{full_spans, full_passes, full_none}
use Rattle.book_core.proofs.book.Book.full.Goals as goal

-- src/refusal.rt
pub returns-then-exceeds : goal.returns-then-exceeds
returns-then-exceeds c =
    let version = c.deref.ensures ∙ ap (λ b. b.version) c.self.view_is in
    let version2 = c.deref-2.ensures ∙ ap (λ b. b.version) c.self.view_is in
    let kept = ap (λ b. length b.history) c.self.view_is in
    let few : length c.args.self.now.history < most_commits = omega (arith, c.len.ensures, c.if-len-ge-MOST_COMMITS.false, kept) in
    let fits : SFits w64 c.span_gain.result = search rules in
    full_spans c.args.self.now (subst IsBook c.self.view_is c.self.invariant) c.args.prepared.now c.requires.profile c.requires.stands
    few c.count_with.result
    (c.count_with.ensures ∙ (λ i. length (after_edits (version i).live ((c.change.ensures.value i).edits))))
    c.if-count_with-gt-MOST_SEGMENTS.false c.spans.result _
    (c.spans.ensures ∙ (λ i. spans_of (version2 i).profile (version2 i).live)) (to_z-of_z fits ∙ c.span_gain.ensures)
    c.exceeds.result c.exceeds.ensures c.if-exceeds.true

pub returns-then-exceeds-2 : goal.returns-then-exceeds-2
returns-then-exceeds-2 c =
    let version = c.deref.ensures ∙ ap (λ b. b.version) c.self.view_is in
    let version2 = c.deref-2.ensures ∙ ap (λ b. b.version) c.self.view_is in
    let version3 = c.deref-3.ensures ∙ ap (λ b. b.version) c.self.view_is in
    let kept = ap (λ b. length b.history) c.self.view_is in
    let few : length c.args.self.now.history < most_commits = omega (arith, c.len.ensures, c.if-len-ge-MOST_COMMITS.false, kept) in
    let fits : SFits w64 c.span_gain.result = search rules in
    let fits2 : SFits w64 c.gain.result = search rules in
    full_passes c.args.self.now (subst IsBook c.self.view_is c.self.invariant) c.args.prepared.now c.requires.profile c.requires.stands
    few c.count_with.result
    (c.count_with.ensures ∙ (λ i. length (after_edits (version i).live ((c.change.ensures.value i).edits))))
    c.if-count_with-gt-MOST_SEGMENTS.false c.spans.result _
    (c.spans.ensures ∙ (λ i. spans_of (version2 i).profile (version2 i).live)) (to_z-of_z fits ∙ c.span_gain.ensures)
    c.exceeds.result c.exceeds.ensures c.if-exceeds.false c.passes.result _
    (c.passes.ensures ∙ (λ i. passes_of (version3 i).live)) (to_z-of_z fits2 ∙ c.gain.ensures)
    c.exceeds-2.result c.exceeds-2.ensures c.if-exceeds-2.true

pub returns : goal.returns
returns c =
    let version = c.deref.ensures ∙ ap (λ b. b.version) c.self.view_is in
    let version2 = c.deref-2.ensures ∙ ap (λ b. b.version) c.self.view_is in
    let version3 = c.deref-3.ensures ∙ ap (λ b. b.version) c.self.view_is in
    let kept = ap (λ b. length b.history) c.self.view_is in
    let few : length c.args.self.now.history < most_commits = omega (arith, c.len.ensures, c.if-len-ge-MOST_COMMITS.false, kept) in
    let fits : SFits w64 c.span_gain.result = search rules in
    let fits2 : SFits w64 c.gain.result = search rules in
    full_none c.args.self.now (subst IsBook c.self.view_is c.self.invariant) c.args.prepared.now c.requires.profile c.requires.stands
    few c.count_with.result
    (c.count_with.ensures ∙ (λ i. length (after_edits (version i).live ((c.change.ensures.value i).edits))))
    c.if-count_with-gt-MOST_SEGMENTS.false c.spans.result _
    (c.spans.ensures ∙ (λ i. spans_of (version2 i).profile (version2 i).live)) (to_z-of_z fits ∙ c.span_gain.ensures)
    c.exceeds.result c.exceeds.ensures c.if-exceeds.false c.passes.result _
    (c.passes.ensures ∙ (λ i. passes_of (version3 i).live)) (to_z-of_z fits2 ∙ c.gain.ensures)
    c.exceeds-2.result c.exceeds-2.ensures c.if-exceeds-2.false
