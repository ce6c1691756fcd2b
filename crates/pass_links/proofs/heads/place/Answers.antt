use Rattle.std.proofs.Common.{rules, ◌≡◌, ◌≤◌, ◌∙◌, sym, ap, arith, is_lt, is_eq, length, get_or, Less, Greater}
use Rattle.std.specs.List.Sorted.{IsPartitionPoint}
use Rattle.std.proofs.lemmas.List.Sorted.{IsPartitionPoint-from_clause}
use Rattle.pass_links.specs.declared.heads.Head.{Head}
use Rattle.pass_links.proofs.HeadLaws.{divided, gap_after, first_missing}
use Rattle.pass_links.proofs.heads.place.Goals as goal

none_after : (g : _) (c : goal.In_default g)
    → IsPartitionPoint (λ (h : Head _). g.K.Ord.cmp h.of c.args.of.now ≡ Less) (λ (h : Head _). g.K.Ord.cmp h.of c.args.of.now ≡ Greater)
    c.args.heads.now c.partition_point-at.result
none_after g c =
    let past : length c.args.heads.now ≤ c.partition_point-at.result = search rules in
    gap_after g.met.K.Ord.total c.args.of.now c.args.heads.now c.requires c.partition_point-at.result
    (IsPartitionPoint-from_clause (λ (h : Head _). is_lt (g.K.Ord.cmp h.of c.args.of.now)) c.args.heads.now c.partition_point-at.result
    c.partition_point-at.ensures.partitioned (divided g.met.K.Ord.total c.args.of.now c.args.heads.now c.requires) (λ a r f' k. search rules))
    (λ d within. absurd (omega (arith, within, past)))

another : (g : _) (c : goal.Else-eq g)
    → IsPartitionPoint (λ (h : Head _). g.K.Ord.cmp h.of c.args.of.now ≡ Less) (λ (h : Head _). g.K.Ord.cmp h.of c.args.of.now ≡ Greater)
    c.args.heads.now c.partition_point-at.result
another g c =
    gap_after g.met.K.Ord.total c.args.of.now c.args.heads.now c.requires c.partition_point-at.result
    (IsPartitionPoint-from_clause (λ (h : Head _). is_lt (g.K.Ord.cmp h.of c.args.of.now)) c.args.heads.now c.partition_point-at.result
    c.partition_point-at.ensures.partitioned (divided g.met.K.Ord.total c.args.of.now c.args.heads.now c.requires) (λ a r f' k. search rules))
    (λ d within.
    let read : c.in-Some.head.now ≡ get_or c.args.heads.now c.partition_point-at.result d = search rules in
    ap (λ (h : Head _). is_eq (g.K.Ord.cmp h.of c.args.of.now)) (sym read)
    ∙ sym (g.met.K.Ord.matches_eq c.in-Some.head.now.of c.args.of.now) ∙ sym c.eq.ensures ∙ c.if-eq.false)

pub returns-in_default-clause-place : goal.returns-in_default-clause-place
returns-in_default-clause-place g c = record { within = c.partition_point-at.ensures.bound; found = none_after g c }

pub returns-in_default-clause-none : goal.returns-in_default-clause-none
returns-in_default-clause-none g c =
    first_missing g.met.K.Ord.total c.args.of.now c.args.heads.now c.partition_point-at.result c.requires c.partition_point-at.ensures.bound (none_after g c)

pub returns-else-eq-clause-place : goal.returns-else-eq-clause-place
returns-else-eq-clause-place g c = record { within = c.partition_point-at.ensures.bound; found = another g c }

pub returns-else-eq-clause-none : goal.returns-else-eq-clause-none
returns-else-eq-clause-none g c =
    first_missing g.met.K.Ord.total c.args.of.now c.args.heads.now c.partition_point-at.result c.requires c.partition_point-at.ensures.bound (another g c)
