use Rattle.std.proofs.Common.{rules, is_lt, nat_cmp, ◌≡◌, true, false, ℕ, subst, sym}
use Rattle.std.specs.List.Sorted.{IsPartitionPoint, IsStrictlySortedBy}
use Rattle.std.proofs.lemmas.Cmp.{nat_cmp_total}
use Rattle.std.proofs.lemmas.List.Sorted.{IsPartitionPoint-from_clause}
use Rattle.hot_tile.proofs.Parted.{parted_by, parts}
use Rattle.hot_tile.proofs.SpotLaws.{rows_mapped}
use Rattle.hot_tile.proofs.steps.index_of_step.Goals as goal
use Rattle.hot_tile.proofs.steps.index_of_step.Goals.{After-partition_point}

divided : (c : After-partition_point)
    → IsPartitionPoint (λ (k : ℕ). is_lt (nat_cmp k c.args.step) ≡ true) (λ (k : ℕ). is_lt (nat_cmp k c.args.step) ≡ false)
    c.args.row.now c.partition_point.result
divided c =
    IsPartitionPoint-from_clause (λ (k : ℕ). is_lt (nat_cmp k c.args.step)) c.args.row.now c.partition_point.result
    c.partition_point.ensures.partitioned
    (parted_by nat_cmp_total (λ (k : ℕ). k) c.args.step c.args.row.now
    (subst (IsStrictlySortedBy nat_cmp) (sym (rows_mapped c.args.row.now)) c.requires))
    (λ a r f' k. search rules)

pub returns-clause-lesser : goal.returns-clause-lesser
returns-clause-lesser c = (parts (λ (k : ℕ). is_lt (nat_cmp k c.args.step)) c.args.row.now c.partition_point.result (divided c)).0

pub returns-clause-others : goal.returns-clause-others
returns-clause-others c = (parts (λ (k : ℕ). is_lt (nat_cmp k c.args.step)) c.args.row.now c.partition_point.result (divided c)).1
