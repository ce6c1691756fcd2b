-- A strip more is kept, and those before it still are.
use Rattle.std.proofs.Common.{◌∙◌, sym, subst, All, take, get_or, pos, rules, w64, SFits, to_z-of_z}
use Rattle.std.proofs.lemmas.List.{take_more}
use Rattle.std.proofs.lemmas.List.Elements.{All-push, All-weaker}
use Rattle.cell_map.specs.Exchange.{IsKept}
use Rattle.cell_map.proofs.exchange.keep_all.Goals as goal

pub loop-k-preserved : goal.loop-k-preserved
loop-k-preserved c =
    let ks = c.args.numbers.now in
    let i = c.loop-k.k-index in
    let fits : SFits w64 (get_or ks i (pos 0)) = search rules in
    let kept = simp to_z-of_z at c.in_ok-keep.ensures.kept in
    let now = c.keep.new.strips.entries in
    let before = All-weaker (IsKept c.loop-k.strips.entries) (IsKept now) c.in_ok-keep.ensures.others (take i ks) c.loop-k.invariant.kept in
    record {
      same = λ k. c.in_ok-keep.ensures.same k ∙ c.loop-k.invariant.same k;
      kept = subst (All (IsKept now)) (sym (take_more ks i (pos 0) c.loop-k-test.true))
          (All-push (IsKept now) (take i ks) (get_or ks i (pos 0)) before kept);
    }
