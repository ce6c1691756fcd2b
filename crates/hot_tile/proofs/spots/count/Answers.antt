use Rattle.std.proofs.Common.{◌≡◌, ◌∙◌, sym, ap, subst, arith, is_lt, ◌<◌, List, length, get_or, set, take, drop}
use Rattle.std.specs.Prelude.{not}
use Rattle.std.specs.List.{filter}
use Rattle.std.specs.Ordering.{nat_cmp}
use Rattle.std.proofs.lemmas.List.{get_or_default}
use Rattle.hot_tile.specs.declared.spots.Spot.{Spot}
use Rattle.hot_tile.specs.Spots.{both}
use Rattle.hot_tile.proofs.SpotLaws.{count_put, count_set}
use Rattle.hot_tile.proofs.spots.count.Goals as goal
use Rattle.hot_tile.proofs.spots.count.Goals.{else-at-len-via-then-at-len+else-index-more, else-at-len-via-else-at-len}

abbrev unread : Spot
unread = record { key = 0; ends = 0; crossings = 0 }

pub returns-then-index-more : goal.returns-then-index-more
returns-then-index-more c =
    let lt : c.index_of_key-at.result < length c.args.spots.now.items = omega (arith, c.if-at-len.true, c.len.ensures) in
    let lesser =
    subst (λ (zs : List Spot). take c.index_of_key-at.result zs ≡ filter (λ x. is_lt (nat_cmp x.key c.args.more.key)) zs) c.deref.ensures.value
    c.index_of_key-at.ensures.lesser in
    let others =
    subst (λ (zs : List Spot). drop c.index_of_key-at.result zs ≡ filter (λ x. not (is_lt (nat_cmp x.key c.args.more.key))) zs) c.deref.ensures.value
    c.index_of_key-at.ensures.others in
    let first : c.index.result.now ≡ get_or c.args.spots.now.items c.index_of_key-at.result unread =
    c.index.ensures ∙ get_or_default c.args.spots.now.items c.index_of_key-at.result c.index.result.now unread lt in
    let second : c.index-then-index-more.result.now ≡ get_or c.args.spots.now.items c.index_of_key-at.result unread =
    c.index-then-index-more.ensures
    ∙ get_or_default c.args.spots.now.items c.index_of_key-at.result c.index-then-index-more.result.now unread lt in
    ap (set c.args.spots.now.items c.index_of_key-at.result)
    (c.both.ensures ∙ ap (λ (x : Spot). both x c.args.more) second)
    ∙ count_set c.args.spots.now.items c.args.more c.index_of_key-at.result c.requires.rising lesser others unread lt
    (ap (λ (x : Spot). x.key) (sym first) ∙ c.if-index-more.true)

pub returns : goal.returns
returns c =
    let lesser =
    subst (λ (zs : List Spot). take c.index_of_key-at.result zs ≡ filter (λ x. is_lt (nat_cmp x.key c.args.more.key)) zs) c.deref.ensures.value
    c.index_of_key-at.ensures.lesser in
    let others =
    subst (λ (zs : List Spot). drop c.index_of_key-at.result zs ≡ filter (λ x. not (is_lt (nat_cmp x.key c.args.more.key))) zs) c.deref.ensures.value
    c.index_of_key-at.ensures.others in
    let other : c.index_of_key-at.result < length c.args.spots.now.items
    → (get_or c.args.spots.now.items c.index_of_key-at.result unread).key ≡ c.args.more.key → ⊥ =
    λ lt same. elim c.else-at-len.branch [
      | else-at-len-via-then-at-len+else-index-more w ↦
          w.if-index-more.false
          (ap (λ (x : Spot). x.key)
          (w.index.ensures ∙ get_or_default c.args.spots.now.items c.index_of_key-at.result w.index.result.now unread lt) ∙ same)
      | else-at-len-via-else-at-len w ↦ omega (arith, lt, w.if-at-len.false, c.len.ensures)
    ] in
    c.in_ok-insert.ensures.items
    ∙ count_put c.args.spots.now.items c.args.more c.index_of_key-at.result c.requires.rising lesser others unread other
