use Rattle.std.proofs.Common.{rules, ◌≡◌, ◌∙◌, refl, sym, ap, subst, cond, true, ◌<◌}
use Rattle.std.specs.List.{insert}
use Rattle.std.specs.Ordering.{eq_by_cmp}
use Rattle.std.specs.Result.{is_ok}
use Rattle.std.specs.Vec.{vec_len, vec_capacity}
use Rattle.pass_links.specs.Chain.{end}
use Rattle.pass_links.specs.Heads.{IsHeadPlace, first_of}
use Rattle.pass_links.proofs.HeadLaws.{rise_when_set, first_when_set, rise_when_inserted, first_when_inserted, rise_when_removed, first_when_removed, first_missing}
use Rattle.pass_links.proofs.heads.set_first.Goals as goal

pub returns-then-first-eq-END-clause-rise : goal.returns-then-first-eq-END-clause-rise
returns-then-first-eq-END-clause-rise g c =
    let stands = subst (IsHeadPlace g.K.Ord.cmp c.args.heads.now.items c.args.of) c.in-Ok.is c.requires.place in
    rise_when_removed g.met.K.Ord.total c.args.of c.args.heads.now.items c.in-Ok.at c.requires.rise stands.within stands.found c.remove.new.self.items c.remove.ensures.items

pub returns-then-first-eq-END-clause-first : goal.returns-then-first-eq-END-clause-first
returns-then-first-eq-END-clause-first g c = λ q.
    let stands = subst (IsHeadPlace g.K.Ord.cmp c.args.heads.now.items c.args.of) c.in-Ok.is c.requires.place in
    first_when_removed g.met.K.Ord.total c.args.of c.args.heads.now.items c.in-Ok.at c.requires.rise stands.within stands.found c.remove.new.self.items c.remove.ensures.items q
    ∙ ap (λ k. cond (eq_by_cmp g.K.Ord.cmp q c.args.of) k (first_of g.K.Ord.cmp c.args.heads.now.items q)) (sym c.if-first-eq-END.true)

pub returns-else-first-eq-END-clause-rise : goal.returns-else-first-eq-END-clause-rise
returns-else-first-eq-END-clause-rise g c =
    let stands = subst (IsHeadPlace g.K.Ord.cmp c.args.heads.now.items c.args.of) c.in-Ok.is c.requires.place in
    rise_when_set g.met.K.Ord.total c.args.of c.args.heads.now.items c.in-Ok.at c.requires.rise stands.within stands.found
    c.index_mut.result.now (record { of = c.index_mut.result.now.of; first = c.args.first }) c.index_mut.ensures.value refl

pub returns-else-first-eq-END-clause-first : goal.returns-else-first-eq-END-clause-first
returns-else-first-eq-END-clause-first g c =
    let stands = subst (IsHeadPlace g.K.Ord.cmp c.args.heads.now.items c.args.of) c.in-Ok.is c.requires.place in
    first_when_set g.met.K.Ord.total c.args.of c.args.heads.now.items c.in-Ok.at c.requires.rise stands.within stands.found
    c.index_mut.result.now (record { of = c.index_mut.result.now.of; first = c.args.first }) c.index_mut.ensures.value refl

pub prove-unreachable-requires : goal.prove-unreachable-requires
prove-unreachable-requires g c =
    let missing = subst (IsHeadPlace g.K.Ord.cmp c.args.heads.now.items c.args.of) c.in-Err.is c.requires.place in
    let none : first_of g.K.Ord.cmp c.args.heads.now.items c.args.of ≡ end =
    first_missing g.met.K.Ord.total c.args.of c.args.heads.now.items c.in-Err.at c.requires.rise missing.within missing.found in
    let room : vec_len c.args.heads.now < vec_capacity c.args.heads.now = c.requires.room none in search rules

pub returns-in-Err : goal.returns-in-Err
returns-in-Err g c =
    let missing = subst (IsHeadPlace g.K.Ord.cmp c.args.heads.now.items c.args.of) c.in-Err.is c.requires.place in
    let none : first_of g.K.Ord.cmp c.args.heads.now.items c.args.of ≡ end =
    first_missing g.met.K.Ord.total c.args.of c.args.heads.now.items c.in-Err.at c.requires.rise missing.within missing.found in
    let room : vec_len c.args.heads.now < vec_capacity c.args.heads.now = c.requires.room none in
    let done : is_ok c.insert-put.result ≡ true = search rules in
    let put : c.insert-put.new.self.items ≡ insert c.args.heads.now.items c.in-Err.at (record { of = c.args.of; first = c.args.first }) = rw done at c.insert-put.ensures.items in
    record {
      rise = rise_when_inserted g.met.K.Ord.total c.args.of c.args.heads.now.items c.in-Err.at c.requires.rise missing.within missing.found c.args.first c.insert-put.new.self.items put;
      first = first_when_inserted g.met.K.Ord.total c.args.of c.args.heads.now.items c.in-Err.at c.requires.rise missing.within missing.found c.args.first c.insert-put.new.self.items put;
      len = search rules;
      had = λ some. absurd (some none);
      capacity = search rules;
    }
