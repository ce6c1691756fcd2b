use Rattle.std.proofs.Common.{◌≡◌, ◌<◌, ◌∷◌, length, refl, arith}
use Rattle.std.specs.Prelude.{slice_range}
use Rattle.seg_text.specs.Fields.{fields_from}
use Rattle.seg_text.proofs.FieldLaws.{first_and_rest, some_run, none_left}
use Rattle.seg_text.proofs.fields.next_field.Goals as goal
use Rattle.seg_text.proofs.fields.next_field.Goals.{After-run_end}

pub returns-then-start-line-clause-none : goal.returns-then-start-line-clause-none
returns-then-start-line-clause-none c =
    let none = none_left _ _ _ _ c.open_end.ensures.fields c.blanks_end-start.ensures.fields (omega arith) in
    (λ _. none, λ _. refl)

goes_on : (c : After-run_end) → c.blanks_end-start.result < length c.args.line.now
goes_on c = omega (arith, c.blanks_end-start.ensures.within)

is_some : (c : After-run_end) → c.blanks_end-start.result < c.run_end.result
is_some c = some_run _ _ _ c.run_end.ensures.run (goes_on c) (c.blanks_end-start.ensures.ended (goes_on c))

first : (c : After-run_end)
    → fields_from c.args.line.now c.args.from
    ≡ slice_range c.args.line.now c.blanks_end-start.result c.run_end.result ∷ fields_from c.args.line.now c.run_end.result
first c =
    first_and_rest _ _ _ _ _ c.open_end.ensures.fields c.blanks_end-start.ensures.fields c.run_end.ensures.run (is_some c)

pub returns-clause-none : goal.returns-clause-none
returns-clause-none c = (λ e. cc e, λ e. cc (first c, e))

pub returns-clause-first : goal.returns-clause-first
returns-clause-first c = first c

pub returns-clause-within : goal.returns-clause-within
returns-clause-within c = record {
  after = omega (arith, c.open_end.ensures.after, c.blanks_end-start.ensures.after);
  some = is_some c;
  within = c.run_end.ensures.run.within;
}
