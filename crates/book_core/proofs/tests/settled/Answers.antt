use Rattle.std.proofs.lemmas.Result.{on_ok_weaker}
use Rattle.book_core.proofs.Waiting.{all_still_wait, brand_stays}
use Rattle.book_core.proofs.tests.settled.Goals as goal

pub returns-clause-waiting : goal.returns-clause-waiting
returns-clause-waiting g c =
    on_ok_weaker c.answered.result
    (λ s. all_still_wait c.args.book.now c.answered.new.book c.args.done.change c.args.waiting.now s c.requires.waiting c.see_others.ensures)
    c.answered.ensures.book

pub returns-clause-book : goal.returns-clause-book
returns-clause-book g c =
    on_ok_weaker c.answered.result (λ s. brand_stays c.args.book.now c.answered.new.book c.args.done.change s)
    c.answered.ensures.book
