-- What a lock pass knows, and how each step changes it.
use Rattle.std.specs.Prelude.{ℕ, ◌+◌, ◌-◌, List, [], ◌∷◌, ◌++◌, ℤ, length, drop}
use Rattle.turn_lock.specs.declared.stage.Stage.{Stage}
use Rattle.turn_lock.specs.declared.stage.Stage.TheVariants.{Idle, Ended}
use Rattle.turn_lock.specs.declared.view.View.{View}
use Rattle.turn_lock.specs.History.{longer}

module _ {E : Type 0} where
  -- the view of a pass that knows its number, how many there can be, its room, the label and what
  -- it has seen, and no more
  abbrev pub plain : ℕ → ℕ → ℕ → List ℤ → List E → View E
  plain number seats room label seen = record {
    number = number;
    seats = seats;
    room = room;
    stage = Idle;
    label = label;
    seen = seen;
    mine = [];
    journal = [];
    one = [];
    other = [];
    ended = [];
  }

  -- the view of the first pass: its number is 0, and all others can be split from it
  abbrev pub first_view : ℕ → List ℤ → View E
  first_view seats label = plain 0 seats (seats - 1) label []

  -- the view at another stage
  abbrev pub at_stage : Stage → View E → View E
  at_stage st v = record v { stage = st }

  -- the view of a pass that took the book, whose history is es
  abbrev pub with_journal : Stage → List E → View E → View E
  with_journal st es v = record v { stage = st; journal = es }

  -- the view of a pass that marked the history es: it has seen all of it, and added what is new in
  -- it
  abbrev pub marked : Stage → List E → View E → View E
  marked st es v = record v {
    stage = st;
    seen = es;
    journal = es;
    mine = v.mine ++ drop (length v.journal) es;
  }

  -- the view of a pass from which another was split: its room is less by one
  abbrev pub lowered : View E → View E
  lowered v = record v { room = v.room - 1 }

  -- the view of the pass that was split from one with the view v: the next number, and no room
  abbrev pub split_from : View E → View E
  split_from v = plain (v.seats - v.room) v.seats 0 v.label v.seen

  -- the view v, after a pass with the view w was joined into it: the longer of what they have seen,
  -- the room of both, and the number and the calls of w beside what it keeps
  abbrev pub joined : View E → View E → View E
  joined v w = record v {
    room = v.room + w.room;
    seen = longer v.seen w.seen;
    one = v.seen;
    other = w.seen;
    ended = v.ended ++ (w.number, w.mine) ∷ w.ended;
  }

  -- the view of a pass that was joined into another
  abbrev pub spent : View E
  spent = record (plain 0 0 0 [] []) { stage = Ended }
