use Rattle.std.proofs.Common.{◌≡◌, refl, subst, sym, ap, ◌∙◌, ◌-◌, List, ◌++◌, Some, set, take}
use Rattle.script_read.specs.declared.command.Act.TheVariants.{Commit}
use Rattle.script_read.specs.declared.reply.Said.{Said}
use Rattle.session_core.specs.declared.seat.Seat.{Seat}
use Rattle.session_core.specs.World.{IsSeat, IsWorld, world_of, AreAlike, AreKept, DidAt}
use Rattle.session_core.proofs.Worlds.{IsAt, seat_at, set_world, acted, own_may, commit_refused, restored, alike_world, alike_seats, whole}
use Rattle.session_core.proofs.Taken.{IsTaken, taken_seats, taken_world}
use Rattle.session_core.proofs.world.World.commit.Goals as goal
use Rattle.session_core.proofs.world.World.commit.Goals.{After-index_mut-seat, In-Some, In-Ok, In-Err, in-Older-2, in-Newest-2}

at : (c : After-index_mut-seat)
    → IsAt c.self.inside.tools.looked.brand c.self.inside.book c.self.inside.seats.items c.args.editor c.from-at.result c.index_mut-seat.result.now
at c =
    record {
      world = c.self.invariant;
      some = c.requires.first;
      few = c.requires.last;
      same = c.from-at.ensures;
      there = c.index_mut-seat.ensures.value;
    }

seat : (c : After-index_mut-seat) → IsSeat c.self.inside.book c.args.editor c.index_mut-seat.result.now
seat c = seat_at _ c.self.inside.book c.self.inside.seats.items c.args.editor _ _ (at c)

prepared : (c : In-Some) → c.index_mut-seat.result.now.prepared ≡ Some c.in-Some.prepared
prepared c = sym c.take.ensures.value ∙ c.in-Some.is

-- src/world.rt
pub refusal-requires : goal.refusal-requires
refusal-requires c =
    record { may = (own_may _ c.args.editor _ c.in-Some.prepared (seat (goal.at.refusal-requires c).After-index_mut-seat) (prepared (goal.at.refusal-requires c).In-Some)).may }

pub invariant_of-self-in-Some-refusal : goal.invariant_of-self-in-Some-refusal
invariant_of-self-in-Some-refusal c =
    set_world _ c.self.inside.book c.self.inside.seats.items c.args.editor _ _ (at (goal.at.invariant_of-self-in-Some-refusal c).After-index_mut-seat) c.self.inside.tools.looked.brand refl _
    (commit_refused _ c.args.editor _ c.in-Some.prepared c.in-Some-refusal.why (seat (goal.at.invariant_of-self-in-Some-refusal c).After-index_mut-seat) (prepared (goal.at.invariant_of-self-in-Some-refusal c).In-Some)
    (sym c.refusal.ensures ∙ c.in-Some-refusal.is) c.take.new.self c.take.ensures.after).seat

pub returns-in-Some-refusal-clause-did : goal.returns-in-Some-refusal-clause-did
returns-in-Some-refusal-clause-did c =
    let after = world_of c.self.inside.book
    (set c.self.inside.seats.items (c.from-at.result - 1) (record c.index_mut-seat.result.now { prepared = c.take.new.self })) in
    subst (λ w. DidAt c.args.editor Commit w after c.refused.result) c.self.view_is
    (subst (DidAt c.args.editor Commit (world_of c.self.inside.book c.self.inside.seats.items) after) (sym c.refused.ensures)
    (acted _ c.self.inside.book c.self.inside.seats.items c.args.editor _ _ (at (goal.at.returns-in-Some-refusal-clause-did c).After-index_mut-seat) Commit _ _
    (commit_refused _ c.args.editor _ c.in-Some.prepared c.in-Some-refusal.why (seat (goal.at.returns-in-Some-refusal-clause-did c).After-index_mut-seat) (prepared (goal.at.returns-in-Some-refusal-clause-did c).In-Some)
    (sym c.refusal.ensures ∙ c.in-Some-refusal.is) c.take.new.self c.take.ensures.after)))

pub append-requires-clause-may : goal.append-requires-clause-may
append-requires-clause-may c = (own_may _ c.args.editor _ c.in-Some.prepared (seat (goal.at.append-requires-clause-may c).After-index_mut-seat) (prepared (goal.at.append-requires-clause-may c).In-Some)).may

taken : (c : In-Ok)
    → IsTaken c.self.inside.tools.looked.brand c.self.inside.book c.self.inside.seats.items c.args.editor c.from-at.result
    c.index_mut-seat.result.now c.in-Some.prepared c.append.new.book c.append.new.seats
taken c =
    record {
      at = record {
        world = c.self.invariant;
        some = c.requires.first;
        few = c.requires.last;
        same = c.from-at.ensures;
        there = c.index_mut-seat.ensures.value;
      };
      prepared = sym c.take.ensures.value ∙ c.in-Some.is;
      unrefused = sym c.refusal.ensures ∙ c.in_default-refusal.is;
      took = c.in-Ok.ensures.took;
      book = c.in-Ok.ensures.book;
      kept = subst (λ mid. AreKept c.self.inside.book (c.from-at.result - 1) mid c.append.new.seats)
          (c.deref_mut.ensures.value
          ∙ (λ i. set c.self.inside.seats.items (c.from-at.result - 1)
          (record c.index_mut-seat.result.now { held = c.replace-held.ensures.after i; prepared = c.take.ensures.after i })))
          c.in-Ok.ensures.kept;
    }

-- the list of seats that was lent comes back whole
back : (c : In-Ok) (rest : List Seat) → take c.self.inside.seats.len (c.append.new.seats ++ rest) ≡ c.append.new.seats
back c rest = whole c.self.inside.seats.len c.append.new.seats rest (sym (c.in-Ok.ensures.kept.all ∙ c.deref_mut.ensures.len))

stays : (c : In-Ok) (rest : List Seat)
    → IsWorld c.self.inside.tools.looked.brand c.append.new.book (take c.self.inside.seats.len (c.append.new.seats ++ rest))
stays c rest =
    subst (IsWorld c.self.inside.tools.looked.brand c.append.new.book) (sym (back c rest)) (taken_seats _ _ _ _ _ _ _ _ _ (taken c))

done : (c : In-Ok) (rest : List Seat)
    → DidAt c.args.editor Commit c.args.self.now (world_of c.append.new.book (take c.self.inside.seats.len (c.append.new.seats ++ rest)))
    (Said.Commit c.in-Ok.number)
done c rest =
    subst (λ w. DidAt c.args.editor Commit w (world_of c.append.new.book (take c.self.inside.seats.len (c.append.new.seats ++ rest)))
    (Said.Commit c.in-Ok.number)) c.self.view_is
    (subst (λ us. DidAt c.args.editor Commit (world_of c.self.inside.book c.self.inside.seats.items) (world_of c.append.new.book us)
    (Said.Commit c.in-Ok.number)) (sym (back c rest))
    (taken_world _ _ _ _ _ _ _ _ _ (taken c) c.in-Ok.number c.in-Ok.ensures.number))

pub invariant_of-self-in-Ok : goal.invariant_of-self-in-Ok
invariant_of-self-in-Ok c = stays (goal.at.invariant_of-self-in-Ok c).In-Ok _

pub invariant_of-self-in-Ok-2 : goal.invariant_of-self-in-Ok-2
invariant_of-self-in-Ok-2 c = stays (goal.at.invariant_of-self-in-Ok-2 c).In-Ok _

pub returns-in-Ok-clause-did : goal.returns-in-Ok-clause-did
returns-in-Ok-clause-did c =
    let after = done (goal.at.returns-in-Ok-clause-did c).In-Ok in
    elim c.match-held.branch [
      | in-Older-2 w ↦ subst (λ v. DidAt c.args.editor Commit c.args.self.now v (Said.Commit c.in-Ok.number)) (sym w.self-is) (after _)
      | in-Newest-2 w ↦ subst (λ v. DidAt c.args.editor Commit c.args.self.now v (Said.Commit c.in-Ok.number)) (sym w.self-is) (after _)
    ]

alike : (c : In-Err)
    → AreAlike c.self.inside.book c.self.inside.seats.items
    (set c.append.new.seats (c.from-at.result - 1)
    (record c.index_mut-seat.result.now { held = c.replace-held.result; prepared = Some c.in-Err.prepared }))
alike c =
    restored c.self.inside.tools.looked.brand c.self.inside.book c.self.inside.seats.items c.args.editor c.from-at.result
    c.index_mut-seat.result.now (record {
      world = c.self.invariant;
      some = c.requires.first;
      few = c.requires.last;
      same = c.from-at.ensures;
      there = c.index_mut-seat.ensures.value;
    })
    c.deref_mut.result.now c.append.new.seats _ _ c.deref_mut.ensures.value c.in-Err.ensures.alike
    (λ i. record c.index_mut-seat.result.now {
      held = c.replace-held.ensures.value i;
      prepared = (ap Some c.in-Err.ensures.back ∙ (sym c.in-Some.is ∙ c.take.ensures.value)) i;
    })

-- the seats as they are in the end
abbrev put_back : In-Err → List Seat → List Seat
put_back c rest =
    set (take c.self.inside.seats.len (c.append.new.seats ++ rest)) (c.from-at.result - 1)
    (record c.index_mut-seat.result.now { held = c.replace-held.result; prepared = Some c.in-Err.prepared })

alike_back : (c : In-Err) (rest : List Seat) → AreAlike c.self.inside.book c.self.inside.seats.items (put_back c rest)
alike_back c rest =
    subst (λ us. AreAlike c.self.inside.book c.self.inside.seats.items (set us (c.from-at.result - 1)
    (record c.index_mut-seat.result.now { held = c.replace-held.result; prepared = Some c.in-Err.prepared })))
    (sym (whole c.self.inside.seats.len c.append.new.seats rest (sym (c.in-Err.ensures.alike.all ∙ c.deref_mut.ensures.len))))
    (alike c)

stays_back : (c : In-Err) (rest : List Seat) → IsWorld c.self.inside.tools.looked.brand c.append.new.book (put_back c rest)
stays_back c rest =
    subst (λ b. IsWorld c.self.inside.tools.looked.brand b (put_back c rest)) (sym c.in-Err.ensures.same)
    (alike_seats _ c.self.inside.book c.self.inside.seats.items (put_back c rest) (alike_back c rest) c.self.invariant)

as_before : (c : In-Err) (rest : List Seat) → world_of c.append.new.book (put_back c rest) ≡ c.args.self.now
as_before c rest =
    ap (λ b. world_of b (put_back c rest)) c.in-Err.ensures.same
    ∙ alike_world c.self.inside.book c.self.inside.seats.items (put_back c rest) (alike_back c rest)
    ∙ c.self.view_is

pub invariant_of-self-in-Err : goal.invariant_of-self-in-Err
invariant_of-self-in-Err c = stays_back (goal.at.invariant_of-self-in-Err c).In-Err _

pub returns-in-Err-clause-memory : goal.returns-in-Err-clause-memory
returns-in-Err-clause-memory c = as_before (goal.at.returns-in-Err-clause-memory c).In-Err _
