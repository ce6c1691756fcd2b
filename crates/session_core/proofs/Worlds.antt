-- The machine after one act: the book and the seats as they are then have the state that the definition
-- has, and they are those of a machine.
use Rattle.std.proofs.Common.{◌≡◌, ◌≢◌, refl, sym, ap, subst, ◌∙◌, arith, ℕ, ◌+◌, ◌-◌, ◌<◌, ◌≤◌, ◌⊎◌, inl, inr, List, [], ◌∷◌, ◌++◌, length, map, set, take, get_or, replicate, length-set, get_or-set_same, get_or-set_other, Contains, Option, Some, None, IfSome, Result, Ok, Err, IfOk, OnErr}
use Rattle.std.specs.Prelude.{option_map}
use Rattle.std.proofs.lemmas.List.{same_lists, map-set, length-map, get_or-map, get_or-replicate}
use Rattle.grid_core.specs.declared.memory.Memory.{Memory}
use Rattle.version_core.specs.History.{given_names}
use Rattle.version_core.specs.Stands.{PreparedChange}
use Rattle.book_core.specs.Book.{BookState, IsBook}
use Rattle.book_core.specs.Commit.{refusal_of}
use Rattle.book_core.specs.declared.refusal.Refusal.{Refusal}
use Rattle.script_read.specs.declared.command.Act.{Act}
use Rattle.script_read.specs.declared.command.Act.TheVariants.{Commit as MakeCommit}
use Rattle.script_read.specs.declared.reply.Said.{Said}
use Rattle.session_core.specs.declared.seat.Seat.{Seat}
use Rattle.session_core.specs.Machine.{Session, editors, new_session}
use Rattle.session_core.specs.Step.{Outcome, stays, committing, after_commit, outcome, after_outcome, refusal_said}
use Rattle.session_core.specs.World.{based_change, session_in, state_in, world_of, IsVersionOf, IsOfEditor, IsSeat, new_seat, IsWorld, Did, IsAlike, AreAlike, outcome_at, DidAt}
use Rattle.session_core.proofs.Seats.{newest_is}
use Rattle.session_core.proofs.SeatLists.{same_or_not, alike_same, any_default}

-- ---- the seat of an editor

own_session : (b : BookState) (seats : List Seat) (i : ℕ) → i < length seats
    → get_or (map (session_in b) seats) i new_session ≡ session_in b (get_or seats i new_seat)
own_session b seats i fits = get_or-map (session_in b) seats i new_seat new_session fits

-- an index of a seat is below their number
below : (k : ℕ) (b : BookState) (seats : List Seat) → IsWorld k b seats → (i : ℕ) → i < editors → i < length seats
below k b seats world i few = let all = world.all in omega (arith, all, few)

-- s is the seat of this editor, and stands at index e - 1
pub record IsAt (k : ℕ) (b : BookState) (seats : List Seat) (editor e : ℕ) (s : Seat) : Type 0 where
  pub world : IsWorld k b seats
  pub some : 1 ≤ editor
  pub few : editor ≤ editors
  pub same : e ≡ editor
  pub there : s ≡ get_or seats (e - 1) s

pub within : (k : ℕ) (b : BookState) (seats : List Seat) (editor e : ℕ) (s : Seat) → IsAt k b seats editor e s → e - 1 < length seats
within k b seats editor e s at =
    let some = at.some in let few = at.few in let same = at.same in let all = at.world.all in omega (arith, some, few, same, all)

pub own_at : (k : ℕ) (b : BookState) (seats : List Seat) (editor e : ℕ) (s : Seat) → IsAt k b seats editor e s
    → s ≡ get_or seats (e - 1) new_seat
own_at k b seats editor e s at = at.there ∙ any_default seats (e - 1) s new_seat (within k b seats editor e s at)

editor_at : (k : ℕ) (b : BookState) (seats : List Seat) (editor e : ℕ) (s : Seat) → IsAt k b seats editor e s → e - 1 + 1 ≡ editor
editor_at k b seats editor e s at = let some = at.some in let same = at.same in omega (arith, some, same)

pub seat_at : (k : ℕ) (b : BookState) (seats : List Seat) (editor e : ℕ) (s : Seat) → IsAt k b seats editor e s → IsSeat b editor s
seat_at k b seats editor e s at =
    let some = at.some in let few = at.few in let same = at.same in
    subst (IsSeat b editor) (sym (own_at k b seats editor e s at))
    (subst (λ m. IsSeat b m (get_or seats (e - 1) new_seat)) (editor_at k b seats editor e s at)
    (at.world.each (e - 1) (omega (arith, some, few, same))))

-- the same book with another seat in place of the editor's
pub set_world : (k : ℕ) (b : BookState) (seats : List Seat) (editor e : ℕ) (s : Seat) → IsAt k b seats editor e s
    → (l : ℕ) → l ≡ k → (t : Seat) → IsSeat b editor t → IsWorld l b (set seats (e - 1) t)
set_world k b seats editor e s at l brand t own =
    record {
      branded = brand ∙ at.world.branded;
      all = length-set seats (e - 1) t ∙ at.world.all;
      each = λ j few. by j few (same_or_not j (e - 1));
    }
  where
    by : (j : ℕ) → j < editors → (j ≡ e - 1) ⊎ (j ≢ e - 1) → IsSeat b (j + 1) (get_or (set seats (e - 1) t) j new_seat)
    by j few (inl here) =
        subst (λ m. IsSeat b (m + 1) (get_or (set seats (e - 1) t) m new_seat)) (sym here)
        (subst (IsSeat b (e - 1 + 1)) (sym (get_or-set_same seats (e - 1) t new_seat (within k b seats editor e s at)))
        (subst (λ m. IsSeat b m t) (sym (editor_at k b seats editor e s at)) own))
    by j few (inr ne) = subst (IsSeat b (j + 1)) (sym (get_or-set_other seats (e - 1) j t new_seat ne)) (at.world.each j few)

-- the session of the editor
session_at : (k : ℕ) (b : BookState) (seats : List Seat) (editor e : ℕ) (s : Seat) → IsAt k b seats editor e s
    → get_or (map (session_in b) seats) (editor - 1) new_session ≡ session_in b s
session_at k b seats editor e s at =
    ap (λ m. get_or (map (session_in b) seats) (m - 1) new_session) (sym at.same)
    ∙ own_session b seats (e - 1) (within k b seats editor e s at)
    ∙ ap (session_in b) (sym (own_at k b seats editor e s at))

-- an act that leaves the history
pub acted : (k : ℕ) (b : BookState) (seats : List Seat) (editor e : ℕ) (s : Seat) → IsAt k b seats editor e s
    → (act : Act) (t : Seat) (said : Said) → Did b editor act s t said
    → DidAt editor act (world_of b seats) (world_of b (set seats (e - 1) t)) said
acted k b seats editor e s at act t said did =
    record {
      state =
          ap (λ ss. record { history = b.history; sessions = ss })
          (map-set (session_in b) seats (e - 1) t ∙ ap (λ m. set (map (session_in b) seats) (m - 1) (session_in b t)) at.same)
          ∙ ap (after_outcome (state_in b seats) editor) (sym comes);
      told = ap (λ (o : Outcome). o.said) (sym comes);
    }
  where
    comes : outcome_at (world_of b seats) editor act ≡ stays b.history (session_in b t) said
    comes =
        ap (λ u. outcome b.version.profile b.history editor u act) (session_at k b seats editor e s at)
        ∙ did.done

-- an act after which the seat is as before, where memory is wanting, is done at a seat in any case
pub seat_after : (b : BookState) (editor : ℕ) (act : Act) (s t : Seat) (r : Result Said Memory) → IfOk r (Did b editor act s t)
    → OnErr r (t ≡ s) → IsSeat b editor s → IsSeat b editor t
seat_after b editor act s t (Ok said) did err seat = did.seat
seat_after b editor act s t (Err m) did err seat = subst (IsSeat b editor) (sym err) seat

pub if_ok : {T E : Type 0} {P Q : T → Type 0} (r : Result T E) → ((x : T) → P x → Q x) → IfOk r P → IfOk r Q
if_ok (Ok x) f h = f x h
if_ok (Err e) f h = tt

-- ---- commits that change no version

-- what comes of a commit
pub commit_comes : (k : ℕ) (b : BookState) (seats : List Seat) (editor e : ℕ) (s : Seat) → IsAt k b seats editor e s
    → outcome_at (world_of b seats) editor MakeCommit
    ≡ after_commit b.version.profile b.history (session_in b s) (option_map based_change s.prepared)
commit_comes k b seats editor e s at =
    ap (λ (u : Session). after_commit b.version.profile b.history u u.prepared) (session_at k b seats editor e s at)

-- what an editor has prepared may be committed
pub own_may : (b : BookState) (editor : ℕ) (s : Seat) (x : PreparedChange) → IsSeat b editor s → s.prepared ≡ Some x
    → IsOfEditor b editor s.serial x
own_may b editor s x seat e = subst (λ o. IfSome o (IsOfEditor b editor s.serial)) e seat.prepared

-- the change isn't taken
pub commit_refused : (b : BookState) (own : ℕ) (s : Seat) (x : PreparedChange) (why : Refusal) → IsSeat b own s → s.prepared ≡ Some x
    → refusal_of b x ≡ Some why → (p : Option PreparedChange) → p ≡ None
    → Did b own MakeCommit s (record s { prepared = p }) (refusal_said why)
commit_refused b own s x why seat e refused p gone =
    subst (λ o. Did b own MakeCommit s (record s { prepared = o }) (refusal_said why)) (sym gone)
    (record {
      seat = record { held = seat.held; prepared = tt; serials = seat.serials };
      done =
          ap (λ o. after_commit b.version.profile b.history (session_in b s) (option_map based_change o)) e
          ∙ ap (committing b.history (session_in b s) x.change) refused;
    })

-- ---- a commit that is given up for want of memory

-- seats alike have the same sessions, and stay seats
alike_session : (b : BookState) (s t : Seat) → IsAlike b s t → session_in b t ≡ session_in b s
alike_session b s t alike =
    (λ i. record {
      held = (alike.held i).number;
      prepared = option_map based_change (alike.prepared i);
      serial = alike.serial i;
    })

alike_seat : (b : BookState) (own : ℕ) (s t : Seat) → IsAlike b s t → IsSeat b own s → IsSeat b own t
alike_seat b own s t alike seat =
    record {
      held = subst (IsVersionOf b) (sym alike.held) seat.held;
      prepared =
          subst (λ o. IfSome o (IsOfEditor b own t.serial)) (sym alike.prepared)
          (subst (λ l. IfSome s.prepared (IsOfEditor b own l)) (sym alike.serial) seat.prepared);
      serials = λ n c e. subst (λ l. n.serial ≤ l) (sym alike.serial) (seat.serials n c e);
    }

pub alike_world : (b : BookState) (old new : List Seat) → AreAlike b old new → world_of b new ≡ world_of b old
alike_world b old new alike =
    ap (λ ss. record { profile = b.version.profile; state = record { history = b.history; sessions = ss } })
    (same_lists (map (session_in b) new) (map (session_in b) old)
    (length-map new (session_in b) ∙ alike.all ∙ sym (length-map old (session_in b)))
    (λ j d h. let long : length (map (session_in b) new) ≡ length new = length-map new (session_in b) in
    let all = alike.all in
    let fits : j < length old = omega (arith, h, long, all) in
    get_or-map (session_in b) new j new_seat d (omega (arith, h, long))
    ∙ alike_session b _ _ (alike.each j fits)
    ∙ sym (get_or-map (session_in b) old j new_seat d fits)))

pub alike_seats : (k : ℕ) (b : BookState) (old new : List Seat) → AreAlike b old new → IsWorld k b old → IsWorld k b new
alike_seats k b old new alike world =
    record {
      branded = world.branded;
      all = alike.all ∙ world.all;
      each = λ j few. alike_seat b (j + 1) _ _ (alike.each j (below k b old world j few)) (world.each j few);
    }

-- the editor's own seat is put back
pub restored : (k : ℕ) (b : BookState) (seats : List Seat) (editor e : ℕ) (s : Seat) → IsAt k b seats editor e s
    → (mid new : List Seat) (t u : Seat) → mid ≡ set seats (e - 1) t → AreAlike b mid new → u ≡ s
    → AreAlike b seats (set new (e - 1) u)
restored k b seats editor e s at mid new t u taken alike back =
    record {
      all = length-set new (e - 1) u ∙ alike.all ∙ same;
      each = λ j h. by j h (same_or_not j (e - 1));
    }
  where
    same : length mid ≡ length seats
    same = ap length taken ∙ length-set seats (e - 1) t

    fits : e - 1 < length new
    fits = let all = alike.all in let low = within k b seats editor e s at in omega (arith, all, same, low)

    by : (j : ℕ) → j < length seats → (j ≡ e - 1) ⊎ (j ≢ e - 1)
        → IsAlike b (get_or seats j new_seat) (get_or (set new (e - 1) u) j new_seat)
    by j h (inl here) =
        subst (λ m. IsAlike b (get_or seats m new_seat) (get_or (set new (e - 1) u) m new_seat)) (sym here)
        (alike_same b _ _ (get_or-set_same new (e - 1) u new_seat fits ∙ back ∙ own_at k b seats editor e s at))
    by j h (inr ne) =
        subst (λ v. IsAlike b v (get_or (set new (e - 1) u) j new_seat))
        (ap (λ us. get_or us j new_seat) taken ∙ get_or-set_other seats (e - 1) j t new_seat ne)
        (subst (IsAlike b (get_or mid j new_seat)) (sym (get_or-set_other new (e - 1) j u new_seat ne))
        (alike.each j (omega (arith, h, same))))

-- ---- the start

-- at the start there is a seat for each editor, and each holds version 0
pub first_world : (k : ℕ) (b : BookState) → IsBook b → b.history ≡ [] → k ≡ b.version.brand → (seats : List Seat)
    → seats ≡ replicate editors new_seat → IsWorld k b seats
first_world k b is empty brand seats new =
    record {
      branded = brand;
      all = ap length new;
      each = λ i few. subst (IsSeat b (i + 1)) (sym (ap (λ ss. get_or ss i new_seat) new ∙ get_or-replicate editors i new_seat new_seat few))
          (record {
            held = newest_is b is;
            prepared = tt;
            serials = λ n given own. absurd (let c = subst (λ h. Contains (given_names h) n) empty given in omega (arith, c.1));
          });
    }

-- a list that was lent whole and comes back as long is all there is
pub whole : (n : ℕ) (xs ys : List Seat) → n ≡ length xs → take n (xs ++ ys) ≡ xs
whole n xs ys long = ap (λ m. take m (xs ++ ys)) long ∙ by xs
  where
    by : (us : List Seat) → take (length us) (us ++ ys) ≡ us
    by [] = refl
    by (s ∷ us) = ap (λ vs. s ∷ vs) (by us)
