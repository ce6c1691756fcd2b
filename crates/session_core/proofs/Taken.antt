-- The machine after a commit that the book took: the editor holds the newest version, and all others hold
-- what they held, of which each has a share.
use Rattle.std.proofs.Common.{◌≡◌, ◌≢◌, sym, ap, subst, ◌∙◌, arith, ℕ, ◌+◌, ◌-◌, ◌<◌, ◌≤◌, ◌⊎◌, inl, inr, true≢false, is_some, List, [], ◌∷◌, ◌++◌, length, map, set, get_or, length-append, length-set, get_or-set_same, get_or-set_other, Contains, Option, Some, None, IfSome}
use Rattle.std.specs.Prelude.{option_map, unwrap_or}
use Rattle.std.proofs.lemmas.List.{same_lists, length-map, get_or-map}
use Rattle.std.proofs.lemmas.List.Elements.{Contains-append_cases}
use Rattle.std.proofs.lemmas.Grind.{flat_map-append}
use Rattle.grid_core.specs.Name.{Label}
use Rattle.version_core.specs.Edits.{Changes, inserted_names}
use Rattle.version_core.specs.History.{given_names}
use Rattle.version_core.specs.Stands.{PreparedChange}
use Rattle.version_core.specs.Version.{VersionState}
use Rattle.book_core.specs.Book.{BookState, IsBook}
use Rattle.book_core.specs.Commit.{Took, refusal_of}
use Rattle.book_core.proofs.Waiting.{live_later, still_may_commit}
use Rattle.script_read.specs.declared.command.Act.TheVariants.{Commit as MakeCommit}
use Rattle.script_read.specs.declared.reply.Said.TheVariants.{Commit}
use Rattle.session_core.specs.declared.seat.Held.{Held}
use Rattle.session_core.specs.declared.seat.Held.TheVariants.{Newest, Older}
use Rattle.session_core.specs.declared.seat.Seat.{Seat}
use Rattle.session_core.specs.Machine.{Session, editors, live_at}
use Rattle.session_core.specs.Step.{Outcome, committing, committed, after_commit, after_outcome}
use Rattle.session_core.specs.World.{held_version, shared_version, based_change, session_in, state_in, world_of, IsVersionOf, IsGivenTo, IsOfEditor, IsSeat, new_seat, IsWorld, IsShare, AreKept, outcome_at, DidAt}
use Rattle.session_core.proofs.Seats.{newest_is}
use Rattle.session_core.proofs.SeatLists.{same_or_not}
use Rattle.session_core.proofs.Worlds.{IsAt, within, seat_at, own_may, commit_comes}

-- ---- a history with a change more

-- a name that was given then was given before, or by the change
given_push : (h : List Changes) (x : Changes) (n : Label) → Contains (given_names (h ++ x ∷ [])) n
    → Contains (given_names h) n ⊎ Contains (inserted_names x.edits) n
given_push h x n c =
    elim (Contains-append_cases (given_names h) (given_names (x ∷ [])) n
    (subst (λ ms. Contains ms n) (flat_map-append (λ y. inserted_names y.edits) h (x ∷ [])) c)) [
      | inl old ↦ inl old
      | inr last ↦ elim (Contains-append_cases (inserted_names x.edits) [] n last) [
        | inl own ↦ inr own
        | inr none ↦ absurd (omega (arith, none.1))
      ]
    ]

-- the book b took the change of editor `own`, whose last serial is `last`, and is c now
record Grew (b : BookState) (own last : ℕ) (x : Changes) (c : BookState) : Type 0 where
  took : Took b x c
  book : IsBook c
  given : (n : Label) → Contains (inserted_names x.edits) n → IsGivenTo own last n

longer : (b : BookState) (own last : ℕ) (x : Changes) (c : BookState) → Grew b own last x c → length c.history ≡ length b.history + 1
longer b own last x c grew = ap length grew.took.history ∙ length-append b.history (x ∷ [])

-- a version of the book before is one of the book after
version_later : (b : BookState) (own last : ℕ) (x : Changes) (c : BookState) → Grew b own last x c
    → (v : VersionState) → IsVersionOf b v → IsVersionOf c v
version_later b own last x c grew v is =
    let long = longer b own last x c grew in
    let few = is.number in
    record {
      number = omega (arith, long, few);
      profile = is.profile ∙ sym grew.took.version.profile;
      branded = is.branded ∙ sym grew.took.version.brand;
      live = is.live ∙ sym (ap (λ g. live_at g v.number) grew.took.history ∙ live_later b.history x v.number few);
    }

-- another editor's prepared change may be committed later too
may_later : (b : BookState) (own last : ℕ) (x : Changes) (c : BookState) → Grew b own last x c
    → (other most : ℕ) → other ≢ own → (y : PreparedChange) → IsOfEditor b other most y → IsOfEditor c other most y
may_later b own last x c grew other most apart y is =
    record {
      may = still_may_commit b c x y grew.took is.may (λ n k new. apart (sym (is.given n k).editor ∙ (grew.given n new).editor));
      given = is.given;
    }

-- the serials of another editor are as before
serials_later : (b : BookState) (own last : ℕ) (x : Changes) (c : BookState) → Grew b own last x c
    → (other most : ℕ) → other ≢ own
    → ((n : Label) → Contains (given_names b.history) n → n.editor ≡ other → n.serial ≤ most)
    → (n : Label) → Contains (given_names c.history) n → n.editor ≡ other → n.serial ≤ most
serials_later b own last x c grew other most apart low n given e =
    elim (given_push b.history x n (subst (λ g. Contains (given_names g) n) grew.took.history given)) [
      | inl old ↦ low n old e
      | inr new ↦ absurd (apart (sym e ∙ (grew.given n new).editor))
    ]

-- ---- seats

-- what a share is of
share_held : (c : BookState) (h : Held) (v : VersionState) → shared_version h ≡ Some v → held_version c h ≡ v
share_held c Newest v e = absurd (true≢false (sym (ap is_some e)))
share_held c (Older w) v e = ap (λ o. unwrap_or o v) e

share_session : (b c : BookState) (s t : Seat) → IsShare b s t → session_in c t ≡ session_in b s
share_session b c s t share =
    (λ i. record {
      held = (share_held c t.held (held_version b s.held) share.held i).number;
      prepared = option_map based_change (share.prepared i);
      serial = share.serial i;
    })

-- the seat of another editor is one of the book after
other_later : (b : BookState) (own last : ℕ) (x : Changes) (c : BookState) → Grew b own last x c
    → (other : ℕ) → other ≢ own → (s t : Seat) → IsShare b s t → IsSeat b other s → IsSeat c other t
other_later b own last x c grew other apart s t share seat =
    record {
      held =
          subst (IsVersionOf c) (sym (share_held c t.held (held_version b s.held) share.held))
          (version_later b own last x c grew (held_version b s.held) seat.held);
      prepared =
          subst (λ o. IfSome o (IsOfEditor c other t.serial)) (sym share.prepared)
          (subst (λ l. IfSome s.prepared (IsOfEditor c other l)) (sym share.serial) (by s.prepared seat.prepared));
      serials =
          subst (λ l. (n : Label) → Contains (given_names c.history) n → n.editor ≡ other → n.serial ≤ l) (sym share.serial)
          (serials_later b own last x c grew other s.serial apart seat.serials);
    }
  where
    by : (o : Option PreparedChange) → IfSome o (IsOfEditor b other s.serial) → IfSome o (IsOfEditor c other s.serial)
    by None h = tt
    by (Some y) h = may_later b own last x c grew other s.serial apart y h

-- so is that of the editor whose change was taken
own_later : (b : BookState) (own : ℕ) (s : Seat) (x : Changes) (c : BookState) → Grew b own s.serial x c → IsSeat b own s
    → IsSeat c own (record s { held = Newest; prepared = None })
own_later b own s x c grew seat =
    record {
      held = newest_is c grew.book;
      prepared = tt;
      serials = λ n given e. by n e (given_push b.history x n (subst (λ g. Contains (given_names g) n) grew.took.history given));
    }
  where
    by : (n : Label) → n.editor ≡ own → Contains (given_names b.history) n ⊎ Contains (inserted_names x.edits) n → n.serial ≤ s.serial
    by n e (inl old) = seat.serials n old e
    by n e (inr new) = (grew.given n new).serial

-- ---- the machine

-- what is known when the book b took the prepared change x of an editor, and is c now
pub record IsTaken (k : ℕ) (b : BookState) (seats : List Seat) (editor e : ℕ) (s : Seat) (x : PreparedChange) (c : BookState) (new : List Seat) : Type 0 where
  pub at : IsAt k b seats editor e s
  pub prepared : s.prepared ≡ Some x
  pub unrefused : refusal_of b x ≡ None
  pub took : Took b x.change c
  pub book : IsBook c
  pub kept : AreKept b (e - 1) (set seats (e - 1) (record s { held = Newest; prepared = None })) new

grew_by : (k : ℕ) (b : BookState) (seats : List Seat) (editor e : ℕ) (s : Seat) (x : PreparedChange) (c : BookState) (new : List Seat)
    → IsTaken k b seats editor e s x c new → Grew b editor s.serial x.change c
grew_by k b seats editor e s x c new is =
    record {
      took = is.took;
      book = is.book;
      given = (own_may b editor s x (seat_at k b seats editor e s is.at) is.prepared).given;
    }

-- the new seat of the editor
own_new : (k : ℕ) (b : BookState) (seats : List Seat) (editor e : ℕ) (s : Seat) (x : PreparedChange) (c : BookState) (new : List Seat)
    → IsTaken k b seats editor e s x c new → get_or new (e - 1) new_seat ≡ record s { held = Newest; prepared = None }
own_new k b seats editor e s x c new is =
    is.kept.same ∙ get_or-set_same seats (e - 1) _ new_seat (within k b seats editor e s is.at)

-- another seat has a share of what was held there
other_share : (k : ℕ) (b : BookState) (seats : List Seat) (editor e : ℕ) (s : Seat) (x : PreparedChange) (c : BookState) (new : List Seat)
    → IsTaken k b seats editor e s x c new → (j : ℕ) → j < length seats → j ≢ e - 1
    → IsShare b (get_or seats j new_seat) (get_or new j new_seat)
other_share k b seats editor e s x c new is j fits ne =
    subst (λ u. IsShare b u (get_or new j new_seat)) (get_or-set_other seats (e - 1) j _ new_seat ne)
    (is.kept.others j (let same = length-set seats (e - 1) (record s { held = Newest; prepared = None }) in omega (arith, fits, same)) ne)

long_new : (k : ℕ) (b : BookState) (seats : List Seat) (editor e : ℕ) (s : Seat) (x : PreparedChange) (c : BookState) (new : List Seat)
    → IsTaken k b seats editor e s x c new → length new ≡ length seats
long_new k b seats editor e s x c new is = is.kept.all ∙ length-set seats (e - 1) _

pub taken_seats : (k : ℕ) (b : BookState) (seats : List Seat) (editor e : ℕ) (s : Seat) (x : PreparedChange) (c : BookState) (new : List Seat)
    → IsTaken k b seats editor e s x c new → IsWorld k c new
taken_seats k b seats editor e s x c new is =
    record {
      branded = is.at.world.branded ∙ sym is.took.version.brand;
      all = long_new k b seats editor e s x c new is ∙ is.at.world.all;
      each = λ j few. by j few (same_or_not j (e - 1));
    }
  where
    grew : Grew b editor s.serial x.change c
    grew = grew_by k b seats editor e s x c new is

    some : 1 ≤ editor
    some = is.at.some

    same : e ≡ editor
    same = is.at.same

    by : (j : ℕ) → j < editors → (j ≡ e - 1) ⊎ (j ≢ e - 1) → IsSeat c (j + 1) (get_or new j new_seat)
    by j few (inl here) =
        subst (λ m. IsSeat c (j + 1) (get_or new m new_seat)) (sym here)
        (subst (IsSeat c (j + 1)) (sym (own_new k b seats editor e s x c new is))
        (subst (λ m. IsSeat c m (record s { held = Newest; prepared = None })) (omega (arith, here, some, same))
        (own_later b editor s x.change c grew (seat_at k b seats editor e s is.at))))
    by j few (inr ne) =
        let all = is.at.world.all in
        other_later b editor s.serial x.change c grew (j + 1) (λ h. ne (omega (arith, h, some, same))) (get_or seats j new_seat) (get_or new j new_seat)
        (other_share k b seats editor e s x c new is j (omega (arith, few, all)) ne) (is.at.world.each j few)

-- the session that the definition has after the commit
abbrev committed_session : BookState → Seat → Session
committed_session b s = record (session_in b s) { held = length b.history + 1; prepared = None }

sessions_taken : (k : ℕ) (b : BookState) (seats : List Seat) (editor e : ℕ) (s : Seat) (x : PreparedChange) (c : BookState) (new : List Seat)
    → IsTaken k b seats editor e s x c new
    → map (session_in c) new ≡ set (map (session_in b) seats) (e - 1) (committed_session b s)
sessions_taken k b seats editor e s x c new is =
    same_lists (map (session_in c) new) (set (map (session_in b) seats) (e - 1) own)
    (long ∙ sym (long_set ∙ length-map seats (session_in b)))
    (λ j d h. by j d (omega (arith, h, long)) (same_or_not j (e - 1)))
  where
    own : Session
    own = committed_session b s

    same : length new ≡ length seats
    same = long_new k b seats editor e s x c new is

    long : length (map (session_in c) new) ≡ length seats
    long = length-map new (session_in c) ∙ same

    long_set : length (set (map (session_in b) seats) (e - 1) own) ≡ length (map (session_in b) seats)
    long_set = length-set (map (session_in b) seats) (e - 1) own

    fits : e - 1 < length seats
    fits = within k b seats editor e s is.at

    number : c.version.number ≡ length b.history + 1
    number = is.book.number ∙ longer b editor s.serial x.change c (grew_by k b seats editor e s x c new is)

    by : (j : ℕ) (d : Session) → j < length seats → (j ≡ e - 1) ⊎ (j ≢ e - 1)
        → get_or (map (session_in c) new) j d ≡ get_or (set (map (session_in b) seats) (e - 1) own) j d
    by j d h (inl here) =
        let mapped : length (map (session_in b) seats) ≡ length seats = length-map seats (session_in b) in
        get_or-map (session_in c) new j new_seat d (omega (arith, h, same))
        ∙ ap (λ m. session_in c (get_or new m new_seat)) here
        ∙ ap (session_in c) (own_new k b seats editor e s x c new is)
        ∙ ap (λ n. record own { held = n }) number
        ∙ sym (get_or-set_same (map (session_in b) seats) (e - 1) own d (omega (arith, fits, mapped)))
        ∙ ap (λ m. get_or (set (map (session_in b) seats) (e - 1) own) m d) (sym here)
    by j d h (inr ne) =
        get_or-map (session_in c) new j new_seat d (omega (arith, h, same))
        ∙ share_session b c (get_or seats j new_seat) (get_or new j new_seat) (other_share k b seats editor e s x c new is j h ne)
        ∙ sym (get_or-map (session_in b) seats j new_seat d h)
        ∙ sym (get_or-set_other (map (session_in b) seats) (e - 1) j own d ne)

pub taken_world : (k : ℕ) (b : BookState) (seats : List Seat) (editor e : ℕ) (s : Seat) (x : PreparedChange) (c : BookState) (new : List Seat)
    → IsTaken k b seats editor e s x c new → (n : ℕ) → n ≡ length c.history
    → DidAt editor MakeCommit (world_of b seats) (world_of c new) (Commit n)
taken_world k b seats editor e s x c new is n told =
    record {
      state =
          (λ j. record { history = is.took.history j; sessions = moved j })
          ∙ ap (after_outcome (state_in b seats) editor) (sym comes);
      told =
          ap Commit (told ∙ longer b editor s.serial x.change c (grew_by k b seats editor e s x c new is))
          ∙ ap (λ (o : Outcome). o.said) (sym comes);
    }
  where
    moved : map (session_in c) new ≡ set (map (session_in b) seats) (editor - 1) (committed_session b s)
    moved =
        sessions_taken k b seats editor e s x c new is
        ∙ ap (λ m. set (map (session_in b) seats) (m - 1) (committed_session b s)) is.at.same

    comes : outcome_at (world_of b seats) editor MakeCommit ≡ committed b.history (session_in b s) x.change
    comes =
        commit_comes k b seats editor e s is.at
        ∙ ap (λ o. after_commit b.version.profile b.history (session_in b s) (option_map based_change o)) is.prepared
        ∙ ap (committing b.history (session_in b s) x.change) is.unrefused
