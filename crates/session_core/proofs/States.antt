-- Numbers stay within their limits: what is asked of a state holds at the start, and each step keeps it.
-- By cases on the act, and by induction on the commands.
use Rattle.std.proofs.Common.{◌≡◌, refl, sym, ap, subst, ◌∙◌, arith, length-append, ℕ, zero, suc, ◌+◌, ◌-◌, ◌≤◌, Bool, true, false, true≢false, List, [], ◌∷◌, ◌++◌, length, set, get_or, replicate, Option, Some, None, IfSome, is_some, nat_le}
use Rattle.std.specs.Prelude.{if◌then◌else◌, ◌||◌, nat_lt}
use Rattle.std.specs.List.{AllByRecursion}
use Rattle.std.proofs.lemmas.List.{length-set}
use Rattle.std.proofs.lemmas.List.Sums.{fold_push}
use Rattle.grid_core.specs.declared.point.Point.{Point}
use Rattle.grid_core.specs.declared.tile.TileId.{TileId}
use Rattle.grid_core.specs.Vector.{point_eq}
use Rattle.grid_core.specs.Profile.{Sizes}
use Rattle.grid_core.specs.Segment.{Segment}
use Rattle.hot_tile.specs.Tile.{segment_in}
use Rattle.version_core.specs.Edits.{Changes, after_edits}
use Rattle.version_core.specs.History.{live, clash}
use Rattle.book_core.specs.Book.{most_commits}
use Rattle.book_core.specs.declared.refusal.FullOf.{FullOf}
use Rattle.book_core.specs.declared.refusal.FullOf.TheVariants.{Commits}
use Rattle.book_core.specs.Commit.{passed_by, full_of, refusal_by}
use Rattle.script_read.specs.declared.command.Act.{Act}
use Rattle.script_read.specs.declared.command.Act.TheVariants.{Take, Insert, Delete, Reads, Commit, Drop, Ask}
use Rattle.script_read.specs.declared.command.Command.{Command}
use Rattle.script_read.specs.declared.reply.Refusal.{Refusal}
use Rattle.script_read.specs.declared.reply.Refusal.TheVariants.{Busy, Range, Point as OnePoint, Serials}
use Rattle.session_core.specs.Machine.{BasedChange, Session, State, editors, new_session, start, session_of, live_at}
use Rattle.session_core.specs.Limits.{most_serials}
use Rattle.session_core.specs.Step.{Outcome, leaves_bound, insert_refusal, inserting, deleting, after_drop, committing, after_commit, outcome, step}
use Rattle.session_core.specs.States.{IsSession, IsState, CommandsLeadToStates, after_commands}

-- what is asked of the history
record IsRoomy (pr : Sizes) (h : List Changes) : Type 0 where
  few : length h ≤ most_commits
  room : passed_by pr (live h) ≡ None

-- the session and the history are within the limits afterwards
record IsKept (pr : Sizes) (h : List Changes) (o : Outcome) : Type 0 where
  grown : length h ≤ length o.history
  roomy : IsRoomy pr o.history
  own : IsSession (length o.history) o.session

-- ---- sessions beside a history that grows

based_later : (m n : ℕ) → m ≤ n → (p : Option BasedChange) → IfSome p (λ x. x.base ≤ m) → IfSome p (λ x. x.base ≤ n)
based_later m n more None b = tt
based_later m n more (Some x) b = omega (arith, b, more)

later : (m n : ℕ) → m ≤ n → (s : Session) → IsSession m s → IsSession n s
later m n more s k =
    let held = k.held in
    record { held = omega (arith, held, more); based = based_later m n more s.prepared k.based; serial = k.serial }

all_later : (m n : ℕ) → m ≤ n → (ss : List Session) → AllByRecursion (IsSession m) ss → AllByRecursion (IsSession n) ss
all_later m n more [] all = tt
all_later m n more (s ∷ ss) all = (later m n more s all.0, all_later m n more ss all.1)

all_set : (n : ℕ) (ss : List Session) (i : ℕ) (s : Session) → IsSession n s → AllByRecursion (IsSession n) ss
    → AllByRecursion (IsSession n) (set ss i s)
all_set n [] i s own all = tt
all_set n (t ∷ ss) zero s own all = (own, all.1)
all_set n (t ∷ ss) (suc i) s own all = (all.0, all_set n ss i s own all.1)

one_of : (n : ℕ) (ss : List Session) (i : ℕ) → AllByRecursion (IsSession n) ss → IsSession n (get_or ss i new_session)
one_of n [] i all = record { held = omega arith; based = tt; serial = omega arith }
one_of n (t ∷ ss) zero all = all.0
one_of n (t ∷ ss) (suc i) all = one_of n ss i all.1

-- ---- one act

stayed : (pr : Sizes) (h : List Changes) (o : Outcome) → o.history ≡ h → IsRoomy pr h → IsSession (length h) o.session
    → IsKept pr h o
stayed pr h o e roomy own =
    record {
      grown = omega (arith, ap length e);
      roomy = subst (IsRoomy pr) (sym e) roomy;
      own = subst (λ g. IsSession (length g) o.session) (sym e) own;
    }

serials_left : (a b c d : Bool)
    → (if a then Some Busy else if b then Some Range else if c then Some OnePoint else if d then Some Serials else None)
    ≡ None
    → d ≡ false
serials_left true b c d e = absurd (true≢false (ap is_some e))
serials_left false true c d e = absurd (true≢false (ap is_some e))
serials_left false false true d e = absurd (true≢false (ap is_some e))
serials_left false false false true e = absurd (true≢false (ap is_some e))
serials_left false false false false e = refl

one_more : (m n : ℕ) → nat_le m n ≡ false → n + 1 ≤ m
one_more m n e = grind (arith)

inserted : (pr : Sizes) (h : List Changes) (editor : ℕ) (s : Session) (a b : Point) (why : Option Refusal)
    → insert_refusal pr s a b ≡ why → IsRoomy pr h → IsSession (length h) s
    → IsKept pr h (inserting h editor s a b why)
inserted pr h editor s a b (Some why) e roomy own = stayed pr h _ refl roomy own
inserted pr h editor s a b None e roomy own =
    stayed pr h (inserting h editor s a b None) refl roomy
    (record {
      held = own.held;
      based = own.held;
      serial = one_more most_serials s.serial
          (serials_left (is_some s.prepared) (leaves_bound pr a || leaves_bound pr b) (point_eq a b)
          (nat_le most_serials s.serial) e);
    })

deleted : (pr : Sizes) (h : List Changes) (editor : ℕ) (s : Session) (found : Option Segment)
    → IsRoomy pr h → IsSession (length h) s → IsKept pr h (deleting h editor s found)
deleted pr h editor s None roomy own = stayed pr h (deleting h editor s None) refl roomy own
deleted pr h editor s (Some t) roomy own =
    stayed pr h (deleting h editor s (Some t)) refl roomy
    (record { held = own.held; based = own.held; serial = own.serial })

either : (pr : Sizes) (h : List Changes) (b : Bool) (o p : Outcome) → IsKept pr h o → IsKept pr h p
    → IsKept pr h (if b then o else p)
either pr h true o p f g = f
either pr h false o p f g = g

given_up : (n : ℕ) (s : Session) → IsSession n s → IsSession n (record s { prepared = None })
given_up n s own = record { held = own.held; based = tt; serial = own.serial }

dropped : (pr : Sizes) (h : List Changes) (s : Session) (p : Option BasedChange) → IsRoomy pr h → IsSession (length h) s
    → IsKept pr h (after_drop h s p)
dropped pr h s None roomy own = stayed pr h (after_drop h s None) refl roomy own
dropped pr h s (Some x) roomy own = stayed pr h (after_drop h s (Some x)) refl roomy (given_up (length h) s own)

commits_left : (b : Bool) (p : Option FullOf) → (if b then p else Some Commits) ≡ None → (b ≡ true) × (p ≡ None)
commits_left true p e = (refl, e)
commits_left false p e = absurd (true≢false (ap is_some e))

below : (m n : ℕ) → nat_lt m n ≡ true → m + 1 ≤ n
below m n e = grind (arith)

decided : (pr : Sizes) (h : List Changes) (s : Session) (x : Changes) (c : Option (ℕ × TileId)) (full : Option FullOf)
    → full_of pr h (after_edits (live h) x.edits) ≡ full → IsRoomy pr h → IsSession (length h) s
    → IsKept pr h (committing h s x (refusal_by c full))
decided pr h s x (Some c) full e roomy own =
    stayed pr h (committing h s x (refusal_by (Some c) full)) refl roomy (given_up (length h) s own)
decided pr h s x None (Some what) e roomy own =
    stayed pr h (committing h s x (refusal_by None (Some what))) refl roomy (given_up (length h) s own)
decided pr h s x None None e roomy own =
    let left = commits_left (nat_lt (length h) most_commits) (passed_by pr (after_edits (live h) x.edits)) e in
    let long : length (h ++ x ∷ []) ≡ length h + 1 = length-append h (x ∷ []) in
    let most : length h + 1 ≤ most_commits = below (length h) most_commits left.0 in
    record {
      grown = omega (arith, long);
      roomy = record {
        few = omega (arith, long, most);
        room = ap (passed_by pr) (fold_push (λ us (y : Changes). after_edits us y.edits) [] h x) ∙ left.1;
      };
      own = record { held = omega (arith, long); based = tt; serial = own.serial };
    }

committed : (pr : Sizes) (h : List Changes) (s : Session) (p : Option BasedChange) → IsRoomy pr h → IsSession (length h) s
    → IsKept pr h (after_commit pr h s p)
committed pr h s None roomy own = stayed pr h (after_commit pr h s None) refl roomy own
committed pr h s (Some x) roomy own =
    decided pr h s x.change (clash pr h x.base x.change) (full_of pr h (after_edits (live h) x.change.edits)) refl roomy own

kept : (pr : Sizes) (h : List Changes) (editor : ℕ) (s : Session) (act : Act) → IsRoomy pr h → IsSession (length h) s
    → IsKept pr h (outcome pr h editor s act)
kept pr h editor s Take roomy own =
    stayed pr h (outcome pr h editor s Take) refl roomy
    (record { held = omega arith; based = own.based; serial = own.serial })
kept pr h editor s (Insert a b) roomy own = inserted pr h editor s a b (insert_refusal pr s a b) refl roomy own
kept pr h editor s (Delete name) roomy own =
    either pr h (is_some s.prepared) _ _ (record { grown = omega arith; roomy = roomy; own = own })
    (deleted pr h editor s (segment_in (live_at h s.held) name) roomy own)
kept pr h editor s Reads roomy own = stayed pr h (outcome pr h editor s Reads) refl roomy own
kept pr h editor s Commit roomy own = committed pr h s s.prepared roomy own
kept pr h editor s Drop roomy own = dropped pr h s s.prepared roomy own
kept pr h editor s (Ask q) roomy own = stayed pr h (outcome pr h editor s (Ask q)) refl roomy own

-- ---- commands

stepped : (pr : Sizes) (st : State) (c : Command) → IsState pr st → IsState pr (step pr st c).0
stepped pr st c k =
    let o : Outcome = outcome pr st.history c.editor (session_of st c.editor) c.act in
    let n : IsKept pr st.history o =
    kept pr st.history c.editor (session_of st c.editor) c.act (record { few = k.few; room = k.room })
    (one_of (length st.history) st.sessions (c.editor - 1) k.sessions) in
    record {
      all = length-set st.sessions (c.editor - 1) o.session ∙ k.all;
      sessions = all_set (length o.history) st.sessions (c.editor - 1) o.session n.own
          (all_later (length st.history) (length o.history) n.grown st.sessions k.sessions);
      few = n.roomy.few;
      room = n.roomy.room;
    }

led : (pr : Sizes) (st : State) → IsState pr st → (cs : List Command) → IsState pr (after_commands pr st cs)
led pr st k [] = k
led pr st k (c ∷ cs) = led pr (step pr st c).0 (stepped pr st c k) cs

all_new : (n : ℕ) → AllByRecursion (IsSession 0) (replicate n new_session)
all_new zero = tt
all_new (suc n) = (record { held = omega arith; based = tt; serial = omega arith }, all_new n)

pub commands_lead_to_states : (pr : Sizes) → CommandsLeadToStates pr
commands_lead_to_states pr cs =
    led pr start (record { all = refl; sessions = all_new editors; few = omega arith; room = refl }) cs
