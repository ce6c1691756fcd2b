-- What an editor's act makes of its seat: the new session and what is said are those of the machine,
-- and the seat stays one of the book.
use Rattle.std.proofs.Common.{◌≡◌, refl, sym, ap, subst, ◌∙◌, arith, ℕ, zero, suc, ◌+◌, inl, inr, Bool, true, false, true≢false, List, [], ◌∷◌, take, take_all, Contains, Option, Some, None, IfSome, is_some}
use Rattle.std.specs.Prelude.{if◌then◌else◌, option_map}
use Rattle.std.proofs.lemmas.List.Elements.{Contains-append_cases, Contains-append_left, Contains-append_right}
use Rattle.std.specs.Ordering.{is_lt}
use Rattle.grid_core.specs.declared.point.Point.{Point}
use Rattle.grid_core.specs.Vector.{point_cmp}
use Rattle.grid_core.specs.Name.{Label}
use Rattle.grid_core.specs.LiveList.{names}
use Rattle.grid_core.specs.Profile.{Sizes}
use Rattle.grid_core.specs.Segment.{Segment, segment_of}
use Rattle.grid_core.proofs.ListMembers.{contains_cases}
use Rattle.hot_tile.specs.Tile.{segment_in}
use Rattle.version_core.specs.declared.change.Edit.TheVariants.{Insert as PutIn, Delete as TakeOut}
use Rattle.version_core.specs.Edits.{Changes, inserted_names}
use Rattle.version_core.specs.History.{live, given_names}
use Rattle.version_core.specs.Stands.{PreparedChange}
use Rattle.version_core.specs.Version.{VersionState}
use Rattle.version_core.proofs.Found.{segment_there, segment_listed}
use Rattle.version_core.proofs.Histories.{live_names}
use Rattle.seg_edit.specs.Prepared.{IsPreparedOn}
use Rattle.book_core.specs.Book.{BookState, IsBook}
use Rattle.book_core.proofs.Waiting.{may_commit_on}
use Rattle.script_read.specs.declared.command.Act.TheVariants.{Insert, Delete}
use Rattle.script_read.specs.declared.reply.Refusal.TheVariants.{Busy, Unknown}
use Rattle.script_read.specs.declared.reply.Said.TheVariants.{Ready, Refused}
use Rattle.session_core.specs.declared.seat.Seat.{Seat}
use Rattle.session_core.specs.Machine.{live_at}
use Rattle.session_core.specs.Step.{stays, inserting, deleting, draw_refusal, outcome}
use Rattle.session_core.specs.World.{held_version, based_change, session_in, IsVersionOf, IsSeat, Did}

-- ---- versions of a book

-- the newest version is the one after the whole history
pub newest_is : (b : BookState) → IsBook b → IsVersionOf b b.version
newest_is b is =
    let number = is.number in
    record {
      number = omega (arith, number);
      profile = refl;
      branded = refl;
      live = is.live ∙ sym (ap live (take_all b.version.number b.history (omega (arith, number))));
    }

-- the names that the first changes insert are among those of all
given_first : (k : ℕ) (h : List Changes) (n : Label) → Contains (given_names (take k h)) n → Contains (given_names h) n
given_first zero h n c = absurd (omega (arith, c.1))
given_first (suc k) [] n c = c
given_first (suc k) (x ∷ h) n c =
    elim (Contains-append_cases (inserted_names x.edits) (given_names (take k h)) n c) [
      | inl own ↦ Contains-append_left (inserted_names x.edits) (given_names h) n own
      | inr later ↦ Contains-append_right (inserted_names x.edits) (given_names h) n (given_first k h n later)
    ]

-- a name that is live in a version of the book was given
live_given : (b : BookState) (v : VersionState) → IsVersionOf b v → (n : Label) → Contains (names v.live) n
    → Contains (given_names b.history) n
live_given b v is n c =
    elim (live_names [] (take v.number b.history) n (subst (λ ss. Contains (names ss) n) is.live c)) [
      | inl none ↦ absurd (omega (arith, none.1))
      | inr given ↦ given_first v.number b.history n given
    ]

-- the name under which an editor draws next
abbrev next_label : ℕ → ℕ → Label
next_label own last = record { editor = own; serial = last + 1 }

-- it wasn't given
not_given : (b : BookState) (own : ℕ) (s : Seat) → IsSeat b own s → Contains (given_names b.history) (next_label own s.serial) → ⊥
not_given b own s seat c = let low = seat.serials (next_label own s.serial) c refl in omega (arith, low)

-- a segment has the name under which it is drawn
segment_named : (n : Label) (p q : Point) → (segment_of n p q).name ≡ n
segment_named n p q = by (is_lt (point_cmp p q))
  where
    by : (t : Bool) → Segment.name (if t then record { name = n; p = p; q = q } else record { name = n; p = q; q = p }) ≡ n
    by true = refl
    by false = refl

-- and so it isn't live in the version that the editor holds
pub not_live : (b : BookState) (own : ℕ) (s : Seat) → IsSeat b own s → (v : VersionState) → v ≡ held_version b s.held
    → (u : Segment) (p q : Point) → u ≡ segment_of (next_label own s.serial) p q → Contains (names v.live) u.name → ⊥
not_live b own s seat v held u p q drawn c =
    not_given b own s seat
    (live_given b (held_version b s.held) seat.held (next_label own s.serial)
    (subst (λ w. Contains (names (VersionState.live w)) (next_label own s.serial)) held
    (subst (Contains (names v.live)) (ap (λ (w : Segment). w.name) drawn ∙ segment_named (next_label own s.serial) p q) c)))

-- ---- acts

-- what is no `Some` is `None`
none_there : {A : Type 0} (o : Option A) → is_some o ≡ false → o ≡ None
none_there None e = refl
none_there (Some x) e = absurd (true≢false e)

-- a segment is drawn, and its insertion prepared
pub inserted : (b : BookState) (own : ℕ) (s : Seat) (p q : Point) → IsSeat b own s → is_some s.prepared ≡ false
    → (v : VersionState) → v ≡ held_version b s.held → (pr : Sizes) → pr ≡ v.profile → draw_refusal pr s.serial p q ≡ None
    → (u : Segment) → u ≡ segment_of (next_label own s.serial) p q
    → (x : PreparedChange) → x.change ≡ record { editor = u.name.editor; edits = PutIn u ∷ [] } → IsPreparedOn v x
    → (n : Label) → n ≡ u.name → (last : ℕ) → last ≡ u.name.serial
    → Did b own (Insert p q) s (record s { prepared = Some x; serial = last }) (Ready n)
inserted b own s p q seat free v held pr sizes room u drawn x change prepared n named last serial =
    record {
      seat = record {
        held = seat.held;
        prepared = record {
          may = may_commit_on b (held_version b s.held) x seat.held.profile seat.held.number seat.held.live on
              (λ m c given. not_given b own s seat (subst (Contains (given_names b.history)) (own_name m c) given));
          given = λ m c. let one = own_name m c in
              record { editor = ap (λ l. l.editor) one; serial = (let e = ap (λ l. l.serial) one in omega (arith, e, up)) };
        };
        serials = λ m c e. let low = seat.serials m c e in omega (arith, low, up);
      };
      done =
          ap (λ r. inserting b.history own (session_in b s) p q r)
          (ap (λ o. if is_some (option_map based_change o) then Some Busy else draw_refusal b.version.profile s.serial p q) none
          ∙ ap (λ sizes. draw_refusal sizes s.serial p q) (sym (sizes ∙ ap (λ (w : VersionState). w.profile) held ∙ seat.held.profile))
          ∙ room)
          ∙ sym (λ i. stays b.history (record {
            held = (held_version b s.held).number;
            prepared = Some (record { base = on.base i; change = made i });
            serial = up i;
          }) (Ready (name i)));
    }
  where
    none : s.prepared ≡ None
    none = none_there s.prepared free

    on : IsPreparedOn (held_version b s.held) x
    on = subst (λ w. IsPreparedOn w x) held prepared

    label : u.name ≡ next_label own s.serial
    label = ap (λ (v : Segment). v.name) drawn ∙ segment_named (next_label own s.serial) p q

    name : n ≡ next_label own s.serial
    name = named ∙ label

    up : last ≡ s.serial + 1
    up = serial ∙ ap (λ (l : Label). l.serial) label

    made : x.change ≡ record { editor = own; edits = PutIn (segment_of (next_label own s.serial) p q) ∷ [] }
    made = change ∙ (λ i. record { editor = (label i).editor; edits = PutIn (drawn i) ∷ [] })

    own_name : (m : Label) → Contains (inserted_names x.change.edits) m → m ≡ next_label own s.serial
    own_name m c =
        elim (contains_cases u.name [] m (subst (λ (y : Changes). Contains (inserted_names y.edits) m) change c)) [
          | inl own ↦ sym own ∙ label
          | inr later ↦ absurd (omega (arith, later.1))
        ]

-- the search for the name, where nothing is prepared
searched : (b : BookState) (own : ℕ) (s : Seat) (name : Label) → IsSeat b own s → s.prepared ≡ None
    → outcome b.version.profile b.history own (session_in b s) (Delete name)
    ≡ deleting b.history own (session_in b s) (segment_in (held_version b s.held).live name)
searched b own s name seat none =
    ap (λ o. if is_some (option_map based_change o) then stays b.history (session_in b s) (Refused Busy)
    else deleting b.history own (session_in b s) (segment_in (live_at b.history (held_version b s.held).number) name)) none
    ∙ ap (λ ss. deleting b.history own (session_in b s) (segment_in ss name)) (sym seat.held.live)

-- or where the name isn't live
pub delete_unknown : (b : BookState) (own : ℕ) (s : Seat) (name : Label) → IsSeat b own s → is_some s.prepared ≡ false
    → (v : VersionState) → v ≡ held_version b s.held → ¬ Contains (names v.live) name
    → Did b own (Delete name) s s (Refused Unknown)
delete_unknown b own s name seat free v held lost = by (segment_in (held_version b s.held).live name) refl
  where
    none : s.prepared ≡ None
    none = none_there s.prepared free

    gone : ¬ Contains (names (held_version b s.held).live) name
    gone = subst (λ w. ¬ Contains (names (VersionState.live w)) name) held lost

    by : (o : Option Segment) → segment_in (held_version b s.held).live name ≡ o → Did b own (Delete name) s s (Refused Unknown)
    by None e =
        record { seat = seat; done = searched b own s name seat none ∙ ap (deleting b.history own (session_in b s)) e }
    by (Some t) e =
        absurd (true≢false (sym (ap is_some e) ∙ (segment_there (held_version b s.held).live name).1 gone))

-- the deletion of a live segment is prepared
pub deleted : (b : BookState) (own : ℕ) (s : Seat) (name : Label) → IsSeat b own s → is_some s.prepared ≡ false
    → (v : VersionState) → v ≡ held_version b s.held → Contains (names v.live) name
    → (x : PreparedChange)
    → IfSome (segment_in v.live name) (λ t. x.change ≡ record { editor = own; edits = TakeOut t ∷ [] })
    → IsPreparedOn v x
    → Did b own (Delete name) s (record s { prepared = Some x }) (Ready name)
deleted b own s name seat free v held there x change prepared =
    by (segment_in (held_version b s.held).live name) refl
    (subst (λ w. IfSome (segment_in (VersionState.live w) name) (λ t. x.change ≡ record { editor = own; edits = TakeOut t ∷ [] })) held change)
  where
    none : s.prepared ≡ None
    none = none_there s.prepared free

    on : IsPreparedOn (held_version b s.held) x
    on = subst (λ w. IsPreparedOn w x) held prepared

    here : Contains (names (held_version b s.held).live) name
    here = subst (λ w. Contains (names (VersionState.live w)) name) held there

    by : (o : Option Segment) → segment_in (held_version b s.held).live name ≡ o
        → IfSome o (λ t. x.change ≡ record { editor = own; edits = TakeOut t ∷ [] })
        → Did b own (Delete name) s (record s { prepared = Some x }) (Ready name)
    by None e _ = absurd ((segment_there (held_version b s.held).live name).0 (ap is_some e) here)
    by (Some t) e one =
        let none_new : (m : Label) → Contains (inserted_names x.change.edits) m → ⊥ =
        λ m c. let k = subst (λ (y : Changes). Contains (inserted_names y.edits) m) one c in omega (arith, k.1) in
        let named : name ≡ Segment.name t = sym (segment_listed (held_version b s.held).live name t e).1 in
        record {
          seat = record {
            held = seat.held;
            prepared = record {
              may = may_commit_on b (held_version b s.held) x seat.held.profile seat.held.number seat.held.live on (λ m c given. none_new m c);
              given = λ m c. absurd (none_new m c);
            };
            serials = seat.serials;
          };
          done =
              searched b own s name seat none
              ∙ ap (deleting b.history own (session_in b s)) e
              ∙ sym (λ i. stays b.history (record {
                held = (held_version b s.held).number;
                prepared = Some (record { base = on.base i; change = one i });
                serial = s.serial;
              }) (Ready (named i)));
        }
