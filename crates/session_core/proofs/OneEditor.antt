-- One editor alone is never stale. After each of its commands it holds the newest version, and what it
-- has prepared has the newest version as its base: so no later change is there that could clash.
-- By induction on the commands.
use Rattle.std.proofs.Common.{◌≡◌, refl, sym, ap, subst, ◌∙◌, arith, length-append, ℕ, ◌+◌, ◌-◌, ◌≤◌, Bool, true, false, true≢false, List, [], ◌∷◌, length, Option, Some, None, IfSome, is_some}
use Rattle.std.specs.Prelude.{if◌then◌else◌, filter_map}
use Rattle.std.specs.List.{AllByRecursion, enumerate_from, last_or, list_any}
use Rattle.std.proofs.lemmas.List.{drop_all, get_or-set_same, get_or-replicate, length-set}
use Rattle.grid_core.specs.declared.point.Point.{Point}
use Rattle.grid_core.specs.declared.place.Place.{Place}
use Rattle.grid_core.specs.declared.place.Place.TheVariants.{Vertex, OnEdge, Between}
use Rattle.grid_core.specs.declared.tile.TileId.{TileId}
use Rattle.grid_core.specs.Contours.{BoundaryWalk, contour_of}
use Rattle.grid_core.specs.Places.{place_of}
use Rattle.grid_core.specs.Name.{Label}
use Rattle.grid_core.specs.Profile.{Sizes}
use Rattle.grid_core.specs.Rounding.{hot, vertex_at, edges, bundle}
use Rattle.grid_core.specs.Vector.{point_eq}
use Rattle.grid_core.specs.Edge.{EdgeEnds, edge_between, edge_eq}
use Rattle.grid_core.specs.Segment.{Segment}
use Rattle.hot_tile.specs.Tile.{segment_in}
use Rattle.version_core.specs.Edits.{Changes, after_edits}
use Rattle.version_core.specs.History.{live, clash, clash_with}
use Rattle.book_core.specs.declared.refusal.FullOf.{FullOf}
use Rattle.book_core.specs.Commit.{full_of, refusal_by}
use Rattle.script_read.specs.declared.command.Act.{Act}
use Rattle.script_read.specs.declared.command.Act.TheVariants.{Take, Insert, Delete, Reads, Commit, Drop, Ask}
use Rattle.script_read.specs.declared.command.Command.{Command}
use Rattle.script_read.specs.declared.command.Query.{Query}
use Rattle.script_read.specs.declared.command.Query.TheVariants.{Locate, Route, Hot, Bundle, Contour, Show}
use Rattle.script_read.specs.declared.reply.Refusal.{Refusal}
use Rattle.script_read.specs.declared.reply.Said.{Said}
use Rattle.script_read.specs.declared.reply.Said.TheVariants.{Hot as IsHot, Cold, Bundle as IsBundle, NoEdge}
use Rattle.session_core.specs.Machine.{BasedChange, Session, State, editors, new_session, start, session_of, live_at}
use Rattle.session_core.specs.Answer.{answer, place_said, route_said, bundle_said, contour_said}
use Rattle.session_core.specs.Step.{Outcome, stays, inserting, insert_refusal, deleting, reads_said, after_drop, committing, after_commit, outcome, step, replies}
use Rattle.session_core.specs.Laws.{is_stale, OneEditorIsNeverStale}

-- the session holds the newest version, and its change is based on it
record IsUpToDate (h : List Changes) (s : Session) : Type 0 where
  newest : s.held ≡ length h
  based : IfSome s.prepared (λ x. x.base ≡ length h)

-- the session is up to date afterwards, and isn't told that a change is stale
record IsFresh (o : Outcome) : Type 0 where
  current : IsUpToDate o.history o.session
  said : is_stale o.said ≡ false

unchanged : (h : List Changes) (s : Session) (said : Said) → IsUpToDate h s → is_stale said ≡ false → IsFresh (stays h s said)
unchanged h s said u e = record { current = u; said = e }

-- ---- what is said to queries

place_told : (p : Place) → is_stale (place_said p) ≡ false
place_told (Vertex h) = refl
place_told (OnEdge e) = refl
place_told (Between above below) = refl

route_told : (ss : List Segment) (name : Label) (u : Option Segment) → is_stale (route_said ss name u) ≡ false
route_told ss name None = refl
route_told ss name (Some s) = refl

either_told : (b : Bool) (r t : Said) → is_stale r ≡ false → is_stale t ≡ false → is_stale (if b then r else t) ≡ false
either_told true r t e f = e
either_told false r t e f = f

bundle_told : (ss : List Segment) (e : EdgeEnds) → is_stale (bundle_said ss e) ≡ false
bundle_told ss e = either_told (list_any (edge_eq e) (edges ss)) (IsBundle e (bundle ss e)) NoEdge refl refl

contour_told : (w : Option BoundaryWalk) → is_stale (contour_said w) ≡ false
contour_told None = refl
contour_told (Some w) = refl

answer_told : (n : ℕ) (ss : List Segment) (q : Query) → is_stale (answer n ss q) ≡ false
answer_told n ss (Locate at) = place_told (place_of ss at)
answer_told n ss (Route name) = route_told ss name (segment_in ss name)
answer_told n ss (Hot at) = either_told (list_any (point_eq at) (hot ss)) (IsHot (vertex_at ss at)) (Cold at) refl refl
answer_told n ss (Bundle a b) = bundle_told ss (edge_between a b)
answer_told n ss (Contour a b) = contour_told (contour_of (edges ss) a b)
answer_told n ss Show = refl

-- ---- one act

inserted : (h : List Changes) (editor : ℕ) (s : Session) (a b : Point) (why : Option Refusal) → IsUpToDate h s
    → IsFresh (inserting h editor s a b why)
inserted h editor s a b (Some why) u = record { current = u; said = refl }
inserted h editor s a b None u = record { current = record { newest = u.newest; based = u.newest }; said = refl }

deleted : (h : List Changes) (editor : ℕ) (s : Session) (found : Option Segment) → IsUpToDate h s
    → IsFresh (deleting h editor s found)
deleted h editor s None u = record { current = u; said = refl }
deleted h editor s (Some t) u = record { current = record { newest = u.newest; based = u.newest }; said = refl }

either : (b : Bool) (o p : Outcome) → IsFresh o → IsFresh p → IsFresh (if b then o else p)
either true o p f g = f
either false o p f g = g

reads_told : (pr : Sizes) (p : Option BasedChange) → is_stale (reads_said pr p) ≡ false
reads_told pr None = refl
reads_told pr (Some x) = refl

dropped : (h : List Changes) (s : Session) (p : Option BasedChange) → IsUpToDate h s → IsFresh (after_drop h s p)
dropped h s None u = record { current = u; said = refl }
dropped h s (Some x) u = record { current = record { newest = u.newest; based = tt }; said = refl }

-- no change comes after the newest version
unclashed : (pr : Sizes) (h : List Changes) (b : ℕ) (x : Changes) → b ≡ length h → clash pr h b x ≡ None
unclashed pr h b x e =
    ap (λ ys. last_or None (filter_map (clash_with pr x) (enumerate_from (b + 1) ys))) (drop_all b h (omega (arith, e)))

decided : (h : List Changes) (s : Session) (x : Changes) (c : Option (ℕ × TileId)) (full : Option FullOf) → c ≡ None
    → IsUpToDate h s → IsFresh (committing h s x (refusal_by c full))
decided h s x (Some c) full none u = absurd (true≢false (ap is_some none))
decided h s x None (Some what) none u = record { current = record { newest = u.newest; based = tt }; said = refl }
decided h s x None None none u =
    record { current = record { newest = sym (length-append h (x ∷ [])); based = tt }; said = refl }

committed : (pr : Sizes) (h : List Changes) (s : Session) (p : Option BasedChange) → IsUpToDate h s
    → IfSome p (λ x. x.base ≡ length h) → IsFresh (after_commit pr h s p)
committed pr h s None u based = record { current = u; said = refl }
committed pr h s (Some x) u based =
    decided h s x.change (clash pr h x.base x.change) (full_of pr h (after_edits (live h) x.change.edits))
    (unclashed pr h x.base x.change based) u

done : (pr : Sizes) (h : List Changes) (editor : ℕ) (s : Session) (act : Act) → IsUpToDate h s
    → IsFresh (outcome pr h editor s act)
done pr h editor s Take u = record { current = record { newest = refl; based = u.based }; said = refl }
done pr h editor s (Insert a b) u = inserted h editor s a b (insert_refusal pr s a b) u
done pr h editor s (Delete name) u =
    either (is_some s.prepared) _ _ (record { current = u; said = refl })
    (deleted h editor s (segment_in (live_at h s.held) name) u)
done pr h editor s Reads u = unchanged h s (reads_said pr s.prepared) u (reads_told pr s.prepared)
done pr h editor s Commit u = committed pr h s s.prepared u u.based
done pr h editor s Drop u = dropped h s s.prepared u
done pr h editor s (Ask q) u = unchanged h s _ u (answer_told s.held (live_at h s.held) q)

-- ---- one editor's commands

-- the editor's session is up to date; there is a session for each editor
record IsAlone (editor : ℕ) (st : State) : Type 0 where
  all : length st.sessions ≡ editors
  own : IsUpToDate st.history (session_of st editor)

begun : (editor : ℕ) → editor ≤ editors → IsAlone editor start
begun editor few =
    record {
      all = refl;
      own = subst (IsUpToDate []) (sym (get_or-replicate editors (editor - 1) new_session new_session (omega (arith, few))))
          (record { newest = refl; based = tt });
    }

stepped : (pr : Sizes) (st : State) (c : Command) → c.editor ≤ editors → IsAlone c.editor st
    → IsAlone c.editor (step pr st c).0 × (is_stale (step pr st c).1.said ≡ false)
stepped pr st c few alone =
    let o : Outcome = outcome pr st.history c.editor (session_of st c.editor) c.act in
    let fresh : IsFresh o = done pr st.history c.editor (session_of st c.editor) c.act alone.own in
    let all = alone.all in (
      record {
        all = length-set st.sessions (c.editor - 1) o.session ∙ all;
        own = subst (IsUpToDate o.history)
            (sym (get_or-set_same st.sessions (c.editor - 1) o.session new_session (omega (arith, all, few))))
            fresh.current;
      },
      fresh.said,
    )

never : (pr : Sizes) (editor : ℕ) → editor ≤ editors → (st : State) → IsAlone editor st → (cs : List Command)
    → AllByRecursion (λ c. c.editor ≡ editor) cs → AllByRecursion (λ r. is_stale r.said ≡ false) (replies pr st cs)
unfolding replies
never pr editor few st alone [] own = tt
never pr editor few st alone (c ∷ cs) own =
    let e : c.editor ≡ editor = own.0 in
    let next = stepped pr st c (omega (arith, e, few)) (subst (λ k. IsAlone k st) (sym e) alone) in
    (next.1, never pr editor few (step pr st c).0 (subst (λ k. IsAlone k (step pr st c).0) e next.0) cs own.1)

pub one_editor_is_never_stale : (pr : Sizes) → OneEditorIsNeverStale pr
one_editor_is_never_stale pr editor cs few own = never pr editor few start (begun editor few) cs own
