-- The steps of the pass whose ticket is served keep the rule: to take the book, to mark, to give the book back.
-- In each its view alone changes, and the journal may grow; `turns` rebuilds the rule from what the
-- pass and the others know after it.
use Rattle.std.proofs.Common.{◌≡◌, ◌≢◌, ℕ, ◌+◌, ◌%◌, ◌^◌, ◌<◌, Bool, true, false, cond, List, []}
use Rattle.std.proofs.Common.{◌∷◌, ◌++◌, ℤ, length, drop, get_or, set, sym, refl, ap, ◌∙◌, subst}
use Rattle.std.proofs.Common.{⊎_elim, arith, Option, Some, length-set, true≢false}
use mathlib.Core.Option.{none, some}
use mathlib.Core.Option as maybe
use lib.ListN.{get_elem?}
use lib.Seq.{set-get_or}
use Rattle.atomic_table.specs.Table.{State, Me, step, keeps, takes, gives, stepped, rest, Allows}
use Rattle.atomic_table.proofs.Lists.{set_here}
use Rattle.turn_lock.specs.declared.stage.Stage.{Stage}
use Rattle.turn_lock.specs.declared.stage.Stage.TheVariants.{Idle, Waits, Served, Has, Marked, Home, Ended}
use Rattle.turn_lock.specs.declared.view.View.{View}
use Rattle.turn_lock.specs.Stage.{Whereabouts, at_home, with_pass, is_live, tickets, ticket_of, HasBook, Stands}
use Rattle.turn_lock.specs.History.{IsPrefix, calls, GrowsBy}
use Rattle.turn_lock.specs.View.{at_stage, with_journal, marked}
use Rattle.turn_lock.specs.Rule.{IsHolder, Knows, Kept}
use Rattle.turn_lock.specs.Plays.{took, marks, gave_back}
use Rattle.turn_lock.proofs.Histories.{prefix_self, prefix_trans, Grown, grown}
use Rattle.turn_lock.proofs.Views.{inside, each_set, sum-set}
use Rattle.turn_lock.proofs.Tickets.{not_both, not_served, restaged, same_tickets}

-- what stands of the stage of another pass does not depend on where the book is
others_turn : (owner : ℕ → ℕ) (served drawn : ℕ) (away away' : Whereabouts) (j id : ℕ) → j ≢ id → owner served ≡ id
    → (st : Stage) → Stands owner served drawn away j st → Stands owner served drawn away' j st
others_turn owner served drawn away away' j id other mine Idle k = tt
others_turn owner served drawn away away' j id other mine (Waits t) k = k
others_turn owner served drawn away away' j id other mine (Served t) k =
    absurd (not_served owner served drawn away j id other mine t k.2 k.0)
others_turn owner served drawn away away' j id other mine (Has t) k =
    absurd (not_served owner served drawn away j id other mine t k.2 k.0)
others_turn owner served drawn away away' j id other mine (Marked t) k =
    absurd (not_served owner served drawn away j id other mine t k.2 k.0)
others_turn owner served drawn away away' j id other mine (Home t) k =
    absurd (not_served owner served drawn away j id other mine t k.2 k.0)
others_turn owner served drawn away away' j id other mine Ended k = tt

-- a pass that has the book drew the ticket that is served
holder_is : (owner : ℕ → ℕ) (served drawn : ℕ) (away : Whereabouts) (j : ℕ) (st : Stage) → HasBook st
    → Stands owner served drawn away j st → j ≡ owner served
holder_is owner served drawn away j Idle b k = absurd b
holder_is owner served drawn away j (Waits t) b k = absurd b
holder_is owner served drawn away j (Served t) b k = absurd b
holder_is owner served drawn away j (Has t) b k = sym (ap owner (sym k.0) ∙ k.2)
holder_is owner served drawn away j (Marked t) b k = sym (ap owner (sym k.0) ∙ k.2)
holder_is owner served drawn away j (Home t) b k = absurd b
holder_is owner served drawn away j Ended b k = absurd b

module _ {E : Type 0} (author : E → ℕ) (seats : ℕ) (label : List ℤ) (journal es : List E)
    (over : ℕ → Bool) (room roomer id : ℕ) (up : Bool) (g : Grown author id up journal es) where
  -- the calls of a pass that was joined away stay
  ended_stay : over id ≡ false → (n : ℕ) (xs : List E) → (over n ≡ true) × (calls author n journal ≡ xs)
      → (over n ≡ true) × (calls author n es ≡ xs)
  ended_stay live n xs h = (h.0, g.others n (λ e. true≢false (sym h.0 ∙ (ap over e ∙ live))) ∙ h.1)

  -- what another pass knows stays, over a mark of pass id
  others_mark : over id ≡ false → (j : ℕ) (u : View E) → j ≢ id → ¬ HasBook u.stage
      → Knows author seats label journal over room roomer j u → Knows author seats label es over room roomer j u
  others_mark live j u other empty k = record {
    not_over = k.not_over;
    number_is = k.number_is;
    seats_is = k.seats_is;
    label_is = k.label_is;
    seen = prefix_trans u.seen journal es k.seen g.begins;
    calls_are = g.others j other ∙ k.calls_are;
    calls_seen = k.calls_seen;
    has_room = k.has_room;
    one = prefix_trans u.one journal es k.one g.begins;
    other = prefix_trans u.other journal es k.other g.begins;
    ended = λ i n xs at. ended_stay live n xs (k.ended i n xs at);
    journal_is = λ b. absurd (empty b);
  }

  -- what pass id knows after its mark
  own_mark : (v : View E) (st : Stage) → v.journal ≡ journal → Knows author seats label journal over room roomer id v
      → Knows author seats label es over room roomer id (marked st es v)
  own_mark v st same k =
      let own : calls author id es ≡ v.mine ++ drop (length v.journal) es =
      g.own ∙ (λ i. k.calls_are i ++ drop (length (sym same i)) es) in
      record {
        not_over = k.not_over;
        number_is = k.number_is;
        seats_is = k.seats_is;
        label_is = k.label_is;
        seen = prefix_self es;
        calls_are = own;
        calls_seen = own;
        has_room = k.has_room;
        one = prefix_trans v.one journal es k.one g.begins;
        other = prefix_trans v.other journal es k.other g.begins;
        ended = λ i n xs at. ended_stay k.not_over n xs (k.ended i n xs at);
        journal_is = λ _. refl;
      }

module _ {B E : Type 0} (history : B → List E) (author : List ℤ → E → ℕ) (label_of : B → List ℤ)
    (seats : ℕ) (label : List ℤ) where
  abbrev St : Type 0
  St = State (Option B) (View E)

  abbrev Rule : St → Type 0
  Rule = Kept history (author label) label_of seats label

  -- the view of the pass whose ticket is served becomes w, and the journal es
  turns : (s : St) (r : Rule s) (id : ℕ) (v w : View E) (es : List E) (away' : Whereabouts)
      (words' : List ℕ) (homes' : List (maybe.Option (Option B)))
      → get_elem? s.views id ≡ some v → r.owner r.served ≡ id
      → tickets w.stage ≡ tickets v.stage → ticket_of w.stage ≡ ticket_of v.stage
      → words' ≡ (r.drawn % 2 ^ 64) ∷ (r.served % 2 ^ 64) ∷ length es ∷ []
      → length es < 2 ^ 32
      → Stands r.owner r.served r.drawn away' id w.stage
      → (away' ≡ at_home → (b : B) × (homes' ≡ some (Some b) ∷ []) × (history b ≡ es) × (label_of b ≡ label))
      → ((j : ℕ) → away' ≡ with_pass j → (homes' ≡ none ∷ []) × (j ≡ r.owner r.served)
      × (r.served < r.drawn) × IsHolder (set s.views id w) j)
      → ((k : ℕ) (e : E) → get_elem? es k ≡ some e → author label e < length s.views)
      → Knows (author label) seats label es r.over r.room r.roomer id w
      → ((j : ℕ) (u : View E) → j ≢ id → get_elem? s.views j ≡ some u → is_live u.stage ≡ true
      → Knows (author label) seats label es r.over r.room r.roomer j u)
      → Rule record { words = words'; homes = homes'; views = set s.views id w }
  turns s r id v w es away' words' homes' at mine as_many same words short here home out named own others =
      let as_long = length-set s.views id w in
      record {
        journal = es;
        served = r.served;
        drawn = r.drawn;
        away = away';
        owner = r.owner;
        over = r.over;
        room = r.room;
        roomer = r.roomer;
        words_are = words;
        short = short;
        few = r.few;
        counted = let sum = sum-set (λ (u : View E). tickets u.stage) s.views id v w at in
            let was = r.counted in omega arith;
        drawn_by = λ t from below. same_tickets s.views id v w at as_many same (r.owner t) t (r.drawn_by t from below);
        stands = each_set (λ (j : ℕ) (u : View E). Stands r.owner r.served r.drawn away' j u.stage) s.views id w here
            (λ j u other at'. others_turn r.owner r.served r.drawn r.away away' j id other mine
            u.stage (r.stands j u at'));
        home = home;
        out = out;
        given = ap (λ (n : ℕ). n + r.room) as_long ∙ r.given;
        fresh = λ n l. r.fresh n (omega arith);
        named = λ k e h. let x = named k e h in omega arith;
        knows = each_set (λ (j : ℕ) (u : View E). is_live u.stage ≡ true
            → Knows (author label) seats label es r.over r.room r.roomer j u) s.views id w
            (λ _. own) others;
      }

  pub takes_book : (slots id : ℕ) (me : Me (Option B) (View E)) (t : ℕ) → me.0.stage ≡ Served t
      → Allows Rule slots id me 1 (λ x. x) (took history author label_of (step slots 1 0 0 none) me)
  takes_book slots id me t is s r deep at fits =
      let v : View E = me.0 in
      let k : Stands r.owner r.served r.drawn r.away id (Served t) =
      subst (Stands r.owner r.served r.drawn r.away id) is (r.stands id v at) in
      let mine : r.owner r.served ≡ id = ap r.owner (sym k.0) ∙ k.2 in
      let knows = r.knows id v at (ap is_live is) in
      let at_rest = r.home k.3 in
      let b : B = at_rest.0 in
      let w : View E = with_journal (Has t) (history b) v in
      let same : (t' : ℕ) → v.stage ≡ Served t' → t ≡ t' = λ t' is'. ap ticket_of (sym is ∙ is') in (
        w,
        takes 0 (Some b),
        ap (λ (hs : List (maybe.Option (Option B))). get_elem? hs 0) at_rest.1,
        turns s r id v w r.journal (with_pass id) (set s.words 1 (get_or s.words 1 0))
            (set s.homes 0 none) at mine (sym (ap tickets is)) (sym (ap ticket_of is))
            (set-get_or s.words 1 0 ∙ r.words_are) r.short (k.0, k.1, k.2, refl)
            (λ e. absurd (not_both (with_pass id) id e refl))
            (λ j e. let here : id ≡ j = cc in let now = k.0 in let below = k.1 in (
              ap (λ (hs : List (maybe.Option (Option B))). set hs 0 none) at_rest.1,
              sym (mine ∙ here),
              omega arith,
              (w, ap (get_elem? (set s.views id w)) (sym here) ∙ set_here s.views id w (inside s.views id v at), tt),
            ))
            r.named (restaged (author label) seats label r.journal r.over r.room r.roomer id v
            (Has t) (history b) knows (λ _. at_rest.2))
            (λ j u _ at' live. r.knows j u at' live),
        λ t' is'. (
          b,
          ap (λ (x : ℕ). (with_journal (Has x) (history b) v, (0, Some b) ∷ me.1)) (same t' is'),
          subst (IsPrefix v.seen) (sym at_rest.2) knows.seen,
          subst (λ (p : List ℤ × ℕ × List E). calls (author p.0) p.1 p.2 ≡ v.mine)
              (λ i. (sym knows.label_is i, sym knows.number_is i, sym at_rest.2 i)) knows.calls_are,
          at_rest.3 ∙ sym knows.label_is,
        ),
      )

  pub marks_history : (slots id : ℕ) (me : Me (Option B) (View E)) (t k : ℕ) (up : Bool) (es : List E)
      → me.0.stage ≡ Has t → k ≡ cond up 1 0 → GrowsBy (author me.0.label) me.0.number up me.0.journal es
      → length es < 2 ^ 32
      → Allows Rule slots id me 2 (λ x. (x + k) % 2 ^ 64) (marks author es (step slots 2 k 0 none) me)
  marks_history slots id me t k up es is by grows short s r deep at fits =
      let v : View E = me.0 in
      let w : View E = marked (Marked t) es v in
      let stands : Stands r.owner r.served r.drawn r.away id (Has t) =
      subst (Stands r.owner r.served r.drawn r.away id) is (r.stands id v at) in
      let mine : r.owner r.served ≡ id = ap r.owner (sym stands.0) ∙ stands.2 in
      let knows = r.knows id v at (ap is_live is) in
      let journal_is : v.journal ≡ r.journal = knows.journal_is (subst HasBook (sym is) tt) in
      let g : Grown (author label) id up r.journal es =
      grown (author label) id up r.journal es
      (subst (λ (p : List ℤ × ℕ × List E). GrowsBy (author p.0) p.1 up p.2 es)
      (λ i. (knows.label_is i, knows.number_is i, journal_is i)) grows) in
      let same : (t' : ℕ) → v.stage ≡ Has t' → t ≡ t' = λ t' is'. ap ticket_of (sym is ∙ is') in
      let front : (length r.journal + k) % 2 ^ 64 ≡ length es = let by' = g.longer_by in omega arith in (
        w,
        keeps,
        tt,
        turns s r id v w es r.away (set s.words 2 ((get_or s.words 2 0 + k) % 2 ^ 64)) s.homes at
            mine (sym (ap tickets is)) (sym (ap ticket_of is))
            (ap (λ (ws : List ℕ). set ws 2 ((get_or ws 2 0 + k) % 2 ^ 64)) r.words_are
            ∙ (λ i. (r.drawn % 2 ^ 64) ∷ (r.served % 2 ^ 64) ∷ front i ∷ []))
            short stands (λ e. absurd (not_both r.away id e stands.3))
            (λ j e. let o = r.out j e in (
              o.0,
              o.1,
              o.2,
              (
                w,
                ap (get_elem? (set s.views id w)) (o.1 ∙ mine)
                    ∙ set_here s.views id w (inside s.views id v at),
                tt,
              ),
            ))
            (λ i e h. ⊎_elim (r.named i e) (λ (q : author label e ≡ id). let there = inside s.views
            id v at in omega arith) (g.names i e h))
            (own_mark (author label) seats label r.journal es r.over r.room r.roomer id up g v
            (Marked t) journal_is knows)
            (λ j u other at' live. others_mark (author label) seats label r.journal es r.over r.room
            r.roomer id up g knows.not_over j u other
            (λ b. other (holder_is r.owner r.served r.drawn r.away j u.stage b (r.stands j u at')
            ∙ mine)) (r.knows j u at' live)),
        λ t' is'. (
          ap (λ (x : ℕ). (marked (Marked x) es v, me.1)) (same t' is'),
          subst (λ (p : List ℤ × ℕ). calls (author p.0) p.1 es ≡ v.mine ++ drop (length v.journal) es)
              (λ i. (sym knows.label_is i, sym knows.number_is i))
              (own_mark (author label) seats label r.journal es r.over r.room r.roomer id up g v
              (Marked t) journal_is knows).calls_are,
        ),
      )

  pub gives_back : (slots id : ℕ) (me : Me (Option B) (View E)) (t : ℕ) (b : B) → me.0.stage ≡ Marked t
      → me.1 ≡ (0, Some b) ∷ [] → history b ≡ me.0.journal → label_of b ≡ me.0.label
      → Allows Rule slots id me 2 (λ x. x) (gave_back (step slots 2 0 0 none) me)
  gives_back slots id me t b is carried as_marked labelled s r deep at fits =
      let v : View E = me.0 in
      let w : View E = at_stage (Home t) v in
      let stands : Stands r.owner r.served r.drawn r.away id (Marked t) =
      subst (Stands r.owner r.served r.drawn r.away id) is (r.stands id v at) in
      let mine : r.owner r.served ≡ id = ap r.owner (sym stands.0) ∙ stands.2 in
      let knows = r.knows id v at (ap is_live is) in
      let journal_is : v.journal ≡ r.journal = knows.journal_is (subst HasBook (sym is) tt) in
      let same : (t' : ℕ) → v.stage ≡ Marked t' → t ≡ t' = λ t' is'. ap ticket_of (sym is ∙ is') in
      let taken = (r.out id stands.3).0 in (
        w,
        gives,
        tt,
        subst (λ (cs : List (ℕ × Option B)). Rule (stepped s 2 (get_or s.words 2 0) id cs w gives)) (sym carried)
            (turns s r id v w r.journal at_home (set s.words 2 (get_or s.words 2 0))
            (set s.homes 0 (some (Some b))) at mine (sym (ap tickets is))
            (sym (ap ticket_of is))
            (set-get_or s.words 2 0 ∙ r.words_are) r.short (stands.0, stands.1, stands.2, refl)
            (λ _. (
              b,
              ap (λ (hs : List (maybe.Option (Option B))). set hs 0 (some (Some b))) taken,
              as_marked ∙ journal_is,
              labelled ∙ knows.label_is,
            ))
            (λ j e. absurd (not_both at_home j refl e))
            r.named (restaged (author label) seats label r.journal r.over r.room r.roomer id v
            (Home t) v.journal knows (λ b. absurd b)) (λ j u _ at' live. r.knows j u at' live)),
        λ t' is'. λ i. (at_stage (Home (same t' is' i)) v, rest (carried i)),
      )
