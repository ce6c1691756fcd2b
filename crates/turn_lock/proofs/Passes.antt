-- The steps that make and end passes keep the rule: to split one off, to join one into another, to
-- learn how the two histories lie; and what holds at the end.
-- At a join the room goes to the pass that stays, so `merges` is told which pass has the room after it.
use Rattle.std.proofs.Common.{◌≡◌, ◌≢◌, ℕ, ◌+◌, ◌-◌, ◌^◌, ◌<◌, ◌≤◌, Bool, true, false, List, []}
use Rattle.std.proofs.Common.{◌∷◌, ◌++◌, ℤ, map, length, set, sym, refl, ap, ◌∙◌, subst, ⊎_elim}
use Rattle.std.proofs.Common.{inl, inr, arith, Option, Some, length-set, length-append}
use Rattle.std.proofs.Common.{append_assoc, true≢false}
use Rattle.std.proofs.lemmas.List.Sums.{sum_by_push}
use mathlib.Core.Logic.{dite}
use mathlib.Core.Option.{none, some, some-injective, some-ne-none}
use mathlib.Core.Option as maybe
use native.Mathlib.Decide.{ℕ_discrete}
use lib.ListN.{get_elem?}
use Rattle.atomic_table.specs.Table.{State, Me, step, keeps, Allows, Splits, Joins, opening, Final, Seen}
use Rattle.atomic_table.proofs.Lists.{set_here, set_else, at_last, at_longer}
use Rattle.turn_lock.specs.declared.stage.Stage.{Stage}
use Rattle.turn_lock.specs.declared.stage.Stage.TheVariants.{Idle, Waits, Served, Has, Marked, Home, Ended}
use Rattle.turn_lock.specs.declared.view.View.{View}
use Rattle.turn_lock.specs.Stage.{at_home, with_pass, is_live, tickets, HasBook, Stands}
use Rattle.turn_lock.specs.History.{IsPrefix, calls, longer}
use Rattle.turn_lock.specs.View.{lowered, split_from, joined, spent, first_view}
use Rattle.turn_lock.specs.Rule.{IsHolder, Knows, Kept}
use Rattle.turn_lock.specs.Plays.{met}
use Rattle.turn_lock.specs.Turn.{Keeps, HasAll, IsLast}
use Rattle.turn_lock.proofs.Histories.{prefix_nil, longer_within, longer_begins, calls_none, calls_between}
use Rattle.turn_lock.proofs.Views.{put, put_here, put_else, put_keeps, inside, same_place}
use Rattle.turn_lock.proofs.Views.{elsewhere, each_set, each_end, each_append, each_cons, sum-set}
use Rattle.turn_lock.proofs.Tickets.{either_place, not_both, unchanged, same_tickets, other_ticket, not_holder}

-- P of the one view of a list
each_single : {A : Type 0} (P : ℕ → A → Type 0) (a : A) → P 0 a → (j : ℕ) (x : A)
    → get_elem? (a ∷ []) j ≡ some x → P j x
each_single P a h = each_end P [] a h (λ j x e. absurd (some-ne-none x (sym e)))

-- a pass that has the book was not joined away
live_holder : (st : Stage) → HasBook st → is_live st ≡ true
live_holder Idle b = refl
live_holder (Waits t) b = refl
live_holder (Served t) b = refl
live_holder (Has t) b = refl
live_holder (Marked t) b = refl
live_holder (Home t) b = refl
live_holder Ended b = absurd b

module _ {E : Type 0} where
  -- a pass that has the book has it after a change of a view that leaves this so
  same_holder : (vs : List (View E)) (id : ℕ) (v w : View E) → get_elem? vs id ≡ some v
      → (HasBook v.stage → HasBook w.stage) → (j : ℕ) → IsHolder vs j → IsHolder (set vs id w) j
  same_holder vs id v w at keep j h =
      dite (ℕ_discrete j id)
      (λ (e : j ≡ id). (
        w,
        ap (get_elem? (set vs id w)) e ∙ set_here vs id w (inside vs id v at),
        keep (subst (λ (x : View E). HasBook x.stage) (same_place vs j id h.0 v e h.1 at) h.2),
      ))
      (λ (n : j ≢ id). (h.0, elsewhere vs id j w h.0 n h.1, h.2))

  module _ (author : E → ℕ) (seats : ℕ) (label : List ℤ) (journal : List E) (over : ℕ → Bool) (room roomer : ℕ) where
    -- what a pass knows, with another room
    reroomed : (room' roomer' j x : ℕ) (v : View E) → Knows author seats label journal over room roomer j v
        → (0 < x → (j ≡ roomer') × (x ≡ room'))
        → Knows author seats label journal over room' roomer' j (record v { room = x })
    reroomed room' roomer' j x v k h = record {
      not_over = k.not_over;
      number_is = k.number_is;
      seats_is = k.seats_is;
      label_is = k.label_is;
      seen = k.seen;
      calls_are = k.calls_are;
      calls_seen = k.calls_seen;
      has_room = h;
      one = k.one;
      other = k.other;
      ended = k.ended;
      journal_is = k.journal_is;
    }

    -- what a pass that is split from one with the view v knows, where no entry names its number
    newcomer : (room' roomer' id j : ℕ) (v : View E) → Knows author seats label journal over room roomer id v
        → over j ≡ false → v.seats - v.room ≡ j → ((k : ℕ) (e : E) → get_elem? journal k ≡ some e → author e ≢ j)
        → Knows author seats label journal over room' roomer' j (split_from v)
    newcomer room' roomer' id j v k live number unnamed =
        let none_yet : calls author j journal ≡ [] = calls_none author j journal unnamed in
        record {
          not_over = live;
          number_is = number;
          seats_is = k.seats_is;
          label_is = k.label_is;
          seen = k.seen;
          calls_are = none_yet;
          calls_seen = calls_between author j [] v.seen journal (prefix_nil v.seen) k.seen (sym none_yet);
          has_room = λ h. absurd (omega arith);
          one = prefix_nil journal;
          other = prefix_nil journal;
          ended = λ i n es e. absurd (some-ne-none (n, es) (sym e));
          journal_is = λ b. absurd b;
        }

    -- what another pass knows stays, over a join of the pass i into another
    others_join : (i roomer' j : ℕ) (u : View E) → j ≢ i → Knows author seats label journal over room roomer j u
        → (0 < u.room → j ≡ roomer') → Knows author seats label journal (put over i true) room roomer' j u
    others_join i roomer' j u apart k h = record {
      not_over = put_else over i true j apart ∙ k.not_over;
      number_is = k.number_is;
      seats_is = k.seats_is;
      label_is = k.label_is;
      seen = k.seen;
      calls_are = k.calls_are;
      calls_seen = k.calls_seen;
      has_room = λ some_room. (h some_room, (k.has_room some_room).1);
      one = k.one;
      other = k.other;
      ended = λ p n es at. let t = k.ended p n es at in (put_keeps over i true n t.0, t.1);
      journal_is = k.journal_is;
    }

    -- what pass id knows after the pass i was joined into it
    own_join : (id i roomer' : ℕ) (v w : View E) → id ≢ i → ¬ HasBook v.stage
        → Knows author seats label journal over room roomer id v
        → Knows author seats label journal over room roomer i w
        → (0 < v.room + w.room → (id ≡ roomer') × (v.room + w.room ≡ room))
        → Knows author seats label journal (put over i true) room roomer' id (joined v w)
    own_join id i roomer' v w apart empty k k' rooms =
        let IsOver : ℕ × List E → Type 0 = λ p. (put over i true p.0 ≡ true) × (calls author p.0 journal ≡ p.1) in
        let was_over : (u : View E) (q : ℕ) → Knows author seats label journal over room roomer q u
        → (p : ℕ) (a : ℕ × List E) → get_elem? u.ended p ≡ some a → IsOver a =
        λ u q h p a at. let t = h.ended p a.0 a.1 at in (put_keeps over i true a.0 t.0, t.1) in
        record {
          not_over = put_else over i true id apart ∙ k.not_over;
          number_is = k.number_is;
          seats_is = k.seats_is;
          label_is = k.label_is;
          seen = longer_within v.seen w.seen journal k.seen k'.seen;
          calls_are = k.calls_are;
          calls_seen = calls_between author id v.seen (longer v.seen w.seen) journal
              (longer_begins v.seen w.seen journal k.seen k'.seen).0
              (longer_within v.seen w.seen journal k.seen k'.seen) (k.calls_seen ∙ sym k.calls_are)
              ∙ k.calls_seen;
          has_room = rooms;
          one = k.seen;
          other = k'.seen;
          ended = λ p n es at. each_append IsOver v.ended ((w.number, w.mine) ∷ w.ended) (was_over v id k)
              (each_cons IsOver (w.number, w.mine) w.ended (
                ap (put over i true) k'.number_is ∙ put_here over i true,
                ap (λ (n : ℕ). calls author n journal) k'.number_is ∙ k'.calls_are,
              ) (was_over w i k'))
              p (n, es) at;
          journal_is = λ b. absurd (empty b);
        }

  -- a pass keeps the calls of the one that was joined into it last
  pub keeps_joined : (v w : View E) → Keeps (joined v w) w.number w.mine
  keeps_joined v w =
      let mine : ℕ × List E = (w.number, w.mine) in
      let n : ℕ = length v.ended in
      let last : get_elem? ((v.ended ++ mine ∷ []) ++ w.ended) n ≡ some mine =
      at_longer (v.ended ++ mine ∷ []) w.ended n mine (at_last v.ended mine n refl) in
      (n, ap (λ (l : List (ℕ × List E)). get_elem? l n) (sym (append_assoc v.ended (mine ∷ []) w.ended)) ∙ last)

  -- and those that it kept before
  pub keeps_earlier : (v w : View E) (n : ℕ) (es : List E) → Keeps v n es → Keeps (joined v w) n es
  keeps_earlier v w n es h = (h.0, at_longer v.ended ((w.number, w.mine) ∷ w.ended) h.0 (n, es) h.1)

  -- two passes are all of a turn of two, once they are joined
  pub both_joined : (v w : View E) → v.number ≡ 0 → w.number ≡ 1 → v.seats ≡ 2 → HasAll (joined v w)
  both_joined v w first second two n below =
      dite (ℕ_discrete n 0)
      (λ (e : n ≡ 0). inl (e ∙ sym first))
      (λ (other : n ≢ 0).
      let e : w.number ≡ n = omega arith in
      inr (w.mine, subst (λ (x : ℕ). Keeps (joined v w) x w.mine) e (keeps_joined v w)))

module _ {B E : Type 0} (history : B → List E) (author : List ℤ → E → ℕ) (label_of : B → List ℤ)
    (seats : ℕ) (label : List ℤ) where
  abbrev St : Type 0
  St = State (Option B) (View E)

  abbrev Rule : St → Type 0
  Rule = Kept history (author label) label_of seats label

  -- the table at the start, with the book at home and one pass
  pub opens : (b : B) (slots : List (Option B)) → slots ≡ Some b ∷ [] → 1 ≤ seats → seats < 2 ^ 32 → history b ≡ []
      → label_of b ≡ label → Rule (opening (0 ∷ 0 ∷ 0 ∷ []) slots (first_view seats label))
  opens b slots filled some_seat few fresh labelled =
      let v : View E = first_view seats label in
      record {
        journal = [];
        served = 0;
        drawn = 0;
        away = at_home;
        owner = λ _. 0;
        over = λ _. false;
        room = seats - 1;
        roomer = 0;
        words_are = refl;
        short = omega arith;
        few = few;
        counted = refl;
        drawn_by = λ t from below. absurd (omega arith);
        stands = each_single (λ (j : ℕ) (u : View E). Stands (λ _. 0) 0 0 at_home j u.stage) v tt;
        home = λ _. (b, ap (map (λ (o : Option B). some o)) filled, fresh, labelled);
        out = λ j e. absurd (not_both at_home j refl e);
        given = omega arith;
        fresh = λ _ _. refl;
        named = λ k e h. absurd (some-ne-none e (sym h));
        knows = each_single (λ (j : ℕ) (u : View E). is_live u.stage ≡ true
            → Knows (author label) seats label [] (λ _. false) (seats - 1) 0 j u) v
            (λ _. record {
              not_over = refl;
              number_is = refl;
              seats_is = refl;
              label_is = refl;
              seen = prefix_nil [];
              calls_are = refl;
              calls_seen = refl;
              has_room = λ _. (refl, refl);
              one = prefix_nil [];
              other = prefix_nil [];
              ended = λ i n es e. absurd (some-ne-none (n, es) (sym e));
              journal_is = λ h. absurd h;
            });
      }

  pub splits : (id : ℕ) (v : View E) → is_live v.stage ≡ true → 0 < v.room → Splits Rule id v (lowered v) (split_from v)
  splits id v live some_room s r at =
      let w : View E = lowered v in
      let o : View E = split_from v in
      let vs : List (View E) = set s.views id w in
      let as_long : length vs ≡ length s.views = length-set s.views id w in
      let longer_by : length (vs ++ o ∷ []) ≡ length vs + 1 = length-append vs (o ∷ []) in
      let knows = r.knows id v at live in
      let roomy = knows.has_room some_room in
      let here = roomy.0 in
      let all_room = roomy.1 in
      let given = r.given in
      let seats_is = knows.seats_is in
      record {
        journal = r.journal;
        served = r.served;
        drawn = r.drawn;
        away = r.away;
        owner = r.owner;
        over = r.over;
        room = r.room - 1;
        roomer = r.roomer;
        words_are = r.words_are;
        short = r.short;
        few = r.few;
        counted = let sum = sum-set (λ (u : View E). tickets u.stage) s.views id v w at in
            let sum' = sum_by_push (λ (u : View E). tickets u.stage) vs o in
            let was = r.counted in omega arith;
        drawn_by = λ t from below. let has = same_tickets s.views id v w at refl refl (r.owner t) t
            (r.drawn_by t from below) in (
              has.0,
              at_longer vs (o ∷ []) (r.owner t) has.0 has.1,
              has.2,
              has.3,
            );
        stands = each_end (λ (j : ℕ) (u : View E). Stands r.owner r.served r.drawn r.away j u.stage) vs o tt
            (each_set (λ (j : ℕ) (u : View E). Stands r.owner r.served r.drawn r.away j u.stage)
            s.views id w (r.stands id v at) (λ j u _ at'. r.stands j u at'));
        home = r.home;
        out = λ j e. let x = r.out j e in
            let h = same_holder s.views id v w at (λ b. b) j x.3 in
            (x.0, x.1, x.2, (h.0, at_longer vs (o ∷ []) j h.0 h.1, h.2));
        given = omega arith;
        fresh = λ n l. r.fresh n (omega arith);
        named = λ k e h. let x = r.named k e h in omega arith;
        knows = each_end (λ (j : ℕ) (u : View E). is_live u.stage ≡ true
            → Knows (author label) seats label r.journal r.over (r.room - 1) r.roomer j u) vs o
            (λ _. newcomer (author label) seats label r.journal r.over r.room r.roomer (r.room - 1)
            r.roomer id (length vs) v knows (r.fresh (length vs) (omega arith)) (omega arith)
            (λ k e h same. let x = r.named k e h in omega arith))
            (each_set (λ (j : ℕ) (u : View E). is_live u.stage ≡ true
            → Knows (author label) seats label r.journal r.over (r.room - 1) r.roomer j u)
            s.views id w
            (λ _. reroomed (author label) seats label r.journal r.over r.room r.roomer (r.room - 1)
            r.roomer id (v.room - 1) v knows (λ _. (here, ap (λ (n : ℕ). n - 1) all_room)))
            (λ j u other at' l. let k = r.knows j u at' l in reroomed (author label) seats label
            r.journal r.over r.room r.roomer (r.room - 1) r.roomer j u.room u k
            (λ h. absurd (other ((k.has_room h).0 ∙ sym here)))));
      }

  merges : (s : St) (r : Rule s) (id : ℕ) (v : View E) (i : ℕ) (w : View E) (roomer' : ℕ) → v.stage ≡ Idle
      → w.stage ≡ Idle → get_elem? s.views id ≡ some v → i ≢ id → get_elem? s.views i ≡ some w
      → (0 < v.room + w.room → (id ≡ roomer') × (v.room + w.room ≡ r.room))
      → ((j : ℕ) → j ≢ id → j ≢ i → j ≡ r.roomer → j ≡ roomer')
      → Rule record { words = s.words; homes = s.homes; views = set (set s.views id (joined v w)) i spent }
  merges s r id v i w roomer' idle idle' at apart there rooms theirs =
      let b : View E = joined v w in
      let vs : List (View E) = set s.views id b in
      let there' : get_elem? vs i ≡ some w = elsewhere s.views id i b w apart there in
      let as_long : length (set vs i spent) ≡ length s.views = length-set vs i spent ∙ length-set s.views id b in
      let none_of_v : tickets v.stage ≡ 0 = ap tickets idle in
      let none_of_w : tickets w.stage ≡ 0 = ap tickets idle' in
      let in_range : i < length s.views = inside s.views i w there in
      record {
        journal = r.journal;
        served = r.served;
        drawn = r.drawn;
        away = r.away;
        owner = r.owner;
        over = put r.over i true;
        room = r.room;
        roomer = roomer';
        words_are = r.words_are;
        short = r.short;
        few = r.few;
        counted = let sum = sum-set (λ (u : View E). tickets u.stage) s.views id v b at in
            let sum' = sum-set (λ (u : View E). tickets u.stage) vs i w spent there' in
            let was = r.counted in omega arith;
        drawn_by =
            λ t from below. (other_ticket vs i w spent there' (r.owner t) t (λ one _. omega arith)
            (other_ticket s.views id v b at (r.owner t) t (λ one _. omega arith)
            (r.drawn_by t from below)).1).1;
        stands = each_set (λ (j : ℕ) (u : View E). Stands r.owner r.served r.drawn r.away j u.stage) vs i spent tt
            (λ j u _ at'. each_set
            (λ (j : ℕ) (u : View E). Stands r.owner r.served r.drawn r.away j u.stage)
            s.views id b (r.stands id v at) (λ j u _ at''. r.stands j u at'') j u at');
        home = r.home;
        out = λ j e. let x = r.out j e in
            let h = x.3 in
            let n = not_holder s.views id v at (λ y. subst HasBook idle y) j h in
            let n' = not_holder s.views i w there (λ y. subst HasBook idle' y) j h in
            (x.0, x.1, x.2, (h.0, elsewhere vs i j spent h.0 n' (elsewhere s.views id j b h.0 n h.1), h.2));
        given = ap (λ (n : ℕ). n + r.room) as_long ∙ r.given;
        fresh = λ n l. put_else r.over i true n (λ e. omega arith) ∙ r.fresh n (omega arith);
        named = λ k e h. let x = r.named k e h in omega arith;
        knows = each_set (λ (j : ℕ) (u : View E). is_live u.stage ≡ true
            → Knows (author label) seats label r.journal (put r.over i true) r.room roomer' j u)
            vs i spent (λ l. absurd (true≢false (sym l)))
            (λ j u other at' live. each_set (λ (j : ℕ) (u : View E). j ≢ i → is_live u.stage ≡ true
            → Knows (author label) seats label r.journal (put r.over i true) r.room roomer' j u)
            s.views id b
            (λ n l. own_join (author label) seats label r.journal r.over r.room r.roomer id i
            roomer' v w n (λ y. subst HasBook idle y) (r.knows id v at l)
            (r.knows i w there (ap is_live idle')) rooms)
            (λ j u n at'' n' l. let k = r.knows j u at'' l in others_join (author label) seats label
            r.journal r.over r.room r.roomer i roomer' j u n' k
            (λ h. theirs j n n' (k.has_room h).0))
            j u at' other live);
      }

  pub joins : (id : ℕ) (v : View E) (i : ℕ) (w : View E) → v.stage ≡ Idle → w.stage ≡ Idle
      → Joins Rule id v i w (joined v w) spent
  joins id v i w idle idle' s r at apart there' =
      let there : get_elem? s.views i ≡ some w = sym (set_else s.views id i (joined v w) apart) ∙ there' in
      let k = r.knows id v at (ap is_live idle) in
      let k' = r.knows i w there (ap is_live idle') in
      dite (ℕ_discrete w.room 0)
      (λ (none_there : w.room ≡ 0). merges s r id v i w r.roomer idle idle' at apart there
      (λ h. let x = k.has_room (omega arith) in
      let y = x.1 in (x.0, omega arith)) (λ j _ _ e. e))
      (λ (some_there : w.room ≢ 0).
      let x = k'.has_room (omega arith) in let y = x.1 in
      let none_here : v.room ≡ 0 =
      dite (ℕ_discrete v.room 0) (λ e. e)
      (λ n. absurd (apart (x.0 ∙ sym (k.has_room (omega arith)).0))) in
      merges s r id v i w id idle idle' at apart there (λ _. (refl, omega arith))
      (λ j _ n' e. absurd (n' (e ∙ sym x.0))))

  pub meets : (slots id : ℕ) (me : Me (Option B) (View E)) → is_live me.0.stage ≡ true
      → Allows Rule slots id me 2 (λ x. x) (met (step slots 2 0 0 none) me)
  meets slots id me live s r deep at fits =
      let v : View E = me.0 in
      let k = r.knows id v at live in
      let seats_is = k.seats_is in
      let given = r.given in
      let here = inside s.views id v at in (
        v,
        keeps,
        tt,
        unchanged history author label_of seats label s 2 id me at r,
        (
          refl,
          dite (ℕ_discrete v.room 0) (λ e. omega arith)
              (λ n. let all_room = (k.has_room (omega arith)).1 in omega arith),
          λ e. subst (λ (xs : List E). IsPrefix v.one xs × IsPrefix v.other xs) (sym e)
              (longer_begins v.one v.other r.journal k.one k.other),
        ),
      )

  -- in the end the book is at home, where every number that was given was joined into the last pass
  pub ends : (s : St) (id : ℕ) (v : View E) → Rule s → get_elem? s.views id ≡ some v → v.stage ≡ Idle → HasAll v
      → (b : B) × (s.homes ≡ some (Some b) ∷ []) × IsLast history author label_of v b
  ends s id v r at idle all =
      let k = r.knows id v at (ap is_live idle) in
      let given = r.given in
      let seats_is = k.seats_is in
      let below : length s.views ≤ v.seats - v.room =
      dite (ℕ_discrete v.room 0) (λ e. omega arith)
      (λ n. let all_room = (k.has_room (omega arith)).1 in omega arith) in
      let calls_at : (n : ℕ) (es : List E)
      → calls (author v.label) n es ≡ calls (author label) n es =
      λ n es. ap (λ (l : List ℤ). calls (author l) n es) k.label_is in
      let no_holder : (j : ℕ) → r.away ≡ with_pass j → ⊥ = λ j e.
      let h = (r.out j e).3 in
      let there = inside s.views j h.0 h.1 in
      ⊎_elim (λ (own : j ≡ v.number). not_holder s.views id v at (λ y. subst HasBook idle y) j h (own ∙ k.number_is))
      (λ (ended : (es : List E) × Keeps v j es).
      true≢false (sym (k.ended ended.1.0 j ended.0 ended.1.1).0
      ∙ (r.knows j h.0 h.1 (live_holder h.0.stage h.2)).not_over)) (all j (omega arith)) in
      let rests =
      r.home (⊎_elim (λ (e : r.away ≡ at_home). e) (λ (p : (j : ℕ) × (r.away ≡ with_pass j)).
      absurd (no_holder p.0 p.1)) (either_place r.away)) in (
        rests.0,
        rests.1,
        record {
          seen = subst (IsPrefix v.seen) (sym rests.2) k.seen;
          named = λ i e h.
              let x = r.named i e (ap (λ (l : List E). get_elem? l i) (sym rests.2) ∙ h) in
              let same = ap (λ (l : List ℤ). author l e) k.label_is in
              omega arith;
          mine = calls_at v.number (history rests.0) ∙ (ap (calls (author label) v.number) rests.2
              ∙ (ap (λ (n : ℕ). calls (author label) n r.journal) k.number_is ∙ k.calls_are));
          ended = λ n es kept. calls_at n (history rests.0) ∙ (ap (calls (author label) n) rests.2
              ∙ (k.ended kept.0 n es kept.1).1);
          label_is = rests.3 ∙ sym k.label_is;
        },
      )

  -- the same of the table at the end, whose slot has the value o
  pub ends_with : (id : ℕ) (v : View E) (words : List ℕ) (slots : List (Option B)) (o : Option B)
      → Final (Seen Rule id v) words slots → get_elem? slots 0 ≡ some o → v.stage ≡ Idle → HasAll v
      → (b : B) × (o ≡ Some b) × IsLast history author label_of v b
  ends_with id v words slots o final there idle all =
      let t = ends final.0 id v final.1.0 final.1.1 idle all in
      let at_home : get_elem? slots 0 ≡ some (Some t.0) =
      final.4 0 (Some t.0) (ap (λ (hs : List (maybe.Option (Option B))). get_elem? hs 0) t.1) in
      (t.0, some-injective o (Some t.0) (sym there ∙ at_home), t.2)
