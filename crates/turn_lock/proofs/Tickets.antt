-- The steps that change no history keep the rule: to draw a ticket, to look whether it is served, to pass the turn on.
-- In each one view goes to another stage, and the book stays where it is; `restages` rebuilds the
-- rule from the facts on tickets.
use Rattle.std.proofs.Common.{◌≡◌, ◌≢◌, ℕ, ◌+◌, ◌%◌, ◌^◌, ◌<◌, ◌≤◌, Bool, true, List, [], ◌∷◌, ℤ}
use Rattle.std.proofs.Common.{length, get_or, set, sym, refl, ap, ◌∙◌, subst, ⊎_elim, inl, inr, ◌⊎◌}
use Rattle.std.proofs.Common.{arith, Option, length-set}
use mathlib.Core.Logic.{dite}
use mathlib.Core.Option.{none, some}
use native.Mathlib.Decide.{ℕ_discrete}
use lib.ListN.{get_elem?}
use lib.Seq.{set-get_or}
use Rattle.atomic_table.specs.Table.{State, Me, step, keeps, stepped, Allows}
use Rattle.atomic_table.proofs.Lists.{set_here, set_again, one_turn}
use Rattle.turn_lock.specs.declared.stage.Stage.{Stage}
use Rattle.turn_lock.specs.declared.stage.Stage.TheVariants.{Idle, Waits, Served, Has, Marked, Home, Ended}
use Rattle.turn_lock.specs.declared.view.View.{View}
use Rattle.turn_lock.specs.Stage.{Whereabouts, at_home, with_pass, is_live, tickets, ticket_of, HasBook, Stands}
use Rattle.turn_lock.specs.View.{at_stage, with_journal}
use Rattle.turn_lock.specs.Rule.{HasTicket, IsHolder, Knows, Kept}
use Rattle.turn_lock.specs.Plays.{drew, looked, passed_on}
use Rattle.turn_lock.proofs.Views.{put, put_here, put_else, inside, same_place, elsewhere, each_set, sum-set, sum-bound}

pub either_place : (a : Whereabouts) → (a ≡ at_home) ⊎ ((j : ℕ) × (a ≡ with_pass j))
either_place at_home = inl refl
either_place (with_pass j) = inr (j, refl)

pub not_both : (a : Whereabouts) (j : ℕ) → a ≡ at_home → a ≡ with_pass j → ⊥
not_both a j p q = cc

-- a word that is raised by 1, modulo 2^64
wraps : (n : ℕ) → (n % 2 ^ 64 + 1) % 2 ^ 64 ≡ (n + 1) % 2 ^ 64
wraps n = omega arith

pub one_ticket : (st : Stage) → tickets st ≤ 1
one_ticket Idle = omega arith
one_ticket (Waits t) = omega arith
one_ticket (Served t) = omega arith
one_ticket (Has t) = omega arith
one_ticket (Marked t) = omega arith
one_ticket (Home t) = omega arith
one_ticket Ended = omega arith

-- what stands of the stage of another pass, over a draw and over a turn that is passed on
module _ (owner : ℕ → ℕ) (served drawn : ℕ) (away : Whereabouts) (j id : ℕ) where
  others_draw : (st : Stage) → Stands owner served drawn away j st
      → Stands (put owner drawn id) served (drawn + 1) away j st
  others_draw Idle k = tt
  others_draw (Waits t) k = let below = k.1 in (k.0, omega arith, put_else owner drawn id t (λ e. omega arith) ∙ k.2)
  others_draw (Served t) k =
      let below = k.1 in (k.0, omega arith, put_else owner drawn id t (λ e. omega arith) ∙ k.2, k.3)
  others_draw (Has t) k = let below = k.1 in (k.0, omega arith, put_else owner drawn id t (λ e. omega arith) ∙ k.2, k.3)
  others_draw (Marked t) k =
      let below = k.1 in (k.0, omega arith, put_else owner drawn id t (λ e. omega arith) ∙ k.2, k.3)
  others_draw (Home t) k =
      let below = k.1 in (k.0, omega arith, put_else owner drawn id t (λ e. omega arith) ∙ k.2, k.3)
  others_draw Ended k = tt

  -- a ticket of another pass is not the one that is served
  pub not_served : j ≢ id → owner served ≡ id → (t : ℕ) → owner t ≡ j → t ≢ served
  not_served other mine t is e = other (sym is ∙ (ap owner e ∙ mine))

  others_pass : j ≢ id → owner served ≡ id → (st : Stage) → Stands owner served drawn away j st
      → Stands owner (served + 1) drawn away j st
  others_pass other mine Idle k = tt
  others_pass other mine (Waits t) k =
      let apart = not_served other mine t k.2 in let from = k.0 in (omega arith, k.1, k.2)
  others_pass other mine (Served t) k = absurd (not_served other mine t k.2 k.0)
  others_pass other mine (Has t) k = absurd (not_served other mine t k.2 k.0)
  others_pass other mine (Marked t) k = absurd (not_served other mine t k.2 k.0)
  others_pass other mine (Home t) k = absurd (not_served other mine t k.2 k.0)
  others_pass other mine Ended k = tt

module _ {E : Type 0} where
  -- what a pass knows does not depend on its stage, but for the journal that it has with the book
  pub restaged : (author : E → ℕ) (seats : ℕ) (label : List ℤ) (journal : List E) (over : ℕ → Bool)
      (room roomer j : ℕ) (v : View E) (st : Stage) (es : List E)
      → Knows author seats label journal over room roomer j v
      → (HasBook st → es ≡ journal) → Knows author seats label journal over room roomer j (with_journal st es v)
  restaged author seats label journal over room roomer j v st es k h = record {
    not_over = k.not_over;
    number_is = k.number_is;
    seats_is = k.seats_is;
    label_is = k.label_is;
    seen = k.seen;
    calls_are = k.calls_are;
    calls_seen = k.calls_seen;
    has_room = k.has_room;
    one = k.one;
    other = k.other;
    ended = k.ended;
    journal_is = h;
  }

  -- a pass that keeps its ticket, and the tickets of the others
  pub same_tickets : (vs : List (View E)) (id : ℕ) (v w : View E) → get_elem? vs id ≡ some v
      → tickets w.stage ≡ tickets v.stage → ticket_of w.stage ≡ ticket_of v.stage → (j t : ℕ) → HasTicket vs j t
      → HasTicket (set vs id w) j t
  same_tickets vs id v w at as_many same j t has =
      dite (ℕ_discrete j id)
      (λ (e : j ≡ id). let u_is : has.0 ≡ v = same_place vs j id has.0 v e has.1 at in (
        w,
        ap (λ (i : ℕ). get_elem? (set vs id w) i) e ∙ set_here vs id w (inside vs id v at),
        as_many ∙ (ap (λ (x : View E). tickets x.stage) (sym u_is) ∙ has.2),
        same ∙ (ap (λ (x : View E). ticket_of x.stage) (sym u_is) ∙ has.3),
      ))
      (λ (n : j ≢ id). (has.0, elsewhere vs id j w has.0 n has.1, has.2, has.3))

  -- the ticket t of pass j, where pass id has another ticket or none
  pub other_ticket : (vs : List (View E)) (id : ℕ) (v w : View E) → get_elem? vs id ≡ some v → (j t : ℕ)
      → (tickets v.stage ≡ 1 → ticket_of v.stage ≡ t → ⊥) → HasTicket vs j t
      → (j ≢ id) × HasTicket (set vs id w) j t
  other_ticket vs id v w at j t apart has =
      let n : j ≢ id =
      λ (e : j ≡ id). let u_is : has.0 ≡ v = same_place vs j id has.0 v e has.1 at in
      apart (ap (λ (x : View E). tickets x.stage) (sym u_is) ∙ has.2)
      (ap (λ (x : View E). ticket_of x.stage) (sym u_is) ∙ has.3) in
      (n, (has.0, elsewhere vs id j w has.0 n has.1, has.2, has.3))

  pub not_holder : (vs : List (View E)) (id : ℕ) (v : View E) → get_elem? vs id ≡ some v → ¬ HasBook v.stage → (j : ℕ)
      → IsHolder vs j → j ≢ id
  not_holder vs id v at empty j h e =
      empty (subst (λ (x : View E). HasBook x.stage) (same_place vs j id h.0 v e h.1 at) h.2)

module _ {B E : Type 0} (history : B → List E) (author : List ℤ → E → ℕ) (label_of : B → List ℤ)
    (seats : ℕ) (label : List ℤ) where
  abbrev pub St : Type 0
  St = State (Option B) (View E)

  abbrev pub Rule : St → Type 0
  Rule = Kept history (author label) label_of seats label

  -- a load that changes no view changes nothing
  pub unchanged : (s : St) (i id : ℕ) (me : Me (Option B) (View E)) → get_elem? s.views id ≡ some me.0 → Rule s
      → Rule (stepped s i (get_or s.words i 0) id me.1 me.0 keeps)
  unchanged s i id me at r =
      subst (λ (p : List ℕ × List (View E)). Rule record {
        words = p.0;
        homes = s.homes;
        views = p.1;
      }) (λ k. (sym (set-get_or s.words i 0) k, sym (set_again s.views id me.0 at) k)) r

  -- the view at id goes to another stage, in which it has no book, as before
  restages : (s : St) (r : Rule s) (id : ℕ) (v : View E) (st : Stage) (served' drawn' : ℕ)
      (owner' : ℕ → ℕ) (words' : List ℕ)
      → get_elem? s.views id ≡ some v → is_live v.stage ≡ true → ¬ HasBook v.stage → ¬ HasBook st
      → words' ≡ (drawn' % 2 ^ 64) ∷ (served' % 2 ^ 64) ∷ length r.journal ∷ []
      → served' + r.drawn + tickets st ≡ drawn' + r.served + tickets v.stage
      → ((t : ℕ) → served' ≤ t → t < drawn' → HasTicket (set s.views id (at_stage st v)) (owner' t) t)
      → Stands owner' served' drawn' r.away id st
      → ((j : ℕ) (u : View E) → j ≢ id → get_elem? s.views j ≡ some u → Stands owner' served' drawn' r.away j u.stage)
      → ((j : ℕ) → r.away ≡ with_pass j → (j ≡ owner' served') × (served' < drawn'))
      → Rule record { words = words'; homes = s.homes; views = set s.views id (at_stage st v) }
  restages s r id v st served' drawn' owner' words' at live empty empty' words tally tickets_are here others holder =
      let w : View E = at_stage st v in
      let vs : List (View E) = set s.views id w in
      let as_long : length vs ≡ length s.views = length-set s.views id w in
      record {
        journal = r.journal;
        served = served';
        drawn = drawn';
        away = r.away;
        owner = owner';
        over = r.over;
        room = r.room;
        roomer = r.roomer;
        words_are = words;
        short = r.short;
        few = r.few;
        counted = let sum = sum-set (λ (u : View E). tickets u.stage) s.views id v w at in
            let was = r.counted in omega arith;
        drawn_by = tickets_are;
        stands = each_set (λ (j : ℕ) (u : View E). Stands owner' served' drawn' r.away j u.stage)
            s.views id w here others;
        home = r.home;
        out = λ j e. let o = r.out j e in
            let h = o.3 in
            let p = holder j e in
            (o.0, p.0, p.1, (h.0, elsewhere s.views id j w h.0 (not_holder s.views id v at empty j h) h.1, h.2));
        given = ap (λ (n : ℕ). n + r.room) as_long ∙ r.given;
        fresh = λ n l. r.fresh n (omega arith);
        named = λ k e h. let x = r.named k e h in omega arith;
        knows = each_set (λ (j : ℕ) (u : View E). is_live u.stage ≡ true
            → Knows (author label) seats label r.journal r.over r.room r.roomer j u) s.views id w
            (λ _. restaged (author label) seats label r.journal r.over r.room r.roomer id v st
            v.journal (r.knows id v at live) (λ b. absurd (empty' b)))
            (λ j u _ p. r.knows j u p);
      }

  pub draws : (slots id : ℕ) (me : Me (Option B) (View E)) → me.0.stage ≡ Idle
      → Allows Rule slots id me 0 (λ x. (x + 1) % 2 ^ 64) (drew (step slots 0 1 0 none) me)
  draws slots id me is s r deep at fits =
      let v : View E = me.0 in
      let t : ℕ = r.drawn in
      let st : Stage = Waits t in
      let none_yet : tickets v.stage ≡ 0 = ap tickets is in
      let bounded : r.served ≤ t = let c = r.counted in omega arith in (
        at_stage st v,
        keeps,
        tt,
        restages s r id v st r.served (t + 1) (put r.owner t id)
            (set s.words 0 ((get_or s.words 0 0 + 1) % 2 ^ 64)) at (ap is_live is)
            (λ b. subst HasBook is b) (λ b. b)
            (ap (λ (ws : List ℕ). set ws 0 ((get_or ws 0 0 + 1) % 2 ^ 64)) r.words_are
            ∙ (λ i. wraps t i ∷ (r.served % 2 ^ 64) ∷ length r.journal ∷ []))
            (omega arith)
            (λ t' from below. dite (ℕ_discrete t' t)
            (λ (e : t' ≡ t). (
              at_stage st v,
              ap (get_elem? (set s.views id (at_stage st v)))
                  (ap (put r.owner t id) e ∙ put_here r.owner t id)
                  ∙ set_here s.views id (at_stage st v) (inside s.views id v at),
              refl,
              sym e,
            ))
            (λ (n : t' ≢ t). let has = r.drawn_by t' from (omega arith) in
            subst (λ (j : ℕ). HasTicket (set s.views id (at_stage st v)) j t')
            (sym (put_else r.owner t id t' n)) (other_ticket s.views id v (at_stage st v) at
            (r.owner t') t' (λ one _. omega arith) has).1))
            (bounded, omega arith, put_here r.owner t id)
            (λ j u other at'. others_draw r.owner r.served t r.away j id u.stage (r.stands j u at'))
            (λ j e. let o = r.out j e in let less = o.2 in
            (o.1 ∙ sym (put_else r.owner t id r.served (λ same. omega arith)), omega arith)),
        (t, ap (λ (ws : List ℕ). get_or ws 0 0) r.words_are, refl),
      )

  -- fewer tickets are unspent than one turn of the words
  in_flight : (s : St) (r : Rule s) → r.drawn < r.served + 2 ^ 64
  in_flight s r = let all = r.counted in
      let bound = sum-bound (λ (u : View E). tickets u.stage) (λ u. one_ticket u.stage) s.views in
      let given = r.given in
      let few = r.few in omega arith

  -- the book is at home where the pass whose ticket is served has not taken it
  pub still_home : (s : St) (r : Rule s) (id : ℕ) (v : View E) → get_elem? s.views id ≡ some v → ¬ HasBook v.stage
      → r.owner r.served ≡ id → r.away ≡ at_home
  still_home s r id v at empty mine =
      ⊎_elim (λ (e : r.away ≡ at_home). e) (λ (p : (j : ℕ) × (r.away ≡ with_pass j)).
      let o = r.out p.0 p.1 in
      absurd (not_holder s.views id v at empty p.0 o.3 (o.1 ∙ mine))) (either_place r.away)

  pub looks : (slots id : ℕ) (me : Me (Option B) (View E)) (t : ℕ) → me.0.stage ≡ Waits t
      → Allows Rule slots id me 1 (λ x. x) (looked (step slots 1 0 0 none) me)
  looks slots id me t is s r deep at fits =
      let v : View E = me.0 in
      let st : Stage = Served t in
      let k : Stands r.owner r.served r.drawn r.away id (Waits t) =
      subst (Stands r.owner r.served r.drawn r.away id) is (r.stands id v at) in
      let found : get_or s.words 1 0 ≡ r.served % 2 ^ 64 = ap (λ (ws : List ℕ). get_or ws 1 0) r.words_are in
      let same : (t' : ℕ) → v.stage ≡ Waits t' → t ≡ t' = λ t' is'. ap ticket_of (sym is ∙ is') in
      dite (ℕ_discrete (get_or s.words 1 0) (t % 2 ^ 64))
      (λ (hit : get_or s.words 1 0 ≡ t % 2 ^ 64).
      let less = in_flight s r in let from = k.0 in let below = k.1 in
      let turn : r.served ≡ t = one_turn r.served t (2 ^ 64) from (omega arith) (sym found ∙ hit) in (
        at_stage st v,
        keeps,
        tt,
        restages s r id v st r.served r.drawn r.owner (set s.words 1 (get_or s.words 1 0)) at
            (ap is_live is) (λ b. subst HasBook is b) (λ b. b)
            (set-get_or s.words 1 0 ∙ r.words_are)
            (let one : tickets v.stage ≡ 1 = ap tickets is in omega arith)
            (λ t' from' below'. same_tickets s.views id v (at_stage st v) at (sym (ap tickets is))
            (sym (ap ticket_of is)) (r.owner t') t' (r.drawn_by t' from' below'))
            (sym turn, below, k.2, still_home s r id v at (λ b. subst HasBook is b) (ap r.owner turn ∙ k.2))
            (λ j u other at'. r.stands j u at')
            (λ j e. let o = r.out j e in (o.1, o.2)),
        λ t' is'. (
          (λ _. ap (λ (x : ℕ). (at_stage (Served x) v, me.1)) (same t' is')),
          λ miss. absurd (miss (hit ∙ ap (λ (x : ℕ). x % 2 ^ 64) (same t' is'))),
        ),
      ))
      (λ (miss : get_or s.words 1 0 ≢ t % 2 ^ 64). (
        v,
        keeps,
        tt,
        unchanged s 1 id me at r,
        λ t' is'. ((λ hit. absurd (miss (hit ∙ ap (λ (x : ℕ). x % 2 ^ 64) (sym (same t' is'))))), λ _. refl),
      ))

  pub passes_on : (slots id : ℕ) (me : Me (Option B) (View E)) (t : ℕ) → me.0.stage ≡ Home t
      → Allows Rule slots id me 1 (λ x. (x + 1) % 2 ^ 64) (passed_on (step slots 1 1 0 none) me)
  passes_on slots id me t is s r deep at fits =
      let v : View E = me.0 in
      let k : Stands r.owner r.served r.drawn r.away id (Home t) =
      subst (Stands r.owner r.served r.drawn r.away id) is (r.stands id v at) in
      let now = k.0 in let below = k.1 in
      let ticket_is : ticket_of v.stage ≡ t = ap ticket_of is in
      let one : tickets v.stage ≡ 1 = ap tickets is in
      let mine : r.owner r.served ≡ id = ap r.owner (sym now) ∙ k.2 in (
        at_stage Idle v,
        keeps,
        tt,
        restages s r id v Idle (r.served + 1) r.drawn r.owner
            (set s.words 1 ((get_or s.words 1 0 + 1) % 2 ^ 64)) at (ap is_live is)
            (λ b. subst HasBook is b) (λ b. b)
            (ap (λ (ws : List ℕ). set ws 1 ((get_or ws 1 0 + 1) % 2 ^ 64)) r.words_are
            ∙ (λ i. (r.drawn % 2 ^ 64) ∷ wraps r.served i ∷ length r.journal ∷ []))
            (omega arith)
            (λ t' from below'. (other_ticket s.views id v (at_stage Idle v) at (r.owner t') t'
            (λ _ e. omega arith) (r.drawn_by t' (omega arith) below')).1)
            tt
            (λ j u other at'. others_pass r.owner r.served r.drawn r.away j id other mine u.stage (r.stands j u at'))
            (λ j e. absurd (not_both r.away j k.3 e)),
        refl,
      )
