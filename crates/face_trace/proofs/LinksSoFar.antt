-- The links as they are written, spoke after spoke. An entry that is written again is still that of some
-- spoke's twin, so what was written before needs no care.
use Rattle.std.proofs.Common.{◌≡◌, ◌≢◌, refl, sym, ap, subst, ◌∙◌, ℕ, ◌+◌, ◌-◌, ◌<◌, arith, ◌⊎◌, inl, inr, ⊎_elim}
use Rattle.std.proofs.Common.{List, length, get_or, set}
use Rattle.std.proofs.lemmas.List.{get_or-set_same, get_or-set_other, get_or_default, length-set}
use Rattle.face_trace.specs.declared.spokes.Spoke.{Spoke}
use Rattle.face_trace.specs.HalfEdge.{twin_number}
use Rattle.face_trace.specs.Spokes.{IsLast, IsRun, Follows, IsEntry}

-- the entries of the twins of the first i spokes are written
pub record LinkedSoFar (ss : List Spoke) (nexts : List ℕ) (first i : ℕ) : Type 0 where
  pub count : length nexts ≡ length ss
  pub run : IsRun ss first i
  pub linked : (p : ℕ) → p < i → (d : Spoke) → IsEntry ss nexts (twin_number (get_or ss p d).number)

same_or_not : (m n : ℕ) → (m ≡ n) ⊎ (m ≢ n)
same_or_not m n = grind arith

-- an entry is still one when another is written
kept : (ss : List Spoke) (nexts : List ℕ) (k j v : ℕ) → IsEntry ss nexts k → IsEntry ss (set nexts j v) j
    → IsEntry ss (set nexts j v) k
kept ss nexts k j v e written =
    ⊎_elim (λ (s : j ≡ k). subst (IsEntry ss (set nexts j v)) s written)
    (λ (n : j ≢ k).
    record {
      p = e.p;
      q = e.q;
      follows = e.follows;
      twin = e.twin;
      leads = λ d. get_or-set_other nexts j k v 0 (λ s. n (sym s)) ∙ e.leads d;
    })
    (same_or_not j k)

-- the entry of the twin of spoke i, which q follows
pub linked_more : (ss : List Spoke) (nexts : List ℕ) (f first i q : ℕ) → i < length ss
    → LinkedSoFar ss nexts f i → IsRun ss first (i + 1) → Follows ss i q
    → (s t : Spoke) → s ≡ get_or ss i s → t ≡ get_or ss q t → twin_number s.number < length ss
    → LinkedSoFar ss (set nexts (twin_number s.number) t.number) first (i + 1)
linked_more ss nexts f first i q l so run follows s t is_s is_t fits =
    record {
      count = length-set nexts (twin_number s.number) t.number ∙ so.count;
      run = run;
      linked = λ p m d. ⊎_elim
          (λ (n : p < i). kept ss nexts (twin_number (get_or ss p d).number) (twin_number s.number) t.number (so.linked p n d) written)
          (λ (n : i ≡ p). subst (IsEntry ss (set nexts (twin_number s.number) t.number))
          (ap (λ (u : Spoke). twin_number u.number) (here d) ∙ ap (λ j. twin_number (get_or ss j d).number) n) written)
          (split p m);
    }
  where
    split : (p : ℕ) → p < i + 1 → (p < i) ⊎ (i ≡ p)
    split p m = grind arith

    here : (d : Spoke) → s ≡ get_or ss i d
    here d = is_s ∙ get_or_default ss i s d l

    there : (d : Spoke) → t ≡ get_or ss q d
    there d = is_t ∙ get_or_default ss q t d follows.second_within

    written : IsEntry ss (set nexts (twin_number s.number) t.number) (twin_number s.number)
    written =
        record {
          p = i;
          q = q;
          follows = follows;
          twin = λ d. ap (λ (u : Spoke). twin_number u.number) (sym (here d));
          leads = λ d. get_or-set_same nexts (twin_number s.number) t.number 0 (omega (arith, fits, so.count))
              ∙ ap (λ (u : Spoke). u.number) (there d);
        }
