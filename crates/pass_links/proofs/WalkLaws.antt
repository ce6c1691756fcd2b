-- One step on the way along a segment's list or across a pixel's: the node that is passed comes first
-- among the values, and what is left is a whole way again.
use Rattle.std.proofs.Common.{◌≡◌, ◌≢◌, ℕ, ◌<◌, Bool, refl, ap, sym, ◌∙◌, subst, arith, List, [], ◌∷◌, length, Option, None, Some, ◌⊎◌, inl, inr}
use Rattle.std.specs.Prelude.{IsSome, IfSome}
use Rattle.std.specs.Bool.{Decides}
use Rattle.std.proofs.lemmas.Bool.{cases_eq}
use Rattle.grid_core.specs.declared.point.Point.{Point}
use Rattle.grid_core.specs.Name.{Label}
use Rattle.pass_links.specs.declared.node.Node.{Node}
use Rattle.pass_links.specs.Chain.{end, way, IsWay, IsFamily, listed, IsPlace}
use Rattle.pass_links.specs.Node.{along_of, across_of, name_of, pixel_of, node_at, along_at, across_at, name_at, pixel_at}
use Rattle.pass_links.specs.Lists.{pixels_from, names_from, IsEndFree}
use Rattle.pass_links.proofs.ChainLaws.{way_end, way_next}
use Rattle.pass_links.proofs.FamilyLaws.{first_stored, next_stored}
use Rattle.pass_links.proofs.ListedLaws.{listed_first}

-- a step of a walk
pub record Steps {V : Type 0} (f : ℕ → ℕ) (values : ℕ → List V) (at next : ℕ) (a : V) : Type 0 where
  pub first : values at ≡ a ∷ values next
  pub whole : IsWay f next (way f end next)
  pub shorter : length (way f end next) < length (way f end at)

step : {V : Type 0} (f : ℕ → ℕ) (v : ℕ → Option V) (at next : ℕ) (a : V) → IsWay f at (way f end at) → at ≢ end → v at ≡ Some a → f at ≡ next
    → Steps f (λ k. listed v (way f end k)) at next a
step f v at next a whole apart e next_is =
    subst (λ k. Steps f (λ j. listed v (way f end j)) at k a) next_is
    (let n = way_next f end at whole apart in
    record {
      first = ap (listed v) n.0 ∙ listed_first v at a (way f end (f at)) e;
      whole = n.2;
      shorter = subst (λ ks. length (way f end (f at)) < length ks) (sym n.0) (omega arith);
    })

alone : {V : Type 0} (v : ℕ → Option V) (at : ℕ) (ks : List ℕ) → v at ≡ None → ks ≡ [] → listed v (at ∷ ks) ≡ []
alone v at ks e none = rw (none, e) refl

stays : {V : Type 0} (f : ℕ → ℕ) (v : ℕ → Option V) (at : ℕ) → IsWay f at (way f end at) → v at ≡ None → f at ≡ end → listed v (way f end at) ≡ []
stays f v at whole e last = elim (cases_eq at end) [
  | inl same ↦ ap (λ k. listed v (way f end k)) same ∙ ap (listed v) (way_end f end)
  | inr apart ↦
      let n = way_next f end at whole apart in
      ap (listed v) n.0 ∙ alone v at (way f end (f at)) e (ap (way f end) last ∙ way_end f end)
]

module _ (slots : List (Option Node)) where
  pub not_end : IsEndFree slots → (at : ℕ) (node : Node) → node_at slots at ≡ Some node → at ≢ end
  not_end free at node e same = cc (ap (node_at slots) same)

  -- past a node on the way along a segment's list
  pub along_step : IsEndFree slots → (at : ℕ) (node : Node) → node_at slots at ≡ Some node → IsWay (along_at slots) at (way (along_at slots) end at)
      → Steps (along_at slots) (pixels_from slots) at node.next_of_segment node.pixel
  along_step free at node e whole =
      step (along_at slots) (pixel_at slots) at node.next_of_segment node.pixel whole (not_end free at node e) (ap pixel_of e) (ap along_of e)

  -- where no node is, the segment's list ends
  pub along_done : (at : ℕ) → node_at slots at ≡ None → IsWay (along_at slots) at (way (along_at slots) end at) → pixels_from slots at ≡ []
  along_done at e whole = stays (along_at slots) (pixel_at slots) at whole (ap pixel_of e) (ap along_of e)

  -- past a node on the way across a pixel's list
  pub across_step : IsEndFree slots → (at : ℕ) (node : Node) → node_at slots at ≡ Some node → IsWay (across_at slots) at (way (across_at slots) end at)
      → Steps (across_at slots) (names_from slots) at node.next_of_pixel node.name
  across_step free at node e whole =
      step (across_at slots) (name_at slots) at node.next_of_pixel node.name whole (not_end free at node e) (ap name_of e) (ap across_of e)

  -- where no node is, the pixel's list ends
  pub across_done : (at : ℕ) → node_at slots at ≡ None → IsWay (across_at slots) at (way (across_at slots) end at) → names_from slots at ≡ []
  across_done at e whole = stays (across_at slots) (name_at slots) at whole (ap name_of e) (ap across_of e)

  -- where a name is, there is a node
  pub has_node : (k : ℕ) (name : Label) → name_at slots k ≡ Some name → IsSome (node_at slots k)
  has_node k name e = named (node_at slots k) e
    where
      named : (o : Option Node) → name_of o ≡ Some name → IsSome o
      named None h = cc
      named (Some node) h = refl

  -- where a pixel is, there is a node
  pub has_node_at : (k : ℕ) (pixel : Point) → pixel_at slots k ≡ Some pixel → IsSome (node_at slots k)
  has_node_at k pixel e = placed (node_at slots k) e
    where
      placed : (o : Option Node) → pixel_of o ≡ Some pixel → IsSome o
      placed None h = cc
      placed (Some node) h = refl

  -- the node before a place in a segment's list
  pub before_named : (f : ℕ → ℕ) (first : Label → ℕ) (label : ℕ → Option Label) (name : Label) (before : Option ℕ) (at : ℕ) → IsPlace f first label name before at
      → ((p : ℕ) → before ≡ Some p → name_at slots p ≡ label p) → IfSome before (λ key. IsSome (node_at slots key))
  before_named f first label name None at place kept = tt
  before_named f first label name (Some p) at place kept = has_node p name (kept p refl ∙ place.0)

  -- the node before a place in a pixel's list
  pub before_placed : (f : ℕ → ℕ) (first : Point → ℕ) (label : ℕ → Option Point) (pixel : Point) (before : Option ℕ) (at : ℕ) → IsPlace f first label pixel before at
      → ((p : ℕ) → before ≡ Some p → pixel_at slots p ≡ label p) → IfSome before (λ key. IsSome (node_at slots key))
  before_placed f first label pixel None at place kept = tt
  before_placed f first label pixel (Some p) at place kept = has_node_at p pixel (kept p refl ∙ place.0)

-- ---- a place in a list of a family

module _ {K : Type 0} (same : K → K → Bool) (decides : (a b : K) → Decides (same a b) (a ≡ b)) where
  pub ended : (o p : ℕ) {A : Type 0} → o ≡ p → o ≢ end → (p ≡ end) ⊎ A → A
  ended o p e apart (inl h) = absurd (apart (e ∙ h))
  ended o p e apart (inr a) = a

  -- the key at a place, if it isn't the end, is one of the list's
  pub place_stored : {f : ℕ → ℕ} {first : K → ℕ} {label : ℕ → Option K} (q : K) (before : Option ℕ) (at : ℕ) → IsFamily same f first label end
      → IsPlace f first label q before at → at ≢ end → label at ≡ Some q
  place_stored {first = first} {label = label} q None at h e apart =
      subst (λ k. label k ≡ Some q) e (ended (first q) (first q) refl (λ g. apart (sym e ∙ g)) (first_stored same decides q h))
  place_stored {f = f} {label = label} q (Some p) at h e apart =
      subst (λ k. label k ≡ Some q) e.1 (ended (f p) (f p) refl (λ g. apart (sym e.1 ∙ g)) (next_stored same decides q p h e.0))
