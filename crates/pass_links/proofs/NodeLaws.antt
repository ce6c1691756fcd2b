-- What the nodes are after one slot was written and then the links before and behind it were set.
use Rattle.std.proofs.Common.{◌≡◌, ◌≢◌, ℕ, cond, refl, ap, subst, ◌∙◌, Bool, true, false, List, Option, None}
use Rattle.std.specs.Prelude.{◌==◌}
use Rattle.grid_core.specs.declared.point.Point.{Point}
use Rattle.grid_core.specs.Vector.{point_eq}
use Rattle.grid_core.specs.Name.{Label, label_eq}
use Rattle.pass_links.specs.declared.node.Node.{Node}
use Rattle.pass_links.specs.Chain.{end, key_of}
use Rattle.pass_links.specs.Node.{along_of, across_of, back_along_of, back_across_of, name_of, pixel_of, along_at, across_at, back_along_at, back_across_at, name_at, pixel_at, SetsBackAlong, SetsBackAcross}
use Rattle.pass_links.specs.Nodes.{Changes}
use Rattle.pass_links.specs.Links.{is_key, PointsAlong, PointsAcross, TakesAlong, TakesAcross}
use Rattle.pass_links.proofs.PlaceLaws.{IsPointed}
use Rattle.pass_links.proofs.BackLaws.{IsPointedBack}

-- the slot at x was written, and the links to it or past it were set in both families
pub record Relinks (old new : List (Option Node)) (a a' : Label → ℕ) (b b' : Point → ℕ) (name : Label) (pixel : Point) (x : ℕ) (slot : Option Node)
    (before_a : Option ℕ) (next_a : ℕ) (before_b : Option ℕ) (next_b : ℕ) : Type 0 where
  pub along : IsPointed label_eq (along_at old) a (along_at new) a' x before_a name next_a
  pub across : IsPointed point_eq (across_at old) b (across_at new) b' x before_b pixel next_b
  pub names : (k : ℕ) → k ≢ x → name_at new k ≡ name_at old k
  pub pixels : (k : ℕ) → k ≢ x → pixel_at new k ≡ pixel_at old k
  pub name_there : name_at new x ≡ name_of slot
  pub pixel_there : pixel_at new x ≡ pixel_of slot

-- and so were the links back to it or past it
pub record RelinksBack (old new : List (Option Node)) (x at_a previous_a at_b previous_b : ℕ) : Type 0 where
  pub along : IsPointedBack (back_along_at old) (back_along_at new) x at_a previous_a
  pub across : IsPointedBack (back_across_at old) (back_across_at new) x at_b previous_b

-- ---- a node is put between its neighbours

-- the links of the node at x, where its slot was written and then the links before and behind it were set
pub record HasLinks (new : List (Option Node)) (x : ℕ) (slot : Option Node)
    (before_a : Option ℕ) (next_a at_a previous_a : ℕ) (before_b : Option ℕ) (next_b at_b previous_b : ℕ) : Type 0 where
  pub along : along_at new x ≡ cond (is_key before_a x) next_a (along_of slot)
  pub across : across_at new x ≡ cond (is_key before_b x) next_b (across_of slot)
  pub back_along : x ≢ end → back_along_at new x ≡ cond (x == at_a) previous_a (back_along_of slot)
  pub back_across : x ≢ end → back_across_at new x ≡ cond (x == at_b) previous_b (back_across_of slot)

module _ (old s₁ s₂ s₃ s₄ new : List (Option Node)) (a a' : Label → ℕ) (b b' : Point → ℕ) (name : Label) (pixel : Point) (x : ℕ) (slot : Option Node)
    (before_a : Option ℕ) (next_a at_a previous_a : ℕ) (before_b : Option ℕ) (next_b at_b previous_b : ℕ) (u : Changes old s₁ x slot)
    (p : PointsAlong s₁ s₂ a a' name before_a next_a) (v : SetsBackAlong s₂ s₃ at_a previous_a)
    (q : PointsAcross s₃ s₄ b b' pixel before_b next_b) (w : SetsBackAcross s₄ new at_b previous_b) where
  pub relinks : Relinks old new a a' b b' name pixel x slot before_a next_a before_b next_b
  relinks = record {
    along = record {
      links = λ k apart. w.along k ∙ q.along k ∙ v.along k ∙ p.along k ∙ ap (λ o. cond (is_key before_a k) next_a (along_of o)) (u.others k apart);
      starts = p.start;
    };
    across = record {
      links = λ k apart. w.across k ∙ q.across k ∙ ap (cond (is_key before_b k) next_b) (v.across k ∙ p.across k ∙ ap across_of (u.others k apart));
      starts = q.start;
    };
    names = λ k apart. w.names k ∙ q.names k ∙ v.names k ∙ p.names k ∙ ap name_of (u.others k apart);
    pixels = λ k apart. w.pixels k ∙ q.pixels k ∙ v.pixels k ∙ p.pixels k ∙ ap pixel_of (u.others k apart);
    name_there = w.names x ∙ q.names x ∙ v.names x ∙ p.names x ∙ ap name_of u.changed;
    pixel_there = w.pixels x ∙ q.pixels x ∙ v.pixels x ∙ p.pixels x ∙ ap pixel_of u.changed;
  }

  pub relinks_back : RelinksBack old new x at_a previous_a at_b previous_b
  relinks_back = record {
    along = λ k apart no_end.
        w.back_along k ∙ q.back_along k ∙ v.back_along k no_end ∙ ap (cond (k == at_a) previous_a) (p.back_along k ∙ ap back_along_of (u.others k apart));
    across = λ k apart no_end.
        w.back_across k no_end
        ∙ ap (cond (k == at_b) previous_b) (q.back_across k ∙ v.back_across k ∙ p.back_across k ∙ ap back_across_of (u.others k apart));
  }

  pub has_links : HasLinks new x slot before_a next_a at_a previous_a before_b next_b at_b previous_b
  has_links = record {
    along = w.along x ∙ q.along x ∙ v.along x ∙ p.along x ∙ ap (λ o. cond (is_key before_a x) next_a (along_of o)) u.changed;
    across = w.across x ∙ q.across x ∙ ap (cond (is_key before_b x) next_b) (v.across x ∙ p.across x ∙ ap across_of u.changed);
    back_along = λ no_end. w.back_along x ∙ q.back_along x ∙ v.back_along x no_end ∙ ap (cond (x == at_a) previous_a) (p.back_along x ∙ ap back_along_of u.changed);
    back_across = λ no_end.
        w.back_across x no_end ∙ ap (cond (x == at_b) previous_b) (q.back_across x ∙ v.back_across x ∙ p.back_across x ∙ ap back_across_of u.changed);
  }

-- ---- a node is taken out of one list

module _ (old s₁ s₂ new : List (Option Node)) (key : ℕ) (node : Node) (u : Changes old s₁ key None) where
  pub takes_along : (a a' : Label → ℕ) (before : Option ℕ) → before ≡ key_of node.previous_of_segment
      → PointsAlong s₁ s₂ a a' node.name before node.next_of_segment → SetsBackAlong s₂ new node.next_of_segment node.previous_of_segment
      → TakesAlong old new a a' key node
  takes_along a a' before e pointed v =
      let p = subst (λ o. PointsAlong s₁ s₂ a a' node.name o node.next_of_segment) e pointed in
      record {
        along = λ k apart. v.along k ∙ p.along k ∙ ap (λ o. cond (is_key (key_of node.previous_of_segment) k) node.next_of_segment (along_of o)) (u.others k apart);
        back_along = λ k apart no_end.
            v.back_along k no_end ∙ ap (cond (k == node.next_of_segment) node.previous_of_segment) (p.back_along k ∙ ap back_along_of (u.others k apart));
        across = λ k apart. v.across k ∙ p.across k ∙ ap across_of (u.others k apart);
        back_across = λ k apart. v.back_across k ∙ p.back_across k ∙ ap back_across_of (u.others k apart);
        names = λ k apart. v.names k ∙ p.names k ∙ ap name_of (u.others k apart);
        pixels = λ k apart. v.pixels k ∙ p.pixels k ∙ ap pixel_of (u.others k apart);
        no_name = v.names key ∙ p.names key ∙ ap name_of u.changed;
        no_pixel = v.pixels key ∙ p.pixels key ∙ ap pixel_of u.changed;
        start = p.start;
      }

  pub takes_across : (b b' : Point → ℕ) (before : Option ℕ) → before ≡ key_of node.previous_of_pixel
      → PointsAcross s₁ s₂ b b' node.pixel before node.next_of_pixel → SetsBackAcross s₂ new node.next_of_pixel node.previous_of_pixel
      → TakesAcross old new b b' key node
  takes_across b b' before e pointed v =
      let p = subst (λ o. PointsAcross s₁ s₂ b b' node.pixel o node.next_of_pixel) e pointed in
      record {
        across = λ k apart. v.across k ∙ p.across k ∙ ap (λ o. cond (is_key (key_of node.previous_of_pixel) k) node.next_of_pixel (across_of o)) (u.others k apart);
        back_across = λ k apart no_end.
            v.back_across k no_end ∙ ap (cond (k == node.next_of_pixel) node.previous_of_pixel) (p.back_across k ∙ ap back_across_of (u.others k apart));
        along = λ k apart. v.along k ∙ p.along k ∙ ap along_of (u.others k apart);
        back_along = λ k apart. v.back_along k ∙ p.back_along k ∙ ap back_along_of (u.others k apart);
        names = λ k apart. v.names k ∙ p.names k ∙ ap name_of (u.others k apart);
        pixels = λ k apart. v.pixels k ∙ p.pixels k ∙ ap pixel_of (u.others k apart);
        no_name = v.names key ∙ p.names key ∙ ap name_of u.changed;
        no_pixel = v.pixels key ∙ p.pixels key ∙ ap pixel_of u.changed;
        start = p.start;
      }

-- ---- the first node of a list is taken out of the other list

-- the lists begin where they did, but that of q begins at `at`
abbrev pub restarted : {K : Type 0} → (K → K → Bool) → K → ℕ → (K → ℕ) → K → ℕ
restarted same q at first r = cond (same r q) at (first r)

restarts : {K : Type 0} (same : K → K → Bool) (q : K) (at next : ℕ) (first : K → ℕ) (r : K)
    → restarted same q next first r ≡ cond (same r q) next (restarted same q at first r)
restarts same q at next first r = by (same r q)
  where
    by : (b : Bool) → cond b next (first r) ≡ cond b next (cond b at (first r))
    by true = refl
    by false = refl

module _ (old new : List (Option Node)) (a : Label → ℕ) (b : Point → ℕ) (key : ℕ) (node : Node) where
  -- that of a pixel's list
  pub unlinks_along : (a' : Label → ℕ) → TakesAlong old new a a' key node → (pixel : Point)
      → Relinks old new a a' (restarted point_eq pixel key b) (restarted point_eq pixel node.next_of_pixel b) node.name pixel key None
      (key_of node.previous_of_segment) node.next_of_segment None node.next_of_pixel
  unlinks_along a' t pixel = record {
    along = record { links = t.along; starts = t.start };
    across = record { links = t.across; starts = restarts point_eq pixel key node.next_of_pixel b };
    names = t.names;
    pixels = t.pixels;
    name_there = t.no_name;
    pixel_there = t.no_pixel;
  }

  -- that of a segment's list
  pub unlinks_across : (b' : Point → ℕ) → TakesAcross old new b b' key node → (name : Label)
      → Relinks old new (restarted label_eq name key a) (restarted label_eq name node.next_of_segment a) b b' name node.pixel key None
      None node.next_of_segment (key_of node.previous_of_pixel) node.next_of_pixel
  unlinks_across b' t name = record {
    along = record { links = t.along; starts = restarts label_eq name key node.next_of_segment a };
    across = record { links = t.across; starts = t.start };
    names = t.names;
    pixels = t.pixels;
    name_there = t.no_name;
    pixel_there = t.no_pixel;
  }
