-- The lists stay filed when a node is linked into both its lists, and each node stands in its lists still
-- when one is unlinked from both. In each family the way of one list changes by one key, so its values
-- change by one value, and the laws of the two families of values say that they still agree.
use Rattle.std.proofs.Common.{◌≡◌, ◌≢◌, refl, ap, sym, ◌∙◌, subst, ℕ, ◌<◌, arith, Bool, true, false, not, cond, List, Option, None, Some, inl, inr}
use Rattle.std.specs.Prelude.{◌==◌, filter}
use Rattle.std.specs.Bool.{Decides}
use Rattle.grid_core.specs.declared.point.Point.{Point}
use Rattle.grid_core.specs.Vector.{point_eq}
use Rattle.grid_core.specs.Name.{Label, label_eq}
use Rattle.pass_links.specs.declared.node.Node.{Node}
use Rattle.pass_links.specs.Chain.{end, way, has_key, is_of, IsFamily, listed, IsPlace, key_of, LinksBack}
use Rattle.pass_links.specs.Node.{name_of, pixel_of, node_at, along_at, across_at, back_along_at, back_across_at, name_at, pixel_at}
use Rattle.pass_links.specs.Lists.{pixels_from, names_from}
use Rattle.pass_links.specs.Passes.{has_pixel, linked_behind, with_name, without_pixel, without_name, AreLinked}
use Rattle.pass_links.specs.Filing.{AreFiled, AreLonger}
use Rattle.pass_links.specs.Positions.{IsLesser, IsThrough}
use Rattle.pass_links.specs.Links.{is_key}
use Rattle.pass_links.proofs.FamilyLaws.{IsChanged}
use Rattle.pass_links.proofs.ListedLaws.{listed_without, rising_once}
use Rattle.pass_links.proofs.LinkedLaws.{linked_more, linked_less}
use Rattle.grid_core.proofs.Comparisons.{point_decides, label_decides}
use Rattle.pass_links.proofs.KeyLaws.{keys_differ}
use Rattle.pass_links.proofs.PlaceLaws.{put_key, labelled, place_put, place_taken, values_kept, before_in}
use Rattle.pass_links.proofs.ValueLaws.{IsGreaterOf, key_at, pixel_put, name_put}
use Rattle.pass_links.proofs.WalkLaws.{place_stored}
use Rattle.pass_links.proofs.BackLaws.{back_put}
use Rattle.pass_links.proofs.NodeLaws.{Relinks, RelinksBack, HasLinks}

module _ {K : Type 0} (same : K → K → Bool) (decides : (m n : K) → Decides (same m n) (m ≡ n)) where
  -- the key before a place is another than one without a label
  before_fresh : (f : ℕ → ℕ) (first : K → ℕ) (label : ℕ → Option K) (q : K) (before : Option ℕ) (at x : ℕ) → IsPlace f first label q before at → label x ≡ None
      → is_key before x ≡ false
  before_fresh f first label q None at x place fresh = refl
  before_fresh f first label q (Some p) at x place fresh = keys_differ x p (λ e. labelled same decides label q p x place.0 fresh (sym e))

  -- the key at a place is another than one without a label
  at_fresh : (f : ℕ → ℕ) (first : K → ℕ) (label : ℕ → Option K) (q : K) (before : Option ℕ) (at x : ℕ) → IsFamily same f first label end
      → IsPlace f first label q before at → x < end → label x ≡ None → x ≢ at
  at_fresh f first label q before at x h place low fresh e =
      labelled same decides label q at x (place_stored same decides q before at h place (λ t. omega (arith, t, e, low))) fresh (sym e)

  -- the key before a place is in the list
  before_listed : (f : ℕ → ℕ) (first : K → ℕ) (label : ℕ → Option K) (q : K) (before : Option ℕ) (at : ℕ) → IsFamily same f first label end
      → IsPlace f first label q before at → (p : ℕ) → before ≡ Some p → has_key (way f end (first q)) p ≡ true
  before_listed f first label q before at h place p e =
      before_in same decides f first label q p h (subst (λ b. IsPlace f first label q b at) e place).0

-- ---- a pass is linked

-- the node that is linked
abbrev pub new_node : Label → Point → ℕ → ℕ → ℕ → ℕ → Node
new_node name pixel at_a previous_a at_b previous_b = record {
  name = name;
  pixel = pixel;
  next_of_segment = at_a;
  previous_of_segment = previous_a;
  next_of_pixel = at_b;
  previous_of_pixel = previous_b;
}

-- what is linked has a free key and its places in both lists, and isn't linked yet
pub record IsNew (old : List (Option Node)) (a : Label → ℕ) (b : Point → ℕ) (name : Label) (pixel : Point) (after : Option Point) (x : ℕ)
    (before_a : Option ℕ) (at_a previous_a : ℕ) (before_b : Option ℕ) (at_b previous_b : ℕ) : Type 0 where
  pub low : x < end
  pub free : node_at old x ≡ None
  pub along : IsPlace (along_at old) a (name_at old) name before_a at_a
  pub across : IsPlace (across_at old) b (pixel_at old) pixel before_b at_b
  pub back_along : key_of previous_a ≡ before_a
  pub back_across : key_of previous_b ≡ before_b
  pub behind : IsThrough (pixel_at old) after before_a
  pub lesser : IsLesser (name_at old) name before_b
  pub greater : IsGreaterOf (name_at old) name at_b
  pub fresh : has_pixel (pixels_from old (a name)) pixel ≡ false

module _ (old new : List (Option Node)) (a a' : Label → ℕ) (b b' : Point → ℕ) (name : Label) (pixel : Point) (after : Option Point) (x : ℕ)
    (before_a : Option ℕ) (at_a previous_a : ℕ) (before_b : Option ℕ) (at_b previous_b : ℕ)
    (filed : AreFiled old a b) (w : IsNew old a b name pixel after x before_a at_a previous_a before_b at_b previous_b)
    (c : Relinks old new a a' b b' name pixel x (Some (new_node name pixel at_a previous_a at_b previous_b)) before_a x before_b x)
    (back : RelinksBack old new x at_a x at_b x)
    (d : HasLinks new x (Some (new_node name pixel at_a previous_a at_b previous_b)) before_a x at_a x before_b x at_b x) where
  -- ---- the segment's list

  unnamed : name_at old x ≡ None
  unnamed = ap name_of w.free

  not_the_end : x ≢ end
  not_the_end e = omega (arith, e, w.low)

  unplaced : pixel_at old x ≡ None
  unplaced = ap pixel_of w.free

  along_there : along_at new x ≡ at_a
  along_there = d.along ∙ ap (λ t. cond t x at_a) (before_fresh label_eq label_decides (along_at old) a (name_at old) name before_a at_a x w.along unnamed)

  put_along : IsChanged label_eq (along_at old) a end (along_at new) a' (name_at new) end name (put_key before_a x (way (along_at old) end (a name)))
  put_along =
      place_put label_eq label_decides name before_a at_a x filed.along w.along w.low unnamed along_there c.along c.name_there c.names

  put_back_along : LinksBack (along_at new) a' (name_at new) (back_along_at new)
  put_back_along =
      back_put label_eq label_decides (back_along_at old) (back_along_at new) name before_a at_a x previous_a filed.along filed.back_along w.along w.low unnamed along_there w.back_along
      (d.back_along not_the_end
      ∙ ap (λ t. cond t x previous_a) (keys_differ x at_a (at_fresh label_eq label_decides (along_at old) a (name_at old) name before_a at_a x filed.along w.along w.low unnamed)))
      c.along back.along c.name_there c.names

  -- the values of the ways that were there
  pixels_stay : (n : Label) → listed (pixel_at new) (way (along_at old) end (a n)) ≡ pixels_from old (a n)
  pixels_stay n =
      values_kept label_eq label_decides (along_at old) a (name_at old) (pixel_at old) (pixel_at new) n x filed.along (ap (is_of label_eq n) unnamed) c.pixels

  stored : {V : Type 0} (v : ℕ → Option V) (k : ℕ) (u : V) → v k ≡ Some u → v x ≡ None → k ≢ x
  stored v k u e n h = cc (ap v h)

  through : (o : Option Point) → IsThrough (pixel_at old) o before_a → IsThrough (pixel_at new) o before_a
  through None h = h
  through (Some p) h = (h.0, h.1, c.pixels h.0 (stored (pixel_at old) h.0 p h.2 unplaced) ∙ h.2)

  segment_put : pixels_from new (a' name) ≡ linked_behind after pixel (pixels_from old (a name))
  segment_put =
      ap (listed (pixel_at new)) put_along.here
      ∙ pixel_put (pixel_at old) (pixel_at new) after before_a x pixel (way (along_at old) end (a name)) c.pixel_there (pixels_stay name)
      (through after w.behind) (before_listed label_eq label_decides (along_at old) a (name_at old) name before_a at_a filed.along w.along)
      (filed.linked.once name)

  segments_put : (n : Label) → label_eq n name ≡ false → pixels_from new (a' n) ≡ pixels_from old (a n)
  segments_put n apart = ap (listed (pixel_at new)) (put_along.others n apart) ∙ pixels_stay n

  -- ---- the pixel's list

  across_there : across_at new x ≡ at_b
  across_there = d.across ∙ ap (λ t. cond t x at_b) (before_fresh point_eq point_decides (across_at old) b (pixel_at old) pixel before_b at_b x w.across unplaced)

  put_across : IsChanged point_eq (across_at old) b end (across_at new) b' (pixel_at new) end pixel (put_key before_b x (way (across_at old) end (b pixel)))
  put_across =
      place_put point_eq point_decides pixel before_b at_b x filed.across w.across w.low unplaced across_there c.across c.pixel_there c.pixels

  put_back_across : LinksBack (across_at new) b' (pixel_at new) (back_across_at new)
  put_back_across =
      back_put point_eq point_decides (back_across_at old) (back_across_at new) pixel before_b at_b x previous_b filed.across filed.back_across w.across w.low unplaced across_there w.back_across
      (d.back_across not_the_end
      ∙ ap (λ t. cond t x previous_b) (keys_differ x at_b (at_fresh point_eq point_decides (across_at old) b (pixel_at old) pixel before_b at_b x filed.across w.across w.low unplaced)))
      c.across back.across c.pixel_there c.pixels

  names_stay : (p : Point) → listed (name_at new) (way (across_at old) end (b p)) ≡ names_from old (b p)
  names_stay p =
      values_kept point_eq point_decides (across_at old) b (pixel_at old) (name_at old) (name_at new) p x filed.across (ap (is_of point_eq p) unplaced) c.names

  lesser : (o : Option ℕ) → IsLesser (name_at old) name o → IsLesser (name_at new) name o
  lesser None h = tt
  lesser (Some p) h = (h.0, c.names p (stored (name_at old) p h.0 h.1 unnamed) ∙ h.1, h.2)

  greater : (k : ℕ) → IsGreaterOf (name_at old) name k → IsGreaterOf (name_at new) name k
  greater k (inl e) = inl e
  greater k (inr (m, e, less)) = inr (m, c.names k (stored (name_at old) k m e unnamed) ∙ e, less)

  comes : (o : Option ℕ) → IsPlace (across_at old) b (pixel_at old) pixel o at_b → key_at (across_at old) (b pixel) o ≡ at_b
  comes None h = h
  comes (Some p) h = h.1

  pixel_here : names_from new (b' pixel) ≡ with_name name (names_from old (b pixel))
  pixel_here =
      ap (listed (name_at new)) put_across.here
      ∙ name_put (across_at old) (name_at old) (name_at new) (b pixel) x name before_b (way (across_at old) end (b pixel)) (filed.across.whole pixel)
      (filed.linked.rise pixel) c.name_there (names_stay pixel) (lesser before_b w.lesser)
      (before_listed point_eq point_decides (across_at old) b (pixel_at old) pixel before_b at_b filed.across w.across)
      (subst (IsGreaterOf (name_at new) name) (sym (comes before_b w.across)) (greater at_b w.greater))

  pixels_put : (p : Point) → point_eq p pixel ≡ false → names_from new (b' p) ≡ names_from old (b p)
  pixels_put p apart = ap (listed (name_at new)) (put_across.others p apart) ∙ names_stay p

  pub filed_longer : AreLonger old new a a' b b' name pixel after
  filed_longer = record {
    filed = record {
      along = put_along.family;
      across = put_across.family;
      back_along = put_back_along;
      back_across = put_back_across;
      linked = linked_more name pixel after filed.linked w.fresh segment_put segments_put pixel_here pixels_put;
    };
    segment = segment_put;
    segments = segments_put;
    here = pixel_here;
    pixels = pixels_put;
  }

-- ---- a pass is unlinked

-- the nodes stand in their lists, whatever the links back
pub record AreListed (slots : List (Option Node)) (a : Label → ℕ) (b : Point → ℕ) : Type 0 where
  pub along : IsFamily label_eq (along_at slots) a (name_at slots) end
  pub across : IsFamily point_eq (across_at slots) b (pixel_at slots) end
  pub linked : AreLinked (λ n. pixels_from slots (a n)) (λ p. names_from slots (b p))

-- the lists after a pass was unlinked
pub record AreShorter (old new : List (Option Node)) (a a' : Label → ℕ) (b b' : Point → ℕ) (name : Label) (pixel : Point) : Type 0 where
  pub lists : AreListed new a' b'
  pub segment : pixels_from new (a' name) ≡ without_pixel pixel (pixels_from old (a name))
  pub segments : (n : Label) → label_eq n name ≡ false → pixels_from new (a' n) ≡ pixels_from old (a n)
  pub here : names_from new (b' pixel) ≡ without_name name (names_from old (b pixel))
  pub pixels : (p : Point) → point_eq p pixel ≡ false → names_from new (b' p) ≡ names_from old (b p)

module _ (old new : List (Option Node)) (a a' : Label → ℕ) (b b' : Point → ℕ) (name : Label) (pixel : Point) (y : ℕ)
    (before_a before_b : Option ℕ) (filed : AreListed old a b) (named : name_at old y ≡ Some name) (placed : pixel_at old y ≡ Some pixel)
    (along : IsPlace (along_at old) a (name_at old) name before_a y) (across : IsPlace (across_at old) b (pixel_at old) pixel before_b y)
    (c : Relinks old new a a' b b' name pixel y None before_a (along_at old y) before_b (across_at old y)) where
  taken_along : IsChanged label_eq (along_at old) a end (along_at new) a' (name_at new) end name (filter (λ k. not (k == y)) (way (along_at old) end (a name)))
  taken_along = place_taken label_eq label_decides name before_a y filed.along along named c.along c.name_there c.names

  taken_across : IsChanged point_eq (across_at old) b end (across_at new) b' (pixel_at new) end pixel (filter (λ k. not (k == y)) (way (across_at old) end (b pixel)))
  taken_across = place_taken point_eq point_decides pixel before_b y filed.across across placed c.across c.pixel_there c.pixels

  -- the values of the ways that are left
  pixels_left : (n : Label) → pixels_from new (a' n) ≡ listed (pixel_at old) (way (along_at new) end (a' n))
  pixels_left n =
      values_kept label_eq label_decides (along_at new) a' (name_at new) (pixel_at old) (pixel_at new) n y taken_along.family
      (ap (is_of label_eq n) c.name_there) c.pixels

  names_left : (p : Point) → names_from new (b' p) ≡ listed (name_at old) (way (across_at new) end (b' p))
  names_left p =
      values_kept point_eq point_decides (across_at new) b' (pixel_at new) (name_at old) (name_at new) p y taken_across.family
      (ap (is_of point_eq p) c.pixel_there) c.names

  segment_taken : pixels_from new (a' name) ≡ without_pixel pixel (pixels_from old (a name))
  segment_taken =
      pixels_left name ∙ ap (listed (pixel_at old)) taken_along.here
      ∙ listed_without point_eq point_decides (pixel_at old) y pixel (way (along_at old) end (a name)) placed
      (before_in label_eq label_decides (along_at old) a (name_at old) name y filed.along named) (filed.linked.once name pixel)

  segments_taken : (n : Label) → label_eq n name ≡ false → pixels_from new (a' n) ≡ pixels_from old (a n)
  segments_taken n apart = pixels_left n ∙ ap (listed (pixel_at old)) (taken_along.others n apart)

  pixel_taken : names_from new (b' pixel) ≡ without_name name (names_from old (b pixel))
  pixel_taken =
      names_left pixel ∙ ap (listed (name_at old)) taken_across.here
      ∙ listed_without label_eq label_decides (name_at old) y name (way (across_at old) end (b pixel)) named
      (before_in point_eq point_decides (across_at old) b (pixel_at old) pixel y filed.across placed)
      (rising_once name (names_from old (b pixel)) (filed.linked.rise pixel))

  pixels_taken : (p : Point) → point_eq p pixel ≡ false → names_from new (b' p) ≡ names_from old (b p)
  pixels_taken p apart = names_left p ∙ ap (listed (name_at old)) (taken_across.others p apart)

  pub lists_shorter : AreShorter old new a a' b b' name pixel
  lists_shorter = record {
    lists = record {
      along = taken_along.family;
      across = taken_across.family;
      linked = linked_less name pixel filed.linked segment_taken segments_taken pixel_taken pixels_taken;
    };
    segment = segment_taken;
    segments = segments_taken;
    here = pixel_taken;
    pixels = pixels_taken;
  }
