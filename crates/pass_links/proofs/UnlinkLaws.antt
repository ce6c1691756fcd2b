-- The passes of a pixel, or of a segment, unlinked one after another: what is left of its list is a list
-- that begins further on, the other passes are as they were, and when the list is empty, no list of the
-- other family has its key.
use Rattle.std.proofs.Common.{◌≡◌, ◌≢◌, refl, ap, sym, ◌∙◌, subst, ℕ, ◌<◌, arith, Bool, true, false, not, cond, ◌&&◌, List, [], ◌∷◌, length, Option, None, Some}
use Rattle.std.specs.Prelude.{filter, IsSome}
use Rattle.std.specs.Bool.{Decides}
use Rattle.std.specs.List.{list_any}
use Rattle.grid_core.specs.declared.point.Point.{Point}
use Rattle.grid_core.specs.Vector.{point_eq}
use Rattle.grid_core.specs.Name.{Label, label_eq}
use Rattle.grid_core.proofs.Order.{point_exact, label_exact}
use Rattle.pass_links.specs.declared.node.Node.{Node}
use Rattle.pass_links.specs.Passes.{PassLists, pixels_of, names_at, has_pixel, has_name, without_pixel, without_name, AreLinked}
use Rattle.pass_links.specs.Chain.{end, way, IsWay, IsPlace, key_of, LinksBack, listed}
use Rattle.pass_links.specs.Node.{along_of, across_of, back_along_of, back_across_of, name_of, pixel_of, node_at, along_at, across_at, back_along_at, back_across_at, name_at, pixel_at}
use Rattle.pass_links.specs.Lists.{pixels_from, names_from}
use Rattle.pass_links.specs.Links.{TakesAlong, TakesAcross}
use Rattle.pass_links.specs.Filing.{AreFiled}
use Rattle.pass_links.proofs.ChainLaws.{way_end}
use Rattle.grid_core.proofs.Comparisons.{itself, is_equal, point_decides, label_decides}
use Rattle.grid_core.proofs.Filters.{none_left, any_left, filter_length}
use Rattle.pass_links.proofs.WalkLaws.{place_stored, along_step, across_step, has_node, has_node_at, ended}
use Rattle.pass_links.proofs.BackLaws.{IsPointedBack, LinksBackBut, back_taken, back_beside, back_all}
use Rattle.pass_links.proofs.PositionLaws.{free_of}
use Rattle.pass_links.proofs.NodeLaws.{Relinks, restarted, unlinks_along, unlinks_across}
use Rattle.pass_links.proofs.FilingLaws.{AreListed, AreShorter, lists_shorter}

and_false : (b : Bool) → (b && false) ≡ false
and_false true = refl
and_false false = refl

-- ---- a list without a value

module _ {V : Type 0} (same : V → V → Bool) (decides : (a b : V) → Decides (same a b) (a ≡ b)) where
  -- taking it out again changes nothing
  without_twice : (a : V) (bs : List V) → filter (λ b. not (same b a)) (filter (λ b. not (same b a)) bs) ≡ filter (λ b. not (same b a)) bs
  without_twice a bs =
      none_left same decides a (filter (λ b. not (same b a)) bs)
      (any_left same decides a a bs ∙ ap (λ c. list_any (same a) bs && not c) (itself same decides a) ∙ and_false (list_any (same a) bs))

  -- the first taken out
  without_first : (a : V) (bs cs : List V) → cs ≡ a ∷ bs → length (filter (λ b. not (same b a)) cs) < length cs
  without_first a bs cs e =
      let taken : filter (λ b. not (same b a)) cs ≡ filter (λ b. not (same b a)) bs =
      ap (filter (λ b. not (same b a))) e
      ∙ ap (λ c. cond (not c) (a ∷ filter (λ b. not (same b a)) bs) (filter (λ b. not (same b a)) bs)) (itself same decides a) in
      omega (arith, ap length taken, ap length e, filter_length (λ b. not (same b a)) bs)

  -- ---- where a list begins

  -- at its first key
  begins : (q : V) (at : ℕ) (first : V → ℕ) → restarted same q at first q ≡ at
  begins q at first = ap (λ b. cond b at (first q)) (itself same decides q)

  -- another list is as it was
  begins_still : (q r : V) (at : ℕ) (first : V → ℕ) → same r q ≡ false → restarted same q at first r ≡ first r
  begins_still q r at first apart = ap (λ b. cond b at (first r)) apart

  -- where the list began
  restarted_itself : (q : V) (at : ℕ) (first : V → ℕ) → at ≡ first q → restarted same q at first ≡ first
  restarted_itself q at first e = λ i r. by r (same r q) refl i
    where
      by : (r : V) (b : Bool) → same r q ≡ b → cond b at (first r) ≡ first r
      by r true t = e ∙ ap first (sym ((decides r q).0 t))
      by r false t = refl

-- ---- the passes of a pixel

-- some passes of the pixel were unlinked, and no others: what is left of its list begins at `at`
pub record UnlinksPixel (pixel : Point) (old : PassLists) (slots : List (Option Node)) (a : Label → ℕ) (b : Point → ℕ) (at : ℕ) : Type 0 where
  pub lists : AreListed slots a (restarted point_eq pixel at b)
  pub back_along : LinksBack (along_at slots) a (name_at slots) (back_along_at slots)
  pub back_across : LinksBackBut point_eq pixel (across_at slots) b (pixel_at slots) (back_across_at slots)
  pub segments : (n : Label) → without_pixel pixel (pixels_from slots (a n)) ≡ without_pixel pixel (pixels_of old n)
  pub pixels : (p : Point) → point_eq p pixel ≡ false → names_from slots (b p) ≡ names_at old p

-- all passes of the pixel were unlinked, and no others
pub record IsWithoutPixel (pixel : Point) (old : PassLists) (slots : List (Option Node)) (a : Label → ℕ) (b : Point → ℕ) : Type 0 where
  pub lists : AreFiled slots a b
  pub segments : (n : Label) → pixels_from slots (a n) ≡ without_pixel pixel (pixels_of old n)
  pub none : names_from slots (b pixel) ≡ []
  pub pixels : (p : Point) → point_eq p pixel ≡ false → names_from slots (b p) ≡ names_at old p

module _ (pixel : Point) (old : PassLists) where
  -- none yet
  pub pixel_begun : (slots : List (Option Node)) (a : Label → ℕ) (b : Point → ℕ) (at : ℕ) → AreFiled slots a b → at ≡ b pixel
      → ((n : Label) → pixels_of old n ≡ pixels_from slots (a n)) → ((p : Point) → names_at old p ≡ names_from slots (b p)) → UnlinksPixel pixel old slots a b at
  pixel_begun slots a b at filed first was had = record {
    lists =
        subst (AreListed slots a) (sym (restarted_itself point_eq point_decides pixel at b first))
        (record { along = filed.along; across = filed.across; linked = filed.linked });
    back_along = filed.back_along;
    back_across = λ k r _ e. filed.back_across k r e;
    segments = λ n. ap (without_pixel pixel) (sym (was n));
    pixels = λ p apart. sym (had p);
  }

  module _ (slots : List (Option Node)) (a : Label → ℕ) (b : Point → ℕ) (key : ℕ) (h : UnlinksPixel pixel old slots a b key) (apart : key ≢ end) where
    -- the first key that is left
    pixel_owned : pixel_at slots key ≡ Some pixel
    pixel_owned = place_stored point_eq point_decides pixel None key h.lists.across (begins point_eq point_decides pixel key b) apart

    pub pixel_first_stored : IsSome (node_at slots key)
    pixel_first_stored = has_node_at slots key pixel pixel_owned

  module _ (slots next : List (Option Node)) (a a' : Label → ℕ) (b : Point → ℕ) (key : ℕ) (node : Node)
      (h : UnlinksPixel pixel old slots a b key) (apart : key ≢ end) (stored : node_at slots key ≡ Some node)
      (takes : TakesAlong slots next a a' key node) where
    -- what is left of the list, before and after
    abbrev pixel_rest : Point → ℕ
    pixel_rest = restarted point_eq pixel key b

    abbrev pixel_rest' : Point → ℕ
    pixel_rest' = restarted point_eq pixel node.next_of_pixel b

    pixel_in_other : IsPlace (along_at slots) a (name_at slots) node.name (key_of node.previous_of_segment) key
    pixel_in_other =
        subst (λ k. IsPlace (along_at slots) a (name_at slots) node.name (key_of k) key) (ap back_along_of stored)
        (h.back_along key node.name (ap name_of stored))

    pixel_relinked : Relinks slots next a a' pixel_rest pixel_rest' node.name pixel key None (key_of node.previous_of_segment) (along_at slots key) None (across_at slots key)
    pixel_relinked =
        subst (λ k. Relinks slots next a a' pixel_rest pixel_rest' node.name pixel key None (key_of node.previous_of_segment) k None (across_at slots key)) (sym (ap along_of stored))
        (subst (λ k. Relinks slots next a a' pixel_rest pixel_rest' node.name pixel key None (key_of node.previous_of_segment) node.next_of_segment None k) (sym (ap across_of stored)) (unlinks_along slots next a b key node a' takes pixel))

    pixel_shorter : AreShorter slots next a a' pixel_rest pixel_rest' node.name pixel
    pixel_shorter =
        lists_shorter slots next a a' pixel_rest pixel_rest' node.name pixel key (key_of node.previous_of_segment) None h.lists
        (ap name_of stored) (pixel_owned slots a b key h apart) pixel_in_other (begins point_eq point_decides pixel key b) pixel_relinked

    -- the links back that were set
    pixel_set_back : IsPointedBack (back_along_at slots) (back_along_at next) key (along_at slots key) node.previous_of_segment
    pixel_set_back =
        subst (λ k. IsPointedBack (back_along_at slots) (back_along_at next) key k node.previous_of_segment) (sym (ap along_of stored)) takes.back_along

    -- one more pass is unlinked
    pub pixel_more : UnlinksPixel pixel old next a' b node.next_of_pixel
    pixel_more = record {
      lists = pixel_shorter.lists;
      back_along =
          back_taken label_eq label_decides (back_along_at slots) (back_along_at next) node.name (key_of node.previous_of_segment) key node.previous_of_segment
          h.lists.along h.back_along pixel_in_other (ap name_of stored) refl pixel_relinked.along pixel_set_back takes.no_name takes.names;
      back_across =
          back_beside point_eq point_decides b (back_across_at slots) (back_across_at next) pixel key h.back_across (pixel_owned slots a b key h apart) takes.no_pixel
          takes.across takes.back_across takes.pixels;
      segments = λ n. by n (label_eq n node.name) refl ∙ h.segments n;
      pixels = λ p other.
          ap (names_from next) (sym (begins_still point_eq point_decides pixel p node.next_of_pixel b other)) ∙ pixel_shorter.pixels p other
          ∙ ap (names_from slots) (begins_still point_eq point_decides pixel p key b other) ∙ h.pixels p other;
    }
      where
        by : (n : Label) (t : Bool) → label_eq n node.name ≡ t → without_pixel pixel (pixels_from next (a' n)) ≡ without_pixel pixel (pixels_from slots (a n))
        by n true e =
            let one : n ≡ node.name = label_exact n node.name (is_equal _ e) in
            ap (λ m. without_pixel pixel (pixels_from next (a' m))) one ∙ ap (without_pixel pixel) pixel_shorter.segment
            ∙ without_twice point_eq point_decides pixel (pixels_from slots (a node.name)) ∙ ap (λ m. without_pixel pixel (pixels_from slots (a m))) (sym one)
        by n false e = ap (without_pixel pixel) (pixel_shorter.segments n e)

    -- and fewer are left
    pub pixel_fewer : length (names_from next node.next_of_pixel) < length (names_from slots key)
    pixel_fewer =
        let whole : IsWay (across_at slots) key (way (across_at slots) end key) =
        subst (λ k. IsWay (across_at slots) k (way (across_at slots) end k)) (begins point_eq point_decides pixel key b) (h.lists.across.whole pixel) in
        let step = across_step slots (free_of slots a h.lists.along) key node stored whole in
        let left : names_from next node.next_of_pixel ≡ without_name node.name (names_from slots key) =
        ap (names_from next) (sym (begins point_eq point_decides pixel node.next_of_pixel b)) ∙ pixel_shorter.here
        ∙ ap (λ k. without_name node.name (names_from slots k)) (begins point_eq point_decides pixel key b) in
        omega (arith, ap length left, without_first label_eq label_decides node.name (names_from slots node.next_of_pixel) (names_from slots key) step.first)

  -- all of them
  pub pixel_done : (slots : List (Option Node)) (a : Label → ℕ) (b b' : Point → ℕ) (at : ℕ) → UnlinksPixel pixel old slots a b at → at ≡ end
      → ((p : Point) → b' p ≡ cond (point_eq p pixel) end (b p)) → IsWithoutPixel pixel old slots a b'
  pixel_done slots a b b' at h ended starts =
      let listed_now : AreListed slots a b' =
      subst (AreListed slots a) (λ i p. (ap (λ k. cond (point_eq p pixel) k (b p)) ended ∙ sym (starts p)) i) h.lists in
      let none : names_from slots (b' pixel) ≡ [] =
      ap (names_from slots) (starts pixel ∙ begins point_eq point_decides pixel end b) ∙ ap (listed (name_at slots)) (way_end (across_at slots) end) in
      record {
        lists = record {
          along = listed_now.along;
          across = listed_now.across;
          back_along = h.back_along;
          back_across =
              back_all point_eq point_decides (back_across_at slots) pixel h.back_across listed_now.across (starts pixel ∙ begins point_eq point_decides pixel end b)
              (λ p other. starts p ∙ begins_still point_eq point_decides pixel p end b other);
          linked = listed_now.linked;
        };
        segments = λ n. sym (none_left point_eq point_decides pixel (pixels_from slots (a n)) (listed_now.linked.agree n pixel ∙ ap (λ ns. has_name ns n) none)) ∙ h.segments n;
        none = none;
        pixels = λ p other. ap (names_from slots) (starts p ∙ begins_still point_eq point_decides pixel p end b other) ∙ h.pixels p other;
      }

  -- there was none
  pub pixel_none : AreLinked (pixels_of old) (names_at old) → names_at old pixel ≡ [] → (n : Label) → pixels_of old n ≡ without_pixel pixel (pixels_of old n)
  pixel_none linked none n = sym (none_left point_eq point_decides pixel (pixels_of old n) (linked.agree n pixel ∙ ap (λ ns. has_name ns n) none))

-- ---- the passes of a segment

-- some passes of the segment were unlinked, and no others: what is left of its list begins at `at`
pub record UnlinksSegment (name : Label) (old : PassLists) (slots : List (Option Node)) (a : Label → ℕ) (b : Point → ℕ) (at : ℕ) : Type 0 where
  pub lists : AreListed slots (restarted label_eq name at a) b
  pub back_across : LinksBack (across_at slots) b (pixel_at slots) (back_across_at slots)
  pub back_along : LinksBackBut label_eq name (along_at slots) a (name_at slots) (back_along_at slots)
  pub pixels : (p : Point) → without_name name (names_from slots (b p)) ≡ without_name name (names_at old p)
  pub segments : (n : Label) → label_eq n name ≡ false → pixels_from slots (a n) ≡ pixels_of old n

-- all passes of the segment were unlinked, and no others
pub record IsWithoutSegment (name : Label) (old : PassLists) (slots : List (Option Node)) (a : Label → ℕ) (b : Point → ℕ) : Type 0 where
  pub lists : AreFiled slots a b
  pub pixels : (p : Point) → names_from slots (b p) ≡ without_name name (names_at old p)
  pub none : pixels_from slots (a name) ≡ []
  pub segments : (n : Label) → label_eq n name ≡ false → pixels_from slots (a n) ≡ pixels_of old n

module _ (name : Label) (old : PassLists) where
  -- none yet
  pub segment_begun : (slots : List (Option Node)) (a : Label → ℕ) (b : Point → ℕ) (at : ℕ) → AreFiled slots a b → at ≡ a name
      → ((n : Label) → pixels_of old n ≡ pixels_from slots (a n)) → ((p : Point) → names_at old p ≡ names_from slots (b p)) → UnlinksSegment name old slots a b at
  segment_begun slots a b at filed first was had = record {
    lists =
        subst (λ s. AreListed slots s b) (sym (restarted_itself label_eq label_decides name at a first))
        (record { along = filed.along; across = filed.across; linked = filed.linked });
    back_across = filed.back_across;
    back_along = λ k r _ e. filed.back_along k r e;
    pixels = λ p. ap (without_name name) (sym (had p));
    segments = λ n apart. sym (was n);
  }

  module _ (slots : List (Option Node)) (a : Label → ℕ) (b : Point → ℕ) (key : ℕ) (h : UnlinksSegment name old slots a b key) (apart : key ≢ end) where
    -- the first key that is left
    segment_owned : name_at slots key ≡ Some name
    segment_owned = place_stored label_eq label_decides name None key h.lists.along (begins label_eq label_decides name key a) apart

    pub segment_first_stored : IsSome (node_at slots key)
    segment_first_stored = has_node slots key name segment_owned

  module _ (slots next : List (Option Node)) (a : Label → ℕ) (b b' : Point → ℕ) (key : ℕ) (node : Node)
      (h : UnlinksSegment name old slots a b key) (apart : key ≢ end) (stored : node_at slots key ≡ Some node)
      (takes : TakesAcross slots next b b' key node) where
    -- what is left of the list, before and after
    abbrev segment_rest : Label → ℕ
    segment_rest = restarted label_eq name key a

    abbrev segment_rest' : Label → ℕ
    segment_rest' = restarted label_eq name node.next_of_segment a

    segment_in_other : IsPlace (across_at slots) b (pixel_at slots) node.pixel (key_of node.previous_of_pixel) key
    segment_in_other =
        subst (λ k. IsPlace (across_at slots) b (pixel_at slots) node.pixel (key_of k) key) (ap back_across_of stored)
        (h.back_across key node.pixel (ap pixel_of stored))

    segment_relinked : Relinks slots next segment_rest segment_rest' b b' name node.pixel key None None (along_at slots key) (key_of node.previous_of_pixel) (across_at slots key)
    segment_relinked =
        subst (λ k. Relinks slots next segment_rest segment_rest' b b' name node.pixel key None None k (key_of node.previous_of_pixel) (across_at slots key)) (sym (ap along_of stored))
        (subst (λ k. Relinks slots next segment_rest segment_rest' b b' name node.pixel key None None node.next_of_segment (key_of node.previous_of_pixel) k) (sym (ap across_of stored)) (unlinks_across slots next a b key node b' takes name))

    segment_shorter : AreShorter slots next segment_rest segment_rest' b b' name node.pixel
    segment_shorter =
        lists_shorter slots next segment_rest segment_rest' b b' name node.pixel key None (key_of node.previous_of_pixel) h.lists
        (segment_owned slots a b key h apart) (ap pixel_of stored) (begins label_eq label_decides name key a) segment_in_other segment_relinked

    -- the links back that were set
    segment_set_back : IsPointedBack (back_across_at slots) (back_across_at next) key (across_at slots key) node.previous_of_pixel
    segment_set_back =
        subst (λ k. IsPointedBack (back_across_at slots) (back_across_at next) key k node.previous_of_pixel) (sym (ap across_of stored)) takes.back_across

    -- one more pass is unlinked
    pub segment_more : UnlinksSegment name old next a b' node.next_of_segment
    segment_more = record {
      lists = segment_shorter.lists;
      back_across =
          back_taken point_eq point_decides (back_across_at slots) (back_across_at next) node.pixel (key_of node.previous_of_pixel) key node.previous_of_pixel
          h.lists.across h.back_across segment_in_other (ap pixel_of stored) refl segment_relinked.across segment_set_back takes.no_pixel takes.pixels;
      back_along =
          back_beside label_eq label_decides a (back_along_at slots) (back_along_at next) name key h.back_along (segment_owned slots a b key h apart) takes.no_name
          takes.along takes.back_along takes.names;
      pixels = λ p. by p (point_eq p node.pixel) refl ∙ h.pixels p;
      segments = λ n other.
          ap (pixels_from next) (sym (begins_still label_eq label_decides name n node.next_of_segment a other)) ∙ segment_shorter.segments n other
          ∙ ap (pixels_from slots) (begins_still label_eq label_decides name n key a other) ∙ h.segments n other;
    }
      where
        by : (p : Point) (t : Bool) → point_eq p node.pixel ≡ t → without_name name (names_from next (b' p)) ≡ without_name name (names_from slots (b p))
        by p true e =
            let one : p ≡ node.pixel = point_exact p node.pixel (is_equal _ e) in
            ap (λ m. without_name name (names_from next (b' m))) one ∙ ap (without_name name) segment_shorter.here
            ∙ without_twice label_eq label_decides name (names_from slots (b node.pixel)) ∙ ap (λ m. without_name name (names_from slots (b m))) (sym one)
        by p false e = ap (without_name name) (segment_shorter.pixels p e)

    -- and fewer are left
    pub segment_fewer : length (pixels_from next node.next_of_segment) < length (pixels_from slots key)
    segment_fewer =
        let whole : IsWay (along_at slots) key (way (along_at slots) end key) =
        subst (λ k. IsWay (along_at slots) k (way (along_at slots) end k)) (begins label_eq label_decides name key a) (h.lists.along.whole name) in
        let step = along_step slots (free_of slots segment_rest h.lists.along) key node stored whole in
        let left : pixels_from next node.next_of_segment ≡ without_pixel node.pixel (pixels_from slots key) =
        ap (pixels_from next) (sym (begins label_eq label_decides name node.next_of_segment a)) ∙ segment_shorter.segment
        ∙ ap (λ k. without_pixel node.pixel (pixels_from slots k)) (begins label_eq label_decides name key a) in
        omega (arith, ap length left, without_first point_eq point_decides node.pixel (pixels_from slots node.next_of_segment) (pixels_from slots key) step.first)

  -- all of them
  pub segment_done : (slots : List (Option Node)) (a a' : Label → ℕ) (b : Point → ℕ) (at : ℕ) → UnlinksSegment name old slots a b at → at ≡ end
      → ((n : Label) → a' n ≡ cond (label_eq n name) end (a n)) → IsWithoutSegment name old slots a' b
  segment_done slots a a' b at h ended starts =
      let listed_now : AreListed slots a' b =
      subst (λ s. AreListed slots s b) (λ i n. (ap (λ k. cond (label_eq n name) k (a n)) ended ∙ sym (starts n)) i) h.lists in
      let none : pixels_from slots (a' name) ≡ [] =
      ap (pixels_from slots) (starts name ∙ begins label_eq label_decides name end a) ∙ ap (listed (pixel_at slots)) (way_end (along_at slots) end) in
      record {
        lists = record {
          along = listed_now.along;
          across = listed_now.across;
          back_across = h.back_across;
          back_along =
              back_all label_eq label_decides (back_along_at slots) name h.back_along listed_now.along (starts name ∙ begins label_eq label_decides name end a)
              (λ n other. starts n ∙ begins_still label_eq label_decides name n end a other);
          linked = listed_now.linked;
        };
        pixels = λ p. sym (none_left label_eq label_decides name (names_from slots (b p)) (sym (listed_now.linked.agree name p) ∙ ap (λ ps. has_pixel ps p) none)) ∙ h.pixels p;
        none = none;
        segments = λ n other. ap (pixels_from slots) (starts n ∙ begins_still label_eq label_decides name n end a other) ∙ h.segments n other;
      }

  -- there was none
  pub segment_none : AreLinked (pixels_of old) (names_at old) → pixels_of old name ≡ [] → (p : Point) → names_at old p ≡ without_name name (names_at old p)
  segment_none linked none p = sym (none_left label_eq label_decides name (names_at old p) (sym (linked.agree name p) ∙ ap (λ ps. has_pixel ps p) none))
