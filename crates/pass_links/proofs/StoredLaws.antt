-- The node at a key is made of the links and the pixel there. So a write at one key, of both or of
-- the links alone, shows there alone, and pixels behind the last slot don't show.
use Rattle.std.proofs.Common.{◌≡◌, ℕ, zero, suc, pos, ◌-◌, ◌<◌, ◌≤◌, List, [], ◌∷◌, ◌++◌, length, get_or, set, take, Option, None, Some, IsSome, refl, sym, ap, subst, ◌∙◌, true≢false, arith}
use Rattle.std.proofs.lemmas.List.{get_or-set_same, get_or-set_other, set-get_or, take_all, take_at}
use Rattle.grid_core.specs.declared.point.Point.{Point}
use Rattle.slab.specs.Slab.{Slab, Updates, get, slab_len}
use Rattle.pass_links.specs.declared.nodes.Links.{Links}
use Rattle.pass_links.specs.Node.{pixel_of}
use Rattle.pass_links.specs.Nodes.{Slots, stored_at, Changes, node_with, node_of, nodes_of, HasPixels}

-- the node at a key is made of the links and the pixel there
stored-nodes_of : (links : List (Option Links)) (pixels : List Point) (key : ℕ) (d : Point) → length links ≤ length pixels → stored_at (nodes_of links pixels) key ≡ node_of (get_or links key None, get_or pixels key d)
stored-nodes_of [] pixels key d fits = refl
stored-nodes_of (l ∷ links) [] key d fits = absurd (omega (arith, fits))
stored-nodes_of (l ∷ links) (p ∷ pixels) zero d fits = refl
stored-nodes_of (l ∷ links) (p ∷ pixels) (suc key) d fits = stored-nodes_of links pixels key d (omega (arith, fits))

-- what contracts see of these links and pixels
module _ (links : Slab Links) (pixels : List Point) (seen : Slots) (beside : HasPixels links pixels) (view : record { slots = nodes_of links.slots pixels; room = links.capacity - slab_len links } ≡ seen) where
  stored_seen : (key : ℕ) (d : Point) → stored_at seen.slots key ≡ node_of (get links key, get_or pixels key d)
  stored_seen key d = ap (λ (s : Slots). stored_at s.slots key) (sym view) ∙ stored-nodes_of links.slots pixels key d beside.slot_count

  -- no node where there are no links
  pub none_seen : (key : ℕ) → get links key ≡ None → stored_at seen.slots key ≡ None
  none_seen key none = let d : Point = record { x = pos 0; y = pos 0 } in stored_seen key d ∙ ap (λ o. node_of (o, get_or pixels key d)) none

  -- the node with the links that were read, and the pixel
  pub some_seen : (key : ℕ) (l : Links) (p : Point) → get links key ≡ Some l → p ≡ get_or pixels key p → stored_at seen.slots key ≡ Some (node_with p l)
  some_seen key l p found read =
      stored_seen key p ∙ ap (λ o. node_of (o, get_or pixels key p)) found ∙ ap (λ q. Some (node_with q l)) (sym read)

  -- where there is a node, there are links
  pub has_links : (key : ℕ) → IsSome (stored_at seen.slots key) → IsSome (get links key)
  has_links key present = by_slot (get links key) refl
    where
      by_slot : (o : Option Links) → get links key ≡ o → IsSome o
      by_slot None none = absurd (true≢false (sym (subst IsSome (none_seen key none) present)))
      by_slot (Some l) found = refl

  -- a write at one key of the links, and of the pixels, shows at that key alone
  pub changes_seen : (new : Slab Links) (is : List Point) (key : ℕ) (slot : Option Links) (pixel : Point)
      → Updates links new key slot → is ≡ set pixels key pixel → key < length pixels → length new.slots ≤ length is
      → Changes seen.slots (nodes_of new.slots is) key (node_of (slot, pixel))
  changes_seen new is key slot pixel updates written within fits =
      record {
        changed =
            stored-nodes_of new.slots is key pixel fits ∙ ap (λ o. node_of (o, get_or is key pixel)) updates.changed
            ∙ ap (λ p. node_of (slot, p)) (ap (λ ps. get_or ps key pixel) written ∙ get_or-set_same pixels key pixel pixel within);
        others = λ other apart.
            stored-nodes_of new.slots is other pixel fits ∙ ap (λ o. node_of (o, get_or is other pixel)) (updates.others other apart)
            ∙ ap (λ p. node_of (get links other, p)) (ap (λ ps. get_or ps other pixel) written ∙ get_or-set_other pixels key other pixel pixel apart)
            ∙ sym (stored_seen other pixel);
      }

  -- the pixel of a node is the one beside its links
  pixel_seen : (key : ℕ) (p : Point) → pixel_of (stored_at seen.slots key) ≡ Some p → get_or pixels key p ≡ p
  pixel_seen key p there = by_slot (get links key) refl
    where
      by_slot : (o : Option Links) → get links key ≡ o → get_or pixels key p ≡ p
      by_slot None none = cc (there, ap pixel_of (none_seen key none))
      by_slot (Some l) found =
          let here : pixel_of (stored_at seen.slots key) ≡ Some (get_or pixels key p) = ap pixel_of (stored_seen key p ∙ ap (λ o. node_of (o, get_or pixels key p)) found) in
          cc (there, here)

  -- links that are written beside the pixel that stays show at that key alone
  pub links_seen : (new : Slab Links) (key : ℕ) (l : Links) (p : Point)
      → Updates links new key (Some l) → pixel_of (stored_at seen.slots key) ≡ Some p → key < length pixels → length new.slots ≤ length pixels
      → Changes seen.slots (nodes_of new.slots pixels) key (Some (node_with p l))
  links_seen new key l p updates there within fits =
      changes_seen new pixels key (Some l) p updates (sym (ap (set pixels key) (sym (pixel_seen key p there)) ∙ set-get_or pixels key p)) within fits

  -- links that go leave no node, whatever pixel stays
  pub goes_seen : (new : Slab Links) (key : ℕ) → Updates links new key None → key < length pixels → length new.slots ≤ length pixels → Changes seen.slots (nodes_of new.slots pixels) key None
  goes_seen new key updates within fits =
      let d : Point = record { x = pos 0; y = pos 0 } in
      changes_seen new pixels key None (get_or pixels key d) updates (sym (set-get_or pixels key d)) within fits

-- only the pixels beside slots count
nodes_of_taken : (links : List (Option Links)) (pixels : List Point) (n : ℕ) → length links ≤ n → nodes_of links (take n pixels) ≡ nodes_of links pixels
nodes_of_taken [] pixels n fits = refl
nodes_of_taken (l ∷ links) pixels zero fits = absurd (omega (arith, fits))
nodes_of_taken (l ∷ links) [] (suc n) fits = refl
nodes_of_taken (l ∷ links) (p ∷ pixels) (suc n) fits = ap (λ rest. node_of (l, p) ∷ rest) (nodes_of_taken links pixels n (omega (arith, fits)))

-- two lists of pixels that begin the same, as far as there are slots
pub nodes_of_same : (old new : List (Option Links)) (ps qs : List Point) (m n : ℕ) → new ≡ old → take m qs ≡ take n ps → length old ≤ m → length old ≤ n → nodes_of new qs ≡ nodes_of old ps
nodes_of_same old new ps qs m n same begin low high =
    ap (λ ls. nodes_of ls qs) same ∙ sym (nodes_of_taken old qs m low) ∙ ap (nodes_of old) begin ∙ nodes_of_taken old ps n high

-- pixels filled up begin the same
pub begins_when_filled : (ps fill : List Point) (n : ℕ) → length ps ≤ n → take (length ps) (take n ps ++ fill) ≡ take n ps
begins_when_filled ps fill n more =
    let whole : take n ps ≡ ps = take_all n ps more in
    ap (λ begin. take (length ps) (begin ++ fill)) whole ∙ take_at ps fill (length ps) refl ∙ sym whole
