-- Edits that a map has noted, by strictly rising key: they count before what its tree has.
use Rattle.std.specs.Prelude.{ℕ, ◌<◌, ◌≤◌, List, [], ◌∷◌, Option, option_map, take, drop, ◌≡◌, ◌⊎◌}
use Rattle.std.specs.Arc.{arc_value}
use Rattle.std.specs.declared.sync.Arc.{Arc}
use Rattle.radix_map.specs.Entries.{edited_within}

-- an edit with its value in place of the pointer to it
abbrev pub plain_edit : {V Z : Type 0} → ℕ × Option (Arc V Z) → ℕ × Option V
plain_edit e = (e.0, option_map arc_value e.1)

-- the first entry has a key above k, if there is one
abbrev pub StartsAbove : {V : Type 0} → ℕ → List (ℕ × V) → Type 0
StartsAbove k [] = Unit {0}
StartsAbove k (e ∷ es) = k < e.0

-- the rest of entries es is behind key k: es itself, where it starts above k, and else what follows the entry of k
abbrev pub IsPast : {V : Type 0} → ℕ → List (ℕ × V) → List (ℕ × V) → Type 0
IsPast {V} k es rest = ((rest ≡ es) × StartsAbove k es) ⊎ ((v : V) × (es ≡ (k, v) ∷ rest))

-- of the first count noted edits some were carried, the first of them: they made entries now of entries old, and the others are left
pub record IsCarried {V Z : Type 0} (width : ℕ) (old now : List (ℕ × V)) (count : ℕ) (noted left : List (ℕ × Option (Arc V Z))) : Type 0 where
  pub done : ℕ
  pub few : done ≤ count
  pub made : now ≡ edited_within width old (take done noted)
  pub rest : left ≡ drop done noted
