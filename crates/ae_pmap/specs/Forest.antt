-- Maps that stand side by side in one forest.
use Rattle.std.specs.Prelude.{◌≡◌, ℕ, ◌<◌, ◌≤◌, List, [], ◌∷◌, length, slice_get, Option, Some, None}
use Rattle.ae_pmap.specs.declared.nodes.Node.{Node}
use Rattle.ae_pmap.specs.Pairs.{Rises}
use Rattle.ae_pmap.specs.Trees.{pairs}
use Rattle.ae_pmap.specs.Nodes.{tree_at}

-- the nodes, the values that they name, and the place of the present map's root
pub record Forest (V : Type 0) : Type 0 where
  pub nodes : List Node
  pub values : List V
  pub root : ℕ

abbrev pub with_value : {V : Type 0} → ℕ → Option V → List (ℕ × V) → List (ℕ × V)
with_value key None ps = ps
with_value key (Some v) ps = (key, v) ∷ ps

-- the pairs of a key and its value
abbrev pub valued : {V : Type 0} → List V → List (ℕ × ℕ) → List (ℕ × V)
valued values [] = []
valued values (p ∷ ps) = with_value p.0 (slice_get values p.1) (valued values ps)

-- the map at a root, by rising key
abbrev pub map_at : {V : Type 0} → Forest V → ℕ → List (ℕ × V)
map_at f root = valued f.values (pairs (tree_at f.nodes root))

-- the present map
abbrev pub present : {V : Type 0} → Forest V → List (ℕ × V)
present f = map_at f f.root

abbrev pub AllNamed : ℕ → List (ℕ × ℕ) → Type 0
AllNamed n [] = Unit {0}
AllNamed n (p ∷ ps) = (p.1 < n) × AllNamed n ps

-- a map stands at the root
pub record IsRoot {V : Type 0} (f : Forest V) (root : ℕ) : Type 0 where
  pub within : root ≤ length f.nodes
  pub rises : Rises (pairs (tree_at f.nodes root))
  pub named : AllNamed (length f.values) (pairs (tree_at f.nodes root))

-- the version with this root fits the forest and stands for the map
pub record StandsFor {V : Type 0} (f : Forest V) (root : ℕ) (map : List (ℕ × V)) : Type 0 where
  pub fits : IsRoot f root
  pub is : map_at f root ≡ map

-- each version goes on standing for its map
abbrev pub Lasts : {V : Type 0} → Forest V → Forest V → Type 0
Lasts {V} old new = (root : ℕ) (map : List (ℕ × V)) → StandsFor old root map → StandsFor new root map
