-- What holds of the nodes of a map at any time, and of a tree that is made of two.
use Rattle.std.specs.Prelude.{◌≡◌, ℕ, ◌+◌, ◌<◌, ◌≤◌, max, List, ◌∷◌, ◌++◌, length, slice_index_or}
use Rattle.ae_pmap.specs.declared.nodes.Node.{Node}
use Rattle.ae_pmap.specs.Trees.{Tree, Fork, pairs, levels, IsBalanced}
use Rattle.ae_pmap.specs.Nodes.{tree_at}

-- a node stands above its children, knows its height, and is balanced
pub record IsSoundNode (nodes : List Node) (k : ℕ) (n : Node) : Type 0 where
  pub left : n.left ≤ k
  pub right : n.right ≤ k
  pub tree : tree_at nodes (k + 1) ≡ Fork (tree_at nodes n.left) n.key n.value (tree_at nodes n.right)
  pub height : n.height ≡ levels (tree_at nodes (k + 1))
  pub low : levels (tree_at nodes (k + 1)) ≤ k + 1
  pub balanced : IsBalanced (tree_at nodes (k + 1))

-- each node is sound
pub record IsSound (nodes : List Node) : Type 0 where
  pub each : (k : ℕ) (d : Node) → k < length nodes → IsSoundNode nodes k (slice_index_or nodes k d)

-- the tree at a place goes on standing there
pub record Keeps (old new : List Node) : Type 0 where
  pub size : length old ≤ length new
  pub trees : (k : ℕ) → k ≤ length old → tree_at new k ≡ tree_at old k

-- a tree with the entries of two trees and of a pair between them, hardly higher than the higher of the two
pub record IsJoined (l : Tree) (key value : ℕ) (r : Tree) (t : Tree) : Type 0 where
  pub entries : pairs t ≡ pairs l ++ (key, value) ∷ pairs r
  pub low : max (levels l) (levels r) ≤ levels t
  pub high : levels t ≤ max (levels l) (levels r) + 1
  pub near : levels l ≤ levels r + 1 → levels r ≤ levels l + 1 → levels t ≡ max (levels l) (levels r) + 1
