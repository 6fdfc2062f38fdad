-- Trees whose nodes stand in one list and name each other by their places: place 0 is no node, and place k + 1 is node k.
use Rattle.std.specs.Prelude.{ℕ, List, [], ◌∷◌, ◌++◌, slice_index_or}
use Rattle.std.specs.List.{fold}
use Rattle.ae_pmap.specs.declared.nodes.Node.{Node}
use Rattle.ae_pmap.specs.Trees.{Tree, Leaf, Fork}

abbrev pub with_node : List Tree → Node → List Tree
with_node trees n = trees ++ Fork (slice_index_or trees n.left Leaf) n.key n.value (slice_index_or trees n.right Leaf) ∷ []

-- the tree of each place
unfoldable pub trees_of : List Node → List Tree
trees_of nodes = fold with_node (Leaf ∷ []) nodes

-- the tree at a place
unfoldable pub tree_at : List Node → ℕ → Tree
tree_at nodes place = slice_index_or (trees_of nodes) place Leaf
