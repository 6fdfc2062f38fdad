-- Names of one head, sorts and representatives of arguments.
use Rattle.std.specs.Prelude.{ℕ, ◌≤◌, List, ◌≡◌, ◌≢◌, slice_get, Some}
use Rattle.ae_pmap.specs.Pairs.{found}
use Rattle.ae_store.specs.declared.nodes.Node.{Node}
use Rattle.ae_store.specs.declared.nodes.Shape.{Shape}

-- the shape of a node with these names in the place of its arguments
abbrev pub with_args : List ℕ → Node → Shape
with_args args n = record { head = n.head; sorts = n.sorts; args = args; sort = n.sort }

-- another entered name has the head, the sorts and the representatives of the name, and its sort (which follows for applications)
pub record IsCollision (nodes : List Node) (pairs : List (ℕ × List ℕ)) (name : ℕ) (args : List ℕ) (other : ℕ) : Type 0 where
  pub entered : found pairs other ≡ Some args
  pub is_other : other ≢ name
  pub node : Node
  pub at : slice_get nodes name ≡ Some node
  pub other_node : Node
  pub other_at : slice_get nodes other ≡ Some other_node
  pub heads : node.head ≡ other_node.head
  pub sorts : node.sorts ≡ other_node.sorts
  pub sort : node.sort ≡ other_node.sort

pub record IsLeastCollision (nodes : List Node) (pairs : List (ℕ × List ℕ)) (name : ℕ) (args : List ℕ) (other : ℕ) : Type 0 where
  pub collision : IsCollision nodes pairs name args other
  pub least : (n : ℕ) → IsCollision nodes pairs name args n → other ≤ n
