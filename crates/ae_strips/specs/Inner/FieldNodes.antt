-- Fields and written records as nodes.
use Rattle.std.specs.Prelude.{ℕ, List, [], ◌∷◌, ◌≡◌, slice_get, Some}
use Rattle.ae_core.specs.declared.terms.Sort.{Sort}
use Rattle.ae_core.specs.declared.terms.Head.TheVariants as head
use Rattle.ae_store.specs.declared.nodes.Node.{Node}
use Rattle.ae_store.specs.declared.nodes.NodeHead.TheVariants.{Of}
use Rattle.ae_strips.specs.declared.fields.FieldAt.{FieldAt}

-- the name is this field
pub record IsFieldNode (nodes : List Node) (n : ℕ) (f : FieldAt) : Type 0 where
  pub node : Node
  pub there : slice_get nodes n ≡ Some node
  pub head : node.head ≡ Of (head.Field f.of f.place)
  pub args : node.args ≡ f.owner ∷ []

-- the node is a written record of the type at these sorts
pub record IsWritten (p : Node) (k : ℕ) (ss : List Sort) : Type 0 where
  pub head : p.head ≡ Of (head.Build k)
  pub sorts : p.sorts ≡ ss

-- the name is a written record of the type at these sorts, in which the name u stands in this place
pub record HasArgument (nodes : List Node) (b k place : ℕ) (ss : List Sort) (u : ℕ) : Type 0 where
  pub node : Node
  pub there : slice_get nodes b ≡ Some node
  pub written : IsWritten node k ss
  pub at : slice_get node.args place ≡ Some u
