-- Applications of a head to one name.
use Rattle.std.specs.Prelude.{ℕ, List, [], ◌∷◌, ◌≡◌, slice_get, Some}
use Rattle.ae_core.specs.declared.terms.Sort.{Sort}
use Rattle.ae_core.specs.declared.terms.Head.{Head}
use Rattle.ae_store.specs.declared.nodes.Node.{Node}
use Rattle.ae_store.specs.declared.nodes.NodeHead.TheVariants.{Of}

-- the node applies the head, at these sorts, to the name alone
pub record Applies (p : Node) (h : Head) (ss : List Sort) (of : ℕ) : Type 0 where
  pub head : p.head ≡ Of h
  pub args : p.args ≡ of ∷ []
  pub sorts : p.sorts ≡ ss

-- the name is that of the application of the head, at these sorts, to the other name
pub record IsAppliedTo (nodes : List Node) (n : ℕ) (h : Head) (ss : List Sort) (of : ℕ) : Type 0 where
  pub node : Node
  pub there : slice_get nodes n ≡ Some node
  pub applies : Applies node h ss of
