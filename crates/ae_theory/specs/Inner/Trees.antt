-- Nodes whose parents are earlier places, with what stood for the sides of equations before.
use Rattle.std.specs.Prelude.{ℕ, ◌≤◌, cond, nat_eq, List, [], ◌∷◌, ◌++◌, ◌≡◌, slice_get, Some}
use Rattle.ae_core.specs.declared.formulas.Lit.{Lit}
use Rattle.ae_theory.specs.Paths.{list_at}
use Rattle.ae_theory.specs.Classes.{class_of}
use Rattle.ae_theory.specs.declared.nodes.Node.{Node}
use Rattle.ae_theory.specs.declared.nodes.Edge.{Edge}
use Rattle.ae_theory.specs.declared.nodes.Edge.TheVariants.{Same, Apart, Other}

-- what `from` and `to` of a node are, after the nodes xs
abbrev pub IsCached : List Node → Edge → ℕ → ℕ → Type 0
IsCached xs (Same l r) from to = (from ≡ class_of xs r) × (to ≡ class_of xs l)
IsCached xs (Apart l r) from to = Unit {0}
IsCached xs Other from to = Unit {0}

pub record IsNodeAt (nodes : List Node) (k : ℕ) (x : Node) : Type 0 where
  pub parent : x.parent ≤ k
  pub cached : IsCached (list_at nodes x.parent) x.edge x.from x.to

pub record IsTree (nodes : List Node) : Type 0 where
  pub each : (k : ℕ) (x : Node) → slice_get nodes k ≡ Some x → IsNodeAt nodes k x

-- what stands for a name after a node, where n did before
abbrev pub renamed : Edge → ℕ → ℕ → ℕ → ℕ
renamed (Same l r) from to n = cond (nat_eq n from) to n
renamed (Apart l r) from to n = n
renamed Other from to n = n

-- a node with this literal was put behind those of a place
pub record IsPushed (nodes new : List Node) (last : ℕ) (lit : Lit) (tag : ℕ) (edge : Edge) : Type 0 where
  pub node : Node
  pub is : new ≡ nodes ++ node ∷ []
  pub lit_is : node.lit ≡ lit
  pub tag_is : node.tag ≡ tag
  pub edge_is : node.edge ≡ edge
  pub parent_is : node.parent ≡ last
