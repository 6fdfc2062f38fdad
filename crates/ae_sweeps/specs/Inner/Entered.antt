-- Names that were compared with the earlier ones.
use Rattle.std.specs.Prelude.{ℕ, ◌<◌, List, ◌≡◌, map, slice_get, Some}
use Rattle.ae_core.specs.declared.terms.Head.{Head}
use Rattle.ae_core.specs.declared.problems.Signature.{Signature}
use Rattle.ae_pmap.specs.Pairs.{found}
use Rattle.ae_store.specs.declared.nodes.Node.{Node}
use Rattle.ae_store.specs.declared.nodes.NodeHead.TheVariants.{Of}
use Rattle.ae_free.specs.Tables.{Tables, Fits, entered}
use Rattle.ae_sweeps.specs.Gaps.{IsPredicate, AreAlike}

-- the node applies something that is no predicate
pub record IsCompared (sig : Signature) (p : Node) : Type 0 where
  pub head : Head
  pub is : p.head ≡ Of head
  pub value : ¬ IsPredicate sig head

-- the name was entered with the representatives of its arguments
pub record IsEntered (sig : Signature) (nodes : List Node) (rep : ℕ → ℕ) (below n : ℕ) (args : List ℕ) : Type 0 where
  pub before : n < below
  pub node : Node
  pub at : slice_get nodes n ≡ Some node
  pub compared : IsCompared sig node
  pub args_are : args ≡ map rep node.args

-- names below a number that are alike have one representative
pub record AreEqual (sig : Signature) (nodes : List Node) (rep : ℕ → ℕ) (below : ℕ) : Type 0 where
  pub each : (m n : ℕ) → m < below → n < below → AreAlike sig nodes rep m n → rep m ≡ rep n

-- the names below a number were entered, and those that are alike have one representative
pub record AreEntered (sig : Signature) (nodes : List Node) (rep : ℕ → ℕ) (t : Tables) (below : ℕ) : Type 0 where
  pub fits : Fits nodes t
  pub has : (n : ℕ) (p : Node) → n < below → slice_get nodes n ≡ Some p → IsCompared sig p → found (entered t) n ≡ Some (map rep p.args)
  pub only : (n : ℕ) (args : List ℕ) → found (entered t) n ≡ Some args → IsEntered sig nodes rep below n args
  pub equal : AreEqual sig nodes rep below
