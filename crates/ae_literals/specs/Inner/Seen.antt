-- Constructors that were seen, one for each representative.
use Rattle.std.specs.Prelude.{ℕ, ◌<◌, List, ◌≡◌, length, get_or, Option, Some, None}
use Rattle.ae_core.specs.declared.problems.Signature.{Signature}
use Rattle.ae_core.specs.declared.terms.Head.{Head}
use Rattle.ae_rules.specs.Derivations.{IsConstructor}
use Rattle.ae_store.specs.declared.nodes.Node.{Node}
use Rattle.ae_store.specs.declared.nodes.NodeHead.TheVariants.{Of}
use Rattle.ae_store.specs.Shapes.{shapes}
use Rattle.ae_store.specs.Terms.{terms}
use Rattle.ae_data.specs.Constructors.{NamesConstructor, AreDifferentConstructors}

-- the node applies a constructor
abbrev pub IsOfConstructor : Signature → Node → Type 0
IsOfConstructor sig p = (h : Head) × (p.head ≡ Of h) × IsConstructor sig h

-- a name of a constructor
abbrev pub IsConstructors : Signature → List Node → ℕ → Type 0
IsConstructors sig nodes n = (h : Head) × NamesConstructor sig (terms (shapes nodes)) n h

-- a seen name of the same representative, and of the same constructor
pub record HasSeen (sig : Signature) (nodes : List Node) (rep : ℕ → ℕ) (seen : List (Option ℕ)) (n : ℕ) : Type 0 where
  pub name : ℕ
  pub is : get_or seen (rep n) None ≡ Some name
  pub constructors : IsConstructors sig nodes name
  pub same : ¬ AreDifferentConstructors sig (terms (shapes nodes)) name n

-- the names of constructors below a number were seen
pub record AreSeen (sig : Signature) (nodes : List Node) (rep : ℕ → ℕ) (seen : List (Option ℕ)) (below : ℕ) : Type 0 where
  pub size : length seen ≡ length nodes
  pub each : (n : ℕ) → n < below → IsConstructors sig nodes n → HasSeen sig nodes rep seen n
  pub only : (r m : ℕ) → get_or seen r None ≡ Some m → (rep m ≡ r) × IsConstructors sig nodes m
