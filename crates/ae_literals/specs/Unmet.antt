-- Literals that aren't met, by the representatives of names.
use Rattle.std.specs.Prelude.{ℕ, true, false, List, ◌≡◌, ◌≢◌, slice_get, Some}
use Rattle.ae_core.specs.declared.problems.Signature.{Signature}
use Rattle.ae_store.specs.declared.nodes.Node.{Node}
use Rattle.ae_store.specs.Shapes.{shapes}
use Rattle.ae_store.specs.Terms.{terms}
use Rattle.ae_data.specs.Constructors.{AreDifferentConstructors}
use Rattle.ae_settled.specs.Swept.{AreCongruent}
use Rattle.ae_literals.specs.declared.said.Said.{Said}
use Rattle.ae_literals.specs.declared.said.Said.TheVariants.{Equal, Atom}
use Rattle.ae_literals.specs.declared.unmet.Unmet.{Unmet}
use Rattle.ae_literals.specs.declared.unmet.Unmet.TheVariants as unmet

-- the literal at the place says that two names are equal that have different representatives
pub record IsLeftOut (rep : ℕ → ℕ) (said : List Said) (at : ℕ) : Type 0 where
  pub left : ℕ
  pub right : ℕ
  pub is : slice_get said at ≡ Some (Equal true left right)
  pub differ : rep left ≢ rep right

-- it says that two names differ that have one representative
pub record IsContradicted (rep : ℕ → ℕ) (said : List Said) (at : ℕ) : Type 0 where
  pub left : ℕ
  pub right : ℕ
  pub is : slice_get said at ≡ Some (Equal false left right)
  pub same : rep left ≡ rep right

-- two names apply one head at the same sorts to arguments of the same representatives
pub record AreCongruentNames (nodes : List Node) (rep : ℕ → ℕ) (m n : ℕ) : Type 0 where
  pub first : Node
  pub second : Node
  pub first_at : slice_get nodes m ≡ Some first
  pub second_at : slice_get nodes n ≡ Some second
  pub congruent : AreCongruent rep first second

-- one literal says that an atom is true, the other that such an atom is false
pub record AreOpposed (nodes : List Node) (rep : ℕ → ℕ) (said : List Said) (i j : ℕ) : Type 0 where
  pub first : ℕ
  pub second : ℕ
  pub positive : slice_get said i ≡ Some (Atom true first)
  pub negative : slice_get said j ≡ Some (Atom false second)
  pub alike : AreCongruentNames nodes rep first second

-- the names of two different constructors have one representative
pub record AreMixed (sig : Signature) (nodes : List Node) (rep : ℕ → ℕ) (m n : ℕ) : Type 0 where
  pub differ : AreDifferentConstructors sig (terms (shapes nodes)) m n
  pub same : rep m ≡ rep n

abbrev pub IsUnmet : Signature → List Node → (ℕ → ℕ) → List Said → Unmet → Type 0
IsUnmet sig nodes rep said (unmet.LeftOut at) = IsLeftOut rep said at
IsUnmet sig nodes rep said (unmet.Contradicted at) = IsContradicted rep said at
IsUnmet sig nodes rep said (unmet.Opposed i j) = AreOpposed nodes rep said i j
IsUnmet sig nodes rep said (unmet.Mixed m n) = AreMixed sig nodes rep m n

-- nothing is unmet
abbrev pub AreAllMet : Signature → List Node → (ℕ → ℕ) → List Said → Type 0
AreAllMet sig nodes rep said = (u : Unmet) → ¬ IsUnmet sig nodes rep said u
