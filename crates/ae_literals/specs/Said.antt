-- What literals say of the names of a store.
use Rattle.std.specs.Prelude.{ℕ, ◌<◌, Bool, List, ◌≡◌, map, slice_get, Some}
use Rattle.std.specs.List.{AllByRecursion, Contains}
use Rattle.ae_core.specs.declared.terms.Sort.{Sort}
use Rattle.ae_core.specs.declared.terms.Term.{Term}
use Rattle.ae_core.specs.declared.terms.Head.TheVariants.{Symbol}
use Rattle.ae_core.specs.declared.formulas.Formula.{Pred}
use Rattle.ae_core.specs.declared.formulas.Lit.{Lit}
use Rattle.ae_store.specs.declared.nodes.Node.{Node}
use Rattle.ae_store.specs.declared.nodes.NodeHead.TheVariants.{Of}
use Rattle.ae_store.specs.Stores.{Stored}
use Rattle.ae_store.specs.Terms.{named}
use Rattle.ae_theory.specs.Names.{terms_in}
use Rattle.ae_theory.specs.Classes.{IsEquation}
use Rattle.ae_literals.specs.declared.said.Said.{Said}
use Rattle.ae_literals.specs.declared.said.Said.TheVariants.{Equal, Atom, Other}

-- the name is that of a predicate's application
pub record IsAtomOf (s : Stored) (n : ℕ) (predicate : ℕ) (sorts : List Sort) (args : List Term) : Type 0 where
  pub node : Node
  pub at : slice_get s.nodes n ≡ Some node
  pub head : node.head ≡ Of (Symbol predicate)
  pub sorts_are : node.sorts ≡ sorts
  pub args_are : map (named (terms_in s)) node.args ≡ args

-- the literal is the application that this name stands for, or its negation
pub record IsAtom (s : Stored) (positive : Bool) (x : Lit) (n : ℕ) : Type 0 where
  pub predicate : ℕ
  pub sorts : List Sort
  pub args : List Term
  pub is : x ≡ record { positive = positive; formula = Pred predicate sorts args }
  pub of : IsAtomOf s n predicate sorts args

-- the literal is neither an equation of two names nor an atom that has a name, nor the negation of one
pub record IsOther (s : Stored) (x : Lit) : Type 0 where
  pub no_equation : (b : Bool) (l r : ℕ) → ¬ IsEquation s b x l r
  pub no_atom : (b : Bool) (n : ℕ) → ¬ IsAtom s b x n

abbrev pub Says : Stored → Lit → Said → Type 0
Says s x (Equal b l r) = IsEquation s b x l r
Says s x (Atom b n) = IsAtom s b x n
Says s x Other = IsOther s x

-- what each literal says is in the list
pub record AreSaid (s : Stored) (said : List Said) (ls : List Lit) : Type 0 where
  pub place : (x : Lit) → Contains ls x → ℕ
  pub what : (x : Lit) → Contains ls x → Said
  pub at : (x : Lit) (c : Contains ls x) → slice_get said (place x c) ≡ Some (what x c)
  pub says : (x : Lit) (c : Contains ls x) → Says s x (what x c)

-- the names are below a number
abbrev pub IsWithin : ℕ → Said → Type 0
IsWithin below (Equal b l r) = (l < below) × (r < below)
IsWithin below (Atom b n) = n < below
IsWithin below Other = Unit {0}

abbrev pub AreWithin : ℕ → List Said → Type 0
AreWithin below said = AllByRecursion (IsWithin below) said
