-- Equations between names, each taken as a constant.
use Rattle.std.specs.Prelude.{ℕ, ◌≤◌, Bool, true, false, cond, nat_eq, List, ◌++◌, ◌≡◌, length, slice_get, Some}
use Rattle.std.specs.List.{Contains, fold}
use Rattle.ae_core.specs.Sorts.{sort_of}
use Rattle.ae_core.specs.declared.terms.Sort.{Sort}
use Rattle.ae_core.specs.declared.terms.Term.{Term}
use Rattle.ae_core.specs.declared.formulas.Formula.{Eq}
use Rattle.ae_core.specs.declared.formulas.Lit.{Lit}
use Rattle.ae_store.specs.Stores.{Stored}
use Rattle.ae_theory.specs.Tagged.{Tagged}
use Rattle.std.proofs.Common.{refl, ◌∙◌}
use Rattle.ae_theory.specs.Names.{Extends, HaveOneSort, terms_in}
use Rattle.ae_theory.specs.Paths.{Paths, list_at, standing}
use Rattle.ae_theory.specs.declared.nodes.Node.{Node}
use Rattle.ae_theory.specs.declared.nodes.Edge.{Edge}
use Rattle.ae_theory.specs.declared.nodes.Edge.TheVariants.{Same, Apart, Other}

abbrev pub tagged : Node → Tagged
tagged x = record { lit = x.lit; tag = x.tag }

-- what stands for each name after an equation, where `rep` stood for it before: what stood for the right side gives way to what stood for the left one
abbrev pub merged_by : (ℕ → ℕ) → Edge → ℕ → ℕ
merged_by rep (Same l r) n = cond (nat_eq (rep n) (rep r)) (rep l) (rep n)
merged_by rep (Apart l r) n = rep n
merged_by rep Other n = rep n

abbrev pub merged : (ℕ → ℕ) → Node → ℕ → ℕ
merged rep x = merged_by rep x.edge

-- what stands for a name by all equations of a list; alone each name stands for itself
abbrev pub class_of : List Node → ℕ → ℕ
class_of xs = fold merged (λ n. n) xs

-- the literal is the equation of the terms of two names, which are of one sort, or its negation
pub record IsEquation (s : Stored) (positive : Bool) (x : Lit) (l r : ℕ) : Type 0 where
  pub left : Term
  pub right : Term
  pub sort : Sort
  pub is : x ≡ record { positive = positive; formula = Eq left right }
  pub left_at : slice_get (terms_in s) l ≡ Some left
  pub right_at : slice_get (terms_in s) r ≡ Some right
  pub left_sorted : sort_of s.signature left ≡ Some sort
  pub right_sorted : sort_of s.signature right ≡ Some sort

-- an edge is right for a literal
abbrev pub IsEdgeOf : Stored → Lit → Edge → Type 0
IsEdgeOf s x (Same l r) = IsEquation s true x l r
IsEdgeOf s x (Apart l r) = IsEquation s false x l r
IsEdgeOf s x Other = Unit {0}

-- each node's edge is right for its literal
abbrev pub AllFit : Stored → List Node → Type 0
AllFit s nodes = (k : ℕ) (x : Node) → slice_get nodes k ≡ Some x → IsEdgeOf s x.lit x.edge

-- each node's edge is right for its literal, and the names that a place makes the same are of one sort
pub record AreRight (nodes : List Node) (s : Stored) : Type 0 where
  pub each : AllFit s nodes
  pub sorted : (place m n : ℕ) → class_of (list_at nodes place) m ≡ class_of (list_at nodes place) n → HaveOneSort s m n

-- so it is in the store, and in each that has more terms
abbrev pub FitsFrom : List Node → Stored → Type 0
FitsFrom nodes s = (t : Stored) → Extends s t → AreRight nodes t

abbrev pub extends_itself : (s : Stored) → Extends s s
extends_itself s = record { signature = refl; keeps = λ i t e. e }

abbrev pub extends_more : (a b c : Stored) → Extends a b → Extends b c → Extends a c
extends_more a b c e f = record { signature = f.signature ∙ e.signature; keeps = λ i t h. f.keeps i t (e.keeps i t h) }

-- the node says that two names differ which the nodes of the list make the same
abbrev pub ClashesBy : List Node → Edge → Type 0
ClashesBy xs (Same l r) = ⊥
ClashesBy xs (Apart l r) = class_of xs l ≡ class_of xs r
ClashesBy xs Other = ⊥

abbrev pub Clashes : List Node → Node → Type 0
Clashes xs x = ClashesBy xs x.edge

abbrev pub NoneClashes : List Node → Type 0
NoneClashes xs = (x : Node) → Contains xs x → ¬ Clashes xs x

-- node number k is one of those that count, and clashes with them
pub record IsConflict (o : Paths) (k : ℕ) : Type 0 where
  pub node : Node
  pub at : slice_get o.nodes k ≡ Some node
  pub stands : Contains (standing o) node
  pub clashes : Clashes (standing o) node

-- the place is the last one that counted then; the nodes of then are there
pub record IsMark (o : Paths) (place : ℕ) (then : Paths) : Type 0 where
  pub is : place ≡ then.last
  pub within : then.last ≤ length then.nodes
  pub more : List Node
  pub grown : o.nodes ≡ then.nodes ++ more
