-- Problems of chains alone: no axiom, and each goal a chain of equations between constants of abstract types.
use Rattle.std.specs.Prelude.{ℕ, [], ◌≡◌, slice_get, Some}
use Rattle.std.specs.List.{AllByRecursion}
use Rattle.ae_core.specs.declared.terms.Sort.{Named}
use Rattle.ae_core.specs.declared.terms.Head.TheVariants.{Symbol}
use Rattle.ae_core.specs.declared.terms.Term.{Term, Apply}
use Rattle.ae_core.specs.declared.formulas.Formula.{Formula, Eq, Or, Not}
use Rattle.ae_core.specs.declared.problems.TypeEntry.{TypeEntry}
use Rattle.ae_core.specs.declared.problems.SymbolEntry.{SymbolEntry}
use Rattle.ae_core.specs.declared.problems.Kind.TheVariants.{Abstract}
use Rattle.ae_core.specs.declared.problems.Nature.TheVariants.{Free}
use Rattle.ae_core.specs.declared.problems.Item.{Item}
use Rattle.ae_core.specs.declared.problems.Item.TheVariants.{Axiom, Goal}
use Rattle.ae_core.specs.declared.problems.Signature.{Signature}
use Rattle.ae_core.specs.declared.problems.Problem.{Problem}

-- an entry of a constant of type h
pub record IsConstantOf (h : ℕ) (e : SymbolEntry) : Type 0 where
  pub vars : e.vars ≡ 0
  pub args : e.args ≡ []
  pub result : e.result ≡ Some (Named h [])
  pub free : e.nature ≡ Free

-- an entry of an abstract type without parameters
pub record IsPlainType (t : TypeEntry) : Type 0 where
  pub arity : t.arity ≡ 0
  pub kind : t.kind ≡ Abstract

-- symbol k is a constant of the abstract type h, which has no parameters
pub record IsPlainConstant (sig : Signature) (h k : ℕ) : Type 0 where
  pub entry : SymbolEntry
  pub is_entry : slice_get sig.symbols k ≡ Some entry
  pub is_constant : IsConstantOf h entry
  pub sort : TypeEntry
  pub is_sort : slice_get sig.types h ≡ Some sort
  pub is_plain : IsPlainType sort

-- the term of symbol k without arguments
abbrev pub symbol : ℕ → Term
symbol k = Apply (Symbol k) [] []

-- an equation of two constants of one abstract type
pub record IsPlainEquation (sig : Signature) (f : Formula) : Type 0 where
  pub sort : ℕ
  pub left : ℕ
  pub right : ℕ
  pub is_left : IsPlainConstant sig sort left
  pub is_right : IsPlainConstant sig sort right
  pub is_equation : f ≡ Eq (symbol left) (symbol right)

-- an equation E, or `E -> C` of an equation and a chain: the formula `A -> B` is `Or (Not A) B`
pub data IsChain (sig : Signature) : Formula → Type 0 where
  last : (f : Formula) → IsPlainEquation sig f → IsChain sig f
  implies : (e c : Formula) → IsPlainEquation sig e → IsChain sig c → IsChain sig (Or (Not e) c)

-- a goal without type variables whose formula is a chain
abbrev pub IsChainGoal : Signature → Item → Type 0
IsChainGoal sig (Axiom n v f) = ⊥
IsChainGoal sig (Goal n v f) = (v ≡ 0) × IsChain sig f

-- each item is such a goal; a problem without items is in the reach
pub record IsInReach (p : Problem) : Type 0 where
  pub items : AllByRecursion (IsChainGoal p.signature) p.items
