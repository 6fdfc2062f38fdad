-- What a sweep finds where nothing is left to do. It looks at nodes, representatives and rules alone.
use Rattle.std.specs.Prelude.{ℕ, true, List, [], ◌∷◌, ◌≡◌, ◌≢◌, map, slice_get, Option, Some}
use Rattle.std.specs.List.{AllByRecursion}
use Rattle.ae_core.specs.Sorts.{term_ok}
use Rattle.ae_core.specs.declared.terms.Head.{Head}
use Rattle.ae_core.specs.declared.problems.AcSymbol.{AcSymbol}
use Rattle.ae_multiset.specs.Multisets.{IsPart}
use Rattle.ae_multiset.specs.Rewriting.{IsReduced, OverlapsJoin, ReducesTo}
use Rattle.ae_journal.specs.Systems.{IsJoin}
use Rattle.ae_journal.specs.declared.systems.RuleEntry.{RuleEntry}
use Rattle.ae_core.specs.declared.problems.Signature.{Signature}
use Rattle.ae_store.specs.Shapes.{shapes}
use Rattle.ae_store.specs.Terms.{terms, named}
use Rattle.ae_store.specs.declared.nodes.Node.{Node}
use Rattle.ae_store.specs.declared.nodes.NodeHead.TheVariants.{Of}
use Rattle.ae_settled.specs.Held.{HasRule}

-- each name is its own representative
abbrev pub AreOwn : (ℕ → ℕ) → List ℕ → Type 0
AreOwn rep names = AllByRecursion (λ n. rep n ≡ n) names

-- two nodes apply one head at the same sorts to arguments of the same representatives
pub record AreCongruent (rep : ℕ → ℕ) (p q : Node) : Type 0 where
  pub head : Head
  pub first : p.head ≡ Of head
  pub second : q.head ≡ Of head
  pub sorts : p.sorts ≡ q.sorts
  pub args : map rep p.args ≡ map rep q.args

-- a node applies an AC symbol to two names
pub record IsJoinOf (sig : Signature) (nodes : List Node) (p : Node) (u : AcSymbol) (i j : ℕ) : Type 0 where
  pub head : p.head ≡ Of u.head
  pub sorts : p.sorts ≡ u.sorts
  pub args : p.args ≡ i ∷ j ∷ []
  pub joins : IsJoin sig u.head (named (terms (shapes nodes)) i) (named (terms (shapes nodes)) j)

pub record IsSwept (sig : Signature) (nodes : List Node) (rep : ℕ → ℕ) (rules : ℕ → Option RuleEntry) : Type 0 where
  -- congruent names have one representative; applications of predicates are left out
  pub congruent : (m n : ℕ) (p q : Node) → slice_get nodes m ≡ Some p → slice_get nodes n ≡ Some q → AreCongruent rep p q
      → term_ok sig (named (terms (shapes nodes)) m) ≡ true → rep m ≡ rep n
  -- rules are over representatives, no other rule reduces a left side, and none a right side
  pub left_own : (n : ℕ) (e : RuleEntry) → rules n ≡ Some e → AreOwn rep e.left
  pub right_own : (n : ℕ) (e : RuleEntry) → rules n ≡ Some e → AreOwn rep e.right
  pub left_alone : (m n : ℕ) (d e : RuleEntry) → m ≢ n → rules m ≡ Some d → rules n ≡ Some e → d.symbol ≡ e.symbol → ¬ IsPart d.left e.left
  pub right_reduced : (n : ℕ) (e : RuleEntry) → rules n ≡ Some e → IsReduced (HasRule rules e.symbol) e.right
  -- pairs join
  pub overlaps : (u : AcSymbol) → OverlapsJoin (HasRule rules u)
  -- the two arguments of a name of an AC symbol reduce to the name
  pub flat : (n : ℕ) (p : Node) (u : AcSymbol) (i j : ℕ) → slice_get nodes n ≡ Some p → IsJoinOf sig nodes p u i j
      → ReducesTo (HasRule rules u) (rep i ∷ rep j ∷ []) (rep n ∷ [])
