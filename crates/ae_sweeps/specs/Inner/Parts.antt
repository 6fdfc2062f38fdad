-- What holds of a rule, of two rules, and of a name about which nothing is left to do.
use Rattle.std.specs.Prelude.{ℕ, ◌<◌, List, [], ◌∷◌, ◌≡◌, slice_get, Option, Some}
use Rattle.ae_core.specs.declared.terms.Head.{Head}
use Rattle.ae_core.specs.declared.terms.Head.TheVariants as head
use Rattle.ae_core.specs.declared.terms.Op.TheVariants as op
use Rattle.ae_core.specs.declared.problems.AcSymbol.{AcSymbol}
use Rattle.ae_core.specs.declared.problems.Signature.{Signature}
use Rattle.ae_multiset.specs.Multisets.{count, IsPart}
use Rattle.ae_multiset.specs.Rewriting.{IsReduced, Joins, ReducesTo, overlap_first, overlap_second}
use Rattle.ae_journal.specs.Systems.{IsJoin}
use Rattle.ae_journal.specs.declared.systems.RuleEntry.{RuleEntry}
use Rattle.ae_store.specs.Shapes.{shapes}
use Rattle.ae_store.specs.Terms.{terms, named}
use Rattle.ae_store.specs.declared.nodes.Node.{Node}
use Rattle.ae_store.specs.declared.nodes.NodeHead.TheVariants.{Of}
use Rattle.ae_settled.specs.Held.{HasRule}
use Rattle.ae_settled.specs.Swept.{AreOwn, IsJoinOf}

-- the sides of a rule are over representatives, and no rule reduces the right one
pub record AreSidesSwept (rep : ℕ → ℕ) (rules : ℕ → Option RuleEntry) (n : ℕ) : Type 0 where
  pub left_own : (e : RuleEntry) → rules n ≡ Some e → AreOwn rep e.left
  pub right_own : (e : RuleEntry) → rules n ≡ Some e → AreOwn rep e.right
  pub right_reduced : (e : RuleEntry) → rules n ≡ Some e → IsReduced (HasRule rules e.symbol) e.right

-- of two rules of one symbol no left side is a part of the other, and where they share a name both results of Deduce reduce to one multiset
pub record IsPairSwept (rules : ℕ → Option RuleEntry) (m n : ℕ) : Type 0 where
  pub first : (d e : RuleEntry) → rules m ≡ Some d → rules n ≡ Some e → d.symbol ≡ e.symbol → ¬ IsPart d.left e.left
  pub second : (d e : RuleEntry) → rules m ≡ Some d → rules n ≡ Some e → d.symbol ≡ e.symbol → ¬ IsPart e.left d.left
  pub joins : (d e : RuleEntry) → rules m ≡ Some d → rules n ≡ Some e → d.symbol ≡ e.symbol → (x : ℕ) → 0 < count x d.left → 0 < count x e.left
      → Joins (HasRule rules d.symbol) (overlap_first d.left d.right e.left) (overlap_second d.left e.left e.right)

-- the product of a numeric sort
abbrev pub IsProduct : Head → Type 0
IsProduct (head.Int op.Mul) = Unit {0}
IsProduct (head.Real op.Mul) = Unit {0}
IsProduct _ = ⊥

-- a name applies an AC symbol of this head to these two names
pub record Joined (sig : Signature) (nodes : List Node) (n : ℕ) (h : Head) (i j : ℕ) : Type 0 where
  pub node : Node
  pub at : slice_get nodes n ≡ Some node
  pub head : node.head ≡ Of h
  pub args : node.args ≡ i ∷ j ∷ []
  pub joins : IsJoin sig h (named (terms (shapes nodes)) i) (named (terms (shapes nodes)) j)

-- the representatives of the two arguments reduce to that of the name, where it applies an AC symbol
pub record IsNameSwept (sig : Signature) (nodes : List Node) (rep : ℕ → ℕ) (rules : ℕ → Option RuleEntry) (n : ℕ) : Type 0 where
  pub flat : (p : Node) (u : AcSymbol) (i j : ℕ) → slice_get nodes n ≡ Some p → IsJoinOf sig nodes p u i j
      → ReducesTo (HasRule rules u) (rep i ∷ rep j ∷ []) (rep n ∷ [])
