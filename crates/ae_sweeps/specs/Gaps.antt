-- What is left to do.
use Rattle.std.specs.Prelude.{ℕ, ◌<◌, List, [], ◌∷◌, ◌≡◌, ◌≢◌, ◌⊎◌, slice_get, Option, Some, None}
use Rattle.ae_core.specs.declared.terms.Head.{Head}
use Rattle.ae_core.specs.declared.terms.Head.TheVariants as head
use Rattle.ae_core.specs.declared.problems.AcSymbol.{AcSymbol}
use Rattle.ae_core.specs.declared.problems.Signature.{Signature}
use Rattle.ae_core.specs.declared.problems.SymbolEntry.{SymbolEntry}
use Rattle.ae_multiset.specs.Multisets.{count, IsSame, IsPart}
use Rattle.ae_multiset.specs.Rewriting.{IsReduced, ReducesTo, overlap_first, overlap_second}
use Rattle.ae_journal.specs.declared.systems.RuleEntry.{RuleEntry}
use Rattle.ae_store.specs.declared.nodes.Node.{Node}
use Rattle.ae_settled.specs.Held.{HasRule}
use Rattle.ae_settled.specs.Swept.{AreOwn, AreCongruent, IsJoinOf}
use Rattle.ae_sweeps.specs.declared.gaps.Gap.{Gap}
use Rattle.ae_sweeps.specs.declared.gaps.Gap.TheVariants as gap

-- a multiset reduces to another, which no rule reduces
pub record Ends (R : List ℕ → List ℕ → Type 0) (a b : List ℕ) : Type 0 where
  pub follows : ReducesTo R a b
  pub reduced : IsReduced R b

-- a declared predicate
abbrev pub IsPredicate : Signature → Head → Type 0
IsPredicate sig (head.Symbol p) = (e : SymbolEntry) × (slice_get sig.symbols p ≡ Some e) × (e.result ≡ None)
IsPredicate sig _ = ⊥

-- ---- rules
-- a side of the rule has a name that is no representative
pub record IsStale (rep : ℕ → ℕ) (rules : ℕ → Option RuleEntry) (n : ℕ) : Type 0 where
  pub rule : RuleEntry
  pub there : rules n ≡ Some rule
  pub stale : AreOwn rep rule.left → AreOwn rep rule.right → ⊥

-- a rule reduces the right side of the rule
pub record IsUncomposed (rules : ℕ → Option RuleEntry) (n : ℕ) : Type 0 where
  pub rule : RuleEntry
  pub there : rules n ≡ Some rule
  pub fits : IsReduced (HasRule rules rule.symbol) rule.right → ⊥

-- two rules of one symbol
pub record ArePair (rules : ℕ → Option RuleEntry) (m n : ℕ) (d e : RuleEntry) : Type 0 where
  pub first : rules m ≡ Some d
  pub second : rules n ≡ Some e
  pub before : m < n
  pub symbols : d.symbol ≡ e.symbol

-- the left side of one of them is a part of that of the other
pub record IsCollapsible (rules : ℕ → Option RuleEntry) (m n : ℕ) : Type 0 where
  pub first : RuleEntry
  pub second : RuleEntry
  pub pair : ArePair rules m n first second
  pub part : IsPart first.left second.left ⊎ IsPart second.left first.left

-- the left sides share a name, and the two results of their overlap reduce to different multisets, which are these
pub record IsOpen (rules : ℕ → Option RuleEntry) (m n : ℕ) (a b : List ℕ) : Type 0 where
  pub first : RuleEntry
  pub second : RuleEntry
  pub pair : ArePair rules m n first second
  pub shared : ℕ
  pub in_first : 0 < count shared first.left
  pub in_second : 0 < count shared second.left
  pub left : Ends (HasRule rules first.symbol) (overlap_first first.left first.right second.left) a
  pub right : Ends (HasRule rules first.symbol) (overlap_second first.left second.left second.right) b
  pub differ : IsSame a b → ⊥

-- ---- names
-- the representatives of the two arguments of a name of an AC symbol reduce to another multiset than the name's own alone
pub record IsUnflat (sig : Signature) (nodes : List Node) (rep : ℕ → ℕ) (rules : ℕ → Option RuleEntry) (n : ℕ) (a : List ℕ) : Type 0 where
  pub node : Node
  pub at : slice_get nodes n ≡ Some node
  pub symbol : AcSymbol
  pub left : ℕ
  pub right : ℕ
  pub joins : IsJoinOf sig nodes node symbol left right
  pub ends : Ends (HasRule rules symbol) (rep left ∷ rep right ∷ []) a
  pub differ : IsSame a (rep n ∷ []) → ⊥

-- two names apply one head, which is no predicate, at the same sorts to arguments of the same representatives
pub record AreAlike (sig : Signature) (nodes : List Node) (rep : ℕ → ℕ) (m n : ℕ) : Type 0 where
  pub first : Node
  pub second : Node
  pub first_at : slice_get nodes m ≡ Some first
  pub second_at : slice_get nodes n ≡ Some second
  pub congruent : AreCongruent rep first second
  pub value : ¬ IsPredicate sig congruent.head

-- such names have different representatives
pub record IsUnequal (sig : Signature) (nodes : List Node) (rep : ℕ → ℕ) (m n : ℕ) : Type 0 where
  pub alike : AreAlike sig nodes rep m n
  pub differ : rep m ≢ rep n

-- ---- all of it
abbrev pub IsGap : Signature → List Node → (ℕ → ℕ) → (ℕ → Option RuleEntry) → Gap → Type 0
IsGap sig nodes rep rules (gap.Stale n) = IsStale rep rules n
IsGap sig nodes rep rules (gap.Uncomposed n) = IsUncomposed rules n
IsGap sig nodes rep rules (gap.Collapsible m n) = IsCollapsible rules m n
IsGap sig nodes rep rules (gap.Pair m n a b) = IsOpen rules m n a.names b.names
IsGap sig nodes rep rules (gap.Unflat n a) = IsUnflat sig nodes rep rules n a.names
IsGap sig nodes rep rules (gap.Unequal m n) = IsUnequal sig nodes rep m n
