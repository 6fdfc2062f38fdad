-- What a sweep finds where rules are composed.
use Rattle.std.specs.Prelude.{ℕ, ◌≡◌, List, slice_get, Option, Some}
use Rattle.ae_core.specs.declared.problems.AcSymbol.{AcSymbol}
use Rattle.ae_core.specs.declared.problems.Signature.{Signature}
use Rattle.ae_journal.specs.declared.systems.RuleEntry.{RuleEntry}
use Rattle.ae_settled.specs.Swept.{IsJoinOf}
use Rattle.ae_store.specs.declared.nodes.Node.{Node}
use Rattle.ae_sweeps.specs.Gaps.{IsUnequal, IsUnflat, IsOpen}
use Rattle.ae_sweeps.specs.declared.gaps.Gap.{Gap}
use Rattle.ae_sweeps.specs.declared.gaps.Gap.TheVariants as gap
use Rattle.ae_gaps.specs.declared.openings.Opening.{Opening}
use Rattle.ae_gaps.specs.declared.openings.Opening.TheVariants as opening

-- a gap about the sides of rules
abbrev pub IsOfSides : Gap → Type 0
IsOfSides (gap.Stale n) = Unit {0}
IsOfSides (gap.Uncomposed n) = Unit {0}
IsOfSides (gap.Collapsible m n) = Unit {0}
IsOfSides (gap.Pair m n a b) = ⊥
IsOfSides (gap.Unflat n a) = ⊥
IsOfSides (gap.Unequal m n) = ⊥

-- some multisets show that it is left to do
abbrev pub IsOpening : Signature → List Node → (ℕ → ℕ) → (ℕ → Option RuleEntry) → Opening → Type 0
IsOpening sig nodes rep rules (opening.Unequal m n) = IsUnequal sig nodes rep m n
IsOpening sig nodes rep rules (opening.Unflat n) = (a : List ℕ) × IsUnflat sig nodes rep rules n a
IsOpening sig nodes rep rules (opening.Pair m n) = (a : List ℕ) × (b : List ℕ) × IsOpen rules m n a b

-- the name applies an AC symbol to two names
pub record IsJoined (sig : Signature) (nodes : List Node) (n : ℕ) : Type 0 where
  pub node : Node
  pub at : slice_get nodes n ≡ Some node
  pub symbol : AcSymbol
  pub left : ℕ
  pub right : ℕ
  pub joins : IsJoinOf sig nodes node symbol left right
