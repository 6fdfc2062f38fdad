-- A step on the numbers of the operands of a new name, of which a product or a sum leaves the limits.
use Rattle.std.specs.Prelude.{ℕ, ◌<◌, ◌≤◌, List, ◌≡◌, length}
use Rattle.ae_core.specs.declared.terms.Term.{Term}
use Rattle.ae_core.specs.declared.problems.Signature.{Signature}
use Rattle.ae_num.specs.declared.forms.Lin.{Lin}
use Rattle.ae_journal.specs.declared.answers.WideAt.{WideAt}
use Rattle.ae_strips.specs.Stripping.{StripsTo}
use Rattle.ae_value_table.specs.Table.{Contents, own, number_at, leaf_at}
use Rattle.ae_entering.specs.Firsts.{AreFirst}
use Rattle.ae_take_in.specs.Computing.{IsComputed}
use Rattle.ae_take_in.specs.Widths.{IsOperandWidth}

-- the names before a name have the numbers and the leaves that their terms give, the old ones those that they had, and all new ones that nothing
-- computes and that come down to no other their own; the step is one on the numbers of that name's operands
pub record IsTakingWidth (sig : Signature) (ts : List Term) (c : Contents) (w : WideAt) : Type 0 where
  pub name : ℕ
  pub within : name < length ts
  pub number : ℕ → Lin
  pub leaf : ℕ → ℕ
  pub first : AreFirst sig ts name number leaf
  pub kept : (k : ℕ) → k < c.taken → (number k ≡ number_at c k) × (leaf k ≡ leaf_at c k)
  pub free : (k : ℕ) → c.taken ≤ k → (IsComputed ts k → ⊥) → StripsTo ts k k → (number k ≡ own k) × (leaf k ≡ k)
  pub wide : IsOperandWidth ts number name w
