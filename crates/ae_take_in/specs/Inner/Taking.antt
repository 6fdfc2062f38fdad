-- Names that are taken in one after another.
use Rattle.std.specs.Prelude.{ℕ, suc, ◌<◌, ◌≤◌, ◌≡◌, ◌≢◌, List, []}
use Rattle.ae_core.specs.declared.terms.Term.{Term}
use Rattle.ae_core.specs.declared.problems.Signature.{Signature}
use Rattle.ae_just.specs.declared.steps.Step.{Step}
use Rattle.ae_strips.specs.Stripping.{StripsTo}
use Rattle.ae_value_table.specs.Table.{Contents, own, number_at, leaf_at}
use Rattle.ae_value_fitting.specs.Fitting.{AreSaid}
use Rattle.ae_value_fitting.specs.Sources.{AreFromValues}
use Rattle.ae_entering.specs.Firsts.{AreFirst}
use Rattle.ae_take_in.specs.Computing.{IsComputed}
use Rattle.ae_take_in.specs.Inner.Next.{AreBelow}

-- the name is its own number and its own leaf, where nothing computes it and it comes down to no other
abbrev pub IsOwnIfFree : List Term → Contents → ℕ → Type 0
IsOwnIfFree ts c n = (IsComputed ts n → ⊥) → StripsTo ts n n → (number_at c n ≡ own n) × (leaf_at c n ≡ n)

-- the name has what its term gives it, said by a step, and the others have what they had
pub record IsTakenNext (sig : Signature) (ts : List Term) (js ks : List Step) (old new : Contents) (n : ℕ) : Type 0 where
  pub first : AreFirst sig ts (suc n) (number_at new) (leaf_at new)
  pub below : AreBelow (suc n) new
  pub said : AreSaid sig ts ks new
  pub sources : AreFromValues js ks old new []
  pub others : (k : ℕ) → k ≢ n → (number_at new k ≡ number_at old k) × (leaf_at new k ≡ leaf_at old k)
  pub free : IsOwnIfFree ts new n

-- so have all names from `from` to n
pub record AreTakenTo (sig : Signature) (ts : List Term) (js ks : List Step) (old new : Contents) (from n : ℕ) : Type 0 where
  pub first : AreFirst sig ts n (number_at new) (leaf_at new)
  pub below : AreBelow n new
  pub said : AreSaid sig ts ks new
  pub sources : AreFromValues js ks old new []
  pub kept : (k : ℕ) → k < from → (number_at new k ≡ number_at old k) × (leaf_at new k ≡ leaf_at old k)
  pub free : (k : ℕ) → from ≤ k → k < n → IsOwnIfFree ts new k
