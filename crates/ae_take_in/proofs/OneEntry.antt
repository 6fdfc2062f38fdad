-- One entry more.
use Rattle.std.specs.Prelude.{ℕ, ◌+◌, ◌<◌, ◌≡◌, ◌⊎◌, List, [], ◌∷◌, ◌++◌, length, slice_get, Some}
use Rattle.std.proofs.Common.{sym, subst, arith, inl, inr}
use Rattle.std.proofs.lemmas.List.{length_push}
use Rattle.ae_core.specs.declared.terms.Term.{Term}
use Rattle.ae_core.specs.declared.problems.Signature.{Signature}
use Rattle.ae_store.proofs.Gets.{get_pushed}
use Rattle.ae_value_table.specs.declared.patterns.Entry.{Entry}
use Rattle.ae_patterns.specs.Patterns.{IsEntryOf, AreEntriesOf}

pub entries_push : (sig : Signature) (ts : List Term) (es : List Entry) (e : Entry) → AreEntriesOf sig ts es → length es < length ts → IsEntryOf sig ts (length es) e → AreEntriesOf sig ts (es ++ e ∷ [])
entries_push sig ts es e are l h = record {
  within = let n : length (es ++ e ∷ []) ≡ length es + 1 = length_push es e in omega (arith, n, l);
  each = λ n x at. by_place n x (get_pushed es e n x at);
}
  where
    by_place : (n : ℕ) (x : Entry) → (slice_get es n ≡ Some x) ⊎ ((n ≡ length es) × (e ≡ x)) → IsEntryOf sig ts n x
    by_place n x (inl at) = are.each n x at
    by_place n x (inr s) = subst (λ (k : ℕ). IsEntryOf sig ts k x) (sym s.0) (subst (IsEntryOf sig ts (length es)) s.1 h)
