-- Lists of terms that hold the parts of their terms.
use Rattle.std.specs.Prelude.{ℕ, List, ◌≡◌, ◌⊎◌, length, slice_get, Some}
use Rattle.std.specs.List.{AllByRecursion}
use Rattle.ae_core.specs.Sorts.{sort_of}
use Rattle.ae_core.specs.declared.terms.Sort.{Sort}
use Rattle.ae_core.specs.declared.terms.Term.{Term, Apply}
use Rattle.ae_core.specs.declared.terms.Head.{Head}
use Rattle.ae_core.specs.declared.problems.Signature.{Signature}
use Rattle.ae_journal.specs.Systems.{IsPredicateName, record_fields, field_terms}
use Rattle.ae_store.specs.Terms.{HasOneName}

abbrev pub IsAmong : List Term → Term → Type 0
IsAmong ts t = (n : ℕ) × (slice_get ts n ≡ Some t)

-- the terms are closed, well sorted or predicates' applications, and all different; with a term stand its arguments and, for a record sort, its fields
pub record AreClosed (sig : Signature) (ts : List Term) : Type 0 where
  pub sorted : (n : ℕ) (t : Term) → slice_get ts n ≡ Some t → ((s : Sort) × (sort_of sig t ≡ Some s)) ⊎ IsPredicateName sig t
  pub apart : HasOneName ts
  pub arguments : (n : ℕ) (h : Head) (ss : List Sort) (us : List Term) → slice_get ts n ≡ Some (Apply h ss us) → AllByRecursion (IsAmong ts) us
  pub fields : (n : ℕ) (t : Term) (s : Sort) (ss : List Sort) → slice_get ts n ≡ Some t → sort_of sig t ≡ Some s → record_fields sig s ≡ Some ss
      → AllByRecursion (IsAmong ts) (field_terms s t (length ss))
