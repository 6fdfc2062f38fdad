-- What the value of a name is made of, by the sort of its term: a number of its own number, a record of its fields' values, and another name of its
-- own leaf.
use Rattle.std.specs.Prelude.{ℕ, ◌≤◌, true, false, List, [], ◌∷◌, ◌≡◌, length, slice_get, Some, None}
use Rattle.ae_core.specs.Sorts.{sort_of, is_numeric}
use Rattle.ae_core.specs.declared.terms.Sort.{Sort}
use Rattle.ae_core.specs.declared.terms.Term.{Term}
use Rattle.ae_core.specs.declared.problems.Signature.{Signature}
use Rattle.ae_journal.specs.Systems.{IsPredicateName, record_fields, field_terms}
use Rattle.ae_store.specs.Terms.{named, IsOfSort}
use Rattle.ae_value_table.specs.declared.patterns.Pattern.{Pattern, Number, Leaf, Fields}
use Rattle.ae_value_table.specs.declared.patterns.Entry.{Entry}

mutual
  pub data IsPatternOf (sig : Signature) (ts : List Term) : ℕ → Pattern → Type 0 where
    of_number : (n : ℕ) (p : Pattern) (t : Term) (s : Sort) → slice_get ts n ≡ Some t → sort_of sig t ≡ Some s → is_numeric s ≡ true → p ≡ Number n
        → IsPatternOf sig ts n p
    of_record : (n : ℕ) (p : Pattern) (t : Term) (s : Sort) (ss : List Sort) (ps : List Pattern) → slice_get ts n ≡ Some t → sort_of sig t ≡ Some s → record_fields sig s ≡ Some ss
        → ArePatternsOf sig ts (field_terms s t (length ss)) ps → p ≡ Fields n ps → IsPatternOf sig ts n p
    of_other : (n : ℕ) (p : Pattern) (t : Term) (s : Sort) → slice_get ts n ≡ Some t → sort_of sig t ≡ Some s → is_numeric s ≡ false → record_fields sig s ≡ None → p ≡ Leaf n
        → IsPatternOf sig ts n p
    of_predicate : (n : ℕ) (p : Pattern) (t : Term) → slice_get ts n ≡ Some t → IsPredicateName sig t → p ≡ Leaf n → IsPatternOf sig ts n p

  -- the patterns are those of names of the terms, one by one
  pub data ArePatternsOf (sig : Signature) (ts : List Term) : List Term → List Pattern → Type 0 where
    no_term : ArePatternsOf sig ts [] []
    a_term : (n : ℕ) (t : Term) (us : List Term) (p : Pattern) (ps : List Pattern) → slice_get ts n ≡ Some t → IsPatternOf sig ts n p → ArePatternsOf sig ts us ps
        → ArePatternsOf sig ts (t ∷ us) (p ∷ ps)

-- what is known of the name for good
pub record IsEntryOf (sig : Signature) (ts : List Term) (n : ℕ) (e : Entry) : Type 0 where
  pub sort : IsOfSort sig (named ts n) e.sort
  pub pattern : IsPatternOf sig ts n e.pattern

-- what is known of the first names
pub record AreEntriesOf (sig : Signature) (ts : List Term) (es : List Entry) : Type 0 where
  pub within : length es ≤ length ts
  pub each : (n : ℕ) (e : Entry) → slice_get es n ≡ Some e → IsEntryOf sig ts n e
