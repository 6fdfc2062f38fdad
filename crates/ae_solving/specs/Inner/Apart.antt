-- Names and patterns of one sort that have different values.
use Rattle.std.specs.Prelude.{ℕ, ◌<◌, ◌≡◌, ◌≢◌, false, List, [], ◌∷◌, map, length, slice_get, Some, None}
use Rattle.ae_core.specs.Sorts.{sort_of}
use Rattle.ae_core.specs.declared.terms.Head.TheVariants as head
use Rattle.ae_core.specs.declared.terms.Sort.{Sort}
use Rattle.ae_core.specs.declared.terms.Term.{Term, Apply}
use Rattle.ae_core.specs.declared.problems.Signature.{Signature}
use Rattle.ae_equal_steps.specs.Inner.Pairs.{IsOf}
use Rattle.ae_equal_steps.specs.Inner.Parts.{name_of}
use Rattle.ae_journal.specs.Systems.{record_fields}
use Rattle.ae_just.specs.declared.steps.Step.{Step}
use Rattle.ae_state_steps.specs.ValueSteps.{StatesEqual}
use Rattle.ae_store.specs.Terms.{named}
use Rattle.ae_value_table.specs.Alike.{alike}
use Rattle.ae_value_table.specs.Table.{Contents, value_in}
use Rattle.ae_value_table.specs.declared.patterns.Pattern.{Pattern}

-- ---- patterns
-- the patterns are of names of one sort
pub record AreOfOneSort (sig : Signature) (ts : List Term) (c : Contents) (p q : Pattern) : Type 0 where
  pub sort : Sort
  pub left : IsOf sig ts c sort p (name_of p)
  pub right : IsOf sig ts c sort q (name_of q)

-- and have different values
pub record AreApart (sig : Signature) (ts : List Term) (c : Contents) (p q : Pattern) : Type 0 where
  pub both : AreOfOneSort sig ts c p q
  pub differ : value_in c p ≢ value_in c q

-- so do two lists of patterns, which are of one sort place by place
pub record AreListsApart (sig : Signature) (ts : List Term) (c : Contents) (ps qs : List Pattern) : Type 0 where
  pub as_many : length qs ≡ length ps
  pub each : (i : ℕ) (p q : Pattern) → slice_get ps i ≡ Some p → slice_get qs i ≡ Some q → AreOfOneSort sig ts c p q
  pub differ : ◌≢◌ (map (value_in c) ps) (map (value_in c) qs)

-- the patterns in a place of two lists have different values
pub record ArePlacesApart (c : Contents) (ps qs : List Pattern) (place : ℕ) : Type 0 where
  pub first : Pattern
  pub second : Pattern
  pub first_there : slice_get ps place ≡ Some first
  pub second_there : slice_get qs place ≡ Some second
  pub differ : value_in c first ≢ value_in c second

-- ---- names
-- the names are one field of two names that the step equates
pub record AreFieldsOf (sig : Signature) (ts : List Term) (steps : List Step) (left right step : ℕ) : Type 0 where
  pub type : ℕ
  pub place : ℕ
  pub sorts : List Sort
  pub first : ℕ
  pub second : ℕ
  pub left_is : named ts left ≡ Apply (head.Field type place) sorts (named ts first ∷ [])
  pub right_is : named ts right ≡ Apply (head.Field type place) sorts (named ts second ∷ [])
  pub states : StatesEqual steps step first second
  pub sort : Sort
  pub sorted : sort_of sig (named ts left) ≡ Some sort

-- the names are of one sort, which is no record's, and have different values
pub record AreToJoin (sig : Signature) (ts : List Term) (c : Contents) (m n : ℕ) : Type 0 where
  pub sort : Sort
  pub left : sort_of sig (named ts m) ≡ Some sort
  pub right : sort_of sig (named ts n) ≡ Some sort
  pub plain : record_fields sig sort ≡ None
  pub left_within : m < length ts
  pub right_within : n < length ts
  pub apart : alike c m n ≡ false
