-- Two names of one sort and one value, by what their values are made of.
use Rattle.std.specs.Prelude.{ℕ, ◌<◌, ◌≡◌, Bool, List, [], ◌∷◌, length, slice_get, Some}
use Rattle.ae_core.specs.Sorts.{sort_of}
use Rattle.ae_core.specs.declared.terms.Sort.{Sort}
use Rattle.ae_core.specs.declared.terms.Term.{Term}
use Rattle.ae_core.specs.declared.problems.Signature.{Signature}
use Rattle.ae_just.specs.declared.steps.Step.{Step}
use Rattle.ae_just.specs.Steps.{Fits}
use Rattle.ae_settled.specs.Valued.{AreValues}
use Rattle.ae_state_steps.specs.ValueSteps.{sort_for, IsNumberName, StatesEqual}
use Rattle.ae_store.specs.Shapes.{shapes}
use Rattle.ae_store.specs.Stores.{Stored, IsStore}
use Rattle.ae_store.specs.Terms.{terms, named}
use Rattle.ae_value_table.specs.declared.patterns.Pattern.{Pattern}
use Rattle.ae_value_table.specs.declared.patterns.Entry.{Entry}
use Rattle.ae_value_table.specs.Table.{Contents, number_at, leaf_at, value_in, held}
use Rattle.ae_value_fitting.specs.Fitting.{system_in, ArePatterns, AreSaid}
use Rattle.ae_value_fitting.specs.Sources.{RestsOnValues}
use Rattle.ae_equal_steps.specs.Inner.Parts.{name_of}

-- what is held fits the store, and steps say it
pub record IsHeld (s : Stored) (steps : List Step) (c : Contents) : Type 0 where
  pub store : IsStore s.signature s.nodes
  pub fits : Fits s.signature (terms (shapes s.nodes)) steps
  pub patterns : ArePatterns s.signature (terms (shapes s.nodes)) (held c)
  pub values : AreValues s.signature (system_in (terms (shapes s.nodes)) c)
  pub said : AreSaid s.signature (terms (shapes s.nodes)) steps c

-- numbers of one sort and one value
pub record AreSameNumbers (sig : Signature) (ts : List Term) (c : Contents) (m n : ℕ) : Type 0 where
  pub real : Bool
  pub entry : Entry
  pub there : slice_get (held c) m ≡ Some entry
  pub sort : entry.sort ≡ sort_for real
  pub left_within : m < length ts
  pub left : IsNumberName sig ts real m
  pub right_within : n < length ts
  pub right : IsNumberName sig ts real n
  pub same : number_at c m ≡ number_at c n

-- names of one leaf, which are no numbers
pub record AreSameLeaves (sig : Signature) (ts : List Term) (c : Contents) (m n : ℕ) : Type 0 where
  pub sort : Sort
  pub left : sort_of sig (named ts m) ≡ Some sort
  pub right : sort_of sig (named ts n) ≡ Some sort
  pub same : leaf_at c m ≡ leaf_at c n

-- the pattern is that of the name, which is of the sort
pub record IsOf (sig : Signature) (ts : List Term) (c : Contents) (s : Sort) (p : Pattern) (n : ℕ) : Type 0 where
  pub sorted : sort_of sig (named ts n) ≡ Some s
  pub entry : Entry
  pub there : slice_get (held c) n ≡ Some entry
  pub pattern : entry.pattern ≡ p

-- the patterns are of names of one sort, and have one value
pub record IsPair (sig : Signature) (ts : List Term) (c : Contents) (p q : Pattern) : Type 0 where
  pub sort : Sort
  pub left : IsOf sig ts c sort p (name_of p)
  pub right : IsOf sig ts c sort q (name_of q)
  pub same : value_in c p ≡ value_in c q

-- so are two lists of patterns, place by place
abbrev pub ArePairs : Signature → List Term → Contents → List Pattern → List Pattern → Type 0
ArePairs sig ts c [] [] = Unit {0}
ArePairs sig ts c (p ∷ ps) (q ∷ qs) = IsPair sig ts c p q × ArePairs sig ts c ps qs
ArePairs sig ts c _ _ = ⊥

-- the step equates the names of two patterns, and rests on steps that say values
pub record IsEqualBy (first steps : List Step) (c : Contents) (p q : Pattern) (id : ℕ) : Type 0 where
  pub states : StatesEqual steps id (name_of p) (name_of q)
  pub rests : RestsOnValues first steps c [] id

-- so do the steps for two lists of patterns, place by place
abbrev pub AreEqualBy : List Step → List Step → Contents → List Pattern → List Pattern → List ℕ → Type 0
AreEqualBy first steps c [] [] [] = Unit {0}
AreEqualBy first steps c (p ∷ ps) (q ∷ qs) (id ∷ ids) = IsEqualBy first steps c p q id × AreEqualBy first steps c ps qs ids
AreEqualBy first steps c _ _ _ = ⊥
