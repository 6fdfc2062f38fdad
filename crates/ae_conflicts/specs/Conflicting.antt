-- When assumed literals can't hold together, as steps show.
use Rattle.std.specs.Prelude.{ℕ, true, List, [], ◌≡◌, ◌≢◌}
use Rattle.ae_math.specs.Fractions.{zero_ℚ}
use Rattle.ae_core.specs.Sorts.{formula_ok}
use Rattle.ae_core.specs.declared.terms.Sort.{Sort, Int}
use Rattle.ae_core.specs.declared.terms.Term.{Term, Apply}
use Rattle.ae_core.specs.declared.terms.Head.{Head}
use Rattle.ae_core.specs.declared.formulas.Formula.{Eq, Pred}
use Rattle.ae_core.specs.declared.problems.Signature.{Signature}
use Rattle.ae_rules.specs.Clauses.{is_true, is_false}
use Rattle.ae_rules.specs.Derivations.{IsConstructor, IsNumber, HasNoSolution}
use Rattle.ae_rules.specs.Lines.{equal, gap, AreNumbers, HaveSort}
use Rattle.ae_just.specs.declared.steps.Step.{Step}
use Rattle.ae_conflicts.specs.declared.assumed.Assumed.{Assumed}
use Rattle.ae_conflicts.specs.declared.conflicts.Conflict.{Conflict}
use Rattle.ae_conflicts.specs.declared.conflicts.Conflict.TheVariants as conflict
use Rattle.ae_conflicts.specs.Saying.{IsAssumedAt, SaysEqual, SayEqual}

-- a literal says that two terms differ, and a step that they are equal
pub record IsDenied (ts : List Term) (steps : List Step) (held : List (ℕ × Assumed)) (place id : ℕ) : Type 0 where
  pub left : Term
  pub right : Term
  pub tag : ℕ
  pub denied : IsAssumedAt held place (is_false (Eq left right)) tag
  pub says : SaysEqual ts steps held id left right

-- one literal says that a predicate holds of some arguments, another that it doesn't hold of some, both well sorted; steps say that these are equal,
-- one by one
pub record AreOpposed (sig : Signature) (ts : List Term) (steps : List Step) (held : List (ℕ × Assumed)) (positive negative : ℕ) (ids : List ℕ) : Type 0 where
  pub predicate : ℕ
  pub sorts : List Sort
  pub args : List Term
  pub others : List Term
  pub tag : ℕ
  pub other_tag : ℕ
  pub holds : IsAssumedAt held positive (is_true (Pred predicate sorts args)) tag
  pub fails : IsAssumedAt held negative (is_false (Pred predicate sorts others)) other_tag
  pub sorted : formula_ok sig (Pred predicate sorts args) ≡ true
  pub others_sorted : formula_ok sig (Pred predicate sorts others) ≡ true
  pub say : SayEqual ts steps held ids args others

-- a step says that two different constructors are equal
pub record AreMixed (sig : Signature) (ts : List Term) (steps : List Step) (held : List (ℕ × Assumed)) (id : ℕ) : Type 0 where
  pub first : Head
  pub second : Head
  pub first_is : IsConstructor sig first
  pub second_is : IsConstructor sig second
  pub differ : first ≢ second
  pub says : SaysEqual ts steps held id (Apply first [] []) (Apply second [] [])

-- a step says that two terms are equal that differ by a number other than 0
pub record IsConstant (sig : Signature) (ts : List Term) (steps : List Step) (held : List (ℕ × Assumed)) (id : ℕ) : Type 0 where
  pub left : Term
  pub right : Term
  pub numbers : AreNumbers sig (equal left right)
  pub number : IsNumber (gap (equal left right))
  pub other : (gap (equal left right)).constant ≢ zero_ℚ
  pub says : SaysEqual ts steps held id left right

-- a step says that two integers are equal, an equation without a solution
pub record IsUnsolvable (sig : Signature) (ts : List Term) (steps : List Step) (held : List (ℕ × Assumed)) (id : ℕ) : Type 0 where
  pub left : Term
  pub right : Term
  pub integers : HaveSort sig Int (equal left right)
  pub unsolvable : HasNoSolution (gap (equal left right))
  pub says : SaysEqual ts steps held id left right

abbrev pub IsConflict : Signature → List Term → List Step → List (ℕ × Assumed) → Conflict → Type 0
IsConflict sig ts steps held (conflict.Differ place id) = IsDenied ts steps held place id
IsConflict sig ts steps held (conflict.Opposed positive negative ids) = AreOpposed sig ts steps held positive negative ids
IsConflict sig ts steps held (conflict.Mixed id) = AreMixed sig ts steps held id
IsConflict sig ts steps held (conflict.Constant id) = IsConstant sig ts steps held id
IsConflict sig ts steps held (conflict.Unsolvable id) = IsUnsolvable sig ts steps held id
