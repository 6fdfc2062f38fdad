-- Rules that look like those of the calculus and are wrong: each is one of them without one of its conditions, and in the example, which
-- is an interpretation, it leads from what is true to what is false.
use Rattle.std.specs.Prelude.{ℕ, ℤ, pos, ◌<ℤ◌, true, false, List, [], ◌∷◌, ◌++◌, ◌≡◌, slice_get, Some}
use Rattle.std.specs.List.{AllByRecursion}
use Rattle.std.specs.List.Sorted.{IsPermutation}
use Rattle.ae_rules.specs.Lines.{Fact, equal, at_most, states, Stated, fact_ok, gap, flat, IsEqual, Combined, SumsTo, HaveSort}
use Rattle.ae_rules.specs.Clauses.{Clause}
use Rattle.ae_core.specs.Sorts.{formula_ok}
use Rattle.ae_rules.specs.Instances.{fresh_clause, exhaustion}
use Rattle.ae_rules.specs.Derivations.{goal_body, HasNoSolution}
use Rattle.ae_core.specs.declared.terms.Sort.{Sort, Real}
use Rattle.ae_core.specs.declared.terms.Head.{Head}
use Rattle.ae_core.specs.declared.terms.Term.{Term, Apply}
use Rattle.ae_core.specs.declared.formulas.Formula.{Formula, Eq, Lt, Le, out-Formula}
use Rattle.ae_core.specs.declared.formulas.Lit.{Lit}
use Rattle.ae_core.specs.declared.problems.Signature.{Signature}
use Rattle.ae_core.specs.declared.problems.Problem.{Problem}
use Rattle.ae_core.specs.declared.problems.Item.TheVariants.{Axiom}
use Rattle.ae_core.specs.declared.proofs.EqLine.{EqLine}
use Rattle.ae_core.specs.declared.proofs.Scaled.{Scaled}
use Rattle.ae_core.specs.declared.proofs.Relation.TheVariants.{Equal, AtMost, Below}
use Rattle.ae_models.specs.Truth.{FreshValues, KeepSorts, IsTrue}
use Rattle.ae_models.specs.Consequence.{AxiomsAreTrue}
use Rattle.ae_models.specs.Examples.{example_signature, example}

-- values for the fresh constants, each of its sort
abbrev pub Values : Type 0
Values = (fresh : FreshValues example) × KeepSorts example_signature example fresh

-- the formula is true
abbrev pub Says : Values → Formula → Type 0
Says v f = IsTrue example v.0 f

-- what a derived line says is true
abbrev pub IsTrueFact : Values → Fact → Type 0
IsTrueFact v f =
    elim f.relation [
      | Equal ↦ Says v (Eq f.left f.right)
      | AtMost ↦ Says v (Le f.left f.right)
      | Below ↦ Says v (Lt f.left f.right)
    ]

abbrev pub AreTrue : Values → List EqLine → Type 0
AreTrue v lines = AllByRecursion (λ l. IsTrueFact v (states l)) lines

-- the literal is false
abbrev pub IsFalse : Values → Lit → Type 0
IsFalse v l = elim l.positive [ true ↦ ¬ (Says v l.formula) | false ↦ Says v l.formula ]

-- ---- a combination of equations counted any number of times, also none
abbrev pub AllowedByAnyFactor : Signature → List EqLine → Term → Term → ℤ → List Scaled → Type 0
AllowedByAnyFactor sig earlier s t d ps =
    (fs : List (ℤ × Fact)) × Combined earlier ps fs × AllByRecursion IsEqual fs × SumsTo sig d (equal s t) fs

-- from nothing it equates two numbers that are never equal
abbrev pub LinWithFactorZero : Type 0
LinWithFactorZero =
    (s : Term) × (t : Term) × AllowedByAnyFactor example_signature [] s t (pos 0) [] × ((v : Values) → ¬ (Says v (Eq s t)))

-- ---- a sum of inequalities counted a negative number of times too
abbrev pub AllowedByAnySum : Signature → List EqLine → Term → Term → ℤ → List Scaled → Type 0
AllowedByAnySum sig earlier s t d ps = (pos 0 <ℤ d) × (fs : List (ℤ × Fact)) × Combined earlier ps fs × SumsTo sig d (at_most s t) fs

-- from lines that are true it leads to one that is false
abbrev pub SumWithNegativeFactor : Type 0
SumWithNegativeFactor =
    (earlier : List EqLine) × (s : Term) × (t : Term) × (ps : List Scaled)
    × AllowedByAnySum example_signature earlier s t (pos 1) ps × ((v : Values) → AreTrue v earlier) × ((v : Values) → ¬ (Says v (Le s t)))

-- ---- an equation without a solution in whole numbers, taken for one without a solution in reals
abbrev pub EndsGcdOfReals : Signature → List EqLine → ℕ → Type 0
EndsGcdOfReals sig lines k =
    (s : Term) × (t : Term) × Stated lines k (equal s t) × HaveSort sig Real (equal s t) × HasNoSolution (gap (equal s t))

-- it says that lines can't be true which are, with some values
abbrev pub GcdOfReals : Type 0
GcdOfReals = (lines : List EqLine) × (k : ℕ) × EndsGcdOfReals example_signature lines k × (v : Values) × AreTrue v lines

-- ---- a fresh constant that isn't new: whatever values the constants have, each literal of the clause is false
abbrev pub FreshOfUsedConstant : Type 0
FreshOfUsedConstant =
    (f : Formula) × (m : ℕ) × (c : Clause) × (formula_ok example_signature f ≡ true) × (fresh_clause f m (out-Formula f) ≡ Some c)
    × ((v : Values) → AllByRecursion (IsFalse v) c)

-- ---- an enumeration without its last constructor: each literal is false
abbrev pub ExhaustionWithoutTheLast : Type 0
ExhaustionWithoutTheLast =
    (t : Term) × (c : Clause) × (last : Lit) × (exhaustion example_signature t ≡ Some (c ++ last ∷ []))
    × ((v : Values) → AllByRecursion (IsFalse v) c)

-- ---- the same arguments in another order, under a symbol that needn't be AC
abbrev pub AllowedByAnyOrder : Term → Term → Type 0
AllowedByAnyOrder s t =
    (h : Head) × (ss : List Sort) × (us : List Term) × (vs : List Term) × (s ≡ Apply h ss us) × (t ≡ Apply h ss vs)
    × IsPermutation (flat h ss s) (flat h ss t)

-- it equates two terms of one sort which with some values aren't equal
abbrev pub AcOfAnotherSymbol : Type 0
AcOfAnotherSymbol =
    (s : Term) × (t : Term) × AllowedByAnyOrder s t × (fact_ok example_signature (equal s t) ≡ true) × (v : Values) × ¬ (Says v (Eq s t))

-- ---- an axiom after the goal: it gives the goal, which is false though the axioms before it are true
abbrev pub AxiomAfterTheGoal : Type 0
AxiomAfterTheGoal =
    (p : Problem) × (p.signature ≡ example_signature) × (g : ℕ) × (k : ℕ) × (name : List ℕ) × (f : Formula)
    × (goal_body p g ≡ Some f) × (slice_get p.items k ≡ Some (Axiom name 0 f)) × AxiomsAreTrue p g example × ((v : Values) → ¬ (Says v f))
