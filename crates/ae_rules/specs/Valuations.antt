-- Truth values of formulas, and values of terms: what a clause and a fact say of them, and which values respect the rules.
use Rattle.std.specs.Prelude.{ℕ, ℤ, pos, ◌<ℤ◌, ◌⊎◌, Bool, true, false, cond, not, List, [], ◌∷◌, ◌≡◌, ◌≢◌, map, length, slice_get, Some}
use Rattle.std.specs.List.{AllByRecursion, list_any}
use Rattle.std.specs.List.Sorted.{IsPermutation}
use Rattle.ae_rules.specs.Lines.{Fact, equal, at_most, below, fact_ok, gap, IsAc, flat, SumsTo, IsEqual, MayCount, SomeBelow, HaveSort, AreNumbers, fields_from, Rounds}
use Rattle.ae_math.specs.Fractions.{zero_ℚ}
use Rattle.ae_rules.specs.Clauses.{Clause}
use Rattle.ae_rules.specs.Derivations.{IsNumber, IsConstructor, CannotHold, HasNoSolution}
use Rattle.ae_core.specs.declared.terms.Sort.{Sort, Int, Named}
use Rattle.ae_core.specs.declared.terms.Term.{Term, Apply}
use Rattle.ae_core.specs.declared.terms.Head.{Head}
use Rattle.ae_core.specs.declared.terms.Head.TheVariants as head
use Rattle.ae_core.specs.declared.formulas.Formula.{Formula, Eq, Lt, Le, Pred}
use Rattle.ae_core.specs.declared.formulas.Lit.{Lit}
use Rattle.ae_core.specs.declared.problems.Signature.{Signature}
use Rattle.ae_core.specs.declared.problems.TypeEntry.{TypeEntry}
use Rattle.ae_core.specs.declared.problems.FieldEntry.{FieldEntry}
use Rattle.ae_core.specs.declared.problems.Kind.TheVariants.{Fields}
use Rattle.ae_core.specs.declared.proofs.Relation.TheVariants.{Equal, AtMost, Below}

-- ---- where each formula has a truth value: a literal holds where that of its formula is its sign, a clause where one of its literals holds
abbrev pub same_truth : Bool → Bool → Bool
same_truth a b = cond a b (not b)

abbrev pub literal_holds : (Formula → Bool) → Lit → Bool
literal_holds v l = same_truth l.positive (v l.formula)

abbrev pub clause_holds : (Formula → Bool) → Clause → Bool
clause_holds v c = list_any (literal_holds v) c

-- ---- where each term has a value, and `le` and `lt` say which values are at most and below others
abbrev pub Means : {V : Type 0} → (Term → V) → (V → V → Bool) → (V → V → Bool) → Fact → Type 0
Means ev le lt f =
    elim f.relation [
      | Equal ↦ ev f.left ≡ ev f.right
      | AtMost ↦ le (ev f.left) (ev f.right) ≡ true
      | Below ↦ lt (ev f.left) (ev f.right) ≡ true
    ]

-- what is known of an earlier fact: it is `ok`, and what it says is so
abbrev pub IsEstablished : {V : Type 0} → (Fact → Bool) → (Term → V) → (V → V → Bool) → (V → V → Bool) → Fact → Type 0
IsEstablished ok ev le lt f = (ok f ≡ true) × Means ev le lt f

-- the values respect each rule of lines: where it allows an `ok` fact after established facts, what that fact says is so
pub record RespectsRules {V : Type 0} (sig : Signature) (ok : Fact → Bool) (ev : Term → V) (le lt : V → V → Bool) : Type 0 where
  pub cong : (h : Head) (ss : List Sort) (us vs : List Term) → map ev us ≡ map ev vs → ok (equal (Apply h ss us) (Apply h ss vs)) ≡ true
      → ev (Apply h ss us) ≡ ev (Apply h ss vs)
  pub ac : (h : Head) (ss : List Sort) (us vs : List Term) → IsAc sig h
      → IsPermutation (flat h ss (Apply h ss us)) (flat h ss (Apply h ss vs)) → ok (equal (Apply h ss us) (Apply h ss vs)) ≡ true
      → ev (Apply h ss us) ≡ ev (Apply h ss vs)
  pub field : (n place : ℕ) (ss : List Sort) (args : List Term) (t : Term) → slice_get args place ≡ Some t
      → ok (equal (Apply (head.Field n place) ss (Apply (head.Build n) ss args ∷ [])) t) ≡ true
      → ev (Apply (head.Field n place) ss (Apply (head.Build n) ss args ∷ [])) ≡ ev t
  pub fields : (s t : Term) (n : ℕ) (ss : List Sort) (e : TypeEntry) (fs : List FieldEntry) → slice_get sig.types n ≡ Some e
      → e.kind ≡ Fields fs → HaveSort sig (Named n ss) (equal s t)
      → map ev (fields_from n ss s 0 (length fs)) ≡ map ev (fields_from n ss t 0 (length fs)) → ok (equal s t) ≡ true → ev s ≡ ev t
  pub lin : (s t : Term) (d : ℤ) (fs : List (ℤ × Fact)) → d ≢ pos 0 → AllByRecursion IsEqual fs → SumsTo sig d (equal s t) fs
      → AllByRecursion (λ f. IsEstablished ok ev le lt f.1) fs → ok (equal s t) ≡ true → ev s ≡ ev t
  pub le_sum : (s t : Term) (d : ℤ) (fs : List (ℤ × Fact)) → pos 0 <ℤ d → AllByRecursion MayCount fs → SumsTo sig d (at_most s t) fs
      → AllByRecursion (λ f. IsEstablished ok ev le lt f.1) fs → ok (at_most s t) ≡ true → le (ev s) (ev t) ≡ true
  pub lt_sum : (s t : Term) (d : ℤ) (fs : List (ℤ × Fact)) → pos 0 <ℤ d → AllByRecursion MayCount fs → SomeBelow fs
      → SumsTo sig d (below s t) fs → AllByRecursion (λ f. IsEstablished ok ev le lt f.1) fs → ok (below s t) ≡ true
      → lt (ev s) (ev t) ≡ true
  pub round : (s t : Term) (from : Fact) → Rounds sig from s t → IsEstablished ok ev le lt from → ok (at_most s t) ≡ true
      → le (ev s) (ev t) ≡ true

-- they respect the hypotheses too
pub record Respects {V : Type 0} (sig : Signature) (ok : Fact → Bool) (hyps : Lit → Type 0) (ev : Term → V) (le lt : V → V → Bool) : Type 0 where
  pub hyp : (s t : Term) → hyps (record { positive = true; formula = Eq s t }) → ok (equal s t) ≡ true → ev s ≡ ev t
  pub le_hyp : (s t : Term) → hyps (record { positive = true; formula = Le s t }) ⊎ hyps (record { positive = false; formula = Lt t s })
      → ok (at_most s t) ≡ true → le (ev s) (ev t) ≡ true
  pub lt_hyp : (s t : Term) → hyps (record { positive = true; formula = Lt s t }) ⊎ hyps (record { positive = false; formula = Le t s })
      → ok (below s t) ≡ true → lt (ev s) (ev t) ≡ true
  pub rules : RespectsRules sig ok ev le lt

-- ---- truth of formulas and values of terms that agree, and respect each rule of lines and each ending
pub record IsModel {V : Type 0} (sig : Signature) (v : Formula → Bool) (ev : Term → V) (le lt : V → V → Bool) : Type 0 where
  -- an equation is true where the values are equal
  pub equal_if : (s t : Term) → fact_ok sig (equal s t) ≡ true → v (Eq s t) ≡ true → ev s ≡ ev t
  pub if_equal : (s t : Term) → fact_ok sig (equal s t) ≡ true → ev s ≡ ev t → v (Eq s t) ≡ true
  -- an inequality is true where the order of the values says so, and each number is at most another or above it
  pub at_most_is : (s t : Term) → fact_ok sig (at_most s t) ≡ true → v (Le s t) ≡ le (ev s) (ev t)
  pub below_is : (s t : Term) → fact_ok sig (below s t) ≡ true → v (Lt s t) ≡ lt (ev s) (ev t)
  pub total : (s t : Term) → fact_ok sig (at_most s t) ≡ true → lt (ev t) (ev s) ≡ not (le (ev s) (ev t))
  pub rules : RespectsRules sig (fact_ok sig) ev le lt
  -- terms that differ by a number other than 0 have different values
  pub const : (s t : Term) → AreNumbers sig (equal s t) → IsNumber (gap (equal s t)) → (gap (equal s t)).constant ≢ zero_ℚ → ev s ≢ ev t
  -- so have different constructors
  pub clash : (h i : Head) → fact_ok sig (equal (Apply h [] []) (Apply i [] [])) ≡ true → IsConstructor sig h → IsConstructor sig i
      → h ≢ i → ev (Apply h [] []) ≢ ev (Apply i [] [])
  -- a predicate is true or false of values
  pub pred : (p : ℕ) (ss : List Sort) (us ws : List Term) → map ev us ≡ map ev ws → v (Pred p ss us) ≡ v (Pred p ss ws)
  -- what can't hold between terms that differ by a number isn't so
  pub zero : (f : Fact) → AreNumbers sig f → IsNumber (gap f) → CannotHold f.relation (gap f).constant → ¬ (Means ev le lt f)
  -- an equation of integers without a solution isn't so
  pub gcd : (s t : Term) → HaveSort sig Int (equal s t) → HasNoSolution (gap (equal s t)) → ev s ≢ ev t

-- ---- equations that are given by a test
abbrev pub Where : (Term → Term → Bool) → Term → Term → Type 0
Where E u v = E u v ≡ true
