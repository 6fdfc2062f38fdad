-- Derivations with the tags of their hypotheses, one behind the other.
use Rattle.std.specs.Prelude.{ℕ, ◌+◌, true, List, [], ◌++◌, ◌≡◌, length, take, slice_get, Some}
use Rattle.std.specs.List.{AllByRecursion}
use Rattle.ae_core.specs.declared.terms.Term.{Term}
use Rattle.ae_core.specs.declared.formulas.Lit.{Lit}
use Rattle.ae_core.specs.declared.problems.Signature.{Signature}
use Rattle.ae_rules.specs.Built.{HasFactorsWithin, IsBuiltEquation}
use Rattle.ae_rules.specs.Derivations.{IsContradictory, clause_ok}
use Rattle.ae_rules.specs.Lines.{Fact, Stated, Equated, AllAllowed, fact_ok}
use Rattle.ae_just.specs.declared.steps.Step.{Step}
use Rattle.ae_theory.specs.Noting.{IsBlockOf}
use Rattle.ae_theory.specs.declared.theory.Derived.{Derived}
use Rattle.ae_theory.specs.declared.theory.Explained.{Explained}
use Rattle.ae_conflicts.specs.declared.assumed.Assumed.{Assumed}
use Rattle.ae_conflicts.specs.declared.gathering.Gathered.{Gathered}
use Rattle.ae_conflicts.specs.Saying.{tagged, IsAssumedAt, SayEqual}

-- the second one behind the first
pub record IsJoined (first second both : Derived) : Type 0 where
  pub hyps : both.deriv.hyps ≡ first.deriv.hyps ++ second.deriv.hyps
  pub tags : both.tags ≡ first.tags ++ second.tags
  pub long : length both.deriv.lines ≡ length first.deriv.lines + length second.deriv.lines
  pub before : (k : ℕ) (f : Fact) → Stated first.deriv.lines k f → Stated both.deriv.lines k f
  pub after : (k : ℕ) (f : Fact) → Stated second.deriv.lines k f → Stated both.deriv.lines (length first.deriv.lines + k) f
  pub allowed : (sig : Signature) → AllAllowed sig (fact_ok sig) first.deriv.hyps [] first.deriv.lines → AllAllowed sig (fact_ok sig) second.deriv.hyps [] second.deriv.lines
      → AllAllowed sig (fact_ok sig) both.deriv.hyps [] both.deriv.lines
  pub factors : AllByRecursion HasFactorsWithin first.deriv.lines → AllByRecursion HasFactorsWithin second.deriv.lines → AllByRecursion HasFactorsWithin both.deriv.lines

-- allowed lines from assumed literals, equations of terms that are built of the names
pub record IsFrom (sig : Signature) (ts : List Term) (held : List (ℕ × Assumed)) (d : Derived) : Type 0 where
  pub allowed : AllAllowed sig (fact_ok sig) d.deriv.hyps [] d.deriv.lines
  pub sorted : clause_ok sig d.deriv.hyps ≡ true
  pub tags : IsBlockOf (tagged held) d.deriv.hyps d.tags
  pub built : AllByRecursion (IsBuiltEquation sig ts) d.deriv.lines

-- the two literals come first, and the lines of the first `at` steps are in their places
pub record AreGathered (sig : Signature) (ts : List Term) (steps : List Step) (held : List (ℕ × Assumed)) (positive negative : ℕ) (ids : List ℕ) (at : ℕ) (g : Gathered) : Type 0 where
  pub from : IsFrom sig ts held g.derived
  pub holds : (lit : Lit) (tag : ℕ) → IsAssumedAt held positive lit tag → slice_get (g.derived).deriv.hyps 0 ≡ Some lit
  pub fails : (lit : Lit) (tag : ℕ) → IsAssumedAt held negative lit tag → slice_get (g.derived).deriv.hyps 1 ≡ Some lit
  pub equated : (us vs : List Term) → SayEqual ts steps held ids us vs → Equated (g.derived).deriv.lines g.places (take at us) (take at vs)

-- a block whose hypotheses are assumed literals, and their tags
pub record IsExplained (sig : Signature) (ts : List Term) (held : List (ℕ × Assumed)) (e : Explained) : Type 0 where
  pub contradictory : IsContradictory sig e.block
  pub sorted : clause_ok sig e.block.deriv.hyps ≡ true
  pub tags : IsBlockOf (tagged held) e.block.deriv.hyps e.tags
  pub built : AllByRecursion (IsBuiltEquation sig ts) e.block.deriv.lines
