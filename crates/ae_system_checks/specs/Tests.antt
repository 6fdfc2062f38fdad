-- Tests of systems: functions with the values `true` and `false`.
use Rattle.std.specs.Prelude.{ℕ, Bool, true, ◌≡◌, ◌≢◌, ◌↔◌, Some}
use Rattle.std.specs.List.{Contains}
use Rattle.ae_core.specs.declared.formulas.Formula.{out-Formula}
use Rattle.ae_core.specs.declared.formulas.Lit.{Lit}
use Rattle.ae_core.specs.declared.formulas.Quant.{Quant}
use Rattle.ae_core.specs.declared.problems.Problem.{Problem}
use Rattle.ae_journal.specs.States.{IsSaturated, Pattern, of_axiom, pattern_of, quant_of}
use Rattle.ae_journal.specs.declared.systems.Saturated.{Saturated}
use Rattle.ae_core.specs.declared.problems.Signature.{Signature}
use Rattle.ae_journal.specs.declared.systems.System.{System}
use Rattle.ae_decide.specs.Clauses.{Part, Clause, RulesFit, AllOverlapsJoin, AllNamesJoin}

-- there is a test that says `true` exactly of the systems that have the property
abbrev pub HasTest : (Signature → System → Type 0) → Type 0
HasTest P = (test : Signature → System → Bool) × ((sig : Signature) (y : System) → (test sig y ≡ true) ↔ P sig y)

abbrev pub ClauseHasTest : Part → Type 0
ClauseHasTest part = HasTest (λ sig y. Clause sig y part)

-- among the systems with another property
abbrev pub HasTestAmong : (Signature → System → Type 0) → (Signature → System → Type 0) → Type 0
HasTestAmong Q P = (test : Signature → System → Bool) × ((sig : Signature) (y : System) → Q sig y → (test sig y ≡ true) ↔ P sig y)

-- whether the overlaps join can be told where each rule's sides fit, and whether the names of AC symbols join where the overlaps do
abbrev pub OverlapsHaveTest : Type 0
OverlapsHaveTest = HasTestAmong (λ sig y. RulesFit sig y) (λ sig y. AllOverlapsJoin sig y)

abbrev pub JoinsHaveTest : Type 0
JoinsHaveTest = HasTestAmong (λ sig y. RulesFit sig y × AllOverlapsJoin sig y) (λ sig y. AllNamesJoin sig y)

-- ---- states
-- no literal that stands is quantified, and nothing before the goal is an axiom with type variables
pub record IsQuantifierFree (p : Problem) (g : ℕ) (st : Saturated) : Type 0 where
  pub literals : (l : Lit) (q : Quant) → Contains st.literals l → quant_of (out-Formula l.formula) ≢ Some q
  pub axioms : (k : ℕ) (q : Pattern) → pattern_of p g (of_axiom k) ≢ Some q

-- for each bound there is a test that says `true` exactly of the saturated ones among these
abbrev pub SaturatedHasTest : Type 0
SaturatedHasTest =
    (bound : ℕ) → (test : Problem → ℕ → Saturated → Bool)
    × ((p : Problem) (g : ℕ) (st : Saturated) → IsQuantifierFree p g st → (test p g st ≡ true) ↔ IsSaturated p g st bound)
