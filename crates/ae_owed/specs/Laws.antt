-- The laws, as statements.
use Rattle.std.specs.Prelude.{ℕ, ◌<◌, ◌≤◌, Bool, true, List, ◌++◌, ◌≡◌}
use Rattle.std.specs.List.{AllByRecursion, Contains}
use Rattle.ae_core.specs.declared.formulas.Formula.{Formula}
use Rattle.ae_core.specs.declared.problems.Problem.{Problem}
use Rattle.ae_core.specs.declared.terms.Sort.{Sort}
use Rattle.ae_core.specs.declared.terms.Term.{Term}
use Rattle.ae_rules.specs.Clauses.{Clause}
use Rattle.ae_journal.specs.InstanceLines.{AreEqualNow, ActsAsUniversal, IsInstance, IsMatchAt, HasGeneration, MayInstantiate}
use Rattle.ae_journal.specs.Laws.{NoBack}
use Rattle.ae_journal.specs.Sizes.{IsSmall}
use Rattle.ae_journal.specs.Standing.{Setting}
use Rattle.ae_journal.specs.States.{Owner, Selection, Stands, AllSame, Matches, HasGeneration as HasGenerationIn, instance_literals, instances_of}
use Rattle.ae_journal.specs.declared.lines.Line.{Line}
use Rattle.ae_journal.specs.declared.lines.Line.TheVariants.{TermInstance}
use Rattle.ae_journal.specs.declared.systems.Saturated.{Saturated}
use Rattle.ae_store.specs.Stores.{Stored}
use Rattle.ae_owed.specs.Generations.{IsJustified}
use Rattle.ae_owed.specs.Instances.{Instance, IsAged}
use Rattle.ae_owed.specs.Known.{AreAlike, IsFoundAt}
use Rattle.ae_owed.specs.Owed.{IsInstantiated, IsTaken}
use Rattle.ae_owed.specs.Recorded.{HasLines, IsRecorded, AreOpenedIn}

-- names that are alike are equal by equations that may stand
abbrev pub HoldNow : Setting → Stored → (ℕ → ℕ → Bool) → List Line → Type 0
HoldNow x s alike js = (t u : Term) → AreAlike s alike t u → AreEqualNow x js t u

-- a match among the names of a store is one by the equations that may stand, at the same number
abbrev pub FoundOnesMatch : Type 0
FoundOnesMatch =
    (x : Setting) (bound : ℕ) (s : Stored) (alike : ℕ → ℕ → Bool) (js : List Line) (n : ℕ) (o : Owner) (us : List Sort) (ts : List Term) → IsJustified x bound s js → HoldNow x s alike js
    → n < bound → IsFoundAt x.problem x.goal s alike n o us ts → IsMatchAt x js (HasGeneration x js n) o us ts

-- a line of it that is new may be noted
abbrev pub MatchesMayBeNoted : Type 0
MatchesMayBeNoted =
    (x : Setting) (bound : ℕ) (js : List Line) (n : ℕ) (j : Line) (c : Clause) (o : Owner) (us : List Sort) (ts : List Term) → n < bound → IsMatchAt x js (HasGeneration x js n) o us ts
    → IsInstance x j c o us ts → ((f : Formula) (vs : List Term) → j ≡ TermInstance f vs → ActsAsUniversal x js f) → ¬ Contains js j → MayInstantiate x bound js j

-- it stays a match after more lines but `Back` lines
abbrev pub MatchesGrow : Type 0
MatchesGrow =
    (x : Setting) (js ls : List Line) (n : ℕ) (o : Owner) (us : List Sort) (ts : List Term) → NoBack ls → IsMatchAt x js (HasGeneration x js n) o us ts
    → IsMatchAt x (js ++ ls) (HasGeneration x (js ++ ls) n) o us ts

-- an instance whose lines were noted has each number at which it is a match now
abbrev pub MatchesAreRecorded : Type 0
MatchesAreRecorded =
    (x : Setting) (js : List Line) (i : Instance) → HasLines x js i → IsMatchAt x js (HasGeneration x js i.number) i.owner i.sorts i.terms → IsRecorded x js i

-- and keeps it after more lines
abbrev pub RecordsGrow : Type 0
RecordsGrow = (x : Setting) (js ls : List Line) (i : Instance) → IsRecorded x js i → IsRecorded x (js ++ ls) i

-- a journal gives a formula no greater generation than the instances do
abbrev pub AgedOnesHaveGenerations : Type 0
AgedOnesHaveGenerations =
    (x : Setting) (js : List Line) (opened : List (Formula × ℕ)) (instances : List Instance) → ((i : Instance) → Contains instances i → IsRecorded x js i) → AreOpenedIn x opened
    → (n : ℕ) (f : Formula) → IsAged x.problem x.goal opened instances n f → HasGeneration x js n f

-- what has a generation has each greater one
abbrev pub AgesRise : Type 0
AgesRise =
    (p : Problem) (g : ℕ) (opened : List (Formula × ℕ)) (instances : List Instance) (m n : ℕ) (f : Formula) → m ≤ n → IsAged p g opened instances m f → IsAged p g opened instances n f

abbrev pub GenerationsRiseTo : Type 0
GenerationsRiseTo = (x : Setting) (js : List Line) (m n : ℕ) (f : Formula) → m ≤ n → HasGeneration x js m f → HasGeneration x js n f

-- where none is owed, each match below the bound is the same as one that is taken, whose instance stands
abbrev pub NoneIsOwed : Type 0
NoneIsOwed =
    (p : Problem) (g bound : ℕ) (st : Saturated) (s : Stored) (alike : ℕ → ℕ → Bool) (opened : List (Formula × ℕ)) (instances : List Instance) (takes : Selection)
    → IsInstantiated p g bound st.literals st.system s alike opened instances → IsTaken st.literals opened instances takes
    → (n : ℕ) (o : Owner) (us : List Sort) (ts : List Term) → n < bound → Matches p g st takes (HasGenerationIn p g st takes n) o us ts → AllByRecursion (λ e. IsSmall e.1) (instances_of p g o us ts)
    → (ws : List Term) × AllSame p.signature st.system ts ws × (takes.instances o us ws ≡ true) × AllByRecursion (Stands p g st) (instance_literals p g o us ws)
