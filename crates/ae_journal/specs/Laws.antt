-- The laws, as statements: what the definitions of states and of legal journals give.
use Rattle.std.specs.Prelude.{ℕ, suc, ◌<◌, ◌≤◌, Bool, true, false, List, [], ◌∷◌, ◌++◌, ◌≡◌, ◌≢◌, length, Some}
use Rattle.std.specs.List.{AllByRecursion, Contains}
use Rattle.ae_rules.specs.Clauses.{Clause, opposite, row}
use Rattle.ae_core.specs.declared.terms.Sort.{Sort, Int}
use Rattle.ae_core.specs.declared.terms.Term.{Term}
use Rattle.ae_core.specs.declared.formulas.Formula.{Formula, out-Formula}
use Rattle.ae_core.specs.declared.formulas.Quant.{Quant}
use Rattle.ae_core.specs.declared.formulas.Lit.{Lit}
use Rattle.ae_core.specs.declared.problems.Signature.{Signature}
use Rattle.ae_core.specs.declared.problems.Problem.{Problem}
use Rattle.ae_num.specs.declared.forms.Lin.{Lin}
use Rattle.ae_journal.specs.Values.{Val, Sum, minus_val, sum_in, sum_of_lin}
use Rattle.ae_journal.specs.Systems.{own, value_at, ValueOf, IsLeaf, Represents, IsCompleted}
use Rattle.ae_journal.specs.States.{Stands, IsFirst, HasGeneration, Matches, Owner, instance_literals, quant_of, is_universal, Selection}
use Rattle.ae_journal.specs.Journals.{live, decisions, IsBack, MayGoBack}
use Rattle.ae_journal.specs.TermValues.{leaf_of}
use Rattle.ae_journal.specs.Standing.{Setting, IsGiven, IsFormula, IsEntered, IsPossible, MayStand, SurelyStands, Represents as RepresentsNow, value_now}
use Rattle.ae_journal.specs.Sides.{side, other_side}
use Rattle.ae_journal.specs.Rows.{IsRow}
use Rattle.ae_journal.specs.InstanceLines.{HasGeneration as HasGenerationNow, MayInstantiate}
use Rattle.ae_journal.specs.Legal.{IsLegalLine, AreLegal}
use Rattle.ae_journal.specs.RuleLines.{IsStanding, IsPaired, MayDrop, MayPair, MayOrientRule}
use Rattle.ae_journal.specs.SolverLines.{MayDecide, MayLearn}
use Rattle.ae_core.specs.declared.problems.AcSymbol.{AcSymbol}
use Rattle.ae_num.specs.declared.forms.Value.{Value}
use Rattle.ae_journal.specs.declared.lines.Oriented.TheVariants as oriented
use Rattle.ae_journal.specs.declared.systems.System.{System}
use Rattle.ae_journal.specs.declared.systems.Saturated.{Saturated}
use Rattle.ae_journal.specs.declared.lines.Line.{Line}
use Rattle.ae_journal.specs.declared.lines.Line.TheVariants as line

-- ---- representatives
-- a value has one representative within a sort, and no smaller name has the value
abbrev pub OneRepresentative : Type 0
OneRepresentative = (sig : Signature) (y : System) (s : Sort) (v : Val) (m n : ℕ) → Represents sig y s v m → Represents sig y s v n → m ≡ n

-- in a completed system a term has one value
abbrev pub OneValue : Type 0
OneValue = (sig : Signature) (y : System) (t : Term) (v w : Val) → IsCompleted sig y → ValueOf y t v → ValueOf y t w → v ≡ w

-- the representative of a leaf has the leaf as its value, and isn't above it
abbrev pub LeafRepresentative : Type 0
LeafRepresentative = (sig : Signature) (y : System) (s : Sort) (n r : ℕ) → IsLeaf sig y s n → Represents sig y s (own s n) r → (r ≤ n) × (value_at y r ≡ Some (own s n))

-- at each line of a journal a name has at most one representative, which represents itself
abbrev pub OneRepresentativeNow : Type 0
OneRepresentativeNow = (x : Setting) (js : List Line) (n q r : ℕ) → RepresentsNow x js n q → RepresentsNow x js n r → q ≡ r

abbrev pub RepresentsItself : Type 0
RepresentsItself = (x : Setting) (js : List Line) (n r : ℕ) → RepresentsNow x js n r → RepresentsNow x js r r

-- two terms have one leaf only where they are one term
abbrev pub OneLeaf : Type 0
OneLeaf = (names : List Term) (s t : Term) → leaf_of names s ≡ leaf_of names t → s ≡ t

-- ---- generations of a state
-- a test of numbers and literals that follows the rules of generations
pub record FollowsRules (p : Problem) (g : ℕ) (st : Saturated) (takes : Selection) (holds : ℕ → Lit → Bool) : Type 0 where
  pub first : (n : ℕ) (l : Lit) → IsFirst p g st l → Stands p g st l → holds n l ≡ true
  pub by_row : (n : ℕ) (l m : Lit) (r : ℕ) (c : Clause) → holds n m ≡ true → row r m.formula ≡ Some c → Contains c (opposite m) → Contains c l → l ≢ opposite m → Stands p g st l → holds n l ≡ true
  pub by_block : (n : ℕ) (m : Lit) (q : Quant) → holds n m ≡ true → quant_of (out-Formula m.formula) ≡ Some q → is_universal m ≡ false → Stands p g st (takes.body m) → holds n (takes.body m) ≡ true
  pub of_match : (n : ℕ) (l : Lit) (o : Owner) (us : List Sort) (ts : List Term) → Matches p g st takes (λ m. holds n m ≡ true) o us ts → takes.instances o us ts ≡ true → Contains (instance_literals p g o us ts) l → Stands p g st l
      → holds (suc n) l ≡ true

-- generations are the least numbers that follow the rules
abbrev pub LeastGenerations : Type 0
LeastGenerations = (p : Problem) (g : ℕ) (st : Saturated) (takes : Selection) (holds : ℕ → Lit → Bool) → FollowsRules p g st takes holds
    → (n : ℕ) (l : Lit) → HasGeneration p g st takes n l → holds n l ≡ true

-- what has a generation of at most n has one of at most n + 1
abbrev pub GenerationsRise : Type 0
GenerationsRise = (p : Problem) (g : ℕ) (st : Saturated) (takes : Selection) (n : ℕ) (l : Lit) → HasGeneration p g st takes n l → HasGeneration p g st takes (suc n) l

-- ---- journals
-- the front of legal lines is legal
abbrev pub FrontsAreLegal : Type 0
FrontsAreLegal = (x : Setting) (bound : ℕ) (js ls : List Line) → AreLegal x bound [] (js ++ ls) → AreLegal x bound [] js

-- no line between undoes decision number n
abbrev pub KeepsDecision : ℕ → List Line → Type 0
KeepsDecision n [] = Unit {0}
KeepsDecision n (line.Back m ∷ js) = (n < m) × KeepsDecision n js
KeepsDecision n (j ∷ js) = KeepsDecision n js

-- `Back n` gives the lines that stood as decision number n was taken
abbrev pub BackRestores : Type 0
BackRestores = (js ls : List Line) (l : Lit) (n : ℕ) → length (decisions (live js)) ≡ n → KeepsDecision n ls → live (js ++ line.Decide l ∷ ls ++ line.Back n ∷ []) ≡ live js

-- after a `Learn` line the solver may go back
abbrev pub BackAfterLearn : Type 0
BackAfterLearn = (js : List Line) (c : Clause) (n : ℕ) → n < length (decisions (live (js ++ line.Learn c ∷ []))) → MayGoBack (js ++ line.Learn c ∷ []) n

-- given clauses, formulas, names and possible clauses stay, also after a `Back` line
pub record Stays (x : Setting) (js ls : List Line) : Type 0 where
  pub given : (c : Clause) → IsGiven x js c → IsGiven x (js ++ ls) c
  pub formulas : (f : Formula) → IsFormula x js f → IsFormula x (js ++ ls) f
  pub names : (t : Term) → IsEntered x js t → IsEntered x (js ++ ls) t
  pub possible : (c : Clause) → IsPossible x js c → IsPossible x (js ++ ls) c

abbrev pub NothingIsLost : Type 0
NothingIsLost = (x : Setting) (js ls : List Line) → Stays x js ls

-- what may stand, and what surely stands, still does so after more clauses and decisions: after any lines but `Back` lines
abbrev pub NoBack : List Line → Type 0
NoBack ls = AllByRecursion (λ j. ¬ IsBack j) ls

abbrev pub MayStandGrows : Type 0
MayStandGrows = (x : Setting) (js ls : List Line) (l : Lit) → NoBack ls → MayStand x js l → MayStand x (js ++ ls) l

abbrev pub SurelyStandsGrows : Type 0
SurelyStandsGrows = (x : Setting) (js ls : List Line) (l : Lit) → NoBack ls → SurelyStands x js l → SurelyStands x (js ++ ls) l

-- a formula has no greater generation after more lines
abbrev pub GenerationsFall : Type 0
GenerationsFall = (x : Setting) (js ls : List Line) (n : ℕ) (f : Formula) → HasGenerationNow x js n f → HasGenerationNow x (js ++ ls) n f

-- in a legal journal what may stand says something of a formula of the journal
abbrev pub LiteralsAreFormulas : Type 0
LiteralsAreFormulas = (x : Setting) (bound : ℕ) (js : List Line) (l : Lit) → AreLegal x bound [] js → MayStand x js l → IsFormula x js l.formula

-- in a legal journal a row is the difference of the values of two names, or is that of a `Combine` line, or its two sides are names
pub data IsOfNames (x : Setting) (js : List Line) (strict : Bool) : Sum → Type 0 where
  of_values : (s t : Term) → IsEntered x js s → IsEntered x js t → IsOfNames x js strict (sum_in (minus_val (value_now x js s) (value_now x js t)))
  of_line : (f : Lin) → Contains js (line.Combine strict f) → IsOfNames x js strict (sum_of_lin f)
  of_sides : (f : Lin) → IsEntered x js (side Int x.names f) → IsEntered x js (other_side Int x.names f) → IsOfNames x js strict (sum_of_lin f)

abbrev pub RowsAreOfNames : Type 0
RowsAreOfNames = (x : Setting) (bound : ℕ) (js : List Line) (strict : Bool) (f : Sum) → AreLegal x bound [] js → IsRow x js strict f → IsOfNames x js strict f

-- ---- what is refused
-- a rule that stands isn't oriented again
abbrev pub NoSecondRule : Type 0
NoSecondRule = (x : Setting) (js : List Line) (u : AcSymbol) (l q r : List ℕ) → IsStanding js u l q → ¬ MayOrientRule x js u l r

-- two rules that were paired, and of which neither was dropped since, aren't paired again, in either order
abbrev pub NoSecondPair : Type 0
NoSecondPair = (js : List Line) (u : AcSymbol) (l m : List ℕ) → IsPaired js u l m → ¬ MayPair js u l m × ¬ MayPair js u m l

-- a rule isn't paired with itself
abbrev pub NoPairWithItself : Type 0
NoPairWithItself = (js : List Line) (u : AcSymbol) (l : List ℕ) → ¬ MayPair js u l l

-- a rule that was dropped isn't dropped again
abbrev pub NoSecondDrop : Type 0
NoSecondDrop = (x : Setting) (js : List Line) (u : AcSymbol) (l d : List ℕ) → ¬ MayDrop x (js ++ line.Drop (oriented.Rule u l d) ∷ []) u l

-- no clause is learnt of which a given one is a part, what was learnt already among them
abbrev pub NothingKnownIsLearnt : Type 0
NothingKnownIsLearnt = (x : Setting) (js : List Line) (c d : Clause) → IsGiven x js d → ((m : Lit) → Contains d m → Contains c m) → ¬ MayLearn x js c

-- no literal is decided that surely stands, or whose opposite does; a decision that stands is one
abbrev pub NothingSureIsDecided : Type 0
NothingSureIsDecided = (x : Setting) (js : List Line) (l : Lit) → SurelyStands x js l → ¬ MayDecide x js l × ¬ MayDecide x js (opposite l)

-- no instance is noted twice
abbrev pub NoSecondInstance : Type 0
NoSecondInstance = (x : Setting) (bound : ℕ) (js : List Line) (j : Line) → Contains js j → ¬ MayInstantiate x bound js j

-- `Back` doesn't come twice without a clause between, nor where no decision is undone
abbrev pub NoSecondBack : Type 0
NoSecondBack = (js : List Line) (m n : ℕ) → ¬ MayGoBack (js ++ line.Back m ∷ []) n

abbrev pub BackUndoes : Type 0
BackUndoes = (js : List Line) (n : ℕ) → length (decisions (live js)) ≤ n → ¬ MayGoBack js n

-- an instance is noted only at a number below the bound
abbrev pub NoInstanceAtBound : Type 0
NoInstanceAtBound = (x : Setting) (js : List Line) (j : Line) → ¬ MayInstantiate x 0 js j

-- no solved name is dropped
abbrev pub NoNameIsDropped : Type 0
NoNameIsDropped = (x : Setting) (bound : ℕ) (js : List Line) (n : ℕ) (v : Value) → ¬ IsLegalLine x bound js (line.Drop (oriented.Named n v))

-- ---- how a decision and the lines of rules come: a journal with one line of each of these kinds
abbrev pub SomePair : Type 0
SomePair = (u : AcSymbol) → MayPair (line.Orient (oriented.Rule u (0 ∷ 1 ∷ []) (2 ∷ [])) ∷ line.Orient (oriented.Rule u (0 ∷ 3 ∷ []) (4 ∷ [])) ∷ []) u (0 ∷ 1 ∷ []) (0 ∷ 3 ∷ [])

abbrev pub SomeDrop : Type 0
SomeDrop = (x : Setting) (u : AcSymbol) → MayDrop x (line.Orient (oriented.Rule u (0 ∷ 1 ∷ 3 ∷ []) (2 ∷ [])) ∷ line.Orient (oriented.Rule u (0 ∷ 1 ∷ []) (2 ∷ [])) ∷ []) u (0 ∷ 1 ∷ 3 ∷ [])
